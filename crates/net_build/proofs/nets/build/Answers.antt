use Rattle.std.proofs.Common.{subst}
use Rattle.std.specs.Prelude.{IfOk, IfErr}
use Rattle.std.proofs.lemmas.Result.{IfOk-weaker}
use Rattle.circuit_types.specs.DataSources.{IsWired}
use Rattle.circuit_types.specs.Due.{IsDue}
use Rattle.circuit_types.specs.Items.{top_items}
use Rattle.circuit_types.specs.Nets.{net_causes}
use Rattle.net_build.specs.Built.{IsAccepted, AreReadEnds}
use Rattle.net_build.specs.Stops.{IfRefused}
use Rattle.net_build.proofs.NetLemmas.{nets_wired, reads_end, answers_nets, answers_refusal}
use Rattle.net_build.proofs.nets.build.Goals as goal

pub returns-clause-wired : goal.returns-clause-wired
returns-clause-wired c = IfOk-weaker c.nets_of.result (IsAccepted c.top_items.result.now) IsWired (nets_wired c.top_items.result.now) c.nets_of.ensures.nets

pub returns-clause-read_ends : goal.returns-clause-read_ends
returns-clause-read_ends c =
    subst (λ items. IfOk c.nets_of.result (AreReadEnds items)) c.top_items.ensures
    (IfOk-weaker c.nets_of.result (IsAccepted c.top_items.result.now) (AreReadEnds c.top_items.result.now) (reads_end c.top_items.result.now) c.nets_of.ensures.nets)

pub returns-clause-all_nets : goal.returns-clause-all_nets
returns-clause-all_nets c = λ nets a k.
    answers_nets (top_items c.args.tree.now) c.nets_of.result nets (subst (λ items. IfOk c.nets_of.result (IsAccepted items)) c.top_items.ensures c.nets_of.ensures.nets)
    (subst (λ items. IfErr c.nets_of.result (λ stop. IfRefused stop (IsDue (net_causes items)))) c.top_items.ensures c.nets_of.ensures.refused) a k

pub returns-clause-all_refusals : goal.returns-clause-all_refusals
returns-clause-all_refusals c = λ refusal d.
    answers_refusal (top_items c.args.tree.now) c.nets_of.result refusal (subst (λ items. IfOk c.nets_of.result (IsAccepted items)) c.top_items.ensures c.nets_of.ensures.nets)
    (subst (λ items. IfErr c.nets_of.result (λ stop. IfRefused stop (IsDue (net_causes items)))) c.top_items.ensures c.nets_of.ensures.refused) d

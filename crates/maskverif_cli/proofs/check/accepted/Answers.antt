use Rattle.std.proofs.Common.{refl, ap, ◌∙◌}
use Rattle.maskverif_cli.specs.Report.{accepted_report}
use Rattle.accepted_netlist.specs.Netlist.{roles, circuit}
use Rattle.maskverif_cli.proofs.Checking.{certified-is}
use Rattle.maskverif_cli.proofs.check.accepted.Goals as goal

pub returns : goal.returns
returns c bytes keeps =
    let asked = c.args.question in
    let kept = c.args.netlist.now in
    let found = c.accepted_is_certified.ensures kept.instance asked.model asked.order c.args.bytes.now c.args.families c.requires.accepted in (
      certified-is asked bytes c.args.bytes.now kept keeps
          (c.soundness.ensures.simulatable asked.notion asked.model (roles keeps.netlist) (circuit asked keeps.netlist) kept.instance keeps.instance c.requires.kept.fitting)
          (λ has. c.soundness.ensures.independent asked.model (roles keeps.netlist) (circuit asked keeps.netlist) kept.instance has c.requires.kept.fitting)
          c.tuples_are_all.ensures (λ tuple is. c.certified_is_proved.ensures kept.instance asked.model asked.order c.args.bytes.now found.0 tuple c.requires.most found.1 is)
          found.0 c.in_ok-text.text.items found.1 (c.in_ok-text.ensures ∙ ap accepted_report found.2),
      refl,
    )

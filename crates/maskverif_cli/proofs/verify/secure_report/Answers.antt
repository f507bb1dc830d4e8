use Rattle.std.proofs.Common.{◌≡◌, ℕ, List, ap, ◌∙◌}
use Rattle.std.specs.declared.alloc.Global.{Global}
use Rattle.std.specs.declared.vec.Vec.{Vec}
use Rattle.accepted_netlist.specs.Netlist.{roles, circuit}
use Rattle.maskverif_cli.specs.declared.report.Heading.{Heading}
use Rattle.maskverif_cli.specs.Kept.{IsSecureReport}
use Rattle.maskverif_cli.specs.Report.{secure_report}
use Rattle.maskverif_cli.proofs.Deciding.{secure-is}
use Rattle.maskverif_cli.proofs.Replies.{if-ok}
use Rattle.maskverif_cli.proofs.verify.secure_report.Goals as goal

pub returns : goal.returns
returns c =
    let asked = c.args.question in
    let kept = c.args.netlist.now in
    let shown : Heading → List ℕ = λ h. secure_report h.question h.probes h.tuples c.args.families in
    if-ok c.secure.result
    (λ (text : Vec ℕ Global). text.items ≡ shown c.heading.result)
    (λ (text : Vec ℕ Global). IsSecureReport asked kept text.items)
    (λ text written bytes keeps. secure-is asked bytes kept keeps
    (λ tuple. c.proved_is_provable.ensures kept.instance tuple c.requires.kept.table c.requires.kept.fitting)
    (c.soundness.ensures.simulatable asked.notion asked.model (roles keeps.netlist) (circuit asked keeps.netlist) kept.instance keeps.instance
    c.requires.kept.fitting)
    (λ has. c.soundness.ensures.independent asked.model (roles keeps.netlist) (circuit asked keeps.netlist) kept.instance has c.requires.kept.fitting)
    c.args.families text.items c.requires.none c.requires.families (written ∙ ap shown c.heading.ensures))
    c.secure.ensures

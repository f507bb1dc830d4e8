use Rattle.std.proofs.Common.{List, [], ◌∷◌, ◌++◌, take, subst, sym}
use Rattle.std.specs.List.{AllZip}
use Rattle.expr_table.specs.declared.instance.ProbeRoots.{ProbeRoots}
use Rattle.term_build.specs.Building.{AreRootsIn}
use Rattle.term_build.proofs.Rooted.{roots-push}
use Rattle.term_build.proofs.Counted.{front-more}
use Rattle.term_build.proofs.roots.probe_roots.Goals as goal

pub loop-probe-preserved : goal.loop-probe-preserved
loop-probe-preserved c =
    subst (λ ps. AllZip (AreRootsIn c.args.rows.now) c.push.new.self.items ps) (sym (front-more c.args.probes.now c.loop-probe.probe-index c.probe-item.result c.loop-probe-test.true c.probe-item.is))
    (subst (λ (roots : List ProbeRoots). AllZip (AreRootsIn c.args.rows.now) roots (take c.loop-probe.probe-index c.args.probes.now ++ c.probe-item.result ∷ [])) (sym c.in_ok-push.ensures.items)
    (roots-push c.args.rows.now c.loop-probe.roots.items (take c.loop-probe.probe-index c.args.probes.now) c.in_ok-roots_of.field-0 c.probe-item.result c.loop-probe.invariant c.in_ok-roots_of.ensures))

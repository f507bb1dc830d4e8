-- The roots of probes, one after another.
use Rattle.std.proofs.Common.{List, [], ◌∷◌, ◌++◌}
use Rattle.std.specs.List.{AllZip}
use Rattle.circuit_types.specs.declared.probes.Probe.{Probe}
use Rattle.expr_table.specs.declared.instance.ProbeRoots.{ProbeRoots}
use Rattle.term_build.specs.declared.cycle_rows.CycleRows.{CycleRows}
use Rattle.term_build.specs.Building.{AreRootsIn}

pub roots-push : (rows : List CycleRows) (xs : List ProbeRoots) (ys : List Probe) (x : ProbeRoots) (y : Probe) → AllZip (AreRootsIn rows) xs ys → AreRootsIn rows x y → AllZip (AreRootsIn rows) (xs ++ x ∷ []) (ys ++ y ∷ [])
roots-push rows [] [] x y all one = (one, tt)
roots-push rows (a ∷ xs) (b ∷ ys) x y all one = (all.0, roots-push rows xs ys x y all.1 one)
roots-push rows [] (b ∷ ys) x y all one = absurd all
roots-push rows (a ∷ xs) [] x y all one = absurd all

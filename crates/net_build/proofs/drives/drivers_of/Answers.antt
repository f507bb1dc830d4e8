use Rattle.std.proofs.Common.{None, [], ◌∙◌, sym, refl}
use Rattle.circuit_types.specs.Drives.{drives, redriven}
use Rattle.net_build.proofs.DriveLemmas.{start_driven}
use Rattle.net_build.proofs.DueLemmas.{least_none, least_some}
use Rattle.net_build.proofs.drives.drivers_of.Goals as goal

pub drive_all-requires-clause-start : goal.drive_all-requires-clause-start
drive_all-requires-clause-start c =
    start_driven c.args.wires.now.list.now (record { list = c.in_ok-starting_drivers.field-0; refused = None }) c.in_ok-starting_drivers.ensures refl

pub returns-in-Some-clause-twice : goal.returns-in-Some-clause-twice
returns-in-Some-clause-twice c =
    let ws = c.args.wires.now.list.now in
    (c.in-Some.line, least_some (redriven ws [] (drives ws c.args.items.now)) c.in-Some.line (sym c.in_ok-drive_all.ensures.refused ∙ c.in-Some.is), refl)

pub returns-clause-once : goal.returns-clause-once
returns-clause-once c =
    let ws = c.args.wires.now.list.now in
    least_none (redriven ws [] (drives ws c.args.items.now)) (sym c.in_ok-drive_all.ensures.refused ∙ c.in_default.is)

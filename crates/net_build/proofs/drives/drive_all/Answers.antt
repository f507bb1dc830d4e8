use Rattle.std.proofs.Common.{◌+◌, drop, refl, sym, subst}
use Rattle.std.proofs.lemmas.List.{take_rest}
use Rattle.circuit_types.specs.Items.{kept_cells}
use Rattle.circuit_types.specs.Nets.{most_cells}
use Rattle.net_build.specs.Drives.{NoneBefore}
use Rattle.net_build.specs.Ports.{KnowsCells}
use Rattle.net_build.proofs.DriveLemmas.{none_yet, next_few, next_kept, item_driven, least_of_all}
use Rattle.net_build.proofs.PortLemmas.{next_known}
use Rattle.net_build.proofs.drives.drive_all.Goals as goal

pub loop-place-init : goal.loop-place-init
loop-place-init c = (refl, c.requires.start.knows.size, none_yet c.args.wires.now.list.now c.args.items.now c.args.drivers.now c.requires.start, c.requires.ports)

pub drive_item-requires-clause-ports : goal.drive_item-requires-clause-ports
drive_item-requires-clause-ports c =
    (next_known c.args.wires.now.list.now c.args.items.now c.loop-place.place c.index-items-place.result c.loop-place.number c.args.ports.now c.loop-place-test.true c.index-items-place.is
    c.loop-place.invariant.3).0

pub drive_item-requires-clause-few : goal.drive_item-requires-clause-few
drive_item-requires-clause-few c =
    next_few c.args.items.now c.loop-place.place c.loop-place.number most_cells c.index-items-place.result c.loop-place-test.true c.index-items-place.is c.loop-place.invariant.0 c.requires.few_cells

pub returns-then-is_least-clause-refused : goal.returns-then-is_least-clause-refused
returns-then-is_least-clause-refused c =
    let ws = c.args.wires.now.list.now in
    let items = c.args.items.now in
    let i = c.loop-place.place in
    least_of_all ws items (i + 1) c.drive_item.new.drivers
    (item_driven ws items i c.loop-place.number c.index-items-place.result c.loop-place.drivers c.drive_item.new.drivers c.loop-place-test.true c.index-items-place.is c.loop-place.invariant.0
    c.loop-place.invariant.2 c.in_ok-number.ensures.driven)
    (subst (NoneBefore c.drive_item.new.drivers.refused) (take_rest items (i + 1)) (c.is_least.ensures c.if-is_least.true))

pub loop-place-preserved : goal.loop-place-preserved
loop-place-preserved c =
    let ws = c.args.wires.now.list.now in
    let items = c.args.items.now in
    let i = c.loop-place.place in (
      next_kept items i c.loop-place.number c.in_ok-number.number c.index-items-place.result c.loop-place-test.true c.index-items-place.is c.loop-place.invariant.0 c.in_ok-number.ensures.next,
      c.in_ok-number.ensures.size,
      item_driven ws items i c.loop-place.number c.index-items-place.result c.loop-place.drivers c.drive_item.new.drivers c.loop-place-test.true c.index-items-place.is c.loop-place.invariant.0
          c.loop-place.invariant.2 c.in_ok-number.ensures.driven,
      subst (λ n. KnowsCells ws (kept_cells (drop (i + 1) items)) (drop n c.args.ports.now.cells.items) c.args.ports.now) (sym c.in_ok-number.ensures.next)
          (next_known ws items i c.index-items-place.result c.loop-place.number c.args.ports.now c.loop-place-test.true c.index-items-place.is c.loop-place.invariant.3).1,
    )

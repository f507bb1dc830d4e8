use Rattle.std.proofs.Common.{◌<◌, length, get_or, map, refl, sym, ap, ◌∙◌, subst, arith, All, length-set}
use Rattle.std.specs.Option.{option_and_then}
use Rattle.std.specs.Vec.{with_item}
use Rattle.circuit_types.specs.InputBits.{role_in, held_bit}
use Rattle.circuit_types.specs.DataSources.{pin_sources}
use Rattle.circuit_types.specs.Held.{held_cell}
use Rattle.circuit_types.proofs.Cells.{cell_read, pins_within}
use Rattle.level_unroll.specs.Shown.{kept_value, IsKept}
use Rattle.level_unroll.proofs.Holding.{all_kept, leaves_shown, order_within, more_shown, all_shown}
use Rattle.level_unroll.proofs.held.Held.new.Goals as goal

pub loop-cell-init : goal.loop-cell-init
loop-cell-init c = record {
  one_each_bit = c.in_ok-held_bits.ensures.len ∙ ap length c.as_slice.ensures;
  one_each_cell = sym c.in_ok-vec.field-0.ok.0 ∙ c.in_ok-vec.ensures.len ∙ ap length c.as_slice-3.ensures;
  each = leaves_shown c.args.nets.now c.args.roles.now c.requires.levelled (record { bits = c.in_ok-held_bits.field-0; cells = c.in_ok-vec.field-0 }) (λ b lt. c.in_ok-held_bits.ensures.each b (let l : b < length c.args.nets.now.sources = lt in omega (arith, ap length c.as_slice.ensures)) ∙ ap (λ inputs. option_and_then held_bit (role_in inputs b)) c.as_slice-2.ensures);
}

pub bounds-as_slice-cell : goal.bounds-as_slice-cell
bounds-as_slice-cell c =
    omega (arith, ap length c.as_slice-in-loop-cell.ensures, order_within c.args.nets.now c.args.roles.now c.requires.levelled c.args.order.now c.requires.order c.loop-cell.cell-index c.loop-cell-test.true)

pub of_cell-value-requires : goal.of_cell-value-requires
of_cell-value-requires c =
    let lt = order_within c.args.nets.now c.args.roles.now c.requires.levelled c.args.order.now c.requires.order c.loop-cell.cell-index c.loop-cell-test.true in
    let cell = cell_read c.args.nets.now (get_or c.args.order.now c.loop-cell.cell-index 0) c.index-as_slice-cell.result _ c.as_slice-in-loop-cell.ensures lt c.index-as_slice-cell.is in
    subst (λ of. All (IsKept c.loop-cell.held) (pin_sources of)) (sym cell)
    (all_kept c.args.nets.now c.loop-cell.held c.loop-cell.invariant.one_each_bit c.loop-cell.invariant.one_each_cell _ (pins_within c.args.nets.now (get_or c.args.order.now c.loop-cell.cell-index 0) c.requires.wired lt))

pub index_mut-requires : goal.index_mut-requires
index_mut-requires c =
    omega (arith, c.loop-cell.held.cells.ok.0, c.loop-cell.invariant.one_each_cell, order_within c.args.nets.now c.args.roles.now c.requires.levelled c.args.order.now c.requires.order c.loop-cell.cell-index c.loop-cell-test.true)

pub loop-cell-preserved : goal.loop-cell-preserved
loop-cell-preserved c =
    let lt = order_within c.args.nets.now c.args.roles.now c.requires.levelled c.args.order.now c.requires.order c.loop-cell.cell-index c.loop-cell-test.true in
    let cell = cell_read c.args.nets.now (get_or c.args.order.now c.loop-cell.cell-index 0) c.index-as_slice-cell.result _ c.as_slice-in-loop-cell.ensures lt c.index-as_slice-cell.is in
    record {
      one_each_bit = c.loop-cell.invariant.one_each_bit;
      one_each_cell = length-set c.loop-cell.held.cells.items (get_or c.args.order.now c.loop-cell.cell-index 0) c.of_cell-value.result ∙ c.loop-cell.invariant.one_each_cell;
      each = more_shown c.args.nets.now c.args.roles.now c.requires.levelled c.args.order.now c.requires.order c.requires.wired c.loop-cell.held (record { bits = c.loop-cell.held.bits; cells = with_item c.loop-cell.held.cells (get_or c.args.order.now c.loop-cell.cell-index 0) c.of_cell-value.result }) c.loop-cell.cell-index _ c.of_cell-value.result refl c.loop-cell-test.true
          c.loop-cell.invariant.one_each_cell refl refl
          (c.of_cell-value.ensures ∙ ap (λ of. held_cell of.kind (map (kept_value c.loop-cell.held) (pin_sources of))) cell)
          c.loop-cell.invariant.each;
    }

pub returns : goal.returns
returns c =
    all_shown c.args.nets.now c.args.roles.now c.requires.levelled c.args.order.now c.requires.order c.loop-cell.held c.loop-cell.cell-index c.loop-cell-test.false
    c.loop-cell.invariant.one_each_bit c.loop-cell.invariant.one_each_cell c.loop-cell.invariant.each

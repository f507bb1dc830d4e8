use Rattle.std.proofs.Common.{◌+◌, ◌++◌, length, arith}
use Rattle.std.specs.List.{flat_map}
use Rattle.std.proofs.lemmas.Result.{on_ok_weaker}
use Rattle.gadget_maker.proofs.Placing.{then_put, put_at_most}
use Rattle.gadget_maker.specs.Gadget.{product_cells, masking_cells, register_cells, sum_cells, all_cells}
use Rattle.gadget_maker.proofs.cells.put_cells.Goals as goal

pub returns : goal.returns
returns c =
    let d = c.args.shares in
    let seed = c.args.seed in
    let ps = c.args.pairs.now in
    let xs = c.args.crossings.now in
    let m = length ps in
    let n = length xs in
    let few_ps = c.requires.few_pairs in
    let few_xs = c.requires.few_crossings in
    let maskings = flat_map (masking_cells seed d) xs in
    let registers = flat_map register_cells xs in
    let sums = flat_map (sum_cells d) xs in
    on_ok_weaker c.put_sums.result
    (λ h.
    put_at_most c.args.listing.now c.put_sums.new.listing (m + (n + (n + n))) 1024 (all_cells seed d ps xs) (omega arith)
    (then_put c.args.listing.now c.put_products.new.listing c.put_sums.new.listing m (n + (n + n)) (flat_map product_cells ps)
    (maskings ++ (registers ++ sums)) c.in_ok-put_products.ensures
    (then_put c.put_products.new.listing c.put_maskings.new.listing c.put_sums.new.listing n (n + n) maskings (registers ++ sums)
    c.in_ok-put_maskings.ensures
    (then_put c.put_maskings.new.listing c.put_registers.new.listing c.put_sums.new.listing n n registers sums c.in_ok-put_registers.ensures h))))
    c.put_sums.ensures

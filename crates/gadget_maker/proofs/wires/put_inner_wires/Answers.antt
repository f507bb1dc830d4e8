use Rattle.std.proofs.Common.{◌+◌, ◌++◌, length, arith}
use Rattle.std.specs.List.{flat_map}
use Rattle.std.proofs.lemmas.Result.{on_ok_weaker}
use Rattle.gadget_maker.proofs.Placing.{then_put, put_at_most}
use Rattle.gadget_maker.specs.Gadget.{masked_name, kept_name, product_wires, crossing_wires, sum_wires, inner_wires}
use Rattle.gadget_maker.proofs.wires.put_inner_wires.Goals as goal

pub returns : goal.returns
returns c =
    let d = c.args.shares in
    let ps = c.args.pairs.now in
    let xs = c.args.crossings.now in
    let m = length ps in
    let n = length xs in
    let few_ps = c.requires.few_pairs in
    let few_xs = c.requires.few_crossings in
    let masked = flat_map (crossing_wires masked_name) xs in
    let kept = flat_map (crossing_wires kept_name) xs in
    let sums = flat_map (sum_wires d) ps in
    on_ok_weaker c.put_sums.result
    (λ h.
    put_at_most c.args.listing.now c.put_sums.new.listing (m + (n + (n + m))) 1024 (inner_wires d ps xs) (omega arith)
    (then_put c.args.listing.now c.put_products.new.listing c.put_sums.new.listing m (n + (n + m)) (flat_map product_wires ps)
    (masked ++ (kept ++ sums)) c.in_ok-put_products.ensures
    (then_put c.put_products.new.listing c.put_crossings.new.listing c.put_sums.new.listing n (n + m) masked (kept ++ sums) c.in_ok-put_crossings.ensures
    (then_put c.put_crossings.new.listing c.put_crossings-2.new.listing c.put_sums.new.listing n m kept sums c.in_ok-put_crossings-2.ensures h))))
    c.put_sums.ensures

use Rattle.std.proofs.Common.{◌≡◌, ◌%◌, ◌<◌, ◌∷◌, [], ◌++◌, length, get_or, sym, refl, ap, ◌∙◌, arith, length-append, append_assoc}
use Rattle.std.specs.Vec.Iter.{into_iter_items}
use Rattle.steal_frontier.proofs.Begun.{deals_more, root_fits, few_roots, get_or-any}
use Rattle.steal_frontier.proofs.deal.deal.Goals as goal

pub add_root-requires-clause-fits : goal.add_root-requires-clause-fits
add_root-requires-clause-fits c =
    let xs = c.loop-root.yielded in
    let rest = into_iter_items c.next.new.self in
    let at = c.loop-root.i % length c.args.seats.now in
    let low : at < length c.args.seats.now = omega arith in
    let same = c.loop-root.auto.seats in
    let was = get_or c.loop-root.seats at c.index-seats-i.result in
    root_fits c.args.seats.now c.loop-root.seats xs rest c.args.roots.items c.in-Some.root at was same low (get_or-any c.loop-root.seats at c.index-seats-i.result was (omega arith)) (ap (λ l. xs ++ l) (sym c.in-Some.ensures.steps.0) ∙ c.loop-root.invariant.3) c.loop-root.invariant.2 c.requires.fits

pub add_root-requires-clause-few : goal.add_root-requires-clause-few
add_root-requires-clause-few c =
    let xs = c.loop-root.yielded in
    let rest = into_iter_items c.next.new.self in
    let at = c.loop-root.i % length c.args.seats.now in
    let low : at < length c.args.seats.now = omega arith in
    let same = c.loop-root.auto.seats in
    let was = get_or c.loop-root.seats at c.index-seats-i.result in
    let few = few_roots c.args.seats.now c.loop-root.seats xs rest c.args.roots.items c.in-Some.root at was same low (get_or-any c.loop-root.seats at c.index-seats-i.result was (omega arith)) (ap (λ l. xs ++ l) (sym c.in-Some.ensures.steps.0) ∙ c.loop-root.invariant.3) c.loop-root.invariant.2 c.requires.new in
    omega (arith, c.args.roots.small, c.args.roots.ok)

pub loop-root-preserved : goal.loop-root-preserved
loop-root-preserved c =
    let xs = c.loop-root.yielded in
    let rest = into_iter_items c.next.new.self in
    let at = c.loop-root.i % length c.args.seats.now in
    let low : at < length c.args.seats.now = omega arith in
    let same = c.loop-root.auto.seats in
    let was = get_or c.loop-root.seats at c.index-seats-i.result in
    let all : xs ++ c.in-Some.root ∷ rest ≡ c.args.roots.items = ap (λ l. xs ++ l) (sym c.in-Some.ensures.steps.0) ∙ c.loop-root.invariant.3 in (
      omega (arith, length-append xs (c.in-Some.root ∷ []), c.loop-root.invariant.0),
      refl,
      deals_more c.args.seats.now c.loop-root.seats xs c.in-Some.root at was c.add_root.new.seat same low (ap (λ n. n % length c.args.seats.now) c.loop-root.invariant.0) (get_or-any c.loop-root.seats at c.index-seats-i.result was (omega arith)) c.loop-root.invariant.2 c.in_ok-add_root.ensures,
      append_assoc xs (c.in-Some.root ∷ []) rest ∙ all,
    )

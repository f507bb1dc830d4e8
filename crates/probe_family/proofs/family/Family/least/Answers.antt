use Rattle.std.proofs.Common.{◌∙◌, ◌≡◌, length, drop, ap, arith}
use Rattle.std.proofs.lemmas.List.{take_all, take_at}
use Rattle.std.specs.List.{flat_map}
use Rattle.probe_family.specs.Least.{in_order, least_of, least_of_part}
use Rattle.probe_family.proofs.Sorting.{sorted_is_in_order}
use Rattle.probe_family.proofs.family.Family.least.Goals as goal

-- the sorted list has the room that it came from, and is the list in order
pub returns : goal.returns
unfolding least_of
returns c =
    let sorted = c.sort_unstable.new.self in
    let long : length sorted ≡ length c.loop-part.tuple.items = c.sort_unstable.ensures.len ∙ ap length c.deref_mut.ensures.value in
    take_at sorted (drop (length sorted) c.loop-part.tuple.items) (length c.loop-part.tuple.items) long
    ∙ (sorted_is_in_order c.deref_mut.result.now sorted c.sort_unstable.ensures.permutation c.sort_unstable.ensures.sorted
    ∙ ap in_order (c.deref_mut.ensures.value
    ∙ (c.loop-part.invariant.taken
    ∙ ap (flat_map least_of_part) (take_all c.loop-part.part-index c.as_slice-part-items.result.now (omega arith) ∙ c.as_slice-part-items.ensures))))

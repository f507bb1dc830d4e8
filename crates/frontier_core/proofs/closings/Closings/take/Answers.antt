use Rattle.std.proofs.Common.{◌++◌, ◌∙◌, All, sym, subst, vec_len}
use Rattle.std.proofs.lemmas.Bool.{true≢false}
use Rattle.std.proofs.lemmas.List.Elements.{All-from_recursion, recursion_from_All}
use Rattle.std.specs.BTreeMap.{is_at}
use Rattle.std.specs.Map.{values_of}
use Rattle.frontier_core.specs.Closings.{IsSmall, TakesOut}
use Rattle.frontier_core.proofs.Aside.{IsAside, IsKeyed, aside_begins, aside_ends, aside_more, aside_next, aside_taken, by_items, kept_by_pop, kept_by_remove, popped_small, removed_none}
use Rattle.frontier_core.proofs.Places.{nothing_left, place_from_get_or}
use Rattle.frontier_core.proofs.closings.Closings.take.Goals as goal

pub invariant_of-self : goal.invariant_of-self
invariant_of-self c =
    kept_by_remove (is_at (by_items c.least.result)) c.self.inside.aside.entries c.remove.new.self.entries c.self.inside.coming.items c.remove.ensures.entries c.self.invariant.0 c.self.invariant.1

pub returns-in-Some : goal.returns-in-Some
returns-in-Some c =
    subst (λ es. TakesOut c.args.family.now c.args.self.now (values_of es ++ c.self.inside.coming.items) c.in-Some.closed) (sym c.remove.ensures.entries)
    (aside_taken c.args.family.now c.least.result c.args.self.now c.self.inside.aside.entries c.self.inside.coming.items c.in-Some.closed c.requires.there.1 c.requires.there.0 c.least.ensures c.self.view_is
    (recursion_from_All IsKeyed c.self.inside.aside.entries c.self.invariant.0) c.requires.apart
    (place_from_get_or c.args.self.now c.requires.there.0 c.requires.there.1 c.requires.there.2 c.requires.there.3) c.requires.there.4
    (sym c.in-Some.ensures.value))

pub loop-closed-init : goal.loop-closed-init
loop-closed-init c =
    let none = sym c.remove.ensures.value ∙ c.in_default.is in
    subst (λ es. IsAside c.args.family.now c.args.self.now es c.self.inside.coming.items) (sym (removed_none (is_at (by_items c.least.result)) c.self.inside.aside.entries c.remove.new.self.entries none c.remove.ensures.entries))
    (aside_begins c.args.family.now c.least.result c.args.self.now c.self.inside.aside.entries c.self.inside.coming.items c.least.ensures c.self.view_is
    (recursion_from_All IsKeyed c.self.inside.aside.entries c.self.invariant.0)
    (recursion_from_All IsSmall (values_of c.self.inside.aside.entries ++ c.self.inside.coming.items) c.self.invariant.1) none)

pub invariant_of-self-then-same : goal.invariant_of-self-then-same
invariant_of-self-then-same c = (
  All-from_recursion IsKeyed c.loop-closed.self-inside.aside.entries c.loop-closed.invariant.keyed,
  kept_by_pop c.loop-closed.self-inside.aside.entries c.loop-closed.self-inside.coming.items c.pop.new.self.items c.in-Some-pop.closed c.in-Some-pop.ensures.items c.loop-closed.invariant.small,
)

pub returns-then-same : goal.returns-then-same
returns-then-same c =
    aside_next c.args.family.now c.args.self.now c.loop-closed.self-inside.aside.entries c.loop-closed.self-inside.coming.items c.pop.new.self.items c.in-Some-pop.closed c.in-Some-pop.ensures.items
    (c.same.ensures.0 c.if-same.true) c.loop-closed.invariant

pub least-least-requires : goal.least-least-requires
least-least-requires c =
    popped_small c.loop-closed.self-inside.aside.entries c.loop-closed.self-inside.coming.items c.pop.new.self.items c.in-Some-pop.closed c.in-Some-pop.ensures.items c.loop-closed.invariant.small

pub invariant_of-self-in_err-insert : goal.invariant_of-self-in_err-insert
invariant_of-self-in_err-insert c = (
  subst (All IsKeyed) (sym c.in_err-insert.ensures.err) (All-from_recursion IsKeyed c.loop-closed.self-inside.aside.entries c.loop-closed.invariant.keyed),
  subst (λ es. All IsSmall (values_of es ++ c.pop.new.self.items)) (sym c.in_err-insert.ensures.err)
      (kept_by_pop c.loop-closed.self-inside.aside.entries c.loop-closed.self-inside.coming.items c.pop.new.self.items c.in-Some-pop.closed c.in-Some-pop.ensures.items c.loop-closed.invariant.small),
)

pub loop-closed-preserved-in_ok-insert : goal.loop-closed-preserved-in_ok-insert
loop-closed-preserved-in_ok-insert c =
    subst (λ es. IsAside c.args.family.now c.args.self.now es c.pop.new.self.items) (sym c.in_ok-insert.ensures.entries)
    (aside_more c.args.family.now c.least-least.result c.args.self.now c.loop-closed.self-inside.aside.entries c.loop-closed.self-inside.coming.items c.pop.new.self.items c.in-Some-pop.closed c.least-least.ensures c.in-Some-pop.ensures.items
    (λ is. true≢false (sym (c.same.ensures.1 is) ∙ c.if-same.false)) c.requires.apart c.insert.ensures.was_ordered c.loop-closed.invariant)

pub loop-closed-preserved : goal.loop-closed-preserved
loop-closed-preserved c =
    subst (λ es. IsAside c.args.family.now c.args.self.now es c.pop.new.self.items) (sym c.in_ok-insert.ensures.entries)
    (aside_more c.args.family.now c.least-least.result c.args.self.now c.loop-closed.self-inside.aside.entries c.loop-closed.self-inside.coming.items c.pop.new.self.items c.in-Some-pop.closed c.least-least.ensures c.in-Some-pop.ensures.items
    (λ is. true≢false (sym (c.same.ensures.1 is) ∙ c.if-same.false)) c.requires.apart c.insert.ensures.was_ordered c.loop-closed.invariant)

pub unreachable-requires : goal.unreachable-requires
unreachable-requires c =
    aside_ends c.args.family.now c.args.self.now c.loop-closed.self-inside.aside.entries c.loop-closed.self-inside.coming.items c.requires.there.1 c.requires.there.0
    (nothing_left c.loop-closed.self-inside.coming.items c.pop.new.self.items (vec_len c.loop-closed.self-inside.coming) c.in_default-pop.ensures.items c.in_default-pop.ensures.rest c.in_default-pop.ensures.cases.0)
    (place_from_get_or c.args.self.now c.requires.there.0 c.requires.there.1 c.requires.there.2 c.requires.there.3) c.requires.there.4 c.loop-closed.invariant

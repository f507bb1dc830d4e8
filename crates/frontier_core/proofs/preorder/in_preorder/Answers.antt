use Rattle.std.proofs.Common.{◌≡◌, ◌∙◌, ◌++◌, ℕ, List, [], ◌∷◌, ap, sym, subst, reverse, vec_len}
use Rattle.std.proofs.lemmas.List.{append-nil}
use Rattle.expr_table.specs.declared.instance.Instance.{Instance}
use Rattle.probe_family.specs.declared.ending.Closed.{Closed}
use Rattle.probe_family.specs.declared.family.Family.{Family}
use Rattle.probe_family.specs.Families.{IsFamily}
use Rattle.family_split.specs.Children.{children_of}
use Rattle.frontier_core.proofs.Halfway.{IsHalfway, are_apart, closings_small, fewer_records, halfway_begins, halfway_ends, halfway_more, is_there, taken_hull, taken_is_family}
use Rattle.frontier_core.proofs.Places.{nothing_left}
use Rattle.frontier_core.proofs.Stacks.{reverse_last}
use Rattle.frontier_core.proofs.preorder.in_preorder.Goals as goal

-- the family on top of the stack comes next
top : (x : Instance) (t : ℕ) (items rest : List Family) (family : Family) (records preorder : List Closed) → items ≡ rest ++ family ∷ [] → IsHalfway x t (reverse items) records preorder → IsHalfway x t (family ∷ reverse rest) records preorder
top x t items rest family records preorder e half = subst (λ l. IsHalfway x t l records preorder) (ap reverse e ∙ reverse_last rest family) half

pub make-requires : goal.make-requires
make-requires c = closings_small c.requires.0 c.requires.1 c.args.roots.items c.args.ended.items c.requires.2

pub loop-family-init : goal.loop-family-init
loop-family-init c x t whole =
    halfway_begins x t c.args.roots.items c.args.ended.items (reverse c.stack_up.new.stack.items) c.in_ok-closings.closings c.new-preorder.result.items whole
    (c.in_ok-stack_up.ensures ∙ (ap (λ l. c.args.roots.items ++ reverse l) c.new-stack.ensures.items ∙ append-nil c.args.roots.items)) c.in_ok-closings.ensures c.new-preorder.ensures.items

pub take-requires-clause-apart : goal.take-requires-clause-apart
take-requires-clause-apart c =
    are_apart c.requires.0 c.requires.1 c.in-Some.family (reverse c.pop.new.self.items) c.loop-family.closings c.loop-family.preorder.items
    (top c.requires.0 c.requires.1 c.loop-family.stack.items c.pop.new.self.items c.in-Some.family c.loop-family.closings c.loop-family.preorder.items c.in-Some.ensures.items (c.loop-family.invariant c.requires.0 c.requires.1 c.requires.2))

pub take-requires-clause-there : goal.take-requires-clause-there
take-requires-clause-there c =
    is_there c.requires.0 c.requires.1 c.in-Some.family (reverse c.pop.new.self.items) c.loop-family.closings c.loop-family.preorder.items
    (top c.requires.0 c.requires.1 c.loop-family.stack.items c.pop.new.self.items c.in-Some.family c.loop-family.closings c.loop-family.preorder.items c.in-Some.ensures.items (c.loop-family.invariant c.requires.0 c.requires.1 c.requires.2))

pub children-requires : goal.children-requires
children-requires c =
    let half : IsHalfway c.requires.0 c.requires.1 (c.in-Some.family ∷ reverse c.pop.new.self.items) c.loop-family.closings c.loop-family.preorder.items =
    top c.requires.0 c.requires.1 c.loop-family.stack.items c.pop.new.self.items c.in-Some.family c.loop-family.closings c.loop-family.preorder.items c.in-Some.ensures.items (c.loop-family.invariant c.requires.0 c.requires.1 c.requires.2) in
    subst (λ n. IsFamily n c.in_ok-closed.closed.family)
    (sym (taken_hull c.requires.0 c.requires.1 c.in-Some.family (reverse c.pop.new.self.items) c.loop-family.closings c.loop-family.preorder.items half c.take.new.self c.in_ok-closed.closed c.in_ok-closed.ensures))
    (taken_is_family c.requires.0 c.requires.1 c.in-Some.family (reverse c.pop.new.self.items) c.loop-family.closings c.loop-family.preorder.items half c.take.new.self c.in_ok-closed.closed c.in_ok-closed.ensures)

pub loop-family-smaller : goal.loop-family-smaller
loop-family-smaller c =
    fewer_records c.requires.0 c.requires.1 c.in-Some.family (reverse c.pop.new.self.items) c.loop-family.closings c.loop-family.preorder.items
    (top c.requires.0 c.requires.1 c.loop-family.stack.items c.pop.new.self.items c.in-Some.family c.loop-family.closings c.loop-family.preorder.items c.in-Some.ensures.items (c.loop-family.invariant c.requires.0 c.requires.1 c.requires.2))
    c.take.new.self c.in_ok-closed.closed c.in_ok-closed.ensures

pub loop-family-preserved : goal.loop-family-preserved
loop-family-preserved c x t whole =
    subst (λ l. IsHalfway x t l c.take.new.self c.push.new.self.items) (sym (c.in_ok-stack_up-2.ensures ∙ ap (λ l. l ++ reverse c.pop.new.self.items) c.in_ok-children.ensures.children))
    (subst (IsHalfway x t (children_of c.in_ok-closed.closed.family c.in_ok-closed.closed.hull ++ reverse c.pop.new.self.items) c.take.new.self) (sym c.in_ok-push.ensures.items)
    (halfway_more x t c.in-Some.family (reverse c.pop.new.self.items) c.loop-family.closings c.loop-family.preorder.items
    (top x t c.loop-family.stack.items c.pop.new.self.items c.in-Some.family c.loop-family.closings c.loop-family.preorder.items c.in-Some.ensures.items (c.loop-family.invariant x t whole))
    c.take.new.self c.in_ok-closed.closed c.in_ok-closed.ensures))

pub returns : goal.returns
returns c x t whole =
    let none : c.loop-family.stack.items ≡ [] =
    nothing_left c.loop-family.stack.items c.pop.new.self.items (vec_len c.loop-family.stack) c.in_default.ensures.items c.in_default.ensures.rest c.in_default.ensures.cases.0 in
    halfway_ends x t c.loop-family.closings c.loop-family.preorder.items
    (subst (λ l. IsHalfway x t (reverse l) c.loop-family.closings c.loop-family.preorder.items) none (c.loop-family.invariant x t whole))

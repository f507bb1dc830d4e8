use Rattle.std.proofs.Common.{◌≤◌, List, length, subst, sym, ◌∙◌}
use Rattle.gadget_maker.proofs.Counting.{few_pairs, few_crossings}
use Rattle.gadget_maker.proofs.Made.{tree_on, made, tree_is}
use Rattle.gadget_maker.specs.Gadget.{gadget}
use Rattle.gadget_maker.specs.declared.pairs.Pair.{Pair}
use Rattle.gadget_maker.specs.declared.pairs.Crossing.{Crossing}
use Rattle.gadget_maker.proofs.gadget.make.Goals as goal

pub items_of-requires-clause-few_pairs : goal.items_of-requires-clause-few_pairs
items_of-requires-clause-few_pairs c =
    subst (λ (v : List Pair). length v ≤ 256) (sym (c.deref.ensures.value ∙ c.in_ok-pairs.ensures)) (few_pairs c.args.shares c.requires.few)

pub items_of-requires-clause-few_crossings : goal.items_of-requires-clause-few_crossings
items_of-requires-clause-few_crossings c =
    subst (λ (v : List Crossing). length v ≤ 256) (sym (c.deref-2.ensures.value ∙ c.in_ok-crossings.ensures)) (few_crossings c.args.shares c.requires.few)

pub returns : goal.returns
returns c =
    let items = c.in_ok-items.items.items in
    tree_is c.tree_of.result (tree_on items) (gadget c.args.seed c.args.shares)
    (made c.args.seed c.args.shares c.deref.result.now c.deref-2.result.now items c.in_ok-items.ensures (c.deref.ensures.value ∙ c.in_ok-pairs.ensures)
    (c.deref-2.ensures.value ∙ c.in_ok-crossings.ensures))
    c.tree_of.ensures

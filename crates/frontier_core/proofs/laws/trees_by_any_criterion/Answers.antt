use Rattle.std.proofs.Common.{refl}
use Rattle.extend_set.specs.Hull.{hull_of}
use Rattle.frontier_core.specs.Tree.{tree_by, tree_of, under, under_by}
use Rattle.frontier_core.proofs.Trees.{by_hull, by_none}
use Rattle.frontier_core.proofs.laws.trees_by_any_criterion.Goals as goal

pub returns-clause-hull : goal.returns-clause-hull
returns-clause-hull c meets n family hull is found = by_hull meets n family hull is found

pub returns-clause-none : goal.returns-clause-none
returns-clause-none c meets n family is none = by_none meets n family is none

pub returns-clause-provable : goal.returns-clause-provable
unfolding hull_of tree_by tree_of under under_by
returns-clause-provable c x t = refl

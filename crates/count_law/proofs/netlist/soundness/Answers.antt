use Rattle.std.proofs.Common.{subst}
use Rattle.expr_table.specs.declared.instance.Notion.TheVariants.{Probing}
use Rattle.once_random.specs.Tuples.{bound_of, roots_of}
use Rattle.once_random.specs.Provable.{leaves_left}
use Rattle.count_law.specs.Netlists.{IsSimulatableTuple, count_of_tuple, leaf_groups}
use Rattle.count_law.proofs.Dependence.{no_leaf-independent}
use Rattle.count_law.proofs.netlist.soundness.Goals as goal

pub returns-clause-simulatable : goal.returns-clause-simulatable
returns-clause-simulatable c notion model roles circuit x has fitting tuple provable =
    let set = leaves_left x (roots_of x tuple) in
    subst (IsSimulatableTuple notion model roles circuit tuple set) (c.tuples_have_bounds.ensures notion model roles circuit x has tuple)
    (c.provable_tuple_is_simulatable.ensures.within notion model roles circuit x has fitting tuple (bound_of x tuple) provable)

pub returns-clause-independent : goal.returns-clause-independent
returns-clause-independent c model roles circuit x has fitting tuple provable =
    no_leaf-independent (leaf_groups Probing roles circuit) (count_of_tuple Probing model roles circuit tuple) (leaves_left x (roots_of x tuple))
    (returns-clause-simulatable c Probing model roles circuit x has fitting tuple provable)

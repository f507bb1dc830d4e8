use Rattle.once_random.specs.Tuples.{roots_of}
use Rattle.once_random.proofs.Facts.{roots_are_rows, roots_among}
use Rattle.once_random.specs.Provable.{leaves_left}
use Rattle.count_law.specs.Netlists.{count_of_tuple, leaf_groups}
use Rattle.count_law.proofs.Observing.{from_rows}
use Rattle.count_law.proofs.Dependence.{no_leaf-independent}
use Rattle.count_law.proofs.netlist.provable_tuple_is_simulatable.Goals as goal

pub returns-clause-within : goal.returns-clause-within
returns-clause-within c notion model roles circuit x has fitting tuple m provable =
    let roots = roots_of x tuple in
    from_rows notion model roles circuit x has tuple (leaves_left x roots) m
    (c.terms_give_netlist.ensures notion model roles circuit x has tuple)
    (c.provable_is_simulatable.ensures.roots x roots m has.table fitting (roots_are_rows x fitting tuple) provable)

pub returns-clause-some : goal.returns-clause-some
returns-clause-some c notion model roles circuit x has fitting tuple some m among provable =
    from_rows notion model roles circuit x has some (leaves_left x (roots_of x some)) m
    (c.terms_give_netlist.ensures notion model roles circuit x has some)
    (c.provable_is_simulatable.ensures.subset x (roots_of x tuple) (roots_of x some) m has.table fitting (roots_are_rows x fitting tuple)
    (roots_among x tuple some among) provable)

pub returns-clause-independent : goal.returns-clause-independent
returns-clause-independent c notion model roles circuit x has fitting tuple provable =
    no_leaf-independent (leaf_groups notion roles circuit) (count_of_tuple notion model roles circuit tuple) (leaves_left x (roots_of x tuple))
    (returns-clause-within c notion model roles circuit x has fitting tuple 0 provable)

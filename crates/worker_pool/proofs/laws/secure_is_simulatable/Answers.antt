use Rattle.worker_pool.proofs.laws.secure_is_simulatable.Goals as goal

pub returns-clause-simulatable : goal.returns-clause-simulatable
returns-clause-simulatable c notion model roles circuit x t has fitting none tuple is =
    c.soundness.ensures.simulatable notion model roles circuit x has fitting tuple
    (c.first_is_the_first_unproved.ensures.secure x t has.table fitting none tuple is)

pub returns-clause-independent : goal.returns-clause-independent
returns-clause-independent c model roles circuit x t has fitting none tuple is =
    c.soundness.ensures.independent model roles circuit x has fitting tuple
    (c.first_is_the_first_unproved.ensures.secure x t has.table fitting none tuple is)

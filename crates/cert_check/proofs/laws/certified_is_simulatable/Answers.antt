use Rattle.once_random.specs.Tuples.{bound_of, roots_of}
use Rattle.cert_check.proofs.laws.certified_is_simulatable.Goals as goal

pub returns : goal.returns
returns c x model order bytes entries tuple table fitting few is t =
    c.provable_is_simulatable.ensures.roots x (roots_of x tuple) (bound_of x tuple) table fitting (c.tuples_have_roots.ensures.rows x tuple fitting)
    (c.certified_is_proved.ensures x model order bytes entries tuple few is t)

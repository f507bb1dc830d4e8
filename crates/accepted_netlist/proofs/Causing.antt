-- Causes one after the other.
use Rattle.std.proofs.Common.{inl, inr, ⊎_elim, List, [], ◌∷◌, ◌++◌}
use Rattle.circuit_types.specs.Due.{Cause, IsClear, IsDue}
use Rattle.circuit_types.specs.declared.refusal.Refusal.{Refusal}

pub due-first : (cs ds : List Cause) (r : Refusal) → IsDue cs r → IsDue (cs ++ ds) r
due-first [] ds r d = absurd d
due-first (c ∷ cs) ds r d = ⊎_elim (λ g. inl g) (λ k. inr (k.0, due-first cs ds r k.1)) d

pub due-later : (cs ds : List Cause) (r : Refusal) → IsClear cs → IsDue ds r → IsDue (cs ++ ds) r
due-later [] ds r h d = d
due-later (c ∷ cs) ds r h d = inr (h.0, due-later cs ds r h.1 d)

pub clear-both : (cs ds : List Cause) → IsClear cs → IsClear ds → IsClear (cs ++ ds)
clear-both [] ds h k = k
clear-both (c ∷ cs) ds h k = (h.0, clear-both cs ds h.1 k)

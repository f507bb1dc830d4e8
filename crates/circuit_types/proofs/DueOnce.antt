-- At most one refusal is due.
use Rattle.std.proofs.Common.{◌≡◌, ℕ, ◌≤◌, ◌⊎◌, List, [], ◌∷◌, refl, sym, ap, ◌∙◌, ⊎_elim, arith}
use Rattle.circuit_types.specs.Due.{Cause, at_lines, of_all, IsLeast, IsSilent, Gives, IsClear, IsDue}
use Rattle.circuit_types.specs.declared.refusal.Refusal.{Refusal}

gives_once : (c : Cause) (r s : Refusal) → Gives c r → Gives c s → r ≡ s
gives_once (at_lines refusal holds) r s g h =
    let below = g.1.least h.0 h.1.here in
    let above = h.1.least g.0 g.1.here in
    let same : g.0 ≡ h.0 = omega arith in
    g.2 ∙ (ap refusal same ∙ sym h.2)
gives_once (of_all refusal holds) r s g h = g.1 ∙ sym h.1

silent_gives : (c : Cause) (r : Refusal) → IsSilent c → Gives c r → ⊥
silent_gives (at_lines refusal holds) r n g = n g.0 g.1.here
silent_gives (of_all refusal holds) r n g = n g.0

pub due_once : (causes : List Cause) (r s : Refusal) → IsDue causes r → IsDue causes s → r ≡ s
due_once [] r s g h = absurd g
due_once (c ∷ causes) r s g h =
    ⊎_elim
    (λ a. ⊎_elim (λ b. gives_once c r s a b) (λ b. absurd (silent_gives c r b.0 a)) h)
    (λ a. ⊎_elim (λ b. absurd (silent_gives c s a.0 b)) (λ b. due_once causes r s a.1 b.1) h)
    g

pub clear_or_due : (causes : List Cause) (r : Refusal) → IsClear causes → IsDue causes r → ⊥
clear_or_due [] r n g = g
clear_or_due (c ∷ causes) r n g = ⊎_elim (λ a. silent_gives c r n.0 a) (λ a. clear_or_due causes r n.1 a.1) g

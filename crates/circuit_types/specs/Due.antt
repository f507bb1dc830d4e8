-- Which refusal is due: of the causes in their order the first that holds somewhere, at its least line.
use Rattle.std.specs.Prelude.{◌≡◌, ℕ, ◌≤◌, ◌⊎◌, List, [], ◌∷◌, Option, Some, None, min}
use Rattle.circuit_types.specs.declared.refusal.Refusal.{Refusal}

-- A cause of a refusal: either one that holds at lines, or one that holds of the whole and has no line.
pub data Cause : Type 1 where
  at_lines : (refusal : ℕ → Refusal) → (holds : ℕ → Type 0) → Cause
  of_all : (refusal : Refusal) → (holds : Type 0) → Cause

-- it holds at no line
abbrev pub Never : (ℕ → Type 0) → Type 0
Never holds = (line : ℕ) → holds line → ⊥

-- it holds at this line, and at no lesser one
pub record IsLeast (holds : ℕ → Type 0) (line : ℕ) : Type 0 where
  pub here : holds line
  pub least : (other : ℕ) → holds other → line ≤ other

-- the least line at which it holds, or none where it never holds
abbrev pub IsLeastLine : (ℕ → Type 0) → Option ℕ → Type 0
IsLeastLine holds None = Never holds
IsLeastLine holds (Some line) = IsLeast holds line

-- the lesser of two numbers, where there are two
abbrev pub earlier_of : Option ℕ → Option ℕ → Option ℕ
earlier_of None other = other
earlier_of (Some one) None = Some one
earlier_of (Some one) (Some other) = Some (min one other)

-- the least of some numbers
unfoldable pub least_of : List ℕ → Option ℕ
least_of [] = None
least_of (x ∷ xs) = earlier_of (Some x) (least_of xs)

-- the cause does not hold
abbrev pub IsSilent : Cause → Type 0
IsSilent (at_lines refusal holds) = Never holds
IsSilent (of_all refusal holds) = holds → ⊥

-- the cause holds, and this is its refusal
abbrev pub Gives : Cause → Refusal → Type 0
Gives (at_lines refusal holds) r = (line : ℕ) × IsLeast holds line × (r ≡ refusal line)
Gives (of_all refusal holds) r = holds × (r ≡ refusal)

-- no cause holds
abbrev pub IsClear : List Cause → Type 0
IsClear [] = Unit {0}
IsClear (c ∷ causes) = IsSilent c × IsClear causes

-- the refusal that is due
abbrev pub IsDue : List Cause → Refusal → Type 0
IsDue [] r = ⊥
IsDue (c ∷ causes) r = Gives c r ⊎ (IsSilent c × IsDue causes r)

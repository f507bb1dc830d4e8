-- What a gate computes, written over its inputs. One formula is read in more than one way: over bits it is
-- the value of the gate, and over terms it is the gate's term.
use Rattle.std.specs.Prelude.{ℕ, Bool, not, ◌&&◌, ◌||◌, ◌==◌, if◌then◌else◌, List, ◌∷◌}

pub data Formula : Type 0 where
  port : (letter : ℕ) → Formula
  not_of : Formula → Formula
  both : Formula → Formula → Formula
  either : Formula → Formula → Formula
  differ : Formula → Formula → Formula
  -- the second where the first is 1, else the third
  choose : Formula → Formula → Formula → Formula

-- one meaning of the connectives
pub record Connectives (V : Type 0) : Type 0 where
  pub negation : V → V
  pub conjunction : V → V → V
  pub disjunction : V → V → V
  pub difference : V → V → V
  pub choice : V → V → V → V

-- the meaning of a formula where the ports have these values
abbrev pub meaning : {V : Type 0} → Connectives V → (ℕ → V) → Formula → V
meaning c ports (port letter) = ports letter
meaning c ports (not_of p) = c.negation (meaning c ports p)
meaning c ports (both p q) = c.conjunction (meaning c ports p) (meaning c ports q)
meaning c ports (either p q) = c.disjunction (meaning c ports p) (meaning c ports q)
meaning c ports (differ p q) = c.difference (meaning c ports p) (meaning c ports q)
meaning c ports (choose p q r) = c.choice (meaning c ports p) (meaning c ports q) (meaning c ports r)

-- the connectives of bits
abbrev pub bits : Connectives Bool
bits = record {
  negation = not;
  conjunction = λ p q. p && q;
  disjunction = λ p q. p || q;
  difference = λ p q. if p then not q else q;
  choice = λ s b a. if s then b else a;
}

-- the value that stands beside a letter; the default where the letter is not there
abbrev pub beside : {V : Type 0} → V → List ℕ → List V → ℕ → V
beside d (l ∷ letters) (v ∷ values) letter = if l == letter then v else beside d letters values letter
beside d letters values letter = d

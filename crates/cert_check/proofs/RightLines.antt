-- Lines that are right, one after the other.
use Rattle.std.proofs.Common.{◌≡◌, ℕ, zero, suc, ◌+◌, ◌-◌, ◌<◌, ◌≤◌, List, drop, length-drop, length-append, length, refl, sym, ap, ◌∙◌, subst, arith}
use Rattle.std.specs.Prelude.{Ok}
use Rattle.expr_table.specs.declared.instance.Instance.{Instance}
use Rattle.certificate.specs.declared.entries.Header.{Header}
use Rattle.certificate.specs.declared.line.Line.{Line}
use Rattle.certificate.specs.declared.line.Line.TheVariants.{Title, Run, Counts, Hull, Cuts, End}
use Rattle.certificate.specs.Lines.{StandsAt, line_text}
use Rattle.cert_check.specs.Outcome.{AreRight}
use Rattle.cert_check.specs.Stages.{Stage, judge}

-- a line has at least one byte
some_text : (line : Line) → 0 < length (line_text line)
unfolding line_text
some_text (Title version) = omega arith
some_text (Run notion order model) = omega arith
some_text (Counts probes rows tuples) = omega arith
some_text (Hull members) = omega arith
some_text (Cuts rows) = omega arith
some_text (End number) = omega arith

-- so the place moves on
pub moves_on : (bytes : List ℕ) (place : ℕ) (line : Line) (after : ℕ) → StandsAt bytes place line after → place < after
moves_on bytes place line after h = omega (arith, h.size, some_text line)

-- and stays within the bytes
pub stays_within : (bytes : List ℕ) (place : ℕ) (line : Line) (after : ℕ) → place ≤ length bytes → StandsAt bytes place line after → after ≤ length bytes
stays_within bytes place line after within h =
    let size : length bytes - place ≡ length (line_text line) + length (drop after bytes) =
    sym (length-drop place bytes) ∙ ap length h.text ∙ length-append (line_text line) (drop after bytes) in
    omega (arith, size, h.size)

pub less_left : (bytes : List ℕ) (place : ℕ) (line : Line) (after : ℕ) → place ≤ length bytes → StandsAt bytes place line after → length bytes - after < length bytes - place
less_left bytes place line after within h = omega (arith, moves_on bytes place line after h, stays_within bytes place line after within h)

module _ (x : Instance) (header : Header) (bytes : List ℕ) where
  pub none_yet : (place : ℕ) (s : Stage) → AreRight x header bytes 0 place s place s
  none_yet place s = (refl, refl)

  -- one more line is right
  pub one_more : (n place : ℕ) (s : Stage) (reached : ℕ) (t : Stage) (line : Line) (after : ℕ) (u : Stage)
      → AreRight x header bytes n place s reached t → StandsAt bytes reached line after → judge x header t line ≡ Ok u
      → AreRight x header bytes (suc n) place s after u
  one_more zero place s reached t line after u h stands right =
      (line, after, u, subst (λ (p : ℕ). StandsAt bytes p line after) (sym h.0) stands, ap (λ (v : Stage). judge x header v line) h.1 ∙ right, (refl, refl))
  one_more (suc n) place s reached t line after u h stands right =
      (h.0, h.1, h.2, h.3, h.4, one_more n h.1 h.2 reached t line after u h.5 stands right)

  -- the same, where the code counts one more
  pub goes_on : (n place : ℕ) (s : Stage) (reached : ℕ) (t : Stage) (line : Line) (after : ℕ) (u : Stage)
      → AreRight x header bytes n place s reached t → StandsAt bytes reached line after → judge x header t line ≡ Ok u
      → AreRight x header bytes (n + 1) place s after u
  goes_on n place s reached t line after u h stands right =
      let on : suc n ≡ n + 1 = omega arith in
      subst (λ (k : ℕ). AreRight x header bytes k place s after u) on (one_more n place s reached t line after u h stands right)

-- Facts on the pieces of a line.
use Rattle.std.proofs.Common.{◌≡◌, ◌≢◌, ℕ, zero, suc, ◌+◌, ◌-◌, ◌<◌, true, false, eqb, List, [], ◌∷◌, ◌++◌, length, get_or, take, drop, Option, Some, None, refl, sym, ap, ◌∙◌, arith, inl, inr, eq-eqb, ne_eqb, length-drop, add-one, subst}
use Rattle.std.specs.List.{AllByRecursion}
use Rattle.std.proofs.Math.Seq.{take-length}
use Rattle.std.specs.Borrow.{Bor}
use Rattle.std.specs.Option.{MatchOption, option_copied}
use Rattle.std.specs.Cmp.Lexicographic.{pointwise}
use Rattle.std.proofs.lemmas.Bool.{cases_Bool, eqb-true, eqb-false}
use Rattle.share_notes.proofs.Options.{some_of, some_is}
use Rattle.share_notes.specs.Reading.{after, cut_at, with_first}

-- what `strip_prefix` says
pub after-none : (front text : List ℕ) → pointwise eqb (take (length front) text) front ≡ false → after front text ≡ None
after-none [] text h = absurd cc
after-none (f ∷ fs) [] h = refl
after-none (f ∷ fs) (b ∷ bs) h =
    elim (cases_Bool (eqb b f)) [
      | inl t ↦ let rest : pointwise eqb (take (length fs) bs) fs ≡ false = rw t at h in rw t (after-none fs bs rest)
      | inr t ↦ rw t refl
    ]

pub after-some : (front text : List ℕ) → pointwise eqb (take (length front) text) front ≡ true → after front text ≡ Some (drop (length front) text)
after-some [] text h = refl
after-some (f ∷ fs) [] h = absurd cc
after-some (f ∷ fs) (b ∷ bs) h =
    elim (cases_Bool (eqb b f)) [
      | inl t ↦ let rest : pointwise eqb (take (length fs) bs) fs ≡ true = rw t at h in rw t (after-some fs bs rest)
      | inr t ↦ let no : false ≡ true = rw t at h in absurd cc
    ]

-- the first such byte is at place i
pub cut_at-found : (byte : ℕ) (text : List ℕ) (i : ℕ) → i < length text → ((k : ℕ) → k < i → get_or text k 0 ≡ byte → ⊥) → get_or text i 0 ≡ byte → cut_at byte text ≡ Some (take i text, drop (suc i) text)
cut_at-found byte [] i lt before here = absurd (omega arith)
cut_at-found byte (b ∷ bs) zero lt before here = rw (eq-eqb b byte here) refl
cut_at-found byte (b ∷ bs) (suc i) lt before here =
    let other : eqb b byte ≡ false = ne_eqb b byte (before 0 (omega arith)) in
    let rest : cut_at byte bs ≡ Some (take i bs, drop (suc i) bs) = cut_at-found byte bs i (omega arith) (λ k less. before (suc k) (omega arith)) here in
    rw (other, rest) refl

pub cut_at-none : (byte : ℕ) (text : List ℕ) → ((k : ℕ) → k < length text → get_or text k 0 ≡ byte → ⊥) → cut_at byte text ≡ None
cut_at-none byte [] h = refl
cut_at-none byte (b ∷ bs) h =
    let other : eqb b byte ≡ false = ne_eqb b byte (h 0 (omega arith)) in
    let rest : cut_at byte bs ≡ None = cut_at-none byte bs (λ k less. h (suc k) (omega arith)) in
    rw (other, rest) refl

pub after_from_strip : (front text : List ℕ) (r : Option (Bor (List ℕ)))
    → MatchOption r (pointwise eqb (take (length front) text) front ≡ false) (λ x. (pointwise eqb (take (length front) text) front ≡ true) × (x.now ≡ drop (length front) text) × (length x.now + length front ≡ length text))
    → option_copied r ≡ after front text
after_from_strip front text None h = sym (after-none front text h)
after_from_strip front text (Some x) h = rw h.1 (sym (after-some front text h.0))

pub cut_at-slices : (byte : ℕ) (text : List ℕ) (i : ℕ) → i < length text → ((k : ℕ) → k < i → get_or text k 0 ≡ byte → ⊥) → get_or text i 0 ≡ byte
    → cut_at byte text ≡ Some (take i text, take (length text - (i + 1)) (drop (i + 1) text))
cut_at-slices byte text i lt before here =
    let whole : take (length text - (i + 1)) (drop (i + 1) text) ≡ drop (i + 1) text = ap (λ (n : ℕ). take n (drop (i + 1) text)) (sym (length-drop (i + 1) text)) ∙ take-length (drop (i + 1) text) in
    rw (whole, add-one) (cut_at-found byte text i lt before here)

-- ---- cutting at a byte

-- the byte does not stand in the text
abbrev pub Lacks : ℕ → List ℕ → Type 0
Lacks byte text = AllByRecursion (λ b. b ≢ byte) text

with_first-is : (b : ℕ) (read : Option (List ℕ × List ℕ)) (x : List ℕ × List ℕ) → with_first b read ≡ Some x → (y : List ℕ × List ℕ) × (read ≡ Some y) × (x ≡ (b ∷ y.0, y.1))
with_first-is b None x e = absurd cc
with_first-is b (Some y) x e = (y, refl, cc)

-- what was cut at the byte
pub record IsCut (byte : ℕ) (text front rest : List ℕ) : Type 0 where
  pub parts : text ≡ front ++ byte ∷ rest
  pub first : Lacks byte front

pub cut_at-is : (byte : ℕ) (text : List ℕ) (x : List ℕ × List ℕ) → cut_at byte text ≡ Some x → IsCut byte text x.0 x.1
cut_at-is byte [] x e = absurd cc
cut_at-is byte (b ∷ bs) x e =
    elim (cases_Bool (eqb b byte)) [
      | inl t ↦
          let here : some_of ([], bs) ≡ Some x = rw t at e in
          let same : b ≡ byte = eqb-true b byte t in
          subst (λ (y : List ℕ × List ℕ). IsCut byte (b ∷ bs) y.0 y.1) (some_is ([], bs) x here) (record { parts = ap (λ (c : ℕ). c ∷ bs) same; first = tt })
      | inr f ↦
          let later : with_first b (cut_at byte bs) ≡ Some x = rw f at e in
          let y = with_first-is b (cut_at byte bs) x later in
          let rest = cut_at-is byte bs y.0 y.1 in
          subst (λ (z : List ℕ × List ℕ). IsCut byte (b ∷ bs) z.0 z.1) (sym y.2) (record { parts = ap (λ (t : List ℕ). b ∷ t) rest.parts; first = (eqb-false b byte f, rest.first) })
    ]

pub cut_at-again : (byte : ℕ) (front rest : List ℕ) → Lacks byte front → cut_at byte (front ++ byte ∷ rest) ≡ Some (front, rest)
cut_at-again byte [] rest lacks = rw (eq-eqb byte byte refl) refl
cut_at-again byte (b ∷ front) rest lacks =
    let other : eqb b byte ≡ false = ne_eqb b byte lacks.0 in
    let later : cut_at byte (front ++ byte ∷ rest) ≡ Some (front, rest) = cut_at-again byte front rest lacks.1 in
    rw (other, later) refl

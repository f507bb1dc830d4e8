-- At most one answer is due.
use Rattle.std.proofs.Common.{◌≡◌, ℕ, zero, suc, ◌+◌, ◌-◌, ◌<◌, ◌≤◌, Bool, true, false, inl, inr, ⊎_elim, List, length, refl, sym, ap, ◌∙◌, subst, arith}
use Rattle.std.specs.Prelude.{Result, Ok, Err, is_ok}
use Rattle.std.proofs.lemmas.Bool.{cases_lt, true≢false, false≢true}
use Rattle.circuit_types.specs.declared.probes.Model.{Model}
use Rattle.expr_table.specs.declared.instance.Instance.{Instance}
use Rattle.certificate.specs.declared.entries.Header.{Header}
use Rattle.certificate.specs.declared.fault.Why.{Why}
use Rattle.certificate.specs.declared.fault.Why.TheVariants as why
use Rattle.certificate.specs.declared.line.Line.{Line}
use Rattle.certificate.specs.declared.line.Line.TheVariants.{Title, Run, Counts, Hull, Cuts, End}
use Rattle.certificate.specs.Lines.{StandsAt}
use Rattle.cert_check.specs.declared.checked.Checked.{Checked}
use Rattle.cert_check.specs.declared.checked.Checked.TheVariants.{Accepted, Rejected}
use Rattle.cert_check.specs.declared.due.Due.{Due}
use Rattle.cert_check.specs.declared.due.Due.TheVariants as due
use Rattle.cert_check.specs.Closing.{header_of}
use Rattle.cert_check.specs.Outcome.{AreRight, IsAccepted, IsBadLine, IsDue, IsFirstFault, IsWrong}
use Rattle.cert_check.specs.Stages.{Stage, first_stage, is_done, judge, last_stage, on_counts, on_cuts, on_end, on_hull, on_run, on_title}

-- at most one line begins at a place
abbrev pub OneLine : Type 0
OneLine = (bytes : List ℕ) (place : ℕ) (line other : Line) (after behind : ℕ) → StandsAt bytes place line after → StandsAt bytes place other behind → (line ≡ other) × (after ≡ behind)

abbrev pub right : Stage → Result Stage Why
right s = Ok s

abbrev pub wrong : Why → Result Stage Why
wrong reason = Err reason

pub one_stage : (a b : Stage) (r : Result Stage Why) → r ≡ right a → r ≡ right b → a ≡ b
one_stage a b r p q = let e : right a ≡ right b = sym p ∙ q in cc

one_reason : (a b : Why) (r : Result Stage Why) → r ≡ wrong a → r ≡ wrong b → a ≡ b
one_reason a b r p q = let e : wrong a ≡ wrong b = sym p ∙ q in cc

pub not_both : (a : Stage) (b : Why) (r : Result Stage Why) → r ≡ right a → r ≡ wrong b → ⊥
not_both a b r p q = true≢false (ap is_ok (sym p ∙ q))

-- only where nothing is due all is read
nothing_due : (d : Due) → is_done d ≡ true → d ≡ due.Nothing
nothing_due due.Nothing h = refl
nothing_due due.Title h = let e : false ≡ true = h in cc
nothing_due due.Run h = let e : false ≡ true = h in cc
nothing_due due.Counts h = let e : false ≡ true = h in cc
nothing_due due.Hull h = let e : false ≡ true = h in cc
nothing_due (due.Cuts family hull) h = let e : false ≡ true = h in cc

module _ (x : Instance) (header : Header) where
  -- and then no line is right
  pub no_further : (s : Stage) (line : Line) → s.due ≡ due.Nothing → judge x header s line ≡ wrong why.Form
  no_further s (Title version) e = ap (λ (d : Due). on_title s d version) e
  no_further s (Run notion order model) e = ap (λ (d : Due). on_run header s d notion order model) e
  no_further s (Counts probes rows tuples) e = ap (λ (d : Due). on_counts header s d probes rows tuples) e
  no_further s (Hull hull) e = ap (λ (d : Due). on_hull x s d hull) e
  no_further s (Cuts rows) e = ap (λ (d : Due). on_cuts x s d rows) e
  no_further s (End number) e = ap (λ (d : Due). on_end s d number) e

module _ (one : OneLine) (x : Instance) (header : Header) (bytes : List ℕ) where
  -- no line that stands there is right
  abbrev Ends : ℕ → Stage → Type 0
  Ends p t = (line : Line) (after : ℕ) (u : Stage) → StandsAt bytes p line after → judge x header t line ≡ Ok u → ⊥

  ends_done : (p : ℕ) (t : Stage) → is_done t.due ≡ true → Ends p t
  ends_done p t done line after u stands is = not_both u why.Form (judge x header t line) is (no_further x header t line (nothing_due t.due done))

  ends_bad : (p : ℕ) (t : Stage) (reason : Why) → IsBadLine x header bytes p t reason → Ends p t
  ends_bad p t reason bad line after u stands is =
      let same = one bytes p bad.line line bad.after after bad.stands stands in
      not_both u reason (judge x header t line) is (ap (λ (l : Line). judge x header t l) (sym same.0) ∙ bad.wrong)

  ends_by : (p : ℕ) (t : Stage) (reason : Why) (b : Bool) → is_done t.due ≡ b → IsWrong b x header bytes p t reason → Ends p t
  ends_by p t reason true e h = ends_done p t e
  ends_by p t reason false e h = elim h [ inl empty ↦ (λ line after u stands is. empty.none line after stands) | inr bad ↦ ends_bad p t reason bad ]

  ends_wrong : (p : ℕ) (t : Stage) (reason : Why) → IsWrong (is_done t.due) x header bytes p t reason → Ends p t
  ends_wrong p t reason h = ends_by p t reason (is_done t.due) refl h

  moved : (k place p : ℕ) (s t : Stage) (q : ℕ) (u : Stage) → place ≡ p → s ≡ t → AreRight x header bytes k place s q u → AreRight x header bytes k p t q u
  moved k place p s t q u e f h =
      subst (λ (v : Stage). AreRight x header bytes k p v q u) f (subst (λ (r : ℕ). AreRight x header bytes k r s q u) e h)

  -- what is right after the first lines
  others : (n m k : ℕ) → m ≡ n + k → (place : ℕ) (s : Stage) (p : ℕ) (t : Stage) (q : ℕ) (u : Stage)
      → AreRight x header bytes n place s p t → AreRight x header bytes m place s q u → AreRight x header bytes k p t q u
  others zero m k e place s p t q u h g =
      let same : m ≡ k = omega (arith, e) in
      moved k place p s t q u h.0 h.1 (subst (λ (j : ℕ). AreRight x header bytes j place s q u) same g)
  others (suc n) zero k e place s p t q u h g = absurd (omega (arith, e))
  others (suc n) (suc m) k e place s p t q u h g =
      let same = one bytes place h.0 g.0 h.1 g.1 h.3 g.3 in
      let stage : h.2 ≡ g.2 = one_stage h.2 g.2 (judge x header s h.0) h.4 (ap (λ (l : Line). judge x header s l) same.0 ∙ g.4) in
      others n m k (omega (arith, e)) h.1 h.2 p t q u h.5 (moved m g.1 h.1 g.2 h.2 q u (sym same.1) (sym stage) g.5)

  record SameEnd (n m p q : ℕ) (t u : Stage) : Type 0 where
    lines : n ≡ m
    place : p ≡ q
    stage : t ≡ u

  stops : (n m k p q : ℕ) (t u : Stage) → m ≡ n + k → Ends p t → AreRight x header bytes k p t q u → SameEnd n m p q t u
  stops n m zero p q t u e ends h = record { lines = omega (arith, e); place = h.0; stage = h.1 }
  stops n m (suc k) p q t u e ends h = absurd (ends h.0 h.1 h.2 h.3 h.4)

  same_end : (n m place : ℕ) (s : Stage) (p q : ℕ) (t u : Stage) → Ends p t → Ends q u
      → AreRight x header bytes n place s p t → AreRight x header bytes m place s q u → SameEnd n m p q t u
  same_end n m place s p q t u ends stop h g =
      ⊎_elim
      (λ (less : m < n).
      let back = stops m n (n - m) q p u t (omega arith) stop (others m n (n - m) (omega arith) place s q u p t g h) in
      record { lines = sym back.lines; place = sym back.place; stage = sym back.stage })
      (λ (most : n ≤ m). stops n m (m - n) p q t u (omega arith) ends (others n m (m - n) (omega arith) place s p t q u h g))
      (cases_lt m n)

  -- one thing is wrong
  same_reason : (p : ℕ) (t : Stage) (a b : Why) (done : Bool) → IsWrong done x header bytes p t a → IsWrong done x header bytes p t b → a ≡ b
  same_reason p t a b true h g = h.extra ∙ sym g.extra
  same_reason p t a b false h g =
      elim h [
        | inl empty ↦ elim g [ inl none ↦ empty.form ∙ sym none.form | inr bad ↦ absurd (empty.none bad.line bad.after bad.stands) ]
        | inr bad ↦ elim g [
          | inl none ↦ absurd (none.none bad.line bad.after bad.stands)
          | inr other ↦ (let same = one bytes p bad.line other.line bad.after other.after bad.stands other.stands in
              one_reason a b (judge x header t other.line) (ap (λ (l : Line). judge x header t l) (sym same.0) ∙ bad.wrong) other.wrong)
        ]
      ]

module _ (one : OneLine) (x : Instance) (model : Model) (order : ℕ) (bytes : List ℕ) where
  abbrev head : Header
  head = header_of x model order

  two_accepted : (f g : ℕ) → IsAccepted x model order bytes f → IsAccepted x model order bytes g → f ≡ g
  two_accepted f g h k =
      let same = same_end one x head bytes h.lines k.lines 0 (first_stage x order) (length bytes) (length bytes) (last_stage f) (last_stage g)
      (ends_done one x head bytes (length bytes) (last_stage f) refl) (ends_done one x head bytes (length bytes) (last_stage g) refl) h.right k.right in
      ap (λ (s : Stage). s.closed) same.stage

  no_more : (p : ℕ) (t : Stage) (reason : Why) (done : Bool) → done ≡ true → p ≡ length bytes → IsWrong done x head bytes p t reason → ⊥
  no_more p t reason true e at h = absurd (omega (arith, h.more, at))
  no_more p t reason false e at h = false≢true e

  not_two : (f number : ℕ) (reason : Why) → IsAccepted x model order bytes f → IsFirstFault x model order bytes number reason → ⊥
  not_two f number reason h k =
      let same = same_end one x head bytes h.lines k.before 0 (first_stage x order) (length bytes) k.place (last_stage f) k.reached
      (ends_done one x head bytes (length bytes) (last_stage f) refl) (ends_wrong one x head bytes k.place k.reached reason k.wrong) h.right k.right in
      no_more k.place k.reached reason (is_done k.reached.due) (ap (λ (s : Stage). is_done s.due) (sym same.stage)) (sym same.place) k.wrong

  two_faults : (number other : ℕ) (a b : Why) → IsFirstFault x model order bytes number a → IsFirstFault x model order bytes other b → (number ≡ other) × (a ≡ b)
  two_faults number other a b h k =
      let same = same_end one x head bytes h.before k.before 0 (first_stage x order) h.place k.place h.reached k.reached
      (ends_wrong one x head bytes h.place h.reached a h.wrong) (ends_wrong one x head bytes k.place k.reached b k.wrong) h.right k.right in
      let wrong : IsWrong (is_done h.reached.due) x head bytes h.place h.reached b =
      subst (λ (s : Stage). IsWrong (is_done s.due) x head bytes h.place s b) (sym same.stage)
      (subst (λ (p : ℕ). IsWrong (is_done k.reached.due) x head bytes p k.reached b) (sym same.place) k.wrong) in
      (h.at ∙ ap (λ (n : ℕ). n + 1) same.lines ∙ sym k.at, same_reason one x head bytes h.place h.reached a b (is_done h.reached.due) h.wrong wrong)

  -- one answer is due
  pub one_due : (checked other : Checked) → IsDue x model order bytes checked → IsDue x model order bytes other → checked ≡ other
  one_due (Accepted f) (Accepted g) h k = ap (λ (n : ℕ). Accepted n) (two_accepted f g h k)
  one_due (Accepted f) (Rejected number reason) h k = absurd (not_two f number reason h k)
  one_due (Rejected number reason) (Accepted f) h k = absurd (not_two f number reason k h)
  one_due (Rejected number a) (Rejected other b) h k =
      let same = two_faults number other a b h k in
      ap (λ (n : ℕ). Rejected n a) same.0 ∙ ap (λ (r : Why). Rejected other r) same.1

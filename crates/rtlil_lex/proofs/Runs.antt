-- Runs of bytes of one class at the front of a list.
use Rattle.std.proofs.Common.{◌≡◌, ℕ, ◌+◌, ◌<◌, ◌≤◌, zero, suc, Bool, false, ◌==◌, List, [], ◌∷◌, ◌++◌, length, take, drop, sym, refl, ap, ◌∙◌, subst, ⊎_elim, arith, take-append-drop}
use Rattle.std.specs.Prelude.{IsTrue}
use Rattle.std.specs.List.{prefix_len}
use Rattle.std.proofs.lemmas.Bool.{cases_Bool, cond-true, cond-false, false≢true, eqb-true}
use Rattle.std.proofs.lemmas.List.{length-take-le, drop_at}
use Rattle.std.proofs.lemmas.List.Sums.{prefix_len-le-length}
use Rattle.rtlil_lex.specs.Bytes.{NoneOrMore, OneOrMore, begins}

pub NoneOrMore-from_one : (p : ℕ → Bool) (s : List ℕ) → OneOrMore p s → NoneOrMore p s
NoneOrMore-from_one p [] h = tt
NoneOrMore-from_one p (b ∷ bs) h = h

-- the run at the front is of the class
pub run_is : (p : ℕ → Bool) (bs : List ℕ) (n : ℕ) → n ≡ prefix_len p bs → NoneOrMore p (take n bs)
run_is p [] zero e = tt
run_is p [] (suc n) e = tt
run_is p (b ∷ bs) zero e = tt
run_is p (b ∷ bs) (suc n) e =
    ⊎_elim
    (λ yes. let more : suc n ≡ 1 + prefix_len p bs = e ∙ cond-true (p b) _ _ yes in (yes, run_is p bs n (omega arith)))
    (λ fails. let none : suc n ≡ 0 = e ∙ cond-false (p b) _ _ fails in absurd (omega arith))
    (cases_Bool (p b))

-- where the first byte is of the class, the run has one or more bytes
pub run_some : (p : ℕ → Bool) (bs : List ℕ) (n : ℕ) → IsTrue (begins p bs) → n ≡ prefix_len p bs → (0 < n) × OneOrMore p (take n bs)
run_some p [] n h e = absurd (false≢true h)
run_some p (b ∷ bs) zero h e = let some : 0 ≡ 1 + prefix_len p bs = e ∙ cond-true (p b) _ _ h in absurd (omega arith)
run_some p (b ∷ bs) (suc n) h e =
    let more : suc n ≡ 1 + prefix_len p bs = e ∙ cond-true (p b) _ _ h in
    (omega arith, (h, run_is p bs n (omega arith)))

-- a list of the class is within the run that it begins
pub run_has : (p : ℕ → Bool) (xs ys : List ℕ) → NoneOrMore p xs → length xs ≤ prefix_len p (xs ++ ys)
run_has p [] ys h = omega arith
run_has p (x ∷ xs) ys h =
    let rest : length xs ≤ prefix_len p (xs ++ ys) = run_has p xs ys h.1 in
    subst (λ n. suc (length xs) ≤ n) (sym (cond-true (p x) _ _ h.0)) (omega arith)

pub run_longest : (p : ℕ → Bool) (bs : List ℕ) (m : ℕ) → m ≤ length bs → NoneOrMore p (take m bs) → m ≤ prefix_len p bs
run_longest p bs m le h =
    let within : length (take m bs) ≤ prefix_len p bs = subst (λ s. length (take m bs) ≤ prefix_len p s) (take-append-drop m bs) (run_has p (take m bs) (drop m bs) h) in
    omega (arith, length-take-le m bs le)

-- the run ends before a byte that is not of the class
pub run_at : (p : ℕ → Bool) (xs ys : List ℕ) → NoneOrMore p xs → begins p ys ≡ false → prefix_len p (xs ++ ys) ≡ length xs
run_at p [] [] h stops = refl
run_at p [] (y ∷ ys) h stops = cond-false (p y) _ _ stops
run_at p (x ∷ xs) ys h stops =
    let rest : prefix_len p (xs ++ ys) ≡ length xs = run_at p xs ys h.1 stops in
    cond-true (p x) _ _ h.0 ∙ omega arith

pub run_stops : (p : ℕ → Bool) (bs : List ℕ) (n : ℕ) → n ≡ prefix_len p bs → begins p (drop n bs) ≡ false
run_stops p [] zero e = refl
run_stops p [] (suc n) e = refl
run_stops p (b ∷ bs) zero e =
    ⊎_elim
    (λ yes. let some : 0 ≡ 1 + prefix_len p bs = e ∙ cond-true (p b) _ _ yes in absurd (omega arith))
    (λ fails. fails)
    (cases_Bool (p b))
run_stops p (b ∷ bs) (suc n) e =
    ⊎_elim
    (λ yes. let more : suc n ≡ 1 + prefix_len p bs = e ∙ cond-true (p b) _ _ yes in run_stops p bs n (omega arith))
    (λ fails. let none : suc n ≡ 0 = e ∙ cond-false (p b) _ _ fails in absurd (omega arith))
    (cases_Bool (p b))

-- a nonempty front of the class leaves a run
pub run_from_one : (p : ℕ → Bool) (bs : List ℕ) (m : ℕ) → OneOrMore p (take m bs) → 0 < prefix_len p bs
run_from_one p bs zero h = absurd h
run_from_one p [] (suc m) h = absurd h
run_from_one p (b ∷ bs) (suc m) h = subst (λ n. 0 < n) (sym (cond-true (p b) _ _ h.0)) (omega arith)

-- two ways to cut a list behind a run of the class are one
pub same_cut : (p : ℕ → Bool) (xs ys us vs : List ℕ) → NoneOrMore p xs → NoneOrMore p us → begins p ys ≡ false → begins p vs ≡ false → xs ++ ys ≡ us ++ vs → (length xs ≡ length us) × (ys ≡ vs)
same_cut p xs ys us vs h k stops ends e =
    let lengths : length xs ≡ length us = sym (run_at p xs ys h stops) ∙ ap (prefix_len p) e ∙ run_at p us vs k ends in
    (lengths, sym (drop_at xs ys (length xs) refl) ∙ ap (drop (length xs)) e ∙ drop_at us vs (length xs) (sym lengths))

-- a list that begins with one byte is that byte and the rest
pub begins_is : (b : ℕ) (bs : List ℕ) → IsTrue (begins (λ x. x == b) bs) → bs ≡ b ∷ drop 1 bs
begins_is b [] h = absurd (false≢true h)
begins_is b (x ∷ xs) h = ap (λ y. y ∷ xs) (eqb-true x b h)

-- the front behind a known part
pub take_past : (xs ys : List ℕ) (k m : ℕ) → m ≡ length xs + k → take m (xs ++ ys) ≡ xs ++ take k ys
take_past [] ys k m e = let same : m ≡ k = omega arith in ap (λ n. take n ys) same
take_past (x ∷ xs) ys k zero e = absurd (omega arith)
take_past (x ∷ xs) ys k (suc m) e = ap (λ s. x ∷ s) (take_past xs ys k m (omega arith))

-- what a front of the list is spelled as, the list begins with
pub front_is : (bs s : List ℕ) (m : ℕ) → take m bs ≡ s → bs ≡ s ++ drop m bs
front_is bs s m e = sym (take-append-drop m bs) ∙ ap (λ x. x ++ drop m bs) e

-- the run is within the list
pub run_within : (p : ℕ → Bool) (bs : List ℕ) → prefix_len p bs ≤ length bs
run_within p bs = prefix_len-le-length p bs

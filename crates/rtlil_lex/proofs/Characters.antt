-- A string is cut into its characters in one way, and they end at one place.
use Rattle.std.proofs.Common.{◌≡◌, ℕ, ◌+◌, true, false, cond, not, ◌==◌, List, [], ◌∷◌, ◌++◌, length, drop, sym, refl, ap, ◌∙◌, subst, ⊎_elim, arith, length-append, append_assoc}
use Rattle.std.specs.Prelude.{IsTrue}
use Rattle.std.proofs.lemmas.Bool.{cond-true, cond-false, false≢true, eqb-true, eqb-false, or_parts, not-true, both_ways}
use Rattle.std.proofs.lemmas.List.{drop_at, append-nil}
use Rattle.rtlil_lex.specs.Bytes.{is_octal, is_plain, is_feed, begins, is_line_end}
use Rattle.rtlil_lex.specs.Strings.{Character, plain, escaped, octal, spelling_of, IsOctal, IsCharacter, text_of, AreCharacters, IsBadEscape, IsCutShort}

-- how many bytes of a character stand behind the backslash
abbrev escape_size : List ℕ → ℕ
escape_size bs = cond (begins is_octal bs) (cond (begins is_octal (drop 1 bs)) (cond (begins is_octal (drop 2 bs)) 3 2) 1) 1

abbrev character_size : List ℕ → ℕ
character_size [] = 0
character_size (b ∷ bs) = cond (b == 92) (1 + escape_size bs) 1

character_size_is : (c : Character) (next : List ℕ) → IsCharacter c next → character_size (spelling_of c ++ next) ≡ length (spelling_of c)
character_size_is (plain b) next h = cond-false (b == 92) _ _ (or_parts _ _ (or_parts _ _ (not-true _ h)).0).1
character_size_is (escaped b) next h = ap (λ n. 1 + n) (cond-false (is_octal b) _ _ (not-true _ h.0))
character_size_is (octal []) next h = absurd h
character_size_is (octal (a ∷ [])) next h =
    ap (λ n. 1 + n) (cond-true (is_octal a) _ _ h.0 ∙ cond-false (begins is_octal next) _ _ (not-true _ h.1))
character_size_is (octal (a ∷ b ∷ [])) next h =
    ap (λ n. 1 + n) (cond-true (is_octal a) _ _ h.0 ∙ cond-true (is_octal b) _ _ h.1 ∙ cond-false (begins is_octal next) _ _ (not-true _ h.2))
character_size_is (octal (a ∷ b ∷ c ∷ [])) next h =
    ap (λ n. 1 + n) (cond-true (is_octal a) _ _ h.0 ∙ cond-true (is_octal b) _ _ h.1 ∙ cond-true (is_octal c) _ _ h.2)
character_size_is (octal (a ∷ b ∷ c ∷ d ∷ ds)) next h = absurd h

same_next : (c d : Character) (x y : List ℕ) → IsCharacter c x → IsCharacter d y → spelling_of c ++ x ≡ spelling_of d ++ y → x ≡ y
same_next c d x y h k e =
    let lengths : length (spelling_of c) ≡ length (spelling_of d) = sym (character_size_is c x h) ∙ ap character_size e ∙ character_size_is d y k in
    sym (drop_at (spelling_of c) x (length (spelling_of c)) refl) ∙ ap (drop (length (spelling_of c))) e ∙ drop_at (spelling_of d) y (length (spelling_of c)) (sym lengths)

-- no character begins here
abbrev pub NoCharacter : List ℕ → Type 0
NoCharacter rest = (c : Character) (next : List ℕ) → rest ≡ spelling_of c ++ next → IsCharacter c next → ⊥

pub same_rest : (cs ds : List Character) (r s : List ℕ) → AreCharacters cs r → AreCharacters ds s → NoCharacter r → NoCharacter s → text_of cs ++ r ≡ text_of ds ++ s → r ≡ s
same_rest [] [] r s h k stops ends e = e
same_rest [] (d ∷ ds) r s h k stops ends e = absurd (stops d (text_of ds ++ s) (e ∙ append_assoc (spelling_of d) (text_of ds) s) k.0)
same_rest (c ∷ cs) [] r s h k stops ends e = absurd (ends c (text_of cs ++ r) (sym e ∙ append_assoc (spelling_of c) (text_of cs) r) h.0)
same_rest (c ∷ cs) (d ∷ ds) r s h k stops ends e =
    let cut : spelling_of c ++ (text_of cs ++ r) ≡ spelling_of d ++ (text_of ds ++ s) = sym (append_assoc (spelling_of c) (text_of cs) r) ∙ e ∙ append_assoc (spelling_of d) (text_of ds) s in
    same_rest cs ds r s h.1 k.1 stops ends (same_next c d _ _ h.0 k.0 cut)

not_plain : (b n : ℕ) → b ≡ n → is_plain n ≡ false → IsTrue (is_plain b) → ⊥
not_plain b n e never h = both_ways (is_plain n) never (subst (λ x. IsTrue (is_plain x)) e h)

octal_first : (digits next : List ℕ) → IsOctal digits next → begins is_octal (digits ++ next) ≡ true
octal_first [] next h = absurd h
octal_first (a ∷ []) next h = h.0
octal_first (a ∷ b ∷ []) next h = h.0
octal_first (a ∷ b ∷ c ∷ []) next h = h.0
octal_first (a ∷ b ∷ c ∷ d ∷ ds) next h = absurd h

octal_or_end : (bs : List ℕ) → begins is_octal bs ≡ true → is_line_end bs ≡ true → ⊥
octal_or_end [] h k = false≢true h
octal_or_end (b ∷ bs) h k = false≢true (subst (λ x. is_octal x ≡ true) (eqb-true b 10 k) h)

pub quote_stops : (r : List ℕ) → NoCharacter (34 ∷ r)
quote_stops r (plain b) next e h = let first : b ≡ 34 = cc in not_plain b 34 first refl h
quote_stops r (escaped b) next e h = eqb-false 34 92 refl (cc)
quote_stops r (octal digits) next e h = eqb-false 34 92 refl (cc)

pub cut_stops : (r : List ℕ) → IsCutShort r → NoCharacter r
cut_stops [] cut (plain b) next e h = cc
cut_stops [] cut (escaped b) next e h = cc
cut_stops [] cut (octal digits) next e h = cc
cut_stops (b ∷ r) cut (plain d) next e h =
    let first : d ≡ b = cc in
    ⊎_elim (λ feed. not_plain d 10 (first ∙ eqb-true b 10 feed) refl h) (λ slash. not_plain d 92 (first ∙ slash.0) refl h) cut
cut_stops (b ∷ r) cut (escaped d) next e h =
    let first : b ≡ 92 = cc in
    let rest : r ≡ d ∷ next = cc in
    ⊎_elim
    (λ feed. let ten : b ≡ 10 = eqb-true b 10 feed in absurd (omega arith))
    (λ slash. both_ways (is_feed d) (not-true _ h.1) (subst (λ x. IsTrue (is_line_end x)) rest slash.1))
    cut
cut_stops (b ∷ r) cut (octal digits) next e h =
    let first : b ≡ 92 = cc in
    let rest : r ≡ digits ++ next = cc in
    ⊎_elim
    (λ feed. let ten : b ≡ 10 = eqb-true b 10 feed in absurd (omega arith))
    (λ slash. octal_or_end (digits ++ next) (octal_first digits next h) (subst (λ x. IsTrue (is_line_end x)) rest slash.1))
    cut

pub bad_stops : (r : List ℕ) → IsBadEscape r → NoCharacter r
bad_stops (b ∷ x ∷ y ∷ z ∷ more) bad (plain d) next e h = let first : d ≡ b = cc in not_plain d 92 (first ∙ bad.0) refl h
bad_stops (b ∷ x ∷ y ∷ z ∷ more) bad (escaped d) next e h = let second : x ≡ d = cc in both_ways (is_octal d) (not-true _ h.0) (subst (λ v. IsTrue (is_octal v)) second bad.1)
bad_stops (b ∷ x ∷ y ∷ z ∷ more) bad (octal []) next e h = h
bad_stops (b ∷ x ∷ y ∷ z ∷ more) bad (octal (a ∷ [])) next e h =
    let rest : y ∷ z ∷ more ≡ next = cc in both_ways (begins is_octal next) (not-true _ h.1) (subst (λ v. IsTrue (begins is_octal v)) rest bad.2)
bad_stops (b ∷ x ∷ y ∷ z ∷ more) bad (octal (a ∷ c ∷ [])) next e h =
    let rest : z ∷ more ≡ next = cc in both_ways (begins is_octal next) (not-true _ h.2) (subst (λ v. IsTrue (begins is_octal v)) rest bad.3)
bad_stops (b ∷ x ∷ y ∷ z ∷ more) bad (octal (a ∷ c ∷ d ∷ [])) next e h =
    let first : x ≡ a = cc in
    let second : y ≡ c = cc in
    let third : z ≡ d = cc in
    omega (arith, bad.4, h.3)
bad_stops (b ∷ x ∷ y ∷ z ∷ more) bad (octal (a ∷ c ∷ d ∷ f ∷ ds)) next e h = h
bad_stops _ bad c next e h = absurd bad

-- the three ends of a string exclude each other
pub quote_or_bad : (r s : List ℕ) → IsBadEscape s → 34 ∷ r ≡ s → ⊥
quote_or_bad r (b ∷ x ∷ y ∷ z ∷ more) bad e = let first : 34 ≡ b = cc in absurd (omega (arith, bad.0))
quote_or_bad r _ bad e = absurd bad

pub quote_or_cut : (r s : List ℕ) → IsCutShort s → 34 ∷ r ≡ s → ⊥
quote_or_cut r [] cut e = cc
quote_or_cut r (b ∷ s) cut e =
    let first : 34 ≡ b = cc in
    ⊎_elim (λ feed. let ten : b ≡ 10 = eqb-true b 10 feed in absurd (omega arith)) (λ slash. absurd (omega (arith, slash.0))) cut

pub bad_or_cut : (r : List ℕ) → IsBadEscape r → IsCutShort r → ⊥
bad_or_cut (b ∷ x ∷ y ∷ z ∷ more) bad cut =
    ⊎_elim (λ feed. let ten : b ≡ 10 = eqb-true b 10 feed in absurd (omega (arith, bad.0))) (λ slash. octal_or_end (x ∷ y ∷ z ∷ more) bad.1 slash.1) cut
bad_or_cut _ bad cut = absurd bad

-- what a character is tells no more of what comes next than whether an octal digit does
character_before : (c : Character) (x y : List ℕ) → begins is_octal x ≡ begins is_octal y → IsCharacter c x → IsCharacter c y
character_before (plain b) x y e h = h
character_before (escaped b) x y e h = h
character_before (octal []) x y e h = h
character_before (octal (a ∷ [])) x y e h = (h.0, subst (λ v. IsTrue (not v)) e h.1)
character_before (octal (a ∷ b ∷ [])) x y e h = (h.0, h.1, subst (λ v. IsTrue (not v)) e h.2)
character_before (octal (a ∷ b ∷ c ∷ [])) x y e h = h
character_before (octal (a ∷ b ∷ c ∷ d ∷ ds)) x y e h = h

begins_same : (xs : List ℕ) (q : ℕ) (r s : List ℕ) → begins is_octal (xs ++ q ∷ r) ≡ begins is_octal (xs ++ q ∷ s)
begins_same [] q r s = refl
begins_same (x ∷ xs) q r s = refl

pub before_other : (cs : List Character) (q : ℕ) (r s : List ℕ) → AreCharacters cs (q ∷ r) → AreCharacters cs (q ∷ s)
before_other [] q r s h = tt
before_other (c ∷ cs) q r s h = (character_before c _ _ (begins_same (text_of cs) q r s) h.0, before_other cs q r s h.1)

-- one more character at the end
pub text_more : (cs : List Character) (c : Character) (rest : List ℕ) → text_of (cs ++ c ∷ []) ++ rest ≡ text_of cs ++ (spelling_of c ++ rest)
text_more [] c rest = ap (λ s. s ++ rest) (append-nil (spelling_of c))
text_more (d ∷ ds) c rest =
    append_assoc (spelling_of d) (text_of (ds ++ c ∷ [])) rest
    ∙ ap (λ s. spelling_of d ++ s) (text_more ds c rest)
    ∙ sym (append_assoc (spelling_of d) (text_of ds) (spelling_of c ++ rest))

pub characters_more : (cs : List Character) (c : Character) (rest : List ℕ) → AreCharacters cs (spelling_of c ++ rest) → IsCharacter c rest → AreCharacters (cs ++ c ∷ []) rest
characters_more [] c rest h k = (k, tt)
characters_more (d ∷ ds) c rest h k = (subst (IsCharacter d) (sym (text_more ds c rest)) h.0, characters_more ds c rest h.1 k)

pub length_more : (cs : List Character) (c : Character) → length (text_of (cs ++ c ∷ [])) ≡ length (text_of cs) + length (spelling_of c)
length_more cs c =
    let shorter : length (text_of (cs ++ c ∷ []) ++ []) ≡ length (text_of cs ++ (spelling_of c ++ [])) = ap length (text_more cs c []) in
    omega (arith, length-append (text_of (cs ++ c ∷ [])) [], length-append (text_of cs) (spelling_of c ++ []), length-append (spelling_of c) [])

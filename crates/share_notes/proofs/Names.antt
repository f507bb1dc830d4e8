-- The texts of notes are read as these notes, and what is read as a note is its text.
use Rattle.std.proofs.Common.{◌≡◌, ◌≢◌, ℕ, ◌+◌, ◌-◌, ◌/◌, ◌%◌, ◌<◌, ◌≤◌, Bool, true, false, cond, eqb, ltb, leb, ◌&&◌, List, [], ◌∷◌, ◌++◌, length, Option, Some, None, refl, sym, ap, ◌∙◌, subst, arith, inl, inr, ◌⊎◌, append_assoc, ⊎_elim}
use Rattle.std.specs.Prelude.{All, IsTrue, codes, decimal}
use Rattle.std.specs.Bool.{Decides}
use Rattle.std.specs.Option.{option_map}
use Rattle.std.specs.Str.{bytes_eq}
use Rattle.std.specs.Char.{is_ascii_alphanumeric}
use Rattle.std.specs.List.{list_all}
use Rattle.std.proofs.lemmas.Bool.{cases_Bool, cases_lt, and_parts, and_from, eqb-true, ltb-true, lt-ltb, leb-true, le-leb}
use Rattle.std.proofs.lemmas.Bool.Decides.{Decides-or, Decides-eqb, Decides-by_and}
use Rattle.std.proofs.lemmas.Fmt.{decimal_digit, decimal_step}
use Rattle.std.proofs.lemmas.Slice.Eq.{bytes_eq-Decides}
use Rattle.std.proofs.lemmas.List.Elements.{recursion_from_All, All-weaker}
use Rattle.share_notes.specs.declared.note.Note.{Note}
use Rattle.share_notes.specs.declared.note.Note.TheVariants.{Share, Shares, Random, Public, Clock, Held}
use Rattle.share_notes.specs.Text.{IsSecretName, note_text, IsNote, IsTextOf}
use Rattle.share_notes.specs.Reading.{◌>>=◌, after, cut_at, is_word_byte, is_secret_name, name_of, digit_of, index_of, share_of, shares_of, plain_note, choose, note_named}
use Rattle.share_notes.proofs.Options.{some_of, some_is, none_is_none, bind_is, bind_at, guard_is, guard_at, choose_is, cond_is}
use Rattle.share_notes.proofs.Pieces.{Lacks, cut_at-is, cut_at-again}

each_Decides : (p : ℕ → Bool) (P : ℕ → Type 0) → ((b : ℕ) → Decides (p b) (P b)) → (text : List ℕ) → Decides (list_all p text) (All P text)
each_Decides p P each text = Decides-by_and p P (list_all p) each refl (λ _ _. refl) text

-- ---- names

word_Decides : (b : ℕ) → Decides (is_word_byte b) (IsTrue (is_ascii_alphanumeric b) ⊎ (b ≡ 95))
word_Decides b = Decides-or (is_ascii_alphanumeric b) (eqb b 95) ((λ h. h), (λ h. h)) (Decides-eqb b 95)

pub name_of_is : (text x : List ℕ) → name_of text ≡ Some x → (text ≡ x) × IsSecretName x
unfolding name_of
name_of_is text x e =
    let g = guard_is (is_secret_name text) text x e in
    let a = and_parts (ltb 0 (length text) && leb (length text) 64) (list_all is_word_byte text) g.0 in
    let b = and_parts (ltb 0 (length text)) (leb (length text) 64) a.0 in (
      g.1,
      subst (λ (t : List ℕ). IsSecretName t) g.1 (record {
        some = ltb-true 0 (length text) b.0;
        few = leb-true (length text) 64 b.1;
        each = (each_Decides is_word_byte (λ c. IsTrue (is_ascii_alphanumeric c) ⊎ (c ≡ 95)) word_Decides text).0 a.1;
      }),
    )

pub name_of_at : (text : List ℕ) → IsSecretName text → name_of text ≡ Some text
unfolding name_of
name_of_at text name =
    guard_at (is_secret_name text) (Some text) (and_from (ltb 0 (length text) && leb (length text) 64) (list_all is_word_byte text)
    (and_from (ltb 0 (length text)) (leb (length text) 64) (lt-ltb 0 (length text) name.some) (le-leb (length text) 64 name.few))
    ((each_Decides is_word_byte (λ c. IsTrue (is_ascii_alphanumeric c) ⊎ (c ≡ 95)) word_Decides text).1 name.each))

is_both : (b : Bool) → b ≡ false → b ≡ true → ⊥
is_both b f t = cc

-- a byte that no element is
lacks_by_kind : (P : ℕ → Type 0) (c : ℕ) (text : List ℕ) → (P c → ⊥) → All P text → Lacks c text
lacks_by_kind P c text never all = recursion_from_All (λ b. b ≢ c) text (All-weaker P (λ b. b ≢ c) (λ b p e. never (subst (λ (x : ℕ). P x) e p)) text all)

not_both : (b : ℕ) → b ≡ 32 → b ≡ 95 → ⊥
not_both b e f = omega arith

name_lacks : (name : List ℕ) → IsSecretName name → Lacks 32 name
name_lacks name n =
    lacks_by_kind (λ b. IsTrue (is_ascii_alphanumeric b) ⊎ (b ≡ 95)) 32 name (λ h. elim h [ inl t ↦ is_both (is_ascii_alphanumeric 32) refl t | inr e ↦ not_both 32 refl e ]) n.each

-- ---- indices

-- the digit's value is up to the greatest digit's
digit_is : (most d n : ℕ) → digit_of most d ≡ Some n → (d ≡ 48 + n) × (48 + n ≤ most)
digit_is most d n e =
    let g = guard_is (leb 48 d && leb d most) (d - 48) n e in
    let p = and_parts (leb 48 d) (leb d most) g.0 in
    let low = leb-true 48 d p.0 in
    let high = leb-true d most p.1 in
    let same = g.1 in
    ((let z : d ≡ 48 + n = omega arith in z), (let z : 48 + n ≤ most = omega arith in z))

digit_at : (most n : ℕ) → 48 + n ≤ most → digit_of most (48 + n) ≡ Some n
digit_at most n le =
    let low : 48 ≤ 48 + n = omega arith in
    let same : 48 + n - 48 ≡ n = omega arith in
    guard_at (leb 48 (48 + n) && leb (48 + n) most) (some_of (48 + n - 48)) (and_from (leb 48 (48 + n)) (leb (48 + n) most) (le-leb 48 (48 + n) low) (le-leb (48 + n) most le))
    ∙ ap (λ (m : ℕ). some_of m) same

teen_is : (o : Option ℕ) (i : ℕ) → option_map (λ units. 10 + units) o ≡ Some i → (n : ℕ) × (o ≡ Some n) × (i ≡ 10 + n)
teen_is None i e = absurd cc
teen_is (Some n) i e = (n, refl, sym (some_is (10 + n) i e))

decimal_teen : (n : ℕ) → n < 10 → decimal (10 + n) ≡ 49 ∷ (48 + n) ∷ []
decimal_teen n lt =
    let low : 10 ≤ 10 + n = omega arith in
    let ten : (10 + n) / 10 ≡ 1 = omega arith in
    let one : (10 + n) % 10 ≡ n = omega arith in
    decimal_step (10 + n) low (omega arith) ∙ (ap (λ (k : ℕ). decimal k ++ (48 + (10 + n) % 10) ∷ []) ten ∙ (ap (λ (ds : List ℕ). ds ++ (48 + (10 + n) % 10) ∷ []) (decimal_digit 1 (omega arith)) ∙ ap (λ (k : ℕ). 49 ∷ (48 + k) ∷ []) one))

pub index_is : (text : List ℕ) (i : ℕ) → index_of text ≡ Some i → (text ≡ decimal i) × (i ≤ 15)
unfolding index_of
index_is [] i e = absurd cc
index_is (d ∷ []) i e =
    let p = digit_is 57 d i e in
    (ap (λ (x : ℕ). x ∷ []) p.0 ∙ sym (decimal_digit i (omega (arith, p.1))), omega (arith, p.1))
index_is (t ∷ d ∷ []) i e =
    ⊎_elim
    (λ (h : eqb t 49 ≡ true).
    let rest : option_map (λ units. 10 + units) (digit_of 53 d) ≡ Some i = rw h at e in
    let a = teen_is (digit_of 53 d) i rest in
    let p = digit_is 53 d a.0 a.1 in
    let same = a.2 in
    let bound = p.1 in
    (ap (λ (x : ℕ). x ∷ d ∷ []) (eqb-true t 49 h) ∙ (ap (λ (x : ℕ). 49 ∷ x ∷ []) p.0 ∙ (sym (decimal_teen a.0 (omega arith)) ∙ ap decimal (sym same))), (let z : i ≤ 15 = omega arith in z)))
    (λ (h : eqb t 49 ≡ false). let no : None ≡ some_of i = rw h at e in absurd (none_is_none i no))
    (cases_Bool (eqb t 49))
index_is (a ∷ b ∷ c ∷ cs) i e = absurd cc

pub index_at : (i : ℕ) → i ≤ 15 → index_of (decimal i) ≡ Some i
unfolding index_of
index_at i le =
    ⊎_elim
    (λ lt. ap index_of (decimal_digit i lt) ∙ digit_at 57 i (omega arith))
    (λ ge.
    let n = i - 10 in
    let same : 10 + n ≡ i = omega arith in
    let small : n < 10 = omega arith in
    let few : 48 + n ≤ 53 = omega arith in
    subst (λ (k : ℕ). index_of (decimal k) ≡ Some k) same
    (ap index_of (decimal_teen n small) ∙ ap (λ (o : Option ℕ). option_map (λ units. 10 + units) o) (digit_at 53 n few)))
    (cases_lt i 10)

-- ---- fronts

after_is : (front text rest : List ℕ) → after front text ≡ Some rest → text ≡ front ++ rest
after_is [] text rest e = some_is text rest e
after_is (f ∷ fs) [] rest e = absurd cc
after_is (f ∷ fs) (b ∷ bs) rest e =
    elim (cases_Bool (eqb b f)) [
      | inl t ↦ let more : after fs bs ≡ Some rest = rw t at e in ap (λ (c : ℕ). c ∷ bs) (eqb-true b f t) ∙ ap (λ (cs : List ℕ). f ∷ cs) (after_is fs bs rest more)
      | inr f ↦ let no : None ≡ some_of rest = rw f at e in absurd cc
    ]

-- ---- notes

abbrev to_index : List ℕ → List ℕ → Option (List ℕ × ℕ)
to_index name text = index_of text >>= λ index. some_of (name, index)

abbrev to_name : List ℕ × List ℕ → Option (List ℕ × ℕ)
to_name parts = name_of parts.0 >>= λ name. to_index name parts.1

pub share_is : (text : List ℕ) (x : List ℕ × ℕ) → share_of text ≡ Some x → IsTextOf (Share x.0 x.1) text
unfolding share_of
share_is text x e =
    let a = bind_is (after (codes "share ") text) (λ rest. cut_at 32 rest >>= to_name) x e in
    let b = bind_is (cut_at 32 a.0) to_name x a.2 in
    let cut = cut_at-is 32 a.0 b.0 b.1 in
    let c = bind_is (name_of b.0.0) (λ name. to_index name b.0.1) x b.2 in
    let name = name_of_is b.0.0 c.0 c.1 in
    let d = bind_is (index_of b.0.1) (λ index. some_of (c.0, index)) x c.2 in
    let index = index_is b.0.1 d.0 d.1 in
    let made : a.0 ≡ (c.0 ++ codes " ") ++ decimal d.0 = cut.parts ∙ (ap (λ (front : List ℕ). front ++ 32 ∷ b.0.1) name.0 ∙ (ap (λ (back : List ℕ). c.0 ++ 32 ∷ back) index.0 ∙ sym (append_assoc c.0 (32 ∷ []) (decimal d.0)))) in
    subst (λ (y : List ℕ × ℕ). IsTextOf (Share y.0 y.1) text) (some_is (c.0, d.0) x d.2)
    (after_is (codes "share ") text a.0 a.1 ∙ ap (λ (t : List ℕ). codes "share " ++ t) made, (name.1, index.1))

share_at : (name : List ℕ) (index : ℕ) → IsSecretName name → index ≤ 15 → share_of (note_text (Share name index)) ≡ Some (name, index)
unfolding share_of
share_at name index ok few =
    let regrouped : (name ++ codes " ") ++ decimal index ≡ name ++ 32 ∷ decimal index = append_assoc name (32 ∷ []) (decimal index) in
    let cut : cut_at 32 ((name ++ codes " ") ++ decimal index) ≡ Some (name, decimal index) = ap (cut_at 32) regrouped ∙ cut_at-again 32 name (decimal index) (name_lacks name ok) in
    bind_at (cut_at 32 ((name ++ codes " ") ++ decimal index)) to_name (name, decimal index) (Some (name, index)) cut
    (bind_at (name_of name) (λ n. to_index n (decimal index)) name (Some (name, index)) (name_of_at name ok)
    (bind_at (index_of (decimal index)) (λ i. some_of (name, i)) index (Some (name, index)) (index_at index few) refl))

pub shares_is : (text name : List ℕ) → shares_of text ≡ Some name → IsTextOf (Shares name) text
unfolding shares_of
shares_is text name e =
    let a = bind_is (after (codes "shares ") text) (λ rest. name_of rest) name e in
    let n = name_of_is a.0 name a.2 in
    (after_is (codes "shares ") text a.0 a.1 ∙ ap (λ (t : List ℕ). codes "shares " ++ t) n.0, n.1)

same_note : (text : List ℕ) (note n : Note) (word : List ℕ) → bytes_eq text word ≡ true → some_of n ≡ Some note → word ≡ note_text n → IsNote n → IsTextOf note text
same_note text note n word is e at ok = subst (λ (m : Note). IsTextOf m text) (some_is n note e) ((bytes_eq-Decides text word).0 is ∙ at, ok)

abbrev word_then : List ℕ → List ℕ → Note → Option Note → Option Note
word_then text word n other = cond (bytes_eq text word) (some_of n) other

abbrev held_1 : List ℕ → Option Note
held_1 text = word_then text (codes "held 1") (Held true) None

abbrev held_0 : List ℕ → Option Note
held_0 text = word_then text (codes "held 0") (Held false) (held_1 text)

abbrev clock : List ℕ → Option Note
clock text = word_then text (codes "clock") Clock (held_0 text)

abbrev public : List ℕ → Option Note
public text = word_then text (codes "public") Public (clock text)

word_or : (text word : List ℕ) (n : Note) (other : Option Note) (note : Note) → word_then text word n other ≡ Some note → word ≡ note_text n → IsNote n
    → (other ≡ Some note → IsTextOf note text) → IsTextOf note text
word_or text word n other note e at ok rest =
    elim (cond_is (bytes_eq text word) (some_of n) other (Some note) e) [
      | inl h ↦ same_note text note n word h.0 h.1 at ok
      | inr h ↦ rest h
    ]

pub plain_is : (text : List ℕ) (note : Note) → plain_note text ≡ Some note → IsTextOf note text
unfolding plain_note
plain_is text note e =
    word_or text (codes "random") Random (public text) note e refl tt (λ e.
    word_or text (codes "public") Public (clock text) note e refl tt (λ e.
    word_or text (codes "clock") Clock (held_0 text) note e refl tt (λ e.
    word_or text (codes "held 0") (Held false) (held_1 text) note e refl tt (λ e.
    word_or text (codes "held 1") (Held true) None note e refl tt (λ e. absurd (none_is_none note e))))))

-- what is read as a note is its text
pub note_is : (text : List ℕ) (note : Note) → note_named text ≡ Some note → IsTextOf note text
unfolding note_named
note_is text note e =
    elim (choose_is (plain_note text) (λ n. some_of n) (choose (share_of text) (λ share. some_of (Share share.0 share.1)) (choose (shares_of text) (λ name. some_of (Shares name)) None)) note e) [
      | inl h ↦ plain_is text note (h.1 ∙ h.2)
      | inr e ↦ elim (choose_is (share_of text) (λ share. some_of (Share share.0 share.1)) (choose (shares_of text) (λ name. some_of (Shares name)) None) note e) [
        | inl h ↦ subst (λ (n : Note). IsTextOf n text) (some_is (Share h.0.0 h.0.1) note h.2) (share_is text h.0 h.1)
        | inr e ↦ elim (choose_is (shares_of text) (λ name. some_of (Shares name)) None note e) [
          | inl h ↦ subst (λ (n : Note). IsTextOf n text) (some_is (Shares h.0) note h.2) (shares_is text h.0 h.1)
          | inr e ↦ absurd (none_is_none note e)
        ]
      ]
    ]

-- and each note's text is read as it
pub note_at : (note : Note) → IsNote note → note_named (note_text note) ≡ Some note
unfolding note_named plain_note share_of shares_of
note_at (Share name index) ok = ap (λ (o : Option (List ℕ × ℕ)). choose o (λ share. some_of (Share share.0 share.1)) None) (share_at name index ok.0 ok.1)
note_at (Shares name) ok = ap (λ (o : Option (List ℕ)). choose o (λ n. some_of (Shares n)) None) (name_of_at name ok)
note_at Random ok = refl
note_at Public ok = refl
note_at Clock ok = refl
note_at (Held false) ok = refl
note_at (Held true) ok = refl

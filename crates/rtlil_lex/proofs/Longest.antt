-- The size that each function answers is that of the longest spelling, or no form fits.
use Rattle.std.proofs.Common.{◌≡◌, ℕ, ◌+◌, ◌<◌, ◌≤◌, zero, suc, Bool, false, not, ◌==◌, ◌||◌, List, [], ◌∷◌, length, take, drop, sym, refl, ap, ◌∙◌, subst, arith}
use Rattle.std.specs.Prelude.{IsTrue, slice_index}
use Rattle.std.specs.List.{prefix_len}
use Rattle.std.proofs.lemmas.Bool.{cond-true, cond-false, false≢true, eqb-true, or_from, both_ways, not_from_false}
use Rattle.std.proofs.lemmas.List.{length-take-le}
use Rattle.std.proofs.lemmas.List.Sums.{prefix_len-le-length}
use Rattle.rtlil_lex.specs.Bytes.{OneOrMore, begins, is_letter, is_sigil, is_digit, is_name_byte, is_mark, is_feed}
use Rattle.rtlil_lex.specs.Forms.{HasForm, IsLongest, BeginsNoToken}
use Rattle.rtlil_lex.specs.Tokens.{IsStray}
use Rattle.rtlil_lex.specs.declared.token.TokenKind.{TokenKind}
use Rattle.rtlil_lex.specs.declared.token.TokenKind.TheVariants.{Word, Id, Mark, Eol}
use Rattle.rtlil_lex.proofs.Runs.{NoneOrMore-from_one, run_is, run_some, run_longest, run_from_one}
use Rattle.rtlil_lex.proofs.FirstBytes.{kind_of, kind_is, no_empty, mark_cases, sigil_cases}

-- To be the longest it is enough to be longer than the spellings of the kinds that the first byte allows.
pub longest_of : (kind : TokenKind) (size b : ℕ) (bs : List ℕ) → size ≤ length (b ∷ bs) → HasForm kind (take size (b ∷ bs)) → ((other : TokenKind) (more : ℕ) → suc more ≤ length (b ∷ bs) → kind_of (b ∷ take more bs) ≡ other → HasForm other (b ∷ take more bs) → suc more ≤ size) → IsLongest kind size (b ∷ bs)
longest_of kind size b bs le form most = record { within = le; form = form; longest = λ other more within h. within_size other more within h }
  where
    within_size : (other : TokenKind) (more : ℕ) → more ≤ length (b ∷ bs) → HasForm other (take more (b ∷ bs)) → more ≤ size
    within_size other zero within h = omega arith
    within_size other (suc more) within h = most other more within (kind_is other _ h) h

pub none_of : (b : ℕ) (bs : List ℕ) → ((kind : TokenKind) (more : ℕ) → kind_of (b ∷ take more bs) ≡ kind → HasForm kind (b ∷ take more bs) → ⊥) → BeginsNoToken (b ∷ bs)
none_of b bs never = λ kind size h. at kind size h
  where
    at : (kind : TokenKind) (size : ℕ) → HasForm kind (take size (b ∷ bs)) → ⊥
    at kind zero h = no_empty kind h
    at kind (suc size) h = never kind size (kind_is kind _ h) h

-- a run that is not empty has one or more bytes
pub one_from : (p : ℕ → Bool) (xs : List ℕ) (n : ℕ) → n ≡ prefix_len p xs → 0 < n → OneOrMore p (take n xs)
one_from p xs zero e some = absurd (omega arith)
one_from p [] (suc n) e some = absurd (omega arith)
one_from p (x ∷ xs) (suc n) e some = run_is p (x ∷ xs) (suc n) e

pub word_next : (bytes : List ℕ) (n : ℕ) → IsTrue (begins is_letter bytes) → n ≡ prefix_len is_letter bytes → IsLongest Word n bytes
unfolding HasForm
word_next [] n h e = absurd (false≢true h)
word_next (b ∷ bs) n h e =
    longest_of Word n b bs
    (omega (arith, prefix_len-le-length is_letter (b ∷ bs)))
    (run_some is_letter (b ∷ bs) n h e).1
    (λ other more within kind form.
    let word : HasForm Word (b ∷ take more bs) = subst (λ k. HasForm k (b ∷ take more bs)) (sym kind ∙ cond-true (is_letter b) _ _ h) form in
    let most : suc more ≤ prefix_len is_letter (b ∷ bs) = run_longest is_letter (b ∷ bs) (suc more) within word in
    omega arith)

sigil_kind : (b : ℕ) (bs : List ℕ) → IsTrue (is_sigil b) → kind_of (b ∷ bs) ≡ Id
sigil_kind b bs h = sigil_cases (λ x. kind_of (x ∷ bs) ≡ Id) refl refl b h

pub id_next : (bytes : List ℕ) (n : ℕ) → IsTrue (begins is_sigil bytes) → n ≡ prefix_len is_name_byte (drop 1 bytes) → 0 < n → IsLongest Id (1 + n) bytes
unfolding HasForm
id_next [] n h e some = absurd (false≢true h)
id_next (b ∷ bs) n h e some =
    subst (λ size. IsLongest Id size (b ∷ bs)) (omega arith)
    (longest_of Id (suc n) b bs
    (omega (arith, prefix_len-le-length is_name_byte bs))
    (h, one_from is_name_byte bs n e some)
    (λ other more within kind form.
    let id : HasForm Id (b ∷ take more bs) = subst (λ k. HasForm k (b ∷ take more bs)) (sym kind ∙ sigil_kind b (take more bs) h) form in
    let most : more ≤ prefix_len is_name_byte bs = run_longest is_name_byte bs more (omega arith) (NoneOrMore-from_one is_name_byte _ id.1) in
    omega arith))

pub id_none : (bytes : List ℕ) → IsTrue (begins is_sigil bytes) → 0 ≡ prefix_len is_name_byte (drop 1 bytes) → IsStray bytes
unfolding HasForm
id_none [] h e = absurd (false≢true h)
id_none (b ∷ bs) h e = record {
  some = omega arith;
  no_quote = sigil_cases (λ x. IsTrue (not (x == 34))) refl refl b h;
  none = none_of b bs (λ k more kind form.
      let id : HasForm Id (b ∷ take more bs) = subst (λ k. HasForm k (b ∷ take more bs)) (sym kind ∙ sigil_kind b (take more bs) h) form in
      omega (arith, run_from_one is_name_byte bs more id.1));
}

pub mark_next : (bytes : List ℕ) (b : ℕ) → IsTrue (begins is_mark bytes) → b ≡ slice_index bytes 0 → IsLongest (Mark b) 1 bytes
unfolding HasForm
mark_next [] b h e = absurd (false≢true h)
mark_next (x ∷ xs) b h e =
    subst (λ y. IsLongest (Mark y) 1 (x ∷ xs)) (sym e)
    (longest_of (Mark x) 1 x xs (omega arith) (refl, h)
    (λ other more within kind form.
    let mark : HasForm (Mark x) (x ∷ take more xs) = subst (λ k. HasForm k (x ∷ take more xs)) (sym kind ∙ mark_cases (λ y. kind_of (y ∷ take more xs) ≡ Mark y) refl refl refl refl refl refl x h) form in
    let size : length (x ∷ take more xs) ≡ 1 = ap length mark.0 in
    omega (arith, length-take-le more xs (omega arith))))

pub feed_next : (bytes : List ℕ) → IsTrue (begins is_feed bytes) → IsLongest Eol 1 bytes
unfolding HasForm
feed_next [] h = absurd (false≢true h)
feed_next (x ∷ xs) h =
    let ten : x ≡ 10 = eqb-true x 10 h in
    longest_of Eol 1 x xs (omega arith) (ap (λ y. y ∷ []) ten)
    (λ other more within kind form.
    let feed : HasForm Eol (x ∷ take more xs) = subst (λ k. HasForm k (x ∷ take more xs)) (sym kind ∙ subst (λ y. kind_of (y ∷ take more xs) ≡ Eol) (sym ten) refl) form in
    let size : length (x ∷ take more xs) ≡ 1 = ap length feed in
    omega (arith, length-take-le more xs (omega arith)))

-- a byte of no other class begins no token
pub stray : (bytes : List ℕ) → 0 < length bytes → begins is_letter bytes ≡ false → begins is_sigil bytes ≡ false → begins is_digit bytes ≡ false → begins (λ x. x == 45) bytes ≡ false → begins (λ x. x == 34) bytes ≡ false → begins is_feed bytes ≡ false → begins is_mark bytes ≡ false → IsStray bytes
unfolding HasForm
stray [] some letter sigil digit minus quote feed mark = absurd (omega arith)
stray (b ∷ bs) some letter sigil digit minus quote feed mark = record {
  some = some;
  no_quote = not_from_false _ quote;
  none = none_of b bs (λ k more kind form.
      let is_kind : kind_of (b ∷ take more bs) ≡ Mark b =
      cond-false (is_letter b) _ _ letter ∙ cond-false (is_sigil b) _ _ sigil ∙ cond-false (is_digit b || b == 45) _ _ (or_from _ _ digit minus) ∙ cond-false (b == 34) _ _ quote ∙ cond-false (b == 10) _ _ feed in
      let is_form : HasForm (Mark b) (b ∷ take more bs) = subst (λ x. HasForm x (b ∷ take more bs)) (sym kind ∙ is_kind) form in
      both_ways (is_mark b) mark is_form.1);
}

-- A token of the bytes and of a part of them is the same one, elsewhere.
use Rattle.std.proofs.Common.{◌≡◌, ℕ, zero, suc, ◌+◌, ◌-◌, ◌<◌, ◌≤◌, ◌⊎◌, not, List, [], ◌∷◌, length, take, drop, refl, ap, ◌∙◌, sym, subst, inl, inr, ⊎_elim, arith, length-take, length-take-le, length-drop, take-take}
use Rattle.std.specs.Prelude.{IsTrue}
use Rattle.std.proofs.lemmas.Bool.{cases_lt}
use Rattle.rtlil_lex.specs.Bytes.{is_line_end}
use Rattle.rtlil_lex.specs.Forms.{HasForm, IsLongest}
use Rattle.rtlil_lex.specs.Tokens.{IsGap, begins_gap, ComesNext}
use Rattle.rtlil_lex.specs.Next.{feeds_of}
use Rattle.rtlil_lex.specs.declared.token.Token.{Token}
use Rattle.rtlil_lex.specs.declared.token.TokenKind.{TokenKind}
use Rattle.rtlil_lex.specs.declared.token.TokenKind.TheVariants.{Word, Id, Int, Bits, Str, Mark, Eol}
use Rattle.rtlil_lex.proofs.Once.{some_size}
use Rattle.rtlil_lex.proofs.Lines.{line_after_token}
use Rattle.rtlil_tree.specs.Inner.Parts.{BeginsLine}
use Rattle.rtlil_tree.proofs.PartsBytes.{line_between, gap_stops}

-- ---- gaps

-- a gap is told by the first byte of what comes next
gap_before : (gap x y : List ℕ) → begins_gap x ≡ begins_gap y → is_line_end x ≡ is_line_end y → IsGap gap x → IsGap gap y
gap_before gap x y gaps ends h =
    ⊎_elim
    (λ blank. inl (blank.0, subst (λ b. IsTrue (not b)) gaps blank.1))
    (λ comment. inr (comment.0, comment.1, comment.2, comment.3, comment.4, subst (λ b. IsTrue b) ends comment.5))
    h

front_gaps : (bytes : List ℕ) (n : ℕ) → 0 < n → begins_gap (take n bytes) ≡ begins_gap bytes
front_gaps bytes zero some = absurd (omega arith)
front_gaps [] (suc n) some = refl
front_gaps (b ∷ bytes) (suc n) some = refl

front_ends : (bytes : List ℕ) (n : ℕ) → 0 < n → is_line_end (take n bytes) ≡ is_line_end bytes
front_ends bytes zero some = absurd (omega arith)
front_ends [] (suc n) some = refl
front_ends (b ∷ bytes) (suc n) some = refl

pub gap_in_front : (gap bytes : List ℕ) (n : ℕ) → 0 < n → IsGap gap bytes → IsGap gap (take n bytes)
gap_in_front gap bytes n some h = gap_before gap bytes (take n bytes) (sym (front_gaps bytes n some)) (sym (front_ends bytes n some)) h

pub gap_in_all : (gap bytes : List ℕ) (n : ℕ) → 0 < n → IsGap gap (take n bytes) → IsGap gap bytes
gap_in_all gap bytes n some h = gap_before gap (take n bytes) bytes (front_gaps bytes n some) (front_ends bytes n some) h

-- ---- spellings

-- the longest spelling is that of a front that it is within
pub longest_in_front : (kind : TokenKind) (size n : ℕ) (bytes : List ℕ) → size ≤ n → IsLongest kind size bytes → IsLongest kind size (take n bytes)
longest_in_front kind size n bytes within h = record {
  within = omega (arith, h.within, length-take n bytes);
  form = subst (HasForm kind) (sym (take-take size n bytes within)) h.form;
  longest = λ other more le form.
      h.longest other more (omega (arith, le, length-take n bytes))
      (subst (HasForm other) (take-take more n bytes (omega (arith, le, length-take n bytes))) form);
}

-- only the end of a line has a line feed
feeds_eol : (kind : TokenKind) → 0 < feeds_of kind → kind ≡ Eol
feeds_eol Word h = absurd (omega (arith, h))
feeds_eol Id h = absurd (omega (arith, h))
feeds_eol Int h = absurd (omega (arith, h))
feeds_eol Bits h = absurd (omega (arith, h))
feeds_eol Str h = absurd (omega (arith, h))
feeds_eol (Mark b) h = absurd (omega (arith, h))
feeds_eol Eol h = refl

eol_size : (bytes : List ℕ) (size : ℕ) → size ≤ length bytes → HasForm Eol (take size bytes) → size ≡ 1
unfolding HasForm
eol_size bytes size within form = sym (length-take-le size bytes within) ∙ ap length form

-- a spelling in which a line begins is the end of a line
pub line_in_token : (bytes : List ℕ) (kind : TokenKind) (start place size : ℕ) → place ≤ length bytes → BeginsLine bytes place → start < place → place ≤ start + size → size ≤ length (drop start bytes) → HasForm kind (take size (drop start bytes))
    → (kind ≡ Eol) × (size ≡ 1)
line_in_token bytes kind start place size within begins before behind le form =
    let up = line_between bytes start place (start + size) within begins before behind in
    let eol : kind ≡ Eol = feeds_eol kind (omega (arith, up, line_after_token bytes kind start size form)) in
    (eol, eol_size (drop start bytes) size le (subst (λ k. HasForm k (take size (drop start bytes))) eol form))

-- the longest spelling of a front that ends with a line is that of the bytes
pub longest_in_all : (bytes : List ℕ) (kind : TokenKind) (size start to : ℕ) → to ≤ length bytes → BeginsLine bytes to → start < to → IsLongest kind size (take (to - start) (drop start bytes)) → IsLongest kind size (drop start bytes)
longest_in_all bytes kind size start to within begins before h =
    let rest = drop start bytes in
    let n = to - start in
    let le : size ≤ n = omega (arith, h.within, length-take (to - start) (drop start bytes)) in
    record {
      within = omega (arith, h.within, length-take (to - start) (drop start bytes));
      form = subst (HasForm kind) (take-take size (to - start) (drop start bytes) le) h.form;
      longest = λ other more fits form.
          ⊎_elim
          (λ inside.
          h.longest other more (omega (arith, inside, fits, length-take (to - start) (drop start bytes)))
          (subst (HasForm other) (sym (take-take more (to - start) (drop start bytes) (omega arith))) form))
          (λ outside.
          let one = line_in_token bytes other start to more within begins before (omega arith) fits form in
          omega (arith, one.1, some_size kind size (take (to - start) (drop start bytes)) h))
          (cases_lt more (to - start));
    }

-- ---- tokens and the beginning of a line

pub token_within : (bytes : List ℕ) (place : ℕ) (t : Token) → ComesNext bytes place t → (place ≤ t.start) × (t.start < t.end) × (t.end ≤ length bytes)
token_within bytes place t h =
    let some = some_size t.kind (t.end - t.start) (drop t.start bytes) h.spelling in
    (h.order, omega (arith, some), omega (arith, some, h.spelling.within, length-drop t.start bytes))

-- the next token ends before the beginning of a line, or is the end of the line before
pub token_stops : (bytes : List ℕ) (low place : ℕ) (t : Token) → place ≤ length bytes → BeginsLine bytes place → ComesNext bytes low t → low < place → (t.end < place) ⊎ ((t.end ≡ place) × (t.kind ≡ Eol))
token_stops bytes low place t within begins h before =
    let start : t.start < place = gap_stops bytes (drop t.start bytes) low place t.start within begins h.order h.gap before in
    let fits = token_within bytes low t h in
    ⊎_elim
    (λ less. inl less)
    (λ behind.
    let eol = line_in_token bytes t.kind t.start place (t.end - t.start) within begins start (omega (arith, behind, fits)) h.spelling.within h.spelling.form in
    inr (omega (arith, eol.1, behind, start, fits), eol.0))
    (cases_lt t.end place)

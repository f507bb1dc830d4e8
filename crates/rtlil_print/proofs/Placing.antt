-- Tokens with gaps of white space before them: the tokens and the lines of such a text.
use Rattle.std.proofs.Common.{◌≡◌, ℕ, ◌+◌, ◌-◌, true, false, not, List, [], ◌∷◌, ◌++◌, length, take, drop, map, inl, refl, ap, ◌∙◌, sym, subst, arith, append_assoc, append-nil, length-append}
use Rattle.std.specs.Prelude.{IsTrue, slice_range}
use Rattle.std.specs.List.{AllByRecursion}
use Rattle.std.proofs.Math.Seq.{take-append_seam}
use Rattle.std.proofs.lemmas.Bool.{cond-true, cond-false}
use Rattle.std.proofs.lemmas.List.{drop_at, drop-drop, drop_all}
use Rattle.rtlil_lex.specs.Bytes.{NoneOrMore, is_blank}
use Rattle.rtlil_lex.specs.Forms.{HasForm, IsLongest}
use Rattle.rtlil_lex.specs.Tokens.{IsGap, begins_gap, line_at, ComesNext, LeadTo, AreTokens}
use Rattle.rtlil_lex.specs.Next.{feeds_of}
use Rattle.rtlil_lex.specs.declared.token.Token.{Token}
use Rattle.rtlil_lex.specs.declared.token.TokenKind.{TokenKind}
use Rattle.rtlil_lex.specs.declared.token.TokenKind.TheVariants.{Eol}
use Rattle.rtlil_lex.specs.declared.token.TokenKind.TheVariants as kind
use Rattle.rtlil_lex.proofs.Lines.{line_after_token, line_after_gap}
use Rattle.rtlil_tree.specs.Lexemes.{Spelled}
use Rattle.rtlil_tree.specs.Lines.{Line, is_eol, with_first, cut, spelled, line_of, all_lines, lines_of, AreLines}

-- A token, and the white space before it.
pub record Laid : Type 0 where
  pub gap : List ℕ
  pub kind : TokenKind
  pub text : List ℕ

abbrev pub text_of : List Laid → List ℕ
text_of [] = []
text_of (l ∷ ls) = l.gap ++ (l.text ++ text_of ls)

-- it is the next token before what follows
pub record IsLaid (l : Laid) (rest : List ℕ) : Type 0 where
  pub blank : NoneOrMore is_blank l.gap
  pub ink : IsTrue (not (begins_gap (l.text ++ rest)))
  pub longest : IsLongest l.kind (length l.text) (l.text ++ rest)

abbrev pub AreLaid : List Laid → List ℕ → Type 0
AreLaid [] rest = Unit {0}
AreLaid (l ∷ ls) rest = IsLaid l (text_of ls ++ rest) × AreLaid ls rest

pub text_of-append : (ks ls : List Laid) → text_of (ks ++ ls) ≡ text_of ks ++ text_of ls
text_of-append [] ls = refl
text_of-append (k ∷ ks) ls =
    ap (λ t. k.gap ++ (k.text ++ t)) (text_of-append ks ls)
    ∙ ap (λ t. k.gap ++ t) (sym (append_assoc k.text (text_of ks) (text_of ls)))
    ∙ sym (append_assoc k.gap (k.text ++ text_of ks) (text_of ls))

pub are_laid-append : (ks ls : List Laid) (rest : List ℕ) → AreLaid ks (text_of ls ++ rest) → AreLaid ls rest → AreLaid (ks ++ ls) rest
are_laid-append [] ls rest h g = g
are_laid-append (k ∷ ks) ls rest h g = (
  subst (IsLaid k) (sym (append_assoc (text_of ks) (text_of ls) rest) ∙ ap (λ t. t ++ rest) (sym (text_of-append ks ls))) h.0,
  are_laid-append ks ls rest h.1 g,
)

-- ---- tokens

abbrev start_at : ℕ → Laid → ℕ
start_at place l = place + length l.gap

abbrev pub end_at : ℕ → Laid → ℕ
end_at place l = place + length l.gap + length l.text

abbrev pub token_at : List ℕ → ℕ → Laid → Token
token_at bytes place l = record { kind = l.kind; start = start_at place l; end = end_at place l; line = line_at bytes (start_at place l) }

abbrev pub tokens_at : List ℕ → ℕ → List Laid → List Token
tokens_at bytes place [] = []
tokens_at bytes place (l ∷ ls) = token_at bytes place l ∷ tokens_at bytes (end_at place l) ls

abbrev pub end_of : ℕ → List Laid → ℕ
end_of place [] = place
end_of place (l ∷ ls) = end_of (end_at place l) ls

pub drop_more : (bytes a b : List ℕ) (place : ℕ) → drop place bytes ≡ a ++ b → drop (place + length a) bytes ≡ b
drop_more bytes a b place h = sym (drop-drop (length a) place bytes) ∙ ap (drop (length a)) h ∙ drop_at a b (length a) refl

take_more : (bytes a b : List ℕ) (place size : ℕ) → size ≡ length a → drop place bytes ≡ a ++ b → take size (drop place bytes) ≡ a
take_more bytes a b place size e h = ap (λ n. take n (drop place bytes)) e ∙ ap (take (length a)) h ∙ take-append_seam a b

gap_here : (bytes : List ℕ) (place : ℕ) (l : Laid) (rest : List ℕ) → drop place bytes ≡ l.gap ++ (l.text ++ rest) → IsLaid l rest → IsGap (take (length l.gap) (drop place bytes)) (drop (start_at place l) bytes)
gap_here bytes place l rest h is =
    let next = drop_more bytes l.gap (l.text ++ rest) place h in
    let gap = take_more bytes l.gap (l.text ++ rest) place (length l.gap) refl h in
    inl (subst (NoneOrMore is_blank) (sym gap) is.blank, subst (λ t. IsTrue (not (begins_gap t))) (sym next) is.ink)

pub comes_next : (bytes : List ℕ) (place : ℕ) (l : Laid) (rest : List ℕ) → drop place bytes ≡ l.gap ++ (l.text ++ rest) → IsLaid l rest → ComesNext bytes place (token_at bytes place l)
comes_next bytes place l rest h is =
    let next = drop_more bytes l.gap (l.text ++ rest) place h in
    let size : (start_at place l) - place ≡ length l.gap = omega arith in
    let longest : length l.text ≡ (end_at place l) - (start_at place l) = omega arith in
    record {
      order = omega arith;
      gap = subst (λ n. IsGap (take n (drop place bytes)) (drop (start_at place l) bytes)) (sym size) (gap_here bytes place l rest h is);
      spelling = subst (λ t. IsLongest l.kind ((end_at place l) - (start_at place l)) t) (sym next) (subst (λ n. IsLongest l.kind n (l.text ++ rest)) longest is.longest);
      line = refl;
    }

behind : (bytes : List ℕ) (place : ℕ) (l : Laid) (rest : List ℕ) → drop place bytes ≡ l.gap ++ (l.text ++ rest) → drop (end_at place l) bytes ≡ rest
behind bytes place l rest h = drop_more bytes l.text rest (start_at place l) (drop_more bytes l.gap (l.text ++ rest) place h)

regroup : (l : Laid) (ls : List Laid) (rest : List ℕ) → text_of (l ∷ ls) ++ rest ≡ l.gap ++ (l.text ++ (text_of ls ++ rest))
regroup l ls rest = append_assoc l.gap (l.text ++ text_of ls) rest ∙ ap (λ t. l.gap ++ t) (append_assoc l.text (text_of ls) rest)

pub leads : (bytes : List ℕ) (place : ℕ) (ls : List Laid) (rest : List ℕ) → drop place bytes ≡ text_of ls ++ rest → AreLaid ls rest → LeadTo bytes place (tokens_at bytes place ls) (end_of place ls)
leads bytes place [] rest h are = refl
leads bytes place (l ∷ ls) rest h are =
    let here = h ∙ regroup l ls rest in
    (comes_next bytes place l (text_of ls ++ rest) here are.0, leads bytes (end_at place l) ls rest (behind bytes place l (text_of ls ++ rest) here) are.1)

pub end_of_is : (place : ℕ) (ls : List Laid) → end_of place ls ≡ place + length (text_of ls)
end_of_is place [] = omega arith
end_of_is place (l ∷ ls) = end_of_is (end_at place l) ls ∙ omega (arith, length-append l.gap (l.text ++ text_of ls), length-append l.text (text_of ls))

abbrev pub last_token : List ℕ → Token
last_token bytes = record { kind = Eol; start = length bytes; end = length bytes; line = line_at bytes (length bytes) }

pub are_tokens : (ls : List Laid) → AreLaid ls [] → AreTokens (text_of ls) (tokens_at (text_of ls) 0 ls ++ last_token (text_of ls) ∷ [])
are_tokens ls are =
    let bytes = text_of ls in
    let at_end : end_of 0 ls ≡ length bytes = end_of_is 0 ls ∙ omega arith in
    record {
      before = tokens_at bytes 0 ls;
      end_token = last_token bytes;
      place = end_of 0 ls;
      all = refl;
      lead = leads bytes 0 ls [] (sym (append-nil bytes)) are;
      last = record { gap = subst (λ t. IsGap t []) (sym (ap (λ n. drop n bytes) at_end ∙ drop_all (length bytes) bytes (omega arith))) (inl (tt, refl)); end_of_input = refl };
    }

-- ---- lines

abbrev pub feed : Laid
feed = record { gap = []; kind = Eol; text = 10 ∷ [] }

-- the tokens of each line, and the line feed that ends it
abbrev pub all_rows : List (List Laid) → List Laid
all_rows [] = []
all_rows (r ∷ rs) = r ++ feed ∷ all_rows rs

abbrev pub spelled_as : Laid → Spelled
spelled_as l = record { kind = l.kind; text = l.text }

-- the lines, the first of which has the number
abbrev pub numbered : List (List Laid) → ℕ → List Line
numbered [] number = []
numbered (r ∷ rs) number = record { number = number; tokens = map spelled_as r } ∷ numbered rs (number + 1)

abbrev IsInner : TokenKind → Type 0
IsInner kind = is_eol kind ≡ false

-- some tokens, none of which is a line feed
abbrev pub IsRow : List Laid → Type 0
IsRow [] = ⊥
IsRow (l ∷ ls) = AllByRecursion (λ (l : Laid). IsInner l.kind) (l ∷ ls)

no_feeds : (kind : TokenKind) → IsInner kind → feeds_of kind ≡ 0
no_feeds kind.Word h = refl
no_feeds kind.Id h = refl
no_feeds kind.Int h = refl
no_feeds kind.Bits h = refl
no_feeds kind.Str h = refl
no_feeds (kind.Mark b) h = refl
no_feeds kind.Eol h = absurd cc

start_line : (bytes : List ℕ) (place : ℕ) (l : Laid) (rest : List ℕ) → drop place bytes ≡ l.gap ++ (l.text ++ rest) → IsLaid l rest → line_at bytes (start_at place l) ≡ line_at bytes place
start_line bytes place l rest h is = line_after_gap bytes place (length l.gap) (drop (start_at place l) bytes) (gap_here bytes place l rest h is)

end_line : (bytes : List ℕ) (place : ℕ) (l : Laid) (rest : List ℕ) → drop place bytes ≡ l.gap ++ (l.text ++ rest) → IsLaid l rest → line_at bytes (end_at place l) ≡ line_at bytes place + feeds_of l.kind
end_line bytes place l rest h is =
    let next = drop_more bytes l.gap (l.text ++ rest) place h in
    line_after_token bytes l.kind (start_at place l) (length l.text) (subst (λ t. HasForm l.kind (take (length l.text) t)) (sym next) is.longest.form)
    ∙ ap (λ n. n + feeds_of l.kind) (start_line bytes place l rest h is)

-- a row is on one line
row_line : (bytes : List ℕ) (place : ℕ) (ls : List Laid) (rest : List ℕ) → drop place bytes ≡ text_of ls ++ rest → AreLaid ls rest → AllByRecursion (λ (l : Laid). IsInner l.kind) ls → line_at bytes (end_of place ls) ≡ line_at bytes place
row_line bytes place [] rest h are inner = refl
row_line bytes place (l ∷ ls) rest h are inner =
    let here = h ∙ regroup l ls rest in
    row_line bytes (end_at place l) ls rest (behind bytes place l (text_of ls ++ rest) here) are.1 inner.1
    ∙ (end_line bytes place l (text_of ls ++ rest) here are.0 ∙ omega (arith, no_feeds l.kind inner.0))

tokens_at-append : (bytes : List ℕ) (place : ℕ) (ks ls : List Laid) → tokens_at bytes place (ks ++ ls) ≡ tokens_at bytes place ks ++ tokens_at bytes (end_of place ks) ls
tokens_at-append bytes place [] ls = refl
tokens_at-append bytes place (k ∷ ks) ls = ap (λ ts. token_at bytes place k ∷ ts) (tokens_at-append bytes (end_at place k) ks ls)

inner_tokens : (bytes : List ℕ) (place : ℕ) (ls : List Laid) → AllByRecursion (λ (l : Laid). IsInner l.kind) ls → AllByRecursion (λ (t : Token). IsInner t.kind) (tokens_at bytes place ls)
inner_tokens bytes place [] h = tt
inner_tokens bytes place (l ∷ ls) h = (h.0, inner_tokens bytes (end_at place l) ls h.1)

cut_row : (ts more : List Token) (e : Token) → AllByRecursion (λ (t : Token). IsInner t.kind) ts → is_eol e.kind ≡ true → cut (ts ++ e ∷ more) ≡ ts ∷ cut more
cut_row [] more e h ends = cond-true (is_eol e.kind) _ _ ends
cut_row (t ∷ ts) more e h ends = cond-false (is_eol t.kind) _ _ h.0 ∙ ap (with_first t) (cut_row ts more e h.1 ends)

spelled_tokens : (bytes : List ℕ) (place : ℕ) (ls : List Laid) (rest : List ℕ) → drop place bytes ≡ text_of ls ++ rest → map (spelled bytes) (tokens_at bytes place ls) ≡ map spelled_as ls
spelled_tokens bytes place [] rest h = refl
spelled_tokens bytes place (l ∷ ls) rest h =
    let here = h ∙ regroup l ls rest in
    let next = drop_more bytes l.gap (l.text ++ (text_of ls ++ rest)) place here in
    let text : slice_range bytes (start_at place l) (end_at place l) ≡ l.text = take_more bytes l.text (text_of ls ++ rest) (start_at place l) ((end_at place l) - (start_at place l)) (omega arith) next in
    ap (λ t. spelling_of l.kind t ∷ map (spelled bytes) (tokens_at bytes (end_at place l) ls)) text
    ∙ ap (λ ts. spelled_as l ∷ ts) (spelled_tokens bytes (end_at place l) ls rest (behind bytes place l (text_of ls ++ rest) here))
  where
    spelling_of : TokenKind → List ℕ → Spelled
    spelling_of k t = record { kind = k; text = t }

row_of_line : (bytes : List ℕ) (place number : ℕ) (r : List Laid) (rest : List ℕ) → drop place bytes ≡ text_of r ++ rest → AreLaid r rest → IsRow r → line_at bytes place ≡ number
    → line_of bytes (tokens_at bytes place r) ≡ record { number = number; tokens = map spelled_as r } ∷ []
row_of_line bytes place number [] rest h are row at = absurd row
row_of_line bytes place number (l ∷ ls) rest h are row at =
    ap (λ n. line_with n (map (spelled bytes) (tokens_at bytes place (l ∷ ls))) ∷ []) (start_line bytes place l (text_of ls ++ rest) (h ∙ regroup l ls rest) are.0 ∙ at)
    ∙ ap (λ ts. line_with number ts ∷ []) (spelled_tokens bytes place (l ∷ ls) rest h)
  where
    line_with : ℕ → List Spelled → Line
    line_with n ts = record { number = n; tokens = ts }

row_inner : (r : List Laid) → IsRow r → AllByRecursion (λ (l : Laid). IsInner l.kind) r
row_inner [] h = tt
row_inner (l ∷ ls) h = h

first_laid : (ks ls : List Laid) (rest : List ℕ) → AreLaid (ks ++ ls) rest → AreLaid ks (text_of ls ++ rest)
first_laid [] ls rest h = tt
first_laid (k ∷ ks) ls rest h =
    (subst (IsLaid k) (ap (λ t. t ++ rest) (text_of-append ks ls) ∙ append_assoc (text_of ks) (text_of ls) rest) h.0, first_laid ks ls rest h.1)

rest_laid : (ks ls : List Laid) (rest : List ℕ) → AreLaid (ks ++ ls) rest → AreLaid ls rest
rest_laid [] ls rest h = h
rest_laid (k ∷ ks) ls rest h = rest_laid ks ls rest h.1

-- the lines of rows are the rows
lines_from : (bytes : List ℕ) (place number : ℕ) (rs : List (List Laid)) (e : Token) → drop place bytes ≡ text_of (all_rows rs) → AreLaid (all_rows rs) [] → AllByRecursion IsRow rs → line_at bytes place ≡ number → is_eol e.kind ≡ true
    → lines_of bytes (tokens_at bytes place (all_rows rs) ++ e ∷ []) ≡ numbered rs number
lines_from bytes place number [] e h are rows at ends = ap (all_lines bytes) (cond-true (is_eol e.kind) ([] ∷ [] ∷ []) (with_first e ([] ∷ [])) ends)
lines_from bytes place number (r ∷ rs) e h are rows at ends =
    let more = feed ∷ all_rows rs in
    let split : drop place bytes ≡ text_of r ++ text_of more = h ∙ text_of-append r more in
    let laid = subst (AreLaid r) (append-nil (text_of more)) (first_laid r more [] are) in
    let tail = rest_laid r more [] are in
    let here : drop (end_of place r) bytes ≡ text_of more = ap (λ n. drop n bytes) (end_of_is place r) ∙ drop_more bytes (text_of r) (text_of more) place split in
    let there : drop (end_of place r + 0 + 1) bytes ≡ text_of (all_rows rs) = behind bytes (end_of place r) feed (text_of (all_rows rs)) here in
    let line_here : line_at bytes (end_of place r) ≡ number = row_line bytes place r (text_of more) split laid (row_inner r rows.0) ∙ at in
    let line_there : line_at bytes (end_of place r + 0 + 1) ≡ number + 1 =
    end_line bytes (end_of place r) feed (text_of (all_rows rs)) here (subst (IsLaid feed) (append-nil (text_of (all_rows rs))) tail.0) ∙ ap (λ n. n + 1) line_here in
    let tokens = tokens_at bytes (end_of place r + 0 + 1) (all_rows rs) ++ e ∷ [] in
    ap (λ ts. lines_of bytes (ts ++ e ∷ [])) (tokens_at-append bytes place r more)
    ∙ ap (lines_of bytes) (append_assoc (tokens_at bytes place r) (tokens_at bytes (end_of place r) more) (e ∷ []))
    ∙ ap (all_lines bytes) (cut_row (tokens_at bytes place r) tokens (token_at bytes (end_of place r) feed) (inner_tokens bytes place r (row_inner r rows.0)) refl)
    ∙ ap (λ l. l ++ lines_of bytes tokens) (row_of_line bytes place number r (text_of more) split laid rows.0 at)
    ∙ ap (λ l. record { number = number; tokens = map spelled_as r } ∷ l) (lines_from bytes (end_of place r + 0 + 1) (number + 1) rs e there tail.1 rows.1 line_there ends)

-- The lines of a text that is made of rows.
pub are_lines : (rs : List (List Laid)) → AreLaid (all_rows rs) [] → AllByRecursion IsRow rs → (end_line : ℕ) × AreLines (text_of (all_rows rs)) (numbered rs 1) end_line
are_lines rs are rows =
    let bytes = text_of (all_rows rs) in (
      line_at bytes (length bytes),
      record {
        tokens = tokens_at bytes 0 (all_rows rs) ++ last_token bytes ∷ [];
        are_tokens = are_tokens (all_rows rs) are;
        lines_are = sym (lines_from bytes 0 1 rs (last_token bytes) refl are rows refl refl);
        end_is = refl;
      },
    )

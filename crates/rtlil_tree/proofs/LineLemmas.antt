-- How the reader cuts the tokens into lines, and what it makes of a line.
use Rattle.std.proofs.Common.{◌≡◌, ℕ, zero, suc, ◌+◌, ◌<◌, ◌≤◌, not, List, [], ◌∷◌, ◌++◌, length, get_or, take, drop, map, refl, ap, ◌∙◌, sym, arith, ⊎_elim, Option, Some, None, option_map, append_assoc}
use Rattle.std.specs.List.{prefix_len}
use Rattle.std.proofs.lemmas.Bool.{cases_Bool, cond-true, cond-false}
use Rattle.std.proofs.lemmas.List.{drop_more, drop_all, append-nil}
use Rattle.rtlil_lex.specs.declared.token.Token.{Token}
use Rattle.rtlil_tree.specs.Lexemes.{Lexeme}
use Rattle.rtlil_tree.specs.Lines.{is_eol, with_first, cut, spelled, line_of, all_lines, lines_of}
use Rattle.rtlil_tree.specs.Said.{◌>>=◌, said_by, lexemes_of}
use Rattle.rtlil_tree.specs.Inner.Cursor.{is_inner}

-- ---- cutting

pub cut_at : (ts : List Token) (n : ℕ) → n ≡ prefix_len is_inner ts → n < length ts → cut ts ≡ take n ts ∷ cut (drop (suc n) ts)
cut_at [] n e h = absurd (omega arith)
cut_at (t ∷ ts) zero e h =
    ⊎_elim
    (λ eol. cond-true (is_eol t.kind) ([] ∷ cut ts) (with_first t (cut ts)) eol)
    (λ inner. let some : 0 ≡ 1 + prefix_len is_inner ts = e ∙ cond-true (is_inner t) _ _ (ap not inner) in absurd (omega arith))
    (cases_Bool (is_eol t.kind))
cut_at (t ∷ ts) (suc n) e h =
    ⊎_elim
    (λ eol. let none : suc n ≡ 0 = e ∙ cond-false (is_inner t) _ _ (ap not eol) in absurd (omega arith))
    (λ inner.
    let more : suc n ≡ 1 + prefix_len is_inner ts = e ∙ cond-true (is_inner t) _ _ (ap not inner) in
    cond-false (is_eol t.kind) ([] ∷ cut ts) (with_first t (cut ts)) inner ∙ ap (with_first t) (cut_at ts n (omega arith) (omega arith)))
    (cases_Bool (is_eol t.kind))

pub cut_whole : (ts : List Token) (n : ℕ) → n ≡ prefix_len is_inner ts → length ts ≤ n → cut ts ≡ ts ∷ []
cut_whole [] n e h = refl
cut_whole (t ∷ ts) zero e h = absurd (omega arith)
cut_whole (t ∷ ts) (suc n) e h =
    ⊎_elim
    (λ eol. let none : suc n ≡ 0 = e ∙ cond-false (is_inner t) _ _ (ap not eol) in absurd (omega arith))
    (λ inner.
    let more : suc n ≡ 1 + prefix_len is_inner ts = e ∙ cond-true (is_inner t) _ _ (ap not inner) in
    cond-false (is_eol t.kind) ([] ∷ cut ts) (with_first t (cut ts)) inner ∙ ap (with_first t) (cut_whole ts n (omega arith) (omega arith)))
    (cases_Bool (is_eol t.kind))

-- the tokens before the first end of line are a line, and those behind it the others
pub lines_cut : (bytes : List ℕ) (ts : List Token) (n : ℕ) → n ≡ prefix_len is_inner ts → n < length ts → lines_of bytes ts ≡ line_of bytes (take n ts) ++ lines_of bytes (drop (n + 1) ts)
lines_cut bytes ts n e h =
    let next : suc n ≡ n + 1 = omega arith in
    ap (all_lines bytes) (cut_at ts n e h) ∙ ap (λ k. line_of bytes (take n ts) ++ lines_of bytes (drop k ts)) next

pub lines_whole : (bytes : List ℕ) (ts rest : List Token) (n : ℕ) → n ≡ prefix_len is_inner ts → length ts ≤ n → rest ≡ [] → lines_of bytes ts ≡ line_of bytes ts ++ lines_of bytes rest
lines_whole bytes ts rest n e h none = ap (all_lines bytes) (cut_whole ts n e h) ∙ ap (λ (l : List Token). line_of bytes ts ++ lines_of bytes l) (sym none)

-- ---- what the tokens of a line say

said_more : (bytes : List ℕ) (ts : List Token) (i : ℕ) (d : Token) → i < length ts → lexemes_of (map (spelled bytes) (drop i ts)) ≡ (said_by (spelled bytes (get_or ts i d)) >>= λ x. lexemes_of (map (spelled bytes) (drop (i + 1) ts)) >>= λ xs. Some (x ∷ xs))
unfolding lexemes_of
said_more bytes ts i d h = ap (λ (l : List Token). lexemes_of (map (spelled bytes) l)) (drop_more ts i d h)

put_first : (xs : List Lexeme) (x : Lexeme) (o : Option (List Lexeme)) → option_map (λ ys. xs ++ ys) (o >>= λ ys. Some (x ∷ ys)) ≡ option_map (λ ys. (xs ++ x ∷ []) ++ ys) o
put_first xs x None = refl
put_first xs x (Some ys) = ap (λ (l : List Lexeme). Some l) (sym (append_assoc xs (x ∷ []) ys))

pub words_more : (bytes : List ℕ) (ts : List Token) (i : ℕ) (d : Token) (xs after : List Lexeme) (x : Lexeme) → i < length ts → said_by (spelled bytes (get_or ts i d)) ≡ Some x → after ≡ xs ++ x ∷ []
    → option_map (λ ys. xs ++ ys) (lexemes_of (map (spelled bytes) (drop i ts))) ≡ lexemes_of (map (spelled bytes) ts) → option_map (λ ys. after ++ ys) (lexemes_of (map (spelled bytes) (drop (i + 1) ts))) ≡ lexemes_of (map (spelled bytes) ts)
words_more bytes ts i d xs after x h said is all =
    let rest = lexemes_of (map (spelled bytes) (drop (i + 1) ts)) in
    ap (λ (l : List Lexeme). option_map (λ ys. l ++ ys) rest) is
    ∙ sym (put_first xs x rest)
    ∙ sym (ap (λ (o : Option Lexeme). option_map (λ ys. xs ++ ys) (o >>= λ y. rest >>= λ ys. Some (y ∷ ys))) said)
    ∙ sym (ap (option_map (λ ys. xs ++ ys)) (said_more bytes ts i d h))
    ∙ all

pub words_stop : (bytes : List ℕ) (ts : List Token) (i : ℕ) (d : Token) (xs : List Lexeme) → i < length ts → said_by (spelled bytes (get_or ts i d)) ≡ None
    → option_map (λ ys. xs ++ ys) (lexemes_of (map (spelled bytes) (drop i ts))) ≡ lexemes_of (map (spelled bytes) ts) → lexemes_of (map (spelled bytes) ts) ≡ None
words_stop bytes ts i d xs h said all =
    let rest = lexemes_of (map (spelled bytes) (drop (i + 1) ts)) in
    sym all
    ∙ ap (option_map (λ ys. xs ++ ys)) (said_more bytes ts i d h)
    ∙ ap (λ (o : Option Lexeme). option_map (λ ys. xs ++ ys) (o >>= λ y. rest >>= λ ys. Some (y ∷ ys))) said

pub words_end : (bytes : List ℕ) (ts : List Token) (i : ℕ) (xs : List Lexeme) → length ts ≤ i
    → option_map (λ ys. xs ++ ys) (lexemes_of (map (spelled bytes) (drop i ts))) ≡ lexemes_of (map (spelled bytes) ts) → lexemes_of (map (spelled bytes) ts) ≡ Some xs
unfolding lexemes_of
words_end bytes ts i xs h all =
    sym all ∙ ap (λ (l : List Token). option_map (λ ys. xs ++ ys) (lexemes_of (map (spelled bytes) l))) (drop_all i ts h) ∙ ap (λ (l : List Lexeme). Some l) (append-nil xs)

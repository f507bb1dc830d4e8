-- What the reader finds in a token is what the token says.
use Rattle.std.proofs.Common.{◌≡◌, ℕ, ◌==◌, ◌⊎◌, inl, inr, List, [], ◌∷◌, refl, ap, ◌∙◌, sym, subst, Bool, true, false, cond, Option, Some, None, option_map, eqb-true}
use Rattle.rtlil_lex.specs.Bytes.{OneOrMore, is_digit}
use Rattle.rtlil_lex.specs.Forms.{HasForm, IsId, IsInt}
use Rattle.rtlil_lex.specs.declared.token.TokenKind.{TokenKind}
use Rattle.rtlil_lex.specs.declared.token.TokenKind.TheVariants as kind
use Rattle.circuit_types.specs.declared.signal.Value.{Value}
use Rattle.circuit_types.specs.declared.signal.Value.TheVariants as value
use Rattle.rtlil_tree.specs.declared.keyword.Keyword.{Keyword}
use Rattle.rtlil_tree.specs.Lexemes.{Lexeme, key, id, constant, open_slice, close_slice, open_join, close_join, colon, Spelled, spelling, IsConstant, Says, AreSaid}
use Rattle.rtlil_tree.specs.Said.{◌>>=◌, keyword_of, integer_of, mark_of, said, said_by, lexemes_of}
use Rattle.rtlil_tree.specs.Placed.{IsFormed, AreFormed}
use Rattle.rtlil_tree.proofs.Numbers.{keyword_read, keyword_spelled, integer_read, integer_spelled}
use Rattle.rtlil_tree.proofs.WrittenBits.{bits_read, bits_spelled}
use Rattle.rtlil_tree.proofs.Quoted.{string_read, string_spelled}
use Rattle.rtlil_tree.proofs.Binding.{bound, mapped, once}

-- ---- what is said is found

word_said : (k : Keyword) (t : Spelled) → (t.kind ≡ kind.Word) × (t.text ≡ spelling k) → said t.kind t.text ≡ Some (key k)
unfolding said
word_said k t h = ap (λ (c : TokenKind). said c t.text) h.0 ∙ ap (λ l. option_map key (keyword_of l)) h.1 ∙ ap (option_map key) (keyword_read k)

id_said : (name : List ℕ) (t : Spelled) → t.kind ≡ kind.Id → t.text ≡ name → said t.kind t.text ≡ Some (id name)
unfolding said
id_said name t is e = ap (λ (c : TokenKind). said c t.text) is ∙ ap (λ l. Some (id l)) e

constant_said : (v : Value) (t : Spelled) → IsConstant v t → said t.kind t.text ≡ Some (constant v)
unfolding said
constant_said (value.Bits b) t h = ap (λ (c : TokenKind). said c t.text) h.0 ∙ bits_read b t.text h.1
constant_said (value.Number n) t h = ap (λ (c : TokenKind). said c t.text) h.0 ∙ ap (option_map (λ z. constant (value.Number z))) (integer_read n t.text h.1)
constant_said (value.Text bytes) t h = ap (λ (c : TokenKind). said c t.text) h.0 ∙ string_read bytes t.text h.1

mark_said : (b : ℕ) (x : Lexeme) (t : Spelled) → mark_of b ≡ Some x → t.kind ≡ kind.Mark b → said t.kind t.text ≡ Some x
unfolding said
mark_said b x t e h = ap (λ (c : TokenKind). said c t.text) h ∙ e

pub said_if_says : (x : Lexeme) (t : Spelled) → Says x t → said_by t ≡ Some x
said_if_says (key k) t h = word_said k t h
said_if_says (id name) t h = id_said name t h.0 h.1
said_if_says (constant v) t h = constant_said v t h
said_if_says open_slice t h = mark_said 91 open_slice t refl h
said_if_says close_slice t h = mark_said 93 close_slice t refl h
said_if_says open_join t h = mark_said 123 open_join t refl h
said_if_says close_join t h = mark_said 125 close_join t refl h
said_if_says colon t h = mark_said 58 colon t refl h

-- ---- what is found is said

abbrev spelled : TokenKind → List ℕ → Spelled
spelled c l = record { kind = c; text = l }

find_word : (l : List ℕ) (x : Lexeme) → option_map key (keyword_of l) ≡ Some x → Says x (spelled kind.Word l)
find_word l x e =
    let m = mapped key (keyword_of l) x e in
    subst (λ (y : Lexeme). Says y (spelled kind.Word l)) m.2 (refl, keyword_spelled l m.0 m.1)

find_id : (l : List ℕ) (x : Lexeme) → IsId l → Some (id l) ≡ Some x → Says x (spelled kind.Id l)
find_id l x h e = subst (λ (y : Lexeme). Says y (spelled kind.Id l)) (once (id l) x e) (refl, refl, h)

int_parts : (l : List ℕ) → IsInt l → OneOrMore is_digit l ⊎ ((digits : List ℕ) × (l ≡ 45 ∷ digits) × OneOrMore is_digit digits)
int_parts [] h = absurd h
int_parts (b ∷ bs) (inl h) = inl h
int_parts (b ∷ bs) (inr h) = inr (bs, ap (λ c. c ∷ bs) h.0, h.1)

find_int : (l : List ℕ) (x : Lexeme) → IsInt l → option_map (λ z. constant (value.Number z)) (integer_of l) ≡ Some x → Says x (spelled kind.Int l)
find_int l x h e =
    let m = mapped (λ z. constant (value.Number z)) (integer_of l) x e in
    subst (λ (y : Lexeme). Says y (spelled kind.Int l)) m.2 (refl, integer_spelled m.0 l (int_parts l h) m.1)

marked : (b code : ℕ) (t : Bool) (x y : Lexeme) (rest : Option Lexeme) (l : List ℕ) → (b == code) ≡ t → (b ≡ code → Says y (spelled (kind.Mark b) l)) → (rest ≡ Some x → Says x (spelled (kind.Mark b) l))
    → cond t (Some y) rest ≡ Some x → Says x (spelled (kind.Mark b) l)
marked b code true x y rest l is says later e = subst (λ (z : Lexeme). Says z (spelled (kind.Mark b) l)) (once y x e) (says (eqb-true b code is))
marked b code false x y rest l is says later e = later e

is_mark_of : (b code : ℕ) → b ≡ code → kind.Mark b ≡ kind.Mark code
is_mark_of b code e = ap (λ n. kind.Mark n) e

nothing : (x : Lexeme) {A : Type 0} → None ≡ Some x → A
nothing x e = absurd cc

find_mark : (b : ℕ) (l : List ℕ) (x : Lexeme) → mark_of b ≡ Some x → Says x (spelled (kind.Mark b) l)
find_mark b l x e =
    marked b 91 (b == 91) x open_slice _ l refl (is_mark_of b 91)
    (marked b 93 (b == 93) x close_slice _ l refl (is_mark_of b 93)
    (marked b 123 (b == 123) x open_join _ l refl (is_mark_of b 123)
    (marked b 125 (b == 125) x close_join _ l refl (is_mark_of b 125)
    (marked b 58 (b == 58) x colon None l refl (is_mark_of b 58) (λ n. nothing x n))))) e

find_lexeme : (c : TokenKind) (l : List ℕ) (x : Lexeme) → HasForm c l → said c l ≡ Some x → Says x (spelled c l)
unfolding said HasForm
find_lexeme kind.Word l x h e = find_word l x e
find_lexeme kind.Id l x h e = find_id l x h e
find_lexeme kind.Int l x h e = find_int l x h e
find_lexeme kind.Bits l x h e = let s = bits_spelled l x h e in subst (λ (y : Lexeme). Says y (spelled kind.Bits l)) (sym s.1) (refl, s.2)
find_lexeme kind.Str l x h e = let s = string_spelled l x h e in subst (λ (y : Lexeme). Says y (spelled kind.Str l)) (sym s.1) (refl, s.2)
find_lexeme (kind.Mark b) l x h e = find_mark b l x e
find_lexeme kind.Eol l x h e = nothing x e

pub says_if_said : (x : Lexeme) (t : Spelled) → IsFormed t → said_by t ≡ Some x → Says x t
says_if_said x t h e = find_lexeme t.kind t.text x h e

pub says_once : (x y : Lexeme) (t : Spelled) → Says x t → Says y t → x ≡ y
says_once x y t h k = once x y (sym (said_if_says x t h) ∙ said_if_says y t k)

-- ---- lists

pub lexemes_if_said : (xs : List Lexeme) (ts : List Spelled) → AreSaid xs ts → lexemes_of ts ≡ Some xs
unfolding lexemes_of
lexemes_if_said [] ts h = ap lexemes_of h
lexemes_if_said (x ∷ xs) [] h = absurd h
lexemes_if_said (x ∷ xs) (t ∷ ts) h =
    ap (λ (o : Option Lexeme). o >>= λ y. lexemes_of ts >>= λ ys. Some (y ∷ ys)) (said_if_says x t h.0)
    ∙ ap (λ (o : Option (List Lexeme)). o >>= λ ys. Some (x ∷ ys)) (lexemes_if_said xs ts h.1)

pub said_if_lexemes : (xs : List Lexeme) (ts : List Spelled) → AreFormed ts → lexemes_of ts ≡ Some xs → AreSaid xs ts
unfolding lexemes_of
said_if_lexemes xs [] h e = subst (λ (l : List Lexeme). AreSaid l []) (once [] xs e) refl
said_if_lexemes xs (t ∷ ts) h e =
    let b = bound (said_by t) (λ y. lexemes_of ts >>= λ ys. Some (y ∷ ys)) xs e in
    let c = bound (lexemes_of ts) (λ ys. Some (b.0 ∷ ys)) xs b.2 in
    subst (λ (l : List Lexeme). AreSaid l (t ∷ ts)) (once (b.0 ∷ c.0) xs c.2) (says_if_said b.0 t h.0 b.1, said_if_lexemes c.0 ts h.1 c.1)

pub are_said_once : (xs ys : List Lexeme) (ts : List Spelled) → AreSaid xs ts → AreSaid ys ts → xs ≡ ys
are_said_once xs ys ts h k = once xs ys (sym (lexemes_if_said xs ts h) ∙ lexemes_if_said ys ts k)

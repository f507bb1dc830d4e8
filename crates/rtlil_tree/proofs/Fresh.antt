-- Statements that complete a text, made here.
use Rattle.std.proofs.Common.{◌≡◌, ℕ, zero, suc, ◌+◌, ◌<◌, ℤ, pos, Bool, true, false, ◌&&◌, List, [], ◌∷◌, ◌++◌, length, flat_map, refl, ap, ◌∙◌, sym, subst, ⊎_elim, inl, inr, Ok, arith}
use Rattle.std.proofs.lemmas.List.{append-nil}
use Rattle.std.proofs.lemmas.Bool.{cases_Bool}
use Rattle.std.proofs.lemmas.Slice.Eq.{bytes_eq-Decides}
use Rattle.std.specs.Str.{bytes_eq}
use Rattle.std.specs.List.{AllByRecursion}
use Rattle.rtlil_lex.specs.Bytes.{NoneOrMore, OneOrMore, is_letter, is_digit, is_name_byte}
use Rattle.rtlil_lex.specs.Forms.{HasForm, IsId}
use Rattle.rtlil_lex.specs.declared.token.TokenKind.{TokenKind}
use Rattle.rtlil_lex.specs.declared.token.TokenKind.TheVariants as kind
use Rattle.circuit_types.specs.declared.signal.Value.TheVariants as value
use Rattle.circuit_types.specs.declared.tree.Module.{Module}
use Rattle.circuit_types.specs.declared.tree.Attribute.{Attribute}
use Rattle.circuit_types.specs.declared.tree.Wire.{Wire}
use Rattle.circuit_types.specs.declared.tree.Item.TheVariants as item
use Rattle.circuit_types.specs.declared.tree.Port.TheVariants as port
use Rattle.rtlil_tree.specs.declared.keyword.Keyword.{Keyword}
use Rattle.rtlil_tree.specs.declared.keyword.Keyword.TheVariants as word
use Rattle.rtlil_tree.specs.declared.options.WireOption.{WireOption}
use Rattle.rtlil_tree.specs.declared.options.WireOption.TheVariants.{Width, Offset, Input, Output, Inout, Upto, Signed}
use Rattle.rtlil_tree.specs.Lexemes.{Lexeme, key, id, constant, Spelled, spelling, IsInteger, Says, AreSaid}
use Rattle.rtlil_tree.specs.Lines.{Line}
use Rattle.rtlil_tree.specs.Statements.{Statement, begins, wire, ends, option_lexemes, wire_lexemes, IsWire}
use Rattle.rtlil_tree.specs.Names.{is_among, wire_names, module_names}
use Rattle.rtlil_tree.specs.Machine.{State, file, inside, within, with_items, module_begun, run}
use Rattle.rtlil_tree.specs.Text.{IsWritten, AreWritten}
use Rattle.rtlil_tree.specs.Refusals.{BeginsWith}
use Rattle.rtlil_tree.specs.Placed.{IsFormed, AreFormed}
use Rattle.rtlil_tree.proofs.Running.{run_end}
use Rattle.rtlil_tree.proofs.Running.{AllFormed}
use Rattle.rtlil_tree.proofs.Distinct.{and_both, neither, tree_of}
use Rattle.rtlil_tree.proofs.Completing.{Goes, goes_none, goes_on, begins_goes, module_end_goes, wire_goes, cell_end_goes}

-- ---- tokens that say a word, a number or a name are of their form

all_letters : List ℕ → Bool
all_letters [] = true
all_letters (b ∷ bs) = is_letter b && all_letters bs

some_letters : List ℕ → Bool
some_letters [] = false
some_letters (b ∷ bs) = is_letter b && all_letters bs

letters : (bs : List ℕ) → all_letters bs ≡ true → NoneOrMore is_letter bs
unfolding all_letters
letters [] h = tt
letters (b ∷ bs) h = let p = and_both (is_letter b) (all_letters bs) h in (p.0, letters bs p.1)

a_word : (bs : List ℕ) → some_letters bs ≡ true → OneOrMore is_letter bs
unfolding some_letters
a_word [] h = absurd cc
a_word (b ∷ bs) h = let p = and_both (is_letter b) (all_letters bs) h in (p.0, letters bs p.1)

word_letters : (k : Keyword) → some_letters (spelling k) ≡ true
unfolding some_letters all_letters
word_letters word.Attribute = refl
word_letters k = refl

word_formed : (k : Keyword) → HasForm kind.Word (spelling k)
unfolding HasForm
word_formed k = a_word (spelling k) (word_letters k)

formed_as : (t : Spelled) (k : TokenKind) (text : List ℕ) → t.kind ≡ k → t.text ≡ text → HasForm k text → IsFormed t
formed_as t k text of is h = subst (λ (x : TokenKind). HasForm x t.text) (sym of) (subst (HasForm k) (sym is) h)

integer_formed : (z : ℤ) (text : List ℕ) → IsInteger z text → HasForm kind.Int text
unfolding HasForm
integer_formed z [] h = ⊎_elim (λ p. p.0) (λ q. let e : [] ≡ 45 ∷ q.0 = q.1 in absurd cc) h
integer_formed z (b ∷ bs) h = ⊎_elim (λ p. inl p.0) (λ q. let e : b ∷ bs ≡ 45 ∷ q.0 = q.1 in let first : b ≡ 45 = cc in let rest : q.0 ≡ bs = cc in inr (first, subst (OneOrMore is_digit) rest q.2)) h

name_formed : (name : List ℕ) → IsId name → HasForm kind.Id name
unfolding HasForm
name_formed name h = h

-- a word, a number or a name
abbrev IsPlain : Lexeme → Type 0
IsPlain (key k) = Unit {0}
IsPlain (id name) = Unit {0}
IsPlain (constant (value.Number z)) = Unit {0}
IsPlain x = ⊥

plain_formed : (x : Lexeme) (t : Spelled) → IsPlain x → Says x t → IsFormed t
plain_formed (key k) t p h = formed_as t kind.Word (spelling k) h.0 h.1 (word_formed k)
plain_formed (id name) t p h = formed_as t kind.Id name h.0 h.1 (name_formed name h.2)
plain_formed (constant (value.Number z)) t p h = formed_as t kind.Int t.text h.0 refl (integer_formed z t.text h.1)
plain_formed x t p h = absurd p

all_formed : (xs : List Lexeme) (ts : List Spelled) → AllByRecursion IsPlain xs → AreSaid xs ts → AreFormed ts
all_formed [] ts p h = subst AreFormed (sym h) tt
all_formed (x ∷ xs) [] p h = absurd h
all_formed (x ∷ xs) (t ∷ ts) p h = (plain_formed x t p.0 h.0, all_formed xs ts p.1 h.1)

named_plain : (options : List WireOption) (name : List ℕ) → AllByRecursion IsPlain (flat_map option_lexemes options ++ id name ∷ [])
named_plain [] name = (tt, tt)
named_plain (Width n ∷ options) name = (tt, (tt, named_plain options name))
named_plain (Offset z ∷ options) name = (tt, (tt, named_plain options name))
named_plain (Input n ∷ options) name = (tt, (tt, named_plain options name))
named_plain (Output n ∷ options) name = (tt, (tt, named_plain options name))
named_plain (Inout z ∷ options) name = (tt, (tt, named_plain options name))
named_plain (Upto ∷ options) name = (tt, named_plain options name)
named_plain (Signed ∷ options) name = (tt, named_plain options name)

-- tokens that say a wire's words are of their form
pub wire_formed : (options : List WireOption) (name : List ℕ) (ts : List Spelled) → AreSaid (wire_lexemes options name) ts → AreFormed ts
wire_formed options name ts h = all_formed (wire_lexemes options name) ts (tt, named_plain options name) h

-- ---- a name that is longer than all others

long : ℕ → List ℕ
long zero = 97 ∷ []
long (suc n) = 97 ∷ long n

total : List (List ℕ) → ℕ
total [] = 0
total (x ∷ xs) = length x + total xs

pub fresh : List (List ℕ) → List ℕ
fresh names = 92 ∷ long (total names)

long_enough : (n : ℕ) → n < length (long n)
unfolding long
long_enough zero = omega arith
long_enough (suc n) = omega (arith, long_enough n)

unlike : (name x : List ℕ) → length x < length name → bytes_eq name x ≡ false
unlike name x h =
    ⊎_elim
    (λ same. let e = ap length ((bytes_eq-Decides name x).0 same) in absurd (omega arith))
    (λ other. other)
    (cases_Bool (bytes_eq name x))

longer_new : (name : List ℕ) (names : List (List ℕ)) → total names < length name → is_among name names ≡ false
unfolding total
longer_new name [] h = refl
longer_new name (x ∷ names) h = neither (bytes_eq name x) (is_among name names) (unlike name x (omega arith)) (longer_new name names (omega arith))

pub fresh_new : (names : List (List ℕ)) → is_among (fresh names) names ≡ false
unfolding fresh
fresh_new names = longer_new (fresh names) names (omega (arith, long_enough (total names)))

long_name : (n : ℕ) → NoneOrMore is_name_byte (long n)
unfolding long
long_name zero = (refl, tt)
long_name (suc n) = (refl, long_name n)

long_id : (n : ℕ) → IsId (92 ∷ long n)
unfolding long
long_id zero = (refl, (refl, tt))
long_id (suc n) = (refl, (refl, long_name n))

fresh_id : (names : List (List ℕ)) → IsId (fresh names)
unfolding fresh
fresh_id names = long_id (total names)

-- ---- lines

word_token : Keyword → Spelled
word_token k = record { kind = kind.Word; text = spelling k }

name_token : List ℕ → Spelled
name_token name = record { kind = kind.Id; text = name }

line_with : List Spelled → Line
line_with ts = record { number = 0; tokens = ts }

pub end_line : Line
end_line = line_with (word_token word.End ∷ [])

pub end_written : IsWritten ends end_line
unfolding end_line line_with word_token
end_written = record { lexemes = key word.End ∷ []; said = ((refl, refl), refl); form = refl }

pub end_formed : AreFormed end_line.tokens
unfolding end_line line_with word_token
end_formed = (word_formed word.End, tt)

module_line : List ℕ → Line
module_line name = line_with (word_token word.Module ∷ name_token name ∷ [])

abbrev module_made : List ℕ → List Attribute → Module
module_made name held = module_begun 0 name held

module_written : (name : List ℕ) (held : List Attribute) → IsId name → IsWritten (begins (module_made name held)) (module_line name)
unfolding module_line line_with word_token name_token
module_written name held h = record { lexemes = key word.Module ∷ id name ∷ []; said = ((refl, refl), ((refl, refl, h), refl)); form = (refl, refl) }

module_formed : (name : List ℕ) → IsId name → AreFormed (module_line name).tokens
unfolding module_line line_with word_token name_token
module_formed name h = (word_formed word.Module, (name_formed name h, tt))

pub wire_line : List ℕ → Line
wire_line name = line_with (word_token word.Wire ∷ name_token name ∷ [])

abbrev pub wire_with : List ℕ → List Attribute → Wire
wire_with name held = record { line = 0; name = name; attributes = held; width = 1; offset = pos 0; port = port.Inner; upto = false; signed = false }

wire_words : (name : List ℕ) (held : List Attribute) → IsWire (wire_with name held) (key word.Wire ∷ id name ∷ [])
wire_words name held = record { options = []; written = refl; supported = refl; width_said = refl; offset_said = refl; port_is = refl; upto_said = refl; signed_said = refl }

pub wire_written : (name : List ℕ) (held : List Attribute) → IsId name → IsWritten (wire (wire_with name held)) (wire_line name)
unfolding wire_line line_with word_token name_token
wire_written name held h = record { lexemes = key word.Wire ∷ id name ∷ []; said = ((refl, refl), ((refl, refl, h), refl)); form = (refl, wire_words name held) }

pub wire_line_formed : (name : List ℕ) → IsId name → AreFormed (wire_line name).tokens
unfolding wire_line line_with word_token name_token
wire_line_formed name h = (word_formed word.Wire, (name_formed name h, tt))

-- ---- each state can be completed

-- Lines behind which the reader is between modules.
pub record Completes (s : State) : Type 0 where
  pub lines : List Line
  pub statements : List Statement
  pub modules : List Module
  pub written : AreWritten statements lines
  pub formed : AllFormed lines
  pub goes : Goes s (file modules []) statements

complete_file : (ms : List Module) (a : Attribute) (held : List Attribute) → Completes (file ms (a ∷ held))
complete_file ms a held =
    let name = fresh (module_names ms) in
    let m : Module = module_made name (a ∷ held) in
    record {
      lines = module_line name ∷ end_line ∷ [];
      statements = begins m ∷ ends ∷ [];
      modules = ms ++ m ∷ [];
      written = (module_written name (a ∷ held) (fresh_id (module_names ms)), (end_written, refl));
      formed = (module_formed name (fresh_id (module_names ms)), (end_formed, tt));
      goes = goes_on _ _ _ (begins m ∷ []) (ends ∷ []) (begins_goes ms m (fresh_new (module_names ms))) (module_end_goes ms m);
    }

complete_module : (ms : List Module) (m : Module) (a : Attribute) (held : List Attribute) → Completes (inside ms m (a ∷ held))
complete_module ms m a held =
    let name = fresh (wire_names m.items) in
    let v : Wire = wire_with name (a ∷ held) in
    let n : Module = with_items m (m.items ++ item.Wire v ∷ []) in
    record {
      lines = wire_line name ∷ end_line ∷ [];
      statements = wire v ∷ ends ∷ [];
      modules = ms ++ n ∷ [];
      written = (wire_written name (a ∷ held) (fresh_id (wire_names m.items)), (end_written, refl));
      formed = (wire_line_formed name (fresh_id (wire_names m.items)), (end_formed, tt));
      goes = goes_on _ _ _ (wire v ∷ []) (ends ∷ []) (wire_goes ms m v (fresh_new (wire_names m.items))) (module_end_goes ms n);
    }

pub completes : (s : State) → Completes s
completes (file ms []) = record { lines = []; statements = []; modules = ms; written = refl; formed = tt; goes = goes_none (file ms []) }
completes (file ms (a ∷ held)) = complete_file ms a held
completes (inside ms m []) = record {
  lines = end_line ∷ [];
  statements = ends ∷ [];
  modules = ms ++ m ∷ [];
  written = (end_written, refl);
  formed = (end_formed, tt);
  goes = module_end_goes ms m;
}
completes (inside ms m (a ∷ held)) = complete_module ms m a held
completes (within ms m c) = record {
  lines = end_line ∷ end_line ∷ [];
  statements = ends ∷ ends ∷ [];
  modules = ms ++ with_items m (m.items ++ item.Cell c ∷ []) ∷ [];
  written = (end_written, (end_written, refl));
  formed = (end_formed, (end_formed, tt));
  goes = goes_on _ _ _ (ends ∷ []) (ends ∷ []) (cell_end_goes ms m c) (module_end_goes ms (with_items m (m.items ++ item.Cell c ∷ [])));
}

pub completed : (e : ℕ) (s : State) (c : Completes s) → run e s c.lines ≡ Ok (tree_of c.modules)
completed e s c =
    let x = c.goes.over e [] c.lines (subst (λ (l : List Statement). AreWritten l c.lines) (sym (append-nil c.statements)) c.written) in
    x.2 ∙ ap (run e (file c.modules [])) x.1 ∙ run_end e (file c.modules [])

-- a wire of a new name may stand in a module
pub some_wire : List (List ℕ) → Line
some_wire names = wire_line (fresh names)

pub some_wire_written : (names : List (List ℕ)) (held : List Attribute) → IsWritten (wire (wire_with (fresh names) held)) (some_wire names)
unfolding some_wire
some_wire_written names held = wire_written (fresh names) held (fresh_id names)

pub some_wire_formed : (names : List (List ℕ)) → AreFormed (some_wire names).tokens
unfolding some_wire
some_wire_formed names = wire_line_formed (fresh names) (fresh_id names)

pub some_wire_begins : (names : List (List ℕ)) → BeginsWith (key word.Wire) (some_wire names).tokens
unfolding some_wire wire_line line_with word_token
some_wire_begins names = (refl, refl)

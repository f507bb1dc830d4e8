-- The options of a wire: the reader goes from option to option, and what it has then was said by them.
use Rattle.std.proofs.Common.{◌≡◌, ℕ, zero, suc, ◌-◌, List, [], ◌∷◌, ◌++◌, take, drop, filter, flat_map, fold, refl, ap, ◌∙◌, sym, Option, Some, None, option_map, subst, false, append_assoc, take-append-drop, ℤ}
use Rattle.circuit_types.specs.declared.signal.Value.TheVariants as value
use Rattle.circuit_types.specs.declared.tree.Port.{Port}
use Rattle.rtlil_tree.specs.declared.keyword.Keyword.{Keyword}
use Rattle.rtlil_tree.specs.declared.keyword.Keyword.TheVariants as word
use Rattle.rtlil_tree.specs.declared.options.WireOption.{WireOption}
use Rattle.rtlil_tree.specs.declared.options.WireOption.TheVariants.{Width, Offset, Input, Output, Inout, Upto, Signed}
use Rattle.rtlil_tree.specs.declared.options.Options.{Options}
use Rattle.rtlil_tree.specs.Lexemes.{Lexeme, key, id, constant, Spelled, AreSaid}
use Rattle.rtlil_tree.specs.Statements.{option_lexemes, no_options, with_option, options_said, port_said, wire_lexemes}
use Rattle.rtlil_tree.specs.Said.{◌>>=◌}
use Rattle.rtlil_tree.specs.Forms.{place_of, numbered_of, first_number, keyed, option_at, only_name, options_from, WireForm, wire_of}
use Rattle.rtlil_tree.specs.Refusals.{is_supported}
use Rattle.rtlil_tree.specs.Placed.{IsWireForm}
use Rattle.rtlil_tree.proofs.Numbers.{place_is}
use Rattle.rtlil_tree.proofs.Binding.{bound, mapped, once}

-- ---- what the options say is read

abbrev pub named : List WireOption → List ℕ → List Lexeme
named options name = flat_map option_lexemes options ++ id name ∷ []

pub options_read : (options : List WireOption) (o : Options) (name : List ℕ) → options_from o 0 (named options name) ≡ Some (fold with_option o options, name)
unfolding options_from
options_read [] o name = refl
options_read (Width n ∷ options) o name = options_read options (with_option o (Width n)) name
options_read (Offset z ∷ options) o name = options_read options (with_option o (Offset z)) name
options_read (Input n ∷ options) o name = options_read options (with_option o (Input n)) name
options_read (Output n ∷ options) o name = options_read options (with_option o (Output n)) name
options_read (Inout z ∷ options) o name = options_read options (with_option o (Inout z)) name
options_read (Upto ∷ options) o name = options_read options (with_option o Upto) name
options_read (Signed ∷ options) o name = options_read options (with_option o Signed) name

-- ---- what is read was said

-- the words of an option are those that it takes
abbrev IsAt : List Lexeme → WireOption × ℕ → Type 0
IsAt xs w = take (suc (w.1 - 1)) xs ≡ option_lexemes w.0

numbered_words : (k : Keyword) (z : ℤ) (w : WireOption) → numbered_of k z ≡ Some w → key k ∷ constant (value.Number z) ∷ [] ≡ option_lexemes w
numbered_words word.Width z w e =
    let m = mapped (λ n. Width n) (place_of z) w e in
    ap (λ y. key word.Width ∷ constant (value.Number y) ∷ []) (place_is z m.0 m.1) ∙ ap option_lexemes m.2
numbered_words word.Offset z w e = ap option_lexemes (once (Offset z) w e)
numbered_words word.Input z w e =
    let m = mapped (λ n. Input n) (place_of z) w e in
    ap (λ y. key word.Input ∷ constant (value.Number y) ∷ []) (place_is z m.0 m.1) ∙ ap option_lexemes m.2
numbered_words word.Output z w e =
    let m = mapped (λ n. Output n) (place_of z) w e in
    ap (λ y. key word.Output ∷ constant (value.Number y) ∷ []) (place_is z m.0 m.1) ∙ ap option_lexemes m.2
numbered_words word.Inout z w e = ap option_lexemes (once (Inout z) w e)
numbered_words k z w e = absurd cc

number_first : (xs : List Lexeme) (z : ℤ) → first_number xs ≡ Some z → take 1 xs ≡ constant (value.Number z) ∷ []
number_first (constant (value.Number y) ∷ xs) z e = ap (λ n. constant (value.Number n) ∷ []) (once y z e)
number_first xs z e = absurd cc

with_number : (k : Keyword) (xs : List Lexeme) (w : WireOption × ℕ) → (first_number xs >>= λ z. option_map (λ o. (o, 2)) (numbered_of k z)) ≡ Some w → IsAt (key k ∷ xs) w
with_number k xs w e =
    let b = bound (first_number xs) (λ z. option_map (λ o. (o, 2)) (numbered_of k z)) w e in
    let m = mapped (λ o. (o, 2)) (numbered_of k b.0) w b.2 in
    subst (IsAt (key k ∷ xs)) m.2 (ap (λ l. key k ∷ l) (number_first xs b.0 b.1) ∙ numbered_words k b.0 m.0 m.1)

keyed_words : (k : Keyword) (xs : List Lexeme) (w : WireOption × ℕ) → keyed k xs ≡ Some w → IsAt (key k ∷ xs) w
keyed_words word.Upto xs w e = subst (IsAt (key word.Upto ∷ xs)) (once (Upto, 1) w e) refl
keyed_words word.Signed xs w e = subst (IsAt (key word.Signed ∷ xs)) (once (Signed, 1) w e) refl
keyed_words k xs w e = with_number k xs w e

option_words : (x : Lexeme) (xs : List Lexeme) (w : WireOption × ℕ) → option_at (x ∷ xs) ≡ Some w → x ∷ take (w.1 - 1) xs ≡ option_lexemes w.0
option_words (key k) xs w e = keyed_words k xs w e
option_words x xs w e = absurd cc

name_words : (xs : List Lexeme) (name : List ℕ) → only_name xs ≡ Some name → xs ≡ id name ∷ []
name_words (id n ∷ []) name e = ap (λ l. id l ∷ []) (once n name e)
name_words xs name e = absurd cc

-- What the words say behind some options.
record SaysOn (xs : List Lexeme) (o : Options) (r : Options × List ℕ) : Type 0 where
  options : List WireOption
  written : xs ≡ named options r.1
  said : r.0 ≡ fold with_option o options

says_more : (x : Lexeme) (xs : List Lexeme) (o : Options) (w : WireOption × ℕ) (r : Options × List ℕ) → option_at (x ∷ xs) ≡ Some w → SaysOn (drop (w.1 - 1) xs) (with_option o w.0) r → SaysOn (x ∷ xs) o r
says_more x xs o w r at rest =
    record {
      options = w.0 ∷ rest.options;
      written =
          ap (λ l. x ∷ l) (sym (take-append-drop (w.1 - 1) xs))
          ∙ ap (λ l. l ++ drop (w.1 - 1) xs) (option_words x xs w at)
          ∙ ap (λ l. option_lexemes w.0 ++ l) rest.written
          ∙ sym (append_assoc (option_lexemes w.0) (flat_map option_lexemes rest.options) (id r.1 ∷ []));
      said = rest.said;
    }

says_name : (x : Lexeme) (xs : List Lexeme) (o : Options) (r : Options × List ℕ) → option_map (λ name. (o, name)) (only_name (x ∷ xs)) ≡ Some r → SaysOn (x ∷ xs) o r
says_name x xs o r e =
    let m = mapped (λ name. (o, name)) (only_name (x ∷ xs)) r e in
    subst (SaysOn (x ∷ xs) o) m.2 (record { options = []; written = name_words (x ∷ xs) m.0 m.1; said = refl })

abbrev from_option : Options → Lexeme → List Lexeme → Option (WireOption × ℕ) → Option (Options × List ℕ)
from_option o x xs f = elim f [ Some w ↦ options_from (with_option o w.0) (w.1 - 1) xs | None ↦ option_map (λ name. (o, name)) (only_name (x ∷ xs)) ]

says_first : (x : Lexeme) (xs : List Lexeme) (o : Options) (r : Options × List ℕ) (f : Option (WireOption × ℕ)) → option_at (x ∷ xs) ≡ f → from_option o x xs f ≡ Some r
    → ((w : WireOption × ℕ) → options_from (with_option o w.0) (w.1 - 1) xs ≡ Some r → SaysOn (drop (w.1 - 1) xs) (with_option o w.0) r) → SaysOn (x ∷ xs) o r
says_first x xs o r (Some w) at e more = says_more x xs o w r at (more w e)
says_first x xs o r None at e more = says_name x xs o r e

says_on : (xs : List Lexeme) (n : ℕ) (o : Options) (r : Options × List ℕ) → options_from o n xs ≡ Some r → SaysOn (drop n xs) o r
unfolding options_from
says_on [] n o r e = absurd cc
says_on (x ∷ xs) (suc n) o r e = says_on xs n o r e
says_on (x ∷ xs) zero o r e = says_first x xs o r (option_at (x ∷ xs)) refl e (λ w f. says_on xs (w.1 - 1) (with_option o w.0) r f)

-- ---- wires

pub wire_of_written : (f : WireForm) (xs : List Lexeme) (options : List WireOption) → xs ≡ named options f.name → f.options ≡ options_said options → port_said f.options.input f.options.output ≡ Some f.port → wire_of xs ≡ Some f
wire_of_written f xs options is said port =
    ap wire_of is
    ∙ ap (λ (o : Option (Options × List ℕ)). o >>= λ w. port_said w.0.input w.0.output >>= λ p. Some (record { name = w.1; port = p; options = w.0 })) (options_read options no_options f.name)
    ∙ ap (λ (o : Options). port_said o.input o.output >>= λ p. Some (record { name = f.name; port = p; options = o })) (sym said)
    ∙ ap (λ (o : Option Port). o >>= λ p. Some (record { name = f.name; port = p; options = f.options })) port

pub wire_words : (f : WireForm) (xs : List Lexeme) → wire_of xs ≡ Some f → IsWireForm f (key word.Wire ∷ xs)
wire_words f xs e =
    let b = bound (options_from no_options 0 xs) (λ w. port_said w.0.input w.0.output >>= λ p. Some (record { name = w.1; port = p; options = w.0 })) f e in
    let c = bound (port_said b.0.0.input b.0.0.output) (λ p. Some (record { name = b.0.1; port = p; options = b.0.0 })) f b.2 in
    let s = says_on xs 0 no_options b.0 b.1 in
    subst (λ (g : WireForm). IsWireForm g (key word.Wire ∷ xs)) (once _ f c.2)
    (record { options = s.options; written = ap (λ l. key word.Wire ∷ l) s.written; said = s.said; port_is = c.1 })

-- ---- without `inout`

abbrev without : Options → Options
without o = record o { inout = false }

without_said : (options : List WireOption) (o : Options) → fold with_option (without o) (filter is_supported options) ≡ without (fold with_option o options)
without_said [] o = refl
without_said (Width n ∷ options) o = without_said options (with_option o (Width n))
without_said (Offset z ∷ options) o = without_said options (with_option o (Offset z))
without_said (Input n ∷ options) o = without_said options (with_option o (Input n))
without_said (Output n ∷ options) o = without_said options (with_option o (Output n))
without_said (Inout z ∷ options) o = without_said options (with_option o (Inout z))
without_said (Upto ∷ options) o = without_said options (with_option o Upto)
without_said (Signed ∷ options) o = without_said options (with_option o Signed)

pub supported_said : (options : List WireOption) → options_said (filter is_supported options) ≡ record (options_said options) { inout = false }
supported_said options = without_said options no_options

-- the tokens of both
said_both : (xs ys : List Lexeme) (ts : List Spelled) → AreSaid (xs ++ ys) ts → (us vs : List Spelled) × AreSaid xs us × AreSaid ys vs
said_both [] ys ts h = ([], ts, refl, h)
said_both (x ∷ xs) ys [] h = absurd h
said_both (x ∷ xs) ys (t ∷ ts) h = let r = said_both xs ys ts h.1 in (t ∷ r.0, r.1, (h.0, r.2), r.3)

said_joined : (xs ys : List Lexeme) (us vs : List Spelled) → AreSaid xs us → AreSaid ys vs → AreSaid (xs ++ ys) (us ++ vs)
said_joined [] ys us vs h k = subst (λ l. AreSaid ys (l ++ vs)) (sym h) k
said_joined (x ∷ xs) ys [] vs h k = absurd h
said_joined (x ∷ xs) ys (u ∷ us) vs h k = (h.0, said_joined xs ys us vs h.1 k)

abbrev SomeSay : List Lexeme → Type 0
SomeSay xs = (us : List Spelled) × AreSaid xs us

with_first : (xs ys : List Lexeme) → SomeSay xs → SomeSay ys → SomeSay (xs ++ ys)
with_first xs ys h k = (h.0 ++ k.0, said_joined xs ys h.0 k.0 h.1 k.1)

kept : (w : WireOption) (options : List WireOption) (name : List ℕ) → SomeSay (option_lexemes w) → SomeSay (named (filter is_supported options) name) → SomeSay (named (w ∷ filter is_supported options) name)
kept w options name h k =
    subst SomeSay (sym (append_assoc (option_lexemes w) (flat_map option_lexemes (filter is_supported options)) (id name ∷ []))) (with_first (option_lexemes w) (named (filter is_supported options) name) h k)

some_more : (w : WireOption) (options : List WireOption) (name : List ℕ) → SomeSay (option_lexemes w) → SomeSay (named (filter is_supported options) name) → SomeSay (named (filter is_supported (w ∷ options)) name)
some_more (Width n) options name h k = kept (Width n) options name h k
some_more (Offset z) options name h k = kept (Offset z) options name h k
some_more (Input n) options name h k = kept (Input n) options name h k
some_more (Output n) options name h k = kept (Output n) options name h k
some_more (Inout z) options name h k = k
some_more Upto options name h k = kept Upto options name h k
some_more Signed options name h k = kept Signed options name h k

some_named : (options : List WireOption) (name : List ℕ) (ts : List Spelled) → AreSaid (named options name) ts → SomeSay (named (filter is_supported options) name)
some_named [] name ts h = (ts, h)
some_named (w ∷ options) name ts h =
    let r = said_both (option_lexemes w) (named options name) ts (subst (λ l. AreSaid l ts) (append_assoc (option_lexemes w) (flat_map option_lexemes options) (id name ∷ [])) h) in
    some_more w options name (r.0, r.2) (some_named options name r.1 r.3)

pub without_inout : (options : List WireOption) (name : List ℕ) (ts : List Spelled) → AreSaid (wire_lexemes options name) ts → (us : List Spelled) × AreSaid (wire_lexemes (filter is_supported options) name) us
without_inout options name [] h = absurd h
without_inout options name (t ∷ ts) h = let r = some_named options name ts h.1 in (t ∷ r.0, (h.0, r.1))

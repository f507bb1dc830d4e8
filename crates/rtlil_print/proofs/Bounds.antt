-- Whatever a text says can be printed.
use Rattle.std.proofs.Common.{◌≡◌, ℕ, zero, suc, ◌≤◌, ◌^◌, ℤ, pos, neg_ℤ, inl, inr, List, [], ◌∷◌, ◌++◌, map, fold, refl, sym, subst, arith, Option, Some, None, IsSome}
use Rattle.std.specs.List.{flat_map, AllByRecursion}
use Rattle.rtlil_lex.specs.Forms.{IsId}
use Rattle.circuit_types.specs.Top.{top_of}
use Rattle.circuit_types.specs.declared.signal.Value.{Value}
use Rattle.circuit_types.specs.declared.signal.Value.TheVariants as value
use Rattle.circuit_types.specs.declared.signal.Signal.{Signal}
use Rattle.circuit_types.specs.declared.tree.Tree.{Tree}
use Rattle.circuit_types.specs.declared.tree.Module.{Module}
use Rattle.circuit_types.specs.declared.tree.Attribute.{Attribute}
use Rattle.circuit_types.specs.declared.tree.Item.{Item}
use Rattle.circuit_types.specs.declared.tree.Item.TheVariants as item
use Rattle.circuit_types.specs.declared.tree.Parameter.{Parameter}
use Rattle.circuit_types.specs.declared.tree.PortConnect.{PortConnect}
use Rattle.circuit_types.specs.declared.tree.Port.{Port}
use Rattle.circuit_types.specs.declared.tree.Port.TheVariants as port
use Rattle.circuit_types.specs.declared.tree.Wire.{Wire}
use Rattle.rtlil_tree.specs.declared.options.WireOption.{WireOption}
use Rattle.rtlil_tree.specs.declared.options.WireOption.TheVariants.{Width, Offset, Input, Output, Inout, Upto, Signed}
use Rattle.rtlil_tree.specs.declared.options.Options.{Options}
use Rattle.rtlil_tree.specs.Lexemes.{Lexeme, key, id, constant, open_slice, close_slice, open_join, close_join, colon, Spelled, IsInteger, IsConstant, Says, AreSaid, decimal}
use Rattle.rtlil_tree.specs.Lines.{Line}
use Rattle.rtlil_tree.specs.Statements.{Piece, lexeme, places, IsPiece, ArePieces, all_of, pieces_of, nesting_of, AreSignals, option_lexemes, no_options, with_option, options_said, port_said, IsWire, optional, form_lexemes, Statement, autoidx, attribute, begins, parameter, wire, cell, connect, cell_parameter, port_connect, ends, IsStatement}
use Rattle.rtlil_tree.specs.Text.{AreInside, AreOfItem, AreOfItems, AreOfModule, AreOfModules, AreWritten, Stands}
use Rattle.rtlil_print.specs.Printable.{IsCount, IsNumber, IsPrintableValue, IsPrintableLexeme, IsPrintablePiece, IsPrintableSignal, IsPrintableAttribute, IsPrintableOption, IsPrintableParameter, IsPrintableCellParameter, IsPrintablePort, IsPrintablePortConnect, IsPrintableConnect, IsPrintableItem, IsPrintableModule, IsPrintable}

-- ---- lists

pub all_first : {A : Type 0} (P : A → Type 0) (xs ys : List A) → AllByRecursion P (xs ++ ys) → AllByRecursion P xs
all_first P [] ys h = tt
all_first P (x ∷ xs) ys h = (h.0, all_first P xs ys h.1)

pub all_rest : {A : Type 0} (P : A → Type 0) (xs ys : List A) → AllByRecursion P (xs ++ ys) → AllByRecursion P ys
all_rest P [] ys h = h
all_rest P (x ∷ xs) ys h = all_rest P xs ys h.1

-- ---- words

negative : (k : ℕ) → k ≤ 2 ^ 31 → IsNumber (neg_ℤ (pos k))
negative zero h = omega arith
negative (suc k) h = omega arith

integer_bounds : (n : ℤ) (text : List ℕ) → IsInteger n text → IsNumber n
integer_bounds n text (inl (digits, is, most)) = subst IsNumber (sym is) most
integer_bounds n text (inr (digits, spelled, form, is, most)) = subst IsNumber (sym is) (negative (decimal digits) most)

constant_bounds : (v : Value) (t : Spelled) → IsConstant v t → IsPrintableValue v
constant_bounds (value.Bits bits) t h = (h.1.most, h.1.few)
constant_bounds (value.Number n) t h = integer_bounds n t.text h.1
constant_bounds (value.Text bytes) t h = tt

lexeme_bounds : (x : Lexeme) (t : Spelled) → Says x t → IsPrintableLexeme x
lexeme_bounds (key word) t h = tt
lexeme_bounds (id name) t h = h.2
lexeme_bounds (constant v) t h = constant_bounds v t h
lexeme_bounds open_slice t h = tt
lexeme_bounds close_slice t h = tt
lexeme_bounds open_join t h = tt
lexeme_bounds close_join t h = tt
lexeme_bounds colon t h = tt

abbrev Are : List Lexeme → Type 0
Are xs = AllByRecursion IsPrintableLexeme xs

said_bounds : (xs : List Lexeme) (ts : List Spelled) → AreSaid xs ts → Are xs
said_bounds [] ts h = tt
said_bounds (x ∷ xs) [] h = absurd h
said_bounds (x ∷ xs) (t ∷ ts) h = (lexeme_bounds x t h.0, said_bounds xs ts h.1)

-- ---- signals

piece_bounds : (p : Piece) (xs : List Lexeme) → IsPiece p xs → Are xs → IsPrintablePiece p
piece_bounds (lexeme x) xs is h = let a = subst Are is h in a.0
piece_bounds (places high low) xs (inl is) h = let a = subst Are is h in (a.1.0, a.1.1.1.0)
piece_bounds (places high low) xs (inr (same, is)) h = let a = subst Are is h in (subst IsCount (sym same) a.1.0, a.1.0)

pieces_bounds : (ps : List Piece) (xs : List Lexeme) → ArePieces ps xs → Are xs → AllByRecursion IsPrintablePiece ps
pieces_bounds [] xs is h = tt
pieces_bounds (p ∷ ps) xs (first, rest, is, one, more) h =
    let a = subst Are is h in
    (piece_bounds p first one (all_first IsPrintableLexeme first rest a), pieces_bounds ps rest more (all_rest IsPrintableLexeme first rest a))

each_signal : (ss : List Signal) → AllByRecursion IsPrintablePiece (all_of (map pieces_of ss)) → AllByRecursion (λ s. nesting_of s ≤ 64) ss → AllByRecursion IsPrintableSignal ss
each_signal [] ps ns = tt
each_signal (s ∷ ss) ps ns = (
  record { pieces = all_first IsPrintablePiece (pieces_of s) (all_of (map pieces_of ss)) ps; nesting = ns.0 },
  each_signal ss (all_rest IsPrintablePiece (pieces_of s) (all_of (map pieces_of ss)) ps) ns.1,
)

signals_bounds : (ss : List Signal) (xs : List Lexeme) → AreSignals ss xs → Are xs → AllByRecursion IsPrintableSignal ss
signals_bounds ss xs are h = each_signal ss (pieces_bounds (all_of (map pieces_of ss)) xs are.0 h) are.1

-- ---- wires

abbrev IsBoundedOption : WireOption → Type 0
IsBoundedOption (Width n) = IsCount n
IsBoundedOption (Offset z) = IsNumber z
IsBoundedOption (Input n) = IsCount n
IsBoundedOption (Output n) = IsCount n
IsBoundedOption (Inout z) = Unit {0}
IsBoundedOption Upto = Unit {0}
IsBoundedOption Signed = Unit {0}

option_bounds : (o : WireOption) → Are (option_lexemes o) → IsBoundedOption o
option_bounds (Width n) h = h.1.0
option_bounds (Offset z) h = h.1.0
option_bounds (Input n) h = h.1.0
option_bounds (Output n) h = h.1.0
option_bounds (Inout z) h = tt
option_bounds Upto h = tt
option_bounds Signed h = tt

options_bounds : (os : List WireOption) → Are (flat_map option_lexemes os) → AllByRecursion IsBoundedOption os
options_bounds [] h = tt
options_bounds (o ∷ os) h = (
  option_bounds o (all_first IsPrintableLexeme (option_lexemes o) (flat_map option_lexemes os) h),
  options_bounds os (all_rest IsPrintableLexeme (option_lexemes o) (flat_map option_lexemes os) h),
)

abbrev IsMaybe : Option ℕ → Type 0
IsMaybe None = Unit {0}
IsMaybe (Some n) = IsCount n

record AreBounded (o : Options) : Type 0 where
  width : IsCount o.width
  offset : IsNumber o.offset
  input : IsMaybe o.input
  output : IsMaybe o.output

with_bounds : (o : Options) (w : WireOption) → AreBounded o → IsBoundedOption w → AreBounded (with_option o w)
with_bounds o (Width n) h b = record { width = b; offset = h.offset; input = h.input; output = h.output }
with_bounds o (Offset z) h b = record { width = h.width; offset = b; input = h.input; output = h.output }
with_bounds o (Input n) h b = record { width = h.width; offset = h.offset; input = b; output = h.output }
with_bounds o (Output n) h b = record { width = h.width; offset = h.offset; input = h.input; output = b }
with_bounds o (Inout z) h b = record { width = h.width; offset = h.offset; input = h.input; output = h.output }
with_bounds o Upto h b = record { width = h.width; offset = h.offset; input = h.input; output = h.output }
with_bounds o Signed h b = record { width = h.width; offset = h.offset; input = h.input; output = h.output }

all_bounds : (o : Options) (ws : List WireOption) → AreBounded o → AllByRecursion IsBoundedOption ws → AreBounded (fold with_option o ws)
all_bounds o [] h b = h
all_bounds o (w ∷ ws) h b = all_bounds (with_option o w) ws (with_bounds o w h b.0) b.1

none_bounds : AreBounded no_options
none_bounds = record { width = omega arith; offset = omega arith; input = tt; output = tt }

port_bounds : (p : Port) (i o : Option ℕ) → IsMaybe i → IsMaybe o → Some p ≡ port_said i o → IsPrintablePort p
port_bounds p None None h k e = let is : port.Inner ≡ p = cc in subst IsPrintablePort is tt
port_bounds p (Some n) None h k e = let is : port.Input n ≡ p = cc in subst IsPrintablePort is h
port_bounds p None (Some n) h k e = let is : port.Output n ≡ p = cc in subst IsPrintablePort is k
port_bounds p (Some n) (Some m) h k e = absurd cc

record IsWireBounded (w : Wire) : Type 0 where
  name : IsId w.name
  width : IsCount w.width
  offset : IsNumber w.offset
  port : IsPrintablePort w.port

wire_bounds : (w : Wire) (xs : List Lexeme) → IsWire w xs → Are xs → IsWireBounded w
wire_bounds w xs is h =
    let a = (subst Are is.written h).1 in
    let b = all_bounds no_options is.options none_bounds (options_bounds is.options (all_first IsPrintableLexeme (flat_map option_lexemes is.options) (id w.name ∷ []) a)) in
    record {
      name = (all_rest IsPrintableLexeme (flat_map option_lexemes is.options) (id w.name ∷ []) a).0;
      width = subst IsCount (sym is.width_said) b.width;
      offset = subst IsNumber (sym is.offset_said) b.offset;
      port = port_bounds w.port (options_said is.options).input (options_said is.options).output b.input b.output is.port_is;
    }

-- ---- statements

abbrev IsBounded : Statement → Type 0
IsBounded (autoidx z) = Unit {0}
IsBounded (attribute a) = IsPrintableAttribute a
IsBounded (begins m) = IsId m.name
IsBounded (parameter p) = IsPrintableParameter p
IsBounded (wire w) = IsWireBounded w
IsBounded (cell c) = IsId c.kind × IsId c.name
IsBounded (connect c) = IsPrintableConnect c
IsBounded (cell_parameter p) = IsPrintableCellParameter p
IsBounded (port_connect c) = IsPrintablePortConnect c
IsBounded ends = Unit {0}

optional_bounds : (o : Option Value) → Are (optional o) → IsPrintableOption o
optional_bounds None h = tt
optional_bounds (Some v) h = h.0

is_some_of : (o : Option Value) (v : Value) → o ≡ Some v → IsSome o
is_some_of None v e = absurd cc
is_some_of (Some w) v e = refl

cell_parameter_bounds : (p : Parameter) (v : Value) (xs : List Lexeme) → p.value ≡ Some v → Are (form_lexemes p.form ++ id p.name ∷ constant v ∷ []) → IsPrintableCellParameter p
cell_parameter_bounds p v xs some h =
    let a = all_rest IsPrintableLexeme (form_lexemes p.form) (id p.name ∷ constant v ∷ []) h in
    record { name = a.0; some = is_some_of p.value v some; value = subst IsPrintableOption (sym some) a.1.0 }

statement_bounds : (s : Statement) (line : ℕ) (xs : List Lexeme) → IsStatement s line xs → Are xs → IsBounded s
statement_bounds (autoidx z) line xs is h = tt
statement_bounds (attribute a) line xs is h = let b = subst Are is h in record { name = b.1.0; value = b.1.1.0 }
statement_bounds (begins m) line xs (at, is) h = let b = subst Are is h in b.1.0
statement_bounds (parameter p) line xs (at, plain, is) h = let b = subst Are is h in record { name = b.1.0; form = plain; value = optional_bounds p.value b.1.1 }
statement_bounds (wire w) line xs (at, is) h = wire_bounds w xs is h
statement_bounds (cell c) line xs (at, is) h = let b = subst Are is h in (b.1.0, b.1.1.0)
statement_bounds (connect c) line xs (at, signals, is, are) h =
    let b = signals_bounds (c.left ∷ c.right ∷ []) signals are (subst Are is h).1 in record { left = b.0; right = b.1.0 }
statement_bounds (cell_parameter p) line xs (at, v, some, is) h = cell_parameter_bounds p v xs some (subst Are is h).1
statement_bounds (port_connect c) line xs (at, signals, is, are) h =
    let a = (subst Are is h).1 in
    let b = signals_bounds (c.signal ∷ []) signals are a.1 in
    record { port = a.0; signal = b.0 }
statement_bounds ends line xs is h = tt

abbrev AllBounded : List Statement → Type 0
AllBounded ss = AllByRecursion IsBounded ss

written_bounds : (ss : List Statement) (lines : List Line) → AreWritten ss lines → AllBounded ss
written_bounds [] lines h = tt
written_bounds (s ∷ ss) [] h = absurd h
written_bounds (s ∷ ss) (line ∷ lines) h =
    (statement_bounds s line.number h.0.lexemes h.0.form (said_bounds h.0.lexemes line.tokens h.0.said), written_bounds ss lines h.1)

-- ---- cells, items, modules

first_bounds : (ss ts all : List Statement) → all ≡ ss ++ ts → AllBounded all → AllBounded ss
first_bounds ss ts all is h = all_first IsBounded ss ts (subst AllBounded is h)

rest_bounds : (ss ts all : List Statement) → all ≡ ss ++ ts → AllBounded all → AllBounded ts
rest_bounds ss ts all is h = all_rest IsBounded ss ts (subst AllBounded is h)

attribute_bounds : (notes : List Attribute) → AllBounded (map attribute notes) → AllByRecursion IsPrintableAttribute notes
attribute_bounds [] h = tt
attribute_bounds (a ∷ notes) h = (h.0, attribute_bounds notes h.1)

abbrev AreInsideBounded : List Parameter → List PortConnect → Type 0
AreInsideBounded ps cs = AllByRecursion IsPrintableCellParameter ps × AllByRecursion IsPrintablePortConnect cs

no_inside : (ps : List Parameter) (cs : List PortConnect) → ps ≡ [] → cs ≡ [] → AreInsideBounded ps cs
no_inside ps cs e f = (subst (AllByRecursion IsPrintableCellParameter) (sym e) tt, subst (AllByRecursion IsPrintablePortConnect) (sym f) tt)

inside_bounds : (ps : List Parameter) (cs : List PortConnect) (ss : List Statement) → AreInside ps cs ss → AllBounded ss → AreInsideBounded ps cs
inside_bounds ps cs [] h b = no_inside ps cs h.0 h.1
inside_bounds ps cs (cell_parameter p ∷ ss) (rest, is, more) b =
    let r = inside_bounds rest cs ss more b.1 in (subst (AllByRecursion IsPrintableCellParameter) (sym is) (b.0, r.0), r.1)
inside_bounds ps cs (port_connect c ∷ ss) (rest, is, more) b =
    let r = inside_bounds ps rest ss more b.1 in (r.0, subst (AllByRecursion IsPrintablePortConnect) (sym is) (b.0, r.1))
inside_bounds ps cs (autoidx z ∷ ss) h b = absurd h
inside_bounds ps cs (attribute a ∷ ss) h b = absurd h
inside_bounds ps cs (begins m ∷ ss) h b = absurd h
inside_bounds ps cs (parameter p ∷ ss) h b = absurd h
inside_bounds ps cs (wire w ∷ ss) h b = absurd h
inside_bounds ps cs (cell c ∷ ss) h b = absurd h
inside_bounds ps cs (connect c ∷ ss) h b = absurd h
inside_bounds ps cs (ends ∷ ss) h b = absurd h

item_bounds : (i : Item) (ss : List Statement) → AreOfItem i ss → AllBounded ss → IsPrintableItem i
item_bounds (item.Parameter p) ss is b = (subst AllBounded is b).0
item_bounds (item.Wire w) ss is b =
    let a = first_bounds (map attribute w.attributes) (wire w ∷ []) ss is b in
    let r = (rest_bounds (map attribute w.attributes) (wire w ∷ []) ss is b).0 in
    record { name = r.name; attributes = attribute_bounds w.attributes a; width = r.width; offset = r.offset; port = r.port }
item_bounds (item.Cell c) ss (inside, is, are) b =
    let a = first_bounds (map attribute c.attributes) (cell c ∷ (inside ++ ends ∷ [])) ss is b in
    let r = rest_bounds (map attribute c.attributes) (cell c ∷ (inside ++ ends ∷ [])) ss is b in
    let i = inside_bounds c.parameters c.connects inside are (all_first IsBounded inside (ends ∷ []) r.1) in
    record { kind = r.0.0; name = r.0.1; attributes = attribute_bounds c.attributes a; parameters = i.0; connects = i.1 }
item_bounds (item.Connect c) ss is b = (subst AllBounded is b).0

items_bounds : (is : List Item) (ss : List Statement) → AreOfItems is ss → AllBounded ss → AllByRecursion IsPrintableItem is
items_bounds [] ss h b = tt
items_bounds (i ∷ is) ss (first, rest, parts, one, more) b =
    (item_bounds i first one (first_bounds first rest ss parts b), items_bounds is rest more (rest_bounds first rest ss parts b))

module_bounds : (m : Module) (ss : List Statement) → AreOfModule m ss → AllBounded ss → IsPrintableModule m
module_bounds m ss (inside, is, are) b =
    let a = first_bounds (map attribute m.attributes) (begins m ∷ (inside ++ ends ∷ [])) ss is b in
    let r = rest_bounds (map attribute m.attributes) (begins m ∷ (inside ++ ends ∷ [])) ss is b in
    record { name = r.0; attributes = attribute_bounds m.attributes a; items = items_bounds m.items inside are (all_first IsBounded inside (ends ∷ []) r.1) }

modules_bounds : (ms : List Module) (ss : List Statement) → AreOfModules ms ss → AllBounded ss → AllByRecursion IsPrintableModule ms
modules_bounds [] ss h b = tt
modules_bounds (m ∷ ms) ss (before, first, rest, parts, numbers, one, more) b =
    let r = rest_bounds before (first ++ rest) ss parts b in
    (module_bounds m first one (all_first IsBounded first rest r), modules_bounds ms rest more (all_rest IsBounded first rest r))

pub stands_printable : (bytes : List ℕ) (t : Tree) → Stands bytes t → IsSome (top_of t) → IsPrintable t
stands_printable bytes t s top = record {
  top = top;
  names = s.text.names;
  modules = modules_bounds t.modules s.text.statements s.text.of_tree (written_bounds s.text.statements s.lines s.text.written);
}

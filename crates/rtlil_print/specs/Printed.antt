-- The text that a tree is printed as.
use Rattle.std.specs.Prelude.{ℕ, ℤ, pos, ◌==◌, Bool, true, false, if◌then◌else◌, List, [], ◌∷◌, ◌++◌, map, codes}
use Rattle.std.specs.List.{flat_map}
use Rattle.std.specs.Fmt.{decimal, signed_decimal}
use Rattle.std.specs.Ordering.{int_eq}
use Rattle.circuit_types.specs.declared.signal.Value.{Value}
use Rattle.circuit_types.specs.declared.signal.Value.TheVariants as value
use Rattle.circuit_types.specs.declared.tree.Tree.{Tree}
use Rattle.circuit_types.specs.declared.tree.Module.{Module}
use Rattle.circuit_types.specs.declared.tree.Attribute.{Attribute}
use Rattle.circuit_types.specs.declared.tree.Item.{Item}
use Rattle.circuit_types.specs.declared.tree.Item.TheVariants as item
use Rattle.circuit_types.specs.declared.tree.Parameter.{Parameter}
use Rattle.circuit_types.specs.declared.tree.Wire.{Wire}
use Rattle.circuit_types.specs.declared.tree.Port.{Port}
use Rattle.circuit_types.specs.declared.tree.Port.TheVariants as port
use Rattle.circuit_types.specs.declared.tree.Cell.{Cell}
use Rattle.circuit_types.specs.declared.tree.Connect.{Connect}
use Rattle.circuit_types.specs.declared.tree.PortConnect.{PortConnect}
use Rattle.rtlil_tree.specs.declared.keyword.Keyword.{Keyword}
use Rattle.rtlil_tree.specs.declared.keyword.Keyword.TheVariants as word
use Rattle.rtlil_tree.specs.declared.options.WireOption.{WireOption}
use Rattle.rtlil_tree.specs.declared.options.WireOption.TheVariants.{Width, Offset, Input, Output, Upto, Signed}
use Rattle.rtlil_tree.specs.Lexemes.{Lexeme, key, id, constant, open_slice, close_slice, open_join, close_join, colon, spelling, bit_code}
use Rattle.rtlil_tree.specs.Statements.{Piece, lexeme, places, pieces_of, option_lexemes, form_lexemes, optional}

-- ---- words

-- A byte between double quotes: a double quote, a backslash, a line feed and a tab are escaped.
abbrev pub quoted : ℕ → List ℕ
quoted b = if b == 34 then codes "\\\"" else (if b == 92 then codes "\\\\" else (if b == 10 then codes "\\n" else (if b == 9 then codes "\\t" else b ∷ [])))

-- the width, a `'` and the written bits; a number in decimal; the bytes between double quotes
abbrev pub value_text : Value → List ℕ
value_text (value.Bits bits) = decimal bits.width ++ 39 ∷ map bit_code bits.written
value_text (value.Number n) = signed_decimal n
value_text (value.Text bytes) = 34 ∷ (flat_map quoted bytes ++ 34 ∷ [])

abbrev pub lexeme_text : Lexeme → List ℕ
lexeme_text (key word) = spelling word
lexeme_text (id name) = name
lexeme_text (constant v) = value_text v
lexeme_text open_slice = codes "["
lexeme_text close_slice = codes "]"
lexeme_text open_join = codes "{"
lexeme_text close_join = codes "}"
lexeme_text colon = codes ":"

abbrev pub places_between : ℕ → ℕ → List ℕ
places_between high low = if high == low then decimal low else decimal high ++ 58 ∷ decimal low

-- `[high:low]`, or `[place]` where both are the same
abbrev pub places_text : ℕ → ℕ → List ℕ
places_text high low = 91 ∷ (places_between high low ++ 93 ∷ [])

abbrev pub piece_text : Piece → List ℕ
piece_text (lexeme x) = lexeme_text x
piece_text (places high low) = places_text high low

-- each piece with a space before it
abbrev pub spaced : List Piece → List ℕ
spaced pieces = flat_map (λ piece. 32 ∷ piece_text piece) pieces

abbrev pub lexemes_spaced : List Lexeme → List ℕ
lexemes_spaced lexemes = flat_map (λ x. 32 ∷ lexeme_text x) lexemes

abbrev pub options_spaced : List WireOption → List ℕ
options_spaced options = flat_map (λ option. lexemes_spaced (option_lexemes option)) options

-- ---- lines

-- how far in a line stands: those of a module, of its items, and inside a cell
abbrev pub module_indent : List ℕ
module_indent = []

abbrev pub item_indent : List ℕ
item_indent = codes "  "

abbrev pub inside_indent : List ℕ
inside_indent = codes "    "

-- a word of a statement and what follows it, ended by a line feed
abbrev pub line : List ℕ → Keyword → List ℕ → List ℕ
line indent word text = indent ++ (spelling word ++ (text ++ codes "\n"))

abbrev pub attribute_line : List ℕ → Attribute → List ℕ
attribute_line indent a = line indent word.Attribute (lexemes_spaced (id a.name ∷ constant a.value ∷ []))

abbrev pub attribute_lines : List ℕ → List Attribute → List ℕ
attribute_lines indent attributes = flat_map (attribute_line indent) attributes

abbrev pub parameter_line : List ℕ → Parameter → List ℕ
parameter_line indent p = line indent word.Parameter (lexemes_spaced (form_lexemes p.form ++ (id p.name ∷ optional p.value)))

abbrev pub width_option : ℕ → List WireOption
width_option width = if width == 1 then [] else Width width ∷ []

abbrev pub offset_option : ℤ → List WireOption
offset_option offset = if int_eq offset (pos 0) then [] else Offset offset ∷ []

abbrev pub port_option : Port → List WireOption
port_option port.Inner = []
port_option (port.Input n) = Input n ∷ []
port_option (port.Output n) = Output n ∷ []

abbrev pub option_if : Bool → WireOption → List WireOption
option_if true option = option ∷ []
option_if false option = []

-- what is not as it is without options, in a fixed order
abbrev pub wire_options : Wire → List WireOption
wire_options w =
    width_option w.width ++ (offset_option w.offset ++ (port_option w.port ++ (option_if w.upto Upto ++ option_if w.signed Signed)))

abbrev pub wire_line : Wire → List ℕ
wire_line w = line item_indent word.Wire (options_spaced (wire_options w) ++ lexemes_spaced (id w.name ∷ []))

abbrev pub cell_line : Cell → List ℕ
cell_line c = line item_indent word.Cell (lexemes_spaced (id c.kind ∷ id c.name ∷ []))

abbrev pub connect_line : Connect → List ℕ
connect_line c = line item_indent word.Connect (spaced (pieces_of c.left ++ pieces_of c.right))

abbrev pub port_connect_line : List ℕ → PortConnect → List ℕ
port_connect_line indent c = line indent word.Connect (spaced (lexeme (id c.port) ∷ pieces_of c.signal))

abbrev pub module_line : List ℕ → List ℕ
module_line name = line module_indent word.Module (lexemes_spaced (id name ∷ []))

abbrev pub end_line : List ℕ → List ℕ
end_line indent = line indent word.End []

-- ---- cells, items, modules

-- the parameters of a cell stand before its connects
abbrev pub inside_lines : Cell → List ℕ
inside_lines c = flat_map (parameter_line inside_indent) c.parameters ++ flat_map (port_connect_line inside_indent) c.connects

abbrev pub cell_lines : Cell → List ℕ
cell_lines c = cell_line c ++ (inside_lines c ++ end_line item_indent)

abbrev pub item_lines : Item → List ℕ
item_lines (item.Parameter p) = parameter_line item_indent p
item_lines (item.Wire w) = attribute_lines item_indent w.attributes ++ wire_line w
item_lines (item.Cell c) = attribute_lines item_indent c.attributes ++ cell_lines c
item_lines (item.Connect c) = connect_line c

abbrev pub module_lines : Module → List ℕ
module_lines m =
    attribute_lines module_indent m.attributes
    ++ (module_line m.name ++ (flat_map item_lines m.items ++ end_line module_indent))

-- the modules in order
unfoldable pub printed : Tree → List ℕ
printed tree = flat_map module_lines tree.modules

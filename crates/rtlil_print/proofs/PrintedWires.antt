-- The line of a wire is that of its statement.
use Rattle.std.proofs.Common.{◌≡◌, ℕ, ◌+◌, ◌==◌, ℤ, pos, Bool, true, false, cond, List, [], ◌∷◌, ◌++◌, length, fold, Option, Some, None, refl, ap, ◌∙◌, sym, subst, append_assoc, eqb-true, int_eq}
use Rattle.std.specs.List.{flat_map, AllByRecursion}
use Rattle.std.proofs.lemmas.Bool.Decides.{Decides-int_eq}
use Rattle.std.proofs.lemmas.Grind.{flat_map-append}
use Rattle.rtlil_lex.specs.Forms.{IsId}
use Rattle.circuit_types.specs.declared.tree.Wire.{Wire}
use Rattle.circuit_types.specs.declared.tree.Port.{Port}
use Rattle.circuit_types.specs.declared.tree.Port.TheVariants as port
use Rattle.rtlil_tree.specs.declared.keyword.Keyword.TheVariants as word
use Rattle.rtlil_tree.specs.declared.options.WireOption.{WireOption}
use Rattle.rtlil_tree.specs.declared.options.WireOption.TheVariants.{Width, Offset, Upto, Signed}
use Rattle.rtlil_tree.specs.declared.options.Options.{Options}
use Rattle.rtlil_tree.specs.Lexemes.{Lexeme, id}
use Rattle.rtlil_tree.specs.Statements.{option_lexemes, no_options, with_option, options_said, port_said, wire_lexemes, IsWire, wire}
use Rattle.rtlil_print.specs.Printable.{IsCount, IsNumber, IsPrintablePort, IsPrintableLexeme, IsPrintableWire}
use Rattle.rtlil_print.specs.Printed.{lexeme_text, lexemes_spaced, options_spaced, line, item_indent, port_option, option_if, wire_options, wire_line}
use Rattle.rtlil_print.specs.PrintedLines.{wire_at}
use Rattle.rtlil_print.proofs.Printing.{AreLinesOf}
use Rattle.rtlil_print.proofs.PrintedStatements.{lexeme_line}

-- ---- what the options of a wire say

abbrev with_all : ℕ → ℤ → Option ℕ → Option ℕ → Bool → Bool → Options
with_all n z i o u s = record { width = n; offset = z; input = i; output = o; inout = false; upto = u; signed = s }

abbrev input_of : Port → Option ℕ
input_of port.Inner = None
input_of (port.Input n) = Some n
input_of (port.Output n) = None

abbrev output_of : Port → Option ℕ
output_of port.Inner = None
output_of (port.Input n) = None
output_of (port.Output n) = Some n

port_back : (p : Port) → port_said (input_of p) (output_of p) ≡ Some p
port_back port.Inner = refl
port_back (port.Input n) = refl
port_back (port.Output n) = refl

abbrev flags : Bool → Bool → List WireOption
flags u s = option_if u Upto ++ option_if s Signed

abbrev from_port : Port → Bool → Bool → List WireOption
from_port p u s = port_option p ++ flags u s

abbrev from_offset : Bool → ℤ → Port → Bool → Bool → List WireOption
from_offset same z p u s = cond same [] (Offset z ∷ []) ++ from_port p u s

signed_said : (n : ℕ) (z : ℤ) (i o : Option ℕ) (u s : Bool) → fold with_option (with_all n z i o u false) (option_if s Signed) ≡ with_all n z i o u s
signed_said n z i o u true = refl
signed_said n z i o u false = refl

flags_said : (n : ℕ) (z : ℤ) (i o : Option ℕ) (u s : Bool) → fold with_option (with_all n z i o false false) (flags u s) ≡ with_all n z i o u s
flags_said n z i o true s = signed_said n z i o true s
flags_said n z i o false s = signed_said n z i o false s

from_port_said : (n : ℕ) (z : ℤ) (p : Port) (u s : Bool) → fold with_option (with_all n z None None false false) (from_port p u s) ≡ with_all n z (input_of p) (output_of p) u s
from_port_said n z port.Inner u s = flags_said n z None None u s
from_port_said n z (port.Input m) u s = flags_said n z (Some m) None u s
from_port_said n z (port.Output m) u s = flags_said n z None (Some m) u s

from_offset_said : (same : Bool) (n : ℕ) (z : ℤ) (p : Port) (u s : Bool) → int_eq z (pos 0) ≡ same → fold with_option (with_all n (pos 0) None None false false) (from_offset same z p u s) ≡ with_all n z (input_of p) (output_of p) u s
from_offset_said true n z p u s e =
    from_port_said n (pos 0) p u s ∙ ap (λ y. with_all n y (input_of p) (output_of p) u s) (sym ((Decides-int_eq z (pos 0)).0 e))
from_offset_said false n z p u s e = from_port_said n z p u s

all_said : (one zero : Bool) (n : ℕ) (z : ℤ) (p : Port) (u s : Bool) → (n == 1) ≡ one → int_eq z (pos 0) ≡ zero → fold with_option no_options (cond one [] (Width n ∷ []) ++ from_offset zero z p u s) ≡ with_all n z (input_of p) (output_of p) u s
all_said true zero n z p u s e f =
    from_offset_said zero 1 z p u s f ∙ ap (λ m. with_all m z (input_of p) (output_of p) u s) (sym (eqb-true n 1 e))
all_said false zero n z p u s e f = from_offset_said zero n z p u s f

options_are : (w : Wire) → options_said (wire_options w) ≡ with_all w.width w.offset (input_of w.port) (output_of w.port) w.upto w.signed
options_are w = all_said (w.width == 1) (int_eq w.offset (pos 0)) w.width w.offset w.port w.upto w.signed refl refl

is_wire : (number : ℕ) (w : Wire) → IsWire (wire_at number w) (wire_lexemes (wire_options w) w.name)
is_wire number w =
    let all = options_are w in
    record {
      options = wire_options w;
      written = refl;
      supported = ap (λ (o : Options). o.inout) all;
      width_said = sym (ap (λ (o : Options). o.width) all);
      offset_said = sym (ap (λ (o : Options). o.offset) all);
      port_is = sym (ap (λ (o : Options). port_said o.input o.output) all ∙ port_back w.port);
      upto_said = sym (ap (λ (o : Options). o.upto) all);
      signed_said = sym (ap (λ (o : Options). o.signed) all);
    }

-- ---- its words can be printed

abbrev AreWords : List Lexeme → Type 0
AreWords xs = AllByRecursion IsPrintableLexeme xs

abbrev IsOption : WireOption → Type 0
IsOption option = AreWords (option_lexemes option)

words_both : (xs ys : List Lexeme) → AreWords xs → AreWords ys → AreWords (xs ++ ys)
words_both [] ys h g = g
words_both (x ∷ xs) ys h g = (h.0, words_both xs ys h.1 g)

options_both : (os ps : List WireOption) → AllByRecursion IsOption os → AllByRecursion IsOption ps → AllByRecursion IsOption (os ++ ps)
options_both [] ps h g = g
options_both (o ∷ os) ps h g = (h.0, options_both os ps h.1 g)

width_printable : (same : Bool) (n : ℕ) → IsCount n → AllByRecursion IsOption (cond same [] (Width n ∷ []))
width_printable true n h = tt
width_printable false n h = ((tt, (h, tt)), tt)

offset_printable : (same : Bool) (z : ℤ) → IsNumber z → AllByRecursion IsOption (cond same [] (Offset z ∷ []))
offset_printable true z h = tt
offset_printable false z h = ((tt, (h, tt)), tt)

port_printable : (p : Port) → IsPrintablePort p → AllByRecursion IsOption (port_option p)
port_printable port.Inner h = tt
port_printable (port.Input n) h = ((tt, (h, tt)), tt)
port_printable (port.Output n) h = ((tt, (h, tt)), tt)

signed_printable : (s : Bool) → AllByRecursion IsOption (option_if s Signed)
signed_printable true = ((tt, tt), tt)
signed_printable false = tt

flags_printable : (u s : Bool) → AllByRecursion IsOption (flags u s)
flags_printable true s = ((tt, tt), signed_printable s)
flags_printable false s = signed_printable s

options_printable : (w : Wire) → IsPrintableWire w → AllByRecursion IsOption (wire_options w)
options_printable w h =
    let behind = from_port w.port w.upto w.signed in
    let zero = int_eq w.offset (pos 0) in
    let one = w.width == 1 in
    options_both (cond one [] (Width w.width ∷ [])) (cond zero [] (Offset w.offset ∷ []) ++ behind) (width_printable one w.width h.width)
    (options_both (cond zero [] (Offset w.offset ∷ [])) behind (offset_printable zero w.offset h.offset)
    (options_both (port_option w.port) (flags w.upto w.signed) (port_printable w.port h.port) (flags_printable w.upto w.signed)))

abbrev named : List WireOption → List ℕ → List Lexeme
named options name = flat_map option_lexemes options ++ id name ∷ []

named_printable : (options : List WireOption) (name : List ℕ) → AllByRecursion IsOption options → IsId name → AreWords (named options name)
named_printable [] name h i = (i, tt)
named_printable (o ∷ os) name h i =
    subst AreWords (sym (append_assoc (option_lexemes o) (flat_map option_lexemes os) (id name ∷ [])))
    (words_both (option_lexemes o) (named os name) h.0 (named_printable os name h.1 i))

-- ---- its line

spaced-append : (xs ys : List Lexeme) → lexemes_spaced (xs ++ ys) ≡ lexemes_spaced xs ++ lexemes_spaced ys
spaced-append xs ys = flat_map-append (λ x. 32 ∷ lexeme_text x) xs ys

named_spaced : (options : List WireOption) (name : List ℕ) → lexemes_spaced (named options name) ≡ options_spaced options ++ lexemes_spaced (id name ∷ [])
named_spaced [] name = refl
named_spaced (o ∷ os) name =
    ap lexemes_spaced (append_assoc (option_lexemes o) (flat_map option_lexemes os) (id name ∷ []))
    ∙ spaced-append (option_lexemes o) (named os name)
    ∙ ap (λ t. lexemes_spaced (option_lexemes o) ++ t) (named_spaced os name)
    ∙ sym (append_assoc (lexemes_spaced (option_lexemes o)) (options_spaced os) (lexemes_spaced (id name ∷ [])))

pub wire_written : (number k : ℕ) (w : Wire) → k ≡ number + length w.attributes → IsPrintableWire w → AreLinesOf k (wire (wire_at number w) ∷ []) (wire_line w)
wire_written number k w e h =
    subst (λ t. AreLinesOf k (wire (wire_at number w) ∷ []) (line item_indent word.Wire t)) (named_spaced (wire_options w) w.name)
    (lexeme_line k (wire (wire_at number w)) item_indent word.Wire (named (wire_options w) w.name) (refl, (refl, tt))
    (named_printable (wire_options w) w.name (options_printable w h) h.name) (sym e, is_wire number w))

-- The cell that a name stands for, read from the name: `kind_named`. It is the inverse of `cell_name`, which
-- is the table; the law `names_and_cells` says so.
use Rattle.std.specs.Prelude.{ℕ, Bool, true, false, ◌==◌, if◌then◌else◌, List, [], ◌∷◌, drop, take, length, Option, Some, None, option_map}
use Rattle.std.specs.Option.{option_and_then}
use Rattle.std.specs.List.{find}
use Rattle.std.specs.Cmp.Lexicographic.{pointwise}
use Rattle.cell_kinds.specs.Cells.{gate, family}
use Rattle.cell_kinds.specs.declared.kind.CellKind.{CellKind}
use Rattle.cell_kinds.specs.declared.kind.CellKind.TheVariants as cell
use Rattle.cell_kinds.specs.declared.kind.GateKind.{GateKind}
use Rattle.cell_kinds.specs.declared.kind.GateKind.TheVariants.{Buf, Not, And, Nand, Or, Nor, Xor, Xnor, Andnot, Ornot, Mux, Nmux, Aoi3, Oai3, Aoi4, Oai4}
use Rattle.cell_kinds.specs.declared.kind.Flop.{Flop}
use Rattle.cell_kinds.specs.declared.kind.Reset.{Reset}
use Rattle.cell_kinds.specs.declared.names.Letters.{Letters}

abbrev pub level_of : ℕ → Option Bool
level_of letter = if letter == 80 then Some true else (if letter == 78 then Some false else None)

abbrev pub bit_of : ℕ → Option Bool
bit_of letter = if letter == 49 then Some true else (if letter == 48 then Some false else None)

-- the letters by their places: behind the clock two for a reset, then one where there is an enable
abbrev pub letters_of : Bool → List ℕ → Option Letters
letters_of false (c ∷ u ∷ []) = Some (record { clock = c; reset = None; enable = None; last = u })
letters_of false (c ∷ h ∷ v ∷ u ∷ []) = Some (record { clock = c; reset = Some (h, v); enable = None; last = u })
letters_of true (c ∷ e ∷ u ∷ []) = Some (record { clock = c; reset = None; enable = Some e; last = u })
letters_of true (c ∷ h ∷ v ∷ e ∷ u ∷ []) = Some (record { clock = c; reset = Some (h, v); enable = Some e; last = u })
letters_of enabled bs = None

-- a flip-flop without a reset has none at the clock's edge
abbrev pub reset_of : Bool → Option (ℕ × ℕ) → Option (Option Reset)
reset_of false None = Some None
reset_of true None = None
reset_of at_edge (Some r) =
    option_and_then (λ h. option_map (λ v. Some (record { high = h; value = v; synchronous = at_edge })) (bit_of r.1)) (level_of r.0)

abbrev pub enable_of : Option ℕ → Option (Option Bool)
enable_of None = Some None
enable_of (Some e) = option_map (λ h. Some h) (level_of e)

abbrev pub flop_of : Bool → Letters → Option Flop
flop_of at_edge l =
    if l.last == 95 then
    option_and_then (λ c. option_and_then (λ r. option_map (λ e. record { rising = c; reset = r; enable = e }) (enable_of l.enable)) (reset_of at_edge l.reset)) (level_of l.clock)
    else None

-- whether two names are one
abbrev pub is_same : List ℕ → List ℕ → Bool
is_same a b = pointwise (λ x y. x == y) a b

abbrev pub gates : List GateKind
gates = Buf ∷ Not ∷ And ∷ Nand ∷ Or ∷ Nor ∷ Xor ∷ Xnor ∷ Andnot ∷ Ornot ∷ Mux ∷ Nmux ∷ Aoi3 ∷ Oai3 ∷ Aoi4 ∷ Oai4 ∷ []

abbrev pub gate_named : List ℕ → Option GateKind
gate_named name = find (λ kind. is_same (gate kind).name name) gates

-- the flip-flop of a family whose letters these are
abbrev pub flop_lettered : Bool → Bool → List ℕ → Option Flop
flop_lettered at_edge enabled letters = option_and_then (flop_of at_edge) (letters_of enabled letters)

-- that flip-flop, where the name begins with the family; else what another family gives
abbrev pub flop_in : Bool → Bool → List ℕ → Option Flop → Option Flop
flop_in at_edge enabled name other =
    if is_same (family at_edge enabled) (take (length (family at_edge enabled)) name)
    then flop_lettered at_edge enabled (drop (length (family at_edge enabled)) name)
    else other

abbrev pub flop_named : List ℕ → Option Flop
flop_named name = flop_in false false name (flop_in false true name (flop_in true false name (flop_in true true name None)))

abbrev pub gate_or : Option GateKind → Option Flop → Option CellKind
gate_or (Some kind) flop = Some (cell.Gate kind)
gate_or None flop = option_map (λ f. cell.Flop f) flop

unfoldable pub kind_named : List ℕ → Option CellKind
kind_named name = gate_or (gate_named name) (flop_named name)

-- The least lines of what is wrong with the names, widths and ports of cells and connects.
use Rattle.std.specs.Prelude.{◌≡◌, ℕ, Bool, true, false, not, ◌&&◌, ◌||◌, List, [], ◌∷◌, map, filter, min, Option, Some, None, is_none}
use Rattle.std.specs.List.{list_any}
use Rattle.circuit_types.specs.Nets.{Link, is_too_wide, is_unnamed, is_badly_sliced, is_mismatched, is_unsupported, is_module, lacks_port}
use Rattle.circuit_types.specs.declared.tree.Cell.{Cell}
use Rattle.circuit_types.specs.declared.refusal.Refusal.{Refusal}
use Rattle.circuit_types.specs.declared.refusal.Refusal.TheVariants.{UnsupportedCell, Hierarchy, NoWire, BadSlice, WidthMismatch, PortMissing, Limit}
use Rattle.circuit_types.specs.declared.refusal.Which.TheVariants.{SignalWidth}
use Rattle.net_build.specs.declared.faults.Faults.{Faults}

-- the lesser of two lines, where there are two
abbrev pub earlier_of : Option ℕ → Option ℕ → Option ℕ
earlier_of None other = other
earlier_of (Some one) None = Some one
earlier_of (Some one) (Some other) = Some (min one other)

-- the least of some lines
unfoldable pub least_of : List ℕ → Option ℕ
least_of [] = None
least_of (x ∷ xs) = earlier_of (Some x) (least_of xs)

abbrev pub least_link : (Link → Bool) → List Link → Option ℕ
least_link test ls = least_of (map (λ l. l.line) (filter test ls))

abbrev pub least_cell : (Cell → Bool) → List Cell → Option ℕ
least_cell test cs = least_of (map (λ c. c.line) (filter test cs))

-- nothing is wrong
abbrev pub nothing : Faults
nothing = record { too_wide = false; unsupported = None; hierarchy = None; no_wire = None; bad_slice = None; mismatch = None; missing = None }

abbrev pub is_nothing : Faults → Bool
is_nothing f =
    (((((not f.too_wide && is_none f.unsupported) && is_none f.hierarchy) && is_none f.no_wire) && is_none f.bad_slice) && is_none f.mismatch)
    && is_none f.missing

-- what is wrong with two parts together
abbrev pub together : Faults → Faults → Faults
together f g = record {
  too_wide = f.too_wide || g.too_wide;
  unsupported = earlier_of f.unsupported g.unsupported;
  hierarchy = earlier_of f.hierarchy g.hierarchy;
  no_wire = earlier_of f.no_wire g.no_wire;
  bad_slice = earlier_of f.bad_slice g.bad_slice;
  mismatch = earlier_of f.mismatch g.mismatch;
  missing = earlier_of f.missing g.missing;
}

-- what is wrong, where something may be
abbrev pub faults_in : Option Faults → Faults
faults_in None = nothing
faults_in (Some f) = f

-- The faults of these connects and these cells. Widths are told apart where no signal is too wide.
pub record AreFaults (ls : List Link) (cs : List Cell) (f : Faults) : Type 0 where
  pub too_wide : f.too_wide ≡ list_any is_too_wide ls
  pub unsupported : f.unsupported ≡ least_cell is_unsupported cs
  pub hierarchy : f.hierarchy ≡ least_cell is_module cs
  pub no_wire : f.no_wire ≡ least_link is_unnamed ls
  pub bad_slice : f.bad_slice ≡ least_link is_badly_sliced ls
  pub mismatch : f.too_wide ≡ false → f.mismatch ≡ least_link is_mismatched ls
  pub missing : f.missing ≡ least_cell lacks_port cs

abbrev pub else_line : (ℕ → Refusal) → Option ℕ → Option Refusal → Option Refusal
else_line refusal None other = other
else_line refusal (Some line) other = Some (refusal line)

abbrev pub else_all : Bool → Refusal → Option Refusal → Option Refusal
else_all true refusal other = Some refusal
else_all false refusal other = other

-- the first of them
abbrev pub refusal_in : Faults → Option Refusal
refusal_in f =
    else_all f.too_wide (Limit SignalWidth)
    (else_line (λ l. UnsupportedCell l) f.unsupported
    (else_line (λ l. Hierarchy l) f.hierarchy
    (else_line (λ l. NoWire l) f.no_wire
    (else_line (λ l. BadSlice l) f.bad_slice
    (else_line (λ l. WidthMismatch l) f.mismatch
    (else_line (λ l. PortMissing l) f.missing None))))))

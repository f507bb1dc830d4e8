-- Which refusal is due.
use Rattle.std.proofs.Common.{◌≡◌, ◌<◌, ℕ, ◌==◌, true, not, List, length, get_or, All, Option, Some, None, refl, sym, ap, subst, inl, inr, ⊎_elim, position}
use Rattle.std.specs.Option.{option_map_or}
use Rattle.std.proofs.lemmas.Bool.{cases_lt, cases_Bool, eq-eqb}
use Rattle.std.proofs.lemmas.List.{get_or_past}
use Rattle.std.proofs.lemmas.List.Folds.{list_any_at}
use Rattle.cell_kinds.specs.Cells.{input_letters}
use Rattle.cell_kinds.specs.declared.kind.CellKind.{CellKind}
use Rattle.cell_kinds.specs.declared.kind.CellKind.TheVariants.{Gate, Flop}
use Rattle.circuit_types.specs.declared.circuit.Timing.{Timing}
use Rattle.circuit_types.specs.declared.nets.NetCell.{NetCell}
use Rattle.circuit_types.specs.declared.nets.Nets.{Nets}
use Rattle.circuit_types.specs.declared.nets.Source.{Source}
use Rattle.circuit_types.specs.declared.nets.Source.TheVariants as source
use Rattle.circuit_types.specs.declared.refusal.Refusal.TheVariants.{GateLoop, RegisterLoop, ResetNotHeld, EnableNotHeld}
use Rattle.circuit_types.specs.declared.roles.Roles.{Roles}
use Rattle.circuit_types.specs.Causes.{AtCell, level_causes}
use Rattle.circuit_types.specs.DataSources.{cell_at, pin_sources, port_source, IsWithin, IsWired}
use Rattle.circuit_types.specs.Due.{IsDue, IsClear}
use Rattle.circuit_types.specs.Held.{held_value, is_reset_held, is_enable_held, has_open_reset, has_open_enable}
use Rattle.circuit_types.specs.Order.{has, order_of, order, is_levelled, is_settled}
use Rattle.circuit_types.proofs.Cells.{pins_within}
use Rattle.circuit_types.proofs.Listing.{order_is_order}
use Rattle.level_unroll.specs.declared.held.Held.{Held}
use Rattle.level_unroll.specs.Lines.{IsLeastLine}
use Rattle.level_unroll.specs.Shown.{kept_value, ShowsHeld}
use Rattle.level_unroll.proofs.Leasts.{same_least}

-- the cells of the order are the netlist's
pub all_within : (reads : NetCell → List Source) (nets : Nets) (cells : List ℕ) → cells ≡ order_of reads nets → All (λ k. k < length nets.cells) cells
all_within reads nets cells is k d lt =
    subst (λ xs. k < length xs → get_or xs k d < length nets.cells) (sym is)
    (λ l. (order_is_order reads nets).within (get_or (order_of reads nets) k d) (list_any_at (λ m. m == get_or (order_of reads nets) k d) (order_of reads nets) k d l (eq-eqb _ _ refl))) lt

-- no cell is missing from the order
pub all_listed : (nets : Nets) (cells : List ℕ) → IsLeastLine (AtCell nets (λ k. not (has cells k))) None → (k : ℕ) → k < length nets.cells → has cells k ≡ true
all_listed nets cells never k lt =
    ⊎_elim (λ t. t) (λ f. absurd (never (cell_at nets k).line (k, lt, ap not f, refl))) (cases_Bool (has cells k))

pub listed_same : (nets : Nets) (cells order : List ℕ) (least : Option ℕ) → cells ≡ order → IsLeastLine (AtCell nets (λ k. not (has cells k))) least → IsLeastLine (AtCell nets (λ k. not (has order k))) least
listed_same nets cells order least is h = subst (λ xs. IsLeastLine (AtCell nets (λ k. not (has xs k))) least) is h

-- what a port reads is within the netlist
port_within : (nets : Nets) (cell : NetCell) (letter : ℕ) → All (IsWithin nets) (pin_sources cell) → IsWithin nets (port_source cell letter)
port_within nets cell letter pins = go (position (λ l. l == letter) (input_letters cell.kind))
  where
    go : (o : Option ℕ) → IsWithin nets (option_map_or (λ place. get_or (pin_sources cell) place source.Missing) o source.Missing)
    go None = tt
    go (Some place) =
        ⊎_elim (λ lt. pins place source.Missing lt)
        (λ ge. subst (IsWithin nets) (sym (get_or_past (pin_sources cell) place source.Missing ge)) tt)
        (cases_lt place (length (pin_sources cell)))

module _ (roles : Roles) (nets : Nets) (held : Held) (wired : IsWired nets) (shows : ShowsHeld roles nets held) where
  reset_same : (cell : NetCell) (kind : CellKind) → All (IsWithin nets) (pin_sources cell) → has_open_reset (kept_value held) cell kind ≡ has_open_reset (held_value roles nets) cell kind
  reset_same cell (Gate g) pins = refl
  reset_same cell (Flop f) pins = ap (λ v. not (is_reset_held f.reset v)) (shows.each (port_source cell 82) (port_within nets cell 82 pins))

  enable_same : (cell : NetCell) (kind : CellKind) → All (IsWithin nets) (pin_sources cell) → has_open_enable (kept_value held) cell kind ≡ has_open_enable (held_value roles nets) cell kind
  enable_same cell (Gate g) pins = refl
  enable_same cell (Flop f) pins = ap (λ v. not (is_enable_held f.enable v)) (shows.each (port_source cell 69) (port_within nets cell 69 pins))

  pub resets_same : (least : Option ℕ) → IsLeastLine (AtCell nets (λ k. has_open_reset (kept_value held) (cell_at nets k) (cell_at nets k).kind)) least
      → IsLeastLine (AtCell nets (λ k. has_open_reset (held_value roles nets) (cell_at nets k) (cell_at nets k).kind)) least
  resets_same least h = same_least nets _ _ (λ k lt. reset_same (cell_at nets k) (cell_at nets k).kind (pins_within nets k wired lt)) least h

  pub enables_same : (least : Option ℕ) → IsLeastLine (AtCell nets (λ k. has_open_enable (kept_value held) (cell_at nets k) (cell_at nets k).kind)) least
      → IsLeastLine (AtCell nets (λ k. has_open_enable (held_value roles nets) (cell_at nets k) (cell_at nets k).kind)) least
  enables_same least h = same_least nets _ _ (λ k lt. enable_same (cell_at nets k) (cell_at nets k).kind (pins_within nets k wired lt)) least h

module _ (roles : Roles) (timing : Timing) (nets : Nets) where
  abbrev pub Gates : Option ℕ → Type 0
  Gates least = IsLeastLine (AtCell nets (λ k. not (is_levelled nets k))) least

  abbrev pub Registers : Option ℕ → Type 0
  Registers least = IsLeastLine (AtCell nets (λ k. not (is_settled timing nets k))) least

  abbrev pub Resets : Option ℕ → Type 0
  Resets least = IsLeastLine (AtCell nets (λ k. has_open_reset (held_value roles nets) (cell_at nets k) (cell_at nets k).kind)) least

  abbrev pub Enables : Option ℕ → Type 0
  Enables least = IsLeastLine (AtCell nets (λ k. has_open_enable (held_value roles nets) (cell_at nets k) (cell_at nets k).kind)) least

  pub gate_loop_due : (line : ℕ) → Gates (Some line) → IsDue (level_causes roles timing nets) (GateLoop line)
  unfolding level_causes
  gate_loop_due line gates = inl (line, gates, refl)

  pub register_loop_due : (line : ℕ) → Gates None → Registers (Some line) → IsDue (level_causes roles timing nets) (RegisterLoop line)
  unfolding level_causes
  register_loop_due line gates registers = inr (gates, inl (line, registers, refl))

  pub reset_due : (line : ℕ) → Gates None → Registers None → Resets (Some line) → IsDue (level_causes roles timing nets) (ResetNotHeld line)
  unfolding level_causes
  reset_due line gates registers resets = inr (gates, inr (registers, inl (line, resets, refl)))

  pub enable_due : (line : ℕ) → Gates None → Registers None → Resets None → Enables (Some line) → IsDue (level_causes roles timing nets) (EnableNotHeld line)
  unfolding level_causes
  enable_due line gates registers resets enables = inr (gates, inr (registers, inr (resets, inl (line, enables, refl))))

  pub none_due : Gates None → Registers None → Resets None → Enables None → IsClear (level_causes roles timing nets)
  unfolding level_causes
  none_due gates registers resets enables = (gates, (registers, (resets, (enables, tt))))

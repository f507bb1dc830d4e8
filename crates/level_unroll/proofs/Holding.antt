-- At what values the cells so far are held.
use Rattle.std.proofs.Common.{◌≡◌, ◌<◌, ◌≤◌, ℕ, ◌+◌, Bool, true, false, ◌==◌, List, [], ◌∷◌, All, length, map, take, set, get_or, Option, None, refl, sym, ap, ◌∙◌, subst, arith, true≢false, ⊎_elim, get_or-set_same, get_or-set_other}
use Rattle.std.specs.List.{list_all}
use Rattle.std.proofs.lemmas.List.Folds.{list_any_at}
use Rattle.std.specs.Option.{option_and_then}
use Rattle.std.proofs.lemmas.Bool.{cases_eq, and_parts, eq-eqb}
use Rattle.std.proofs.lemmas.List.{take_more, take_all}
use Rattle.std.proofs.lemmas.List.Elements.{All-head, All-tail}
use Rattle.cell_kinds.specs.declared.kind.CellKind.{CellKind}
use Rattle.cell_kinds.specs.declared.kind.CellKind.TheVariants.{Gate, Flop}
use Rattle.circuit_types.specs.declared.nets.NetCell.{NetCell}
use Rattle.circuit_types.specs.declared.nets.Nets.{Nets}
use Rattle.circuit_types.specs.declared.nets.Source.{Source}
use Rattle.circuit_types.specs.declared.nets.Source.TheVariants as source
use Rattle.circuit_types.specs.declared.roles.Roles.{Roles}
use Rattle.circuit_types.specs.DataSources.{cell_at, pin_sources, gate_sources, IsWithin, IsWired}
use Rattle.circuit_types.specs.Held.{held_cell, held_value}
use Rattle.circuit_types.specs.InputBits.{role_of, held_bit}
use Rattle.circuit_types.specs.Order.{has, is_ready, order_of, AllLevelled}
use Rattle.circuit_types.proofs.ByCells.{held_by_cells, gate_reads, flop_held}
use Rattle.circuit_types.proofs.Cells.{pins_within}
use Rattle.circuit_types.proofs.Listing.{order_is_order}
use Rattle.circuit_types.proofs.Ranges.{has-push_cases}
use Rattle.level_unroll.specs.declared.held.Held.{Held}
use Rattle.level_unroll.specs.Shown.{kept_value, IsKept, ShowsHeld}

-- where there is a place for each bit and cell, there is one for each source of the netlist
pub kept_within : (nets : Nets) (held : Held) → length held.bits.items ≡ length nets.sources → length held.cells.items ≡ length nets.cells → (s : Source) → IsWithin nets s → IsKept held s
kept_within nets held bits cells (source.Input b) w = let l : b < length nets.sources = w in omega arith
kept_within nets held bits cells (source.Cell k) w = let l : k < length nets.cells = w in omega arith
kept_within nets held bits cells source.Zero w = tt
kept_within nets held bits cells source.One w = tt
kept_within nets held bits cells source.Unknown w = tt
kept_within nets held bits cells source.Missing w = tt

pub all_kept : (nets : Nets) (held : Held) → length held.bits.items ≡ length nets.sources → length held.cells.items ≡ length nets.cells → (ss : List Source) → All (IsWithin nets) ss → All (IsKept held) ss
all_kept nets held bits cells ss within k d lt = kept_within nets held bits cells (get_or ss k d) (within k d lt)

module _ (nets : Nets) (roles : Roles) (levelled : AllLevelled nets) where
  -- what is held of the sources that are no cells
  pub leaves_shown : (held : Held) → ((b : ℕ) → b < length nets.sources → get_or held.bits.items b None ≡ option_and_then held_bit (role_of roles b))
      → (s : Source) → IsWithin nets s → is_ready (λ k. false) s ≡ true → kept_value held s ≡ held_value roles nets s
  leaves_shown held bits (source.Input b) w r = bits b w ∙ sym ((held_by_cells roles nets levelled).input b)
  leaves_shown held bits (source.Cell k) w r = absurd (true≢false (sym r))
  leaves_shown held bits source.Zero w r = sym ((held_by_cells roles nets levelled).zero_bit)
  leaves_shown held bits source.One w r = sym ((held_by_cells roles nets levelled).one_bit)
  leaves_shown held bits source.Unknown w r = sym ((held_by_cells roles nets levelled).unknown_bit)
  leaves_shown held bits source.Missing w r = sym ((held_by_cells roles nets levelled).missing)

  module _ (held : Held) (done : ℕ → Bool) (shown : (s : Source) → IsWithin nets s → is_ready done s ≡ true → kept_value held s ≡ held_value roles nets s) where
    map_shown : (ss : List Source) → All (IsWithin nets) ss → list_all (is_ready done) ss ≡ true → map (kept_value held) ss ≡ map (held_value roles nets) ss
    map_shown [] within ready = refl
    map_shown (s ∷ ss) within ready =
        let p = and_parts (is_ready done s) (list_all (is_ready done) ss) ready in
        let a = shown s (All-head (IsWithin nets) s ss within) p.0 in
        let b = map_shown ss (All-tail (IsWithin nets) s ss within) p.1 in
        cc

    cell_shown : (cell : NetCell) (kind : CellKind) → cell.kind ≡ kind → All (IsWithin nets) (pin_sources cell) → list_all (is_ready done) (gate_sources cell) ≡ true
        → held_cell cell.kind (map (kept_value held) (pin_sources cell)) ≡ held_cell cell.kind (map (held_value roles nets) (pin_sources cell))
    cell_shown cell (Gate g) is within ready =
        ap (held_cell cell.kind) (map_shown (pin_sources cell) within (sym (ap (list_all (is_ready done)) (gate_reads cell g is)) ∙ ready))
    cell_shown cell (Flop f) is within ready =
        ap (λ kind. held_cell kind (map (kept_value held) (pin_sources cell))) is
        ∙ flop_held f (map (kept_value held) (pin_sources cell)) (map (held_value roles nets) (pin_sources cell))
        ∙ sym (ap (λ kind. held_cell kind (map (held_value roles nets) (pin_sources cell))) is)

  module _ (order : List ℕ) (is_order : order ≡ order_of gate_sources nets) where
    pub order_within : (i : ℕ) → i < length order → get_or order i 0 < length nets.cells
    order_within i lt = subst (λ xs. i < length xs → get_or xs i 0 < length nets.cells) (sym is_order) (λ l. (order_is_order gate_sources nets).within (get_or (order_of gate_sources nets) i 0) (has_at (order_of gate_sources nets) i l)) lt
      where
        has_at : (xs : List ℕ) (i : ℕ) → i < length xs → has xs (get_or xs i 0) ≡ true
        has_at xs i l = list_any_at (λ m. m == get_or xs i 0) xs i 0 l (eq-eqb (get_or xs i 0) (get_or xs i 0) refl)

    -- one more cell
    pub more_shown : IsWired nets → (held new : Held) (i next : ℕ) (value : Option Bool) → next ≡ i + 1 → i < length order
        → length held.cells.items ≡ length nets.cells
        → new.bits ≡ held.bits → new.cells.items ≡ set held.cells.items (get_or order i 0) value
        → value ≡ held_cell (cell_at nets (get_or order i 0)).kind (map (kept_value held) (pin_sources (cell_at nets (get_or order i 0))))
        → ((s : Source) → IsWithin nets s → is_ready (has (take i order)) s ≡ true → kept_value held s ≡ held_value roles nets s)
        → (s : Source) → IsWithin nets s → is_ready (has (take next order)) s ≡ true → kept_value new s ≡ held_value roles nets s
    more_shown wired held new i next value is lt len bits cells was shown s within ready = go s within ready
      where
        go : (s : Source) → IsWithin nets s → is_ready (has (take next order)) s ≡ true → kept_value new s ≡ held_value roles nets s
        go (source.Input b) w r = ap (λ v. get_or v.items b None) bits ∙ shown (source.Input b) w refl
        go source.Zero w r = shown source.Zero w refl
        go source.One w r = shown source.One w refl
        go source.Unknown w r = shown source.Unknown w refl
        go source.Missing w r = shown source.Missing w refl
        go (source.Cell k) w r =
            let k_lt : k < length nets.cells = w in
            let here = order_within i lt in
            let stands = subst (λ xs. i < length xs → list_all (is_ready (has (take i xs))) (gate_sources (cell_at nets (get_or xs i 0))) ≡ true) (sym is_order) ((order_is_order gate_sources nets).after i) lt in
            ⊎_elim
            (λ same.
            ap (λ xs. get_or xs k None) cells
            ∙ ap (λ n. get_or (set held.cells.items (get_or order i 0) value) n None) same
            ∙ get_or-set_same held.cells.items (get_or order i 0) value None (omega arith)
            ∙ was
            ∙ cell_shown held (has (take i order)) shown (cell_at nets (get_or order i 0)) (cell_at nets (get_or order i 0)).kind refl (pins_within nets (get_or order i 0) wired here) stands
            ∙ sym ((held_by_cells roles nets levelled).cell (get_or order i 0) here)
            ∙ ap (λ n. held_value roles nets (source.Cell n)) (sym same))
            (λ other.
            ap (λ xs. get_or xs k None) cells
            ∙ get_or-set_other held.cells.items (get_or order i 0) k value None other
            ∙ shown (source.Cell k) w
            (⊎_elim (λ l. l) (λ e. absurd (other (sym e)))
            (has-push_cases (take i order) (get_or order i 0) k (subst (λ xs. has xs k ≡ true) (ap (λ n. take n order) is ∙ take_more order i 0 lt) r))))
            (cases_eq k (get_or order i 0))

    pub all_shown : (held : Held) (i : ℕ) → length order ≤ i → length held.bits.items ≡ length nets.sources → length held.cells.items ≡ length nets.cells
        → ((s : Source) → IsWithin nets s → is_ready (has (take i order)) s ≡ true → kept_value held s ≡ held_value roles nets s) → ShowsHeld roles nets held
    all_shown held i le bits cells shown = record {
      one_each_bit = bits;
      one_each_cell = cells;
      each = λ s w. shown s w (ready s w);
    }
      where
        ready : (s : Source) → IsWithin nets s → is_ready (has (take i order)) s ≡ true
        ready (source.Cell k) w = subst (λ xs. has xs k ≡ true) (sym (take_all i order le ∙ is_order)) (levelled k w)
        ready (source.Input b) w = refl
        ready source.Zero w = refl
        ready source.One w = refl
        ready source.Unknown w = refl
        ready source.Missing w = refl

-- One more cell of a cycle.
use Rattle.std.proofs.Common.{◌≡◌, ℕ, zero, suc, ◌+◌, ◌-◌, ◌<◌, ◌≤◌, ◌==◌, true, IsTrue, List, [], ◌∷◌, ◌++◌, length, map, take, drop, get_or, set, replicate, Some, slice_get, refl, sym, ap, ◌∙◌, subst, arith, ⊎_elim, true≢false}
use Rattle.std.specs.List.{flat_map, list_all}
use Rattle.std.specs.Option.{option_map_or}
use Rattle.std.proofs.lemmas.Bool.{cases_eq, eq-eqb, or_left, or_right}
use Rattle.std.proofs.lemmas.List.{append-nil, take_all, take_more, take-append-drop}
use Rattle.std.proofs.lemmas.List.Concat.{flat_map-append}
use Rattle.std.proofs.lemmas.Option.{slice_get-get_or}
use Rattle.cell_kinds.specs.declared.kind.CellKind.{CellKind}
use Rattle.cell_kinds.specs.declared.kind.CellKind.TheVariants.{Gate, Flop}
use Rattle.cell_kinds.specs.declared.kind.Flop.{Flop as AnyFlop}
use Rattle.cell_kinds.specs.declared.kind.GateKind.{GateKind}
use Rattle.circuit_types.specs.declared.circuit.Circuit.{Circuit}
use Rattle.circuit_types.specs.declared.circuit.Timing.{Timing}
use Rattle.circuit_types.specs.declared.circuit.Timing.TheVariants.{Settled, Cycles}
use Rattle.circuit_types.specs.declared.nets.NetCell.{NetCell}
use Rattle.circuit_types.specs.declared.nets.Nets.{Nets}
use Rattle.circuit_types.specs.declared.nets.Source.{Source}
use Rattle.circuit_types.specs.declared.nets.Source.TheVariants as source
use Rattle.circuit_types.specs.declared.refusal.Stop.{Stop}
use Rattle.circuit_types.specs.DataSources.{cell_at, pin_sources, data_source, data_sources, IsWithin, IsWired}
use Rattle.circuit_types.specs.Order.{has, is_ready, IsLevelled, IsOrder}
use Rattle.circuit_types.specs.Value.{start_value}
use Rattle.circuit_types.proofs.ByCells.{gate_reads, settled_gate_reads, settled_flop_reads}
use Rattle.circuit_types.proofs.Cells.{cell_read, pins_within}
use Rattle.circuit_types.proofs.Listing.{order_is_order}
use Rattle.circuit_types.proofs.Ranges.{has-push_cases}
use Rattle.expr_table.specs.declared.node.Node.{Node}
use Rattle.expr_table.specs.declared.node.Row.{Row}
use Rattle.expr_table.specs.Table.{Table, Extends, IsRowOf}
use Rattle.expr_table.specs.Term.{Term}
use Rattle.expr_table.proofs.Facts.{Extends-row, Extends-length}
use Rattle.term_build.specs.declared.cycle_rows.CycleRows.{CycleRows}
use Rattle.term_build.specs.Building.{AreCycleRows, AreCycles, AreRows, Grows, HasConstants, IsShownCell, MadeCells, MadeRow, MadeSome, ShowBits, ShowCycles, ShowsCycle, StopsAt, constant_row, kept_row, row_at, row_of}
use Rattle.term_build.specs.InputTerms.{constant}
use Rattle.term_build.specs.SourceTerms.{TermAssignment, assigned_term, kept_cell_term}
use Rattle.term_build.specs.TermInstance.{cell_parts, kind_parts}
use Rattle.term_build.proofs.ByCells.{terms_by_cells}
use Rattle.term_build.proofs.InputRoles.{row-set_same, row-set_other}
use Rattle.term_build.proofs.LeafRows.{row-replicate}
use Rattle.term_build.proofs.Making.{Grows-more, Grows-none, StopsAt-more}
use Rattle.term_build.proofs.Shown.{cell-term, constant-shown, data_within, kept_term, ready_at}

-- rows stay rows, cycle by cycle
module _ (old new : Table) (kept : Extends old new) where
  pub AreCycleRows-kept : (rows : CycleRows) → AreCycleRows old.nodes rows → AreCycleRows new.nodes rows
  AreCycleRows-kept rows are = record { each = λ s. omega (arith, are.each s, Extends-length old new kept) }

  pub AreCycles-kept : (done : List CycleRows) → AreCycles old.nodes done → AreCycles new.nodes done
  AreCycles-kept done are = record { each = λ c d lt. AreCycleRows-kept (get_or done c d) (are.each c d lt) }

  pub ShowsCycle-kept : (nets : Nets) (term : Source → Term) (rows : CycleRows) → ShowsCycle nets old.nodes term rows → ShowsCycle nets new.nodes term rows
  ShowsCycle-kept nets term rows shows = record { each = λ s within. Extends-row old new kept (row_of rows s) (term s) (shows.each s within) }

  pub ShowCycles-kept : (nets : Nets) (term : ℕ → Source → Term) (done : List CycleRows) → ShowCycles nets old.nodes term done → ShowCycles nets new.nodes term done
  ShowCycles-kept nets term done shows = record { each = λ c d lt. ShowsCycle-kept nets (term c) (get_or done c d) (shows.each c d lt) }

-- what a cell reads has its rows
module _ (nets : Nets) (wired : IsWired nets) (nodes : List Node) (constants : HasConstants nodes) (term : ℕ → Source → Term) (rows : CycleRows) (cells : List ℕ) (k : ℕ) (lt : k < length nets.cells) where
  abbrev AreReady : List Source → Type 0
  AreReady ss = list_all (is_ready (has cells)) ss ≡ true

  abbrev Shows : ℕ → Type 0
  Shows c = (s : Source) → IsWithin nets s → IsTrue (is_ready (has cells) s) → IsRowOf nodes (row_of rows s) (term c s)

  gate-reads : (timing : Timing) (g : GateKind) → (cell_at nets k).kind ≡ Gate g → data_sources timing (cell_at nets k) ≡ pin_sources (cell_at nets k)
  gate-reads Settled g is = settled_gate_reads (cell_at nets k) g is
  gate-reads (Cycles n) g is = gate_reads (cell_at nets k) g is

  before-shown : (n : ℕ) (f : AnyFlop) → (cell_at nets k).kind ≡ Flop f → (done : List CycleRows) → ShowCycles nets nodes term done
      → IsRowOf nodes (option_map_or (λ (before : CycleRows). row_of before (data_source (cell_at nets k))) (slice_get done (length done - 1)) (constant_row (start_value (Flop f)))) (kept_term (Cycles n) nets term (length done) (cell_at nets k))
  before-shown n f is [] shows = subst (λ kind. IsRowOf nodes (constant_row (start_value (Flop f))) (constant (start_value kind))) (sym is) (constant-shown nodes constants (start_value (Flop f)))
  before-shown n f is (x ∷ xs) shows =
      let e : length (x ∷ xs) - 1 ≡ length xs = omega arith in
      let last : slice_get (x ∷ xs) (length (x ∷ xs) - 1) ≡ Some (get_or (x ∷ xs) (length xs) x) = ap (slice_get (x ∷ xs)) e ∙ slice_get-get_or (x ∷ xs) (length xs) x (omega arith) in
      subst (λ o. IsRowOf nodes (option_map_or (λ (before : CycleRows). row_of before (data_source (cell_at nets k))) o (constant_row (start_value (Flop f)))) (term (length xs) (data_source (cell_at nets k)))) (sym last)
      ((shows.each (length xs) x (omega arith)).each (data_source (cell_at nets k)) (data_within nets k wired lt))

  flop-shown : (timing : Timing) (done : List CycleRows) (f : AnyFlop) → (cell_at nets k).kind ≡ Flop f → AreReady (data_sources timing (cell_at nets k)) → Shows (length done) → ShowCycles nets nodes term done
      → IsRowOf nodes (kept_row timing rows done (cell_at nets k) f) (kept_term timing nets term (length done) (cell_at nets k))
  flop-shown Settled done f is ready shows before =
      shows (data_source (cell_at nets k)) (data_within nets k wired lt)
      (ready_at (has cells) (data_source (cell_at nets k) ∷ []) 0 (data_source (cell_at nets k)) (omega arith) (subst AreReady (settled_flop_reads (cell_at nets k) f is) ready))
  flop-shown (Cycles n) done f is ready shows before = before-shown n f is done before

  pub shown-cell : (timing : Timing) (done : List CycleRows) → AreReady (data_sources timing (cell_at nets k)) → Shows (length done) → ShowCycles nets nodes term done
      → IsShownCell nodes timing rows done (term (length done)) (kept_term timing nets term (length done) (cell_at nets k)) (cell_at nets k) (cell_at nets k).kind
  shown-cell timing done ready shows before = by (cell_at nets k).kind refl
    where
      by : (kind : CellKind) → (cell_at nets k).kind ≡ kind → IsShownCell nodes timing rows done (term (length done)) (kept_term timing nets term (length done) (cell_at nets k)) (cell_at nets k) kind
      by (Gate g) is = λ j d l. shows (get_or (pin_sources (cell_at nets k)) j d) (pins_within nets k wired lt j d l)
          (ready_at (has cells) (pin_sources (cell_at nets k)) j d l (subst AreReady (gate-reads timing g is) ready))
      by (Flop f) is = flop-shown timing done f is ready shows before

-- one row is set
abbrev pub IsOther : ℕ → Source → Type 0
IsOther k (source.Cell j) = j ≡ k → ⊥
IsOther k other = Unit {0}

module _ (rows more : CycleRows) (k : ℕ) (r : Row) (lt : k < length rows.cells.items) (bits_stay : more.bits.items ≡ rows.bits.items) (cells_set : more.cells.items ≡ set rows.cells.items k r) where
  pub row-cases : (P : Source → ℕ → Type 0) → P (source.Cell k) r.0 → ((s : Source) → IsOther k s → P s (row_of rows s)) → (s : Source) → P s (row_of more s)
  row-cases P here others (source.Cell j) =
      ⊎_elim
      (λ e. subst (λ x. P (source.Cell x) (row_of more (source.Cell x))) (sym e) (subst (P (source.Cell k)) (sym (ap (λ cs. row_at cs k) cells_set ∙ row-set_same rows.cells.items k r lt)) here))
      (λ ne. subst (P (source.Cell j)) (sym (ap (λ cs. row_at cs j) cells_set ∙ row-set_other rows.cells.items k j r ne)) (others (source.Cell j) ne))
      (cases_eq j k)
  row-cases P here others (source.Input b) = subst (P (source.Input b)) (sym (ap (λ bs. row_at bs b) bits_stay)) (others (source.Input b) tt)
  row-cases P here others source.Zero = others source.Zero tt
  row-cases P here others source.One = others source.One tt
  row-cases P here others source.Unknown = others source.Unknown tt
  row-cases P here others source.Missing = others source.Missing tt

  pub are-more : (nodes : List Node) → AreCycleRows nodes rows → r.0 < length nodes → AreCycleRows nodes more
  are-more nodes are within = record { each = row-cases (λ s n. n < length nodes) within (λ s other. are.each s) }

ready-less : (cells : List ℕ) (k : ℕ) (s : Source) → IsOther k s → IsTrue (is_ready (has (cells ++ k ∷ [])) s) → IsTrue (is_ready (has cells) s)
ready-less cells k (source.Cell j) ne h = ⊎_elim (λ there. there) (λ same. absurd (ne (sym same))) (has-push_cases cells k j h)
ready-less cells k (source.Input b) ne h = refl
ready-less cells k source.Zero ne h = refl
ready-less cells k source.One ne h = refl
ready-less cells k source.Unknown ne h = refl
ready-less cells k source.Missing ne h = refl

has-at : (xs : List ℕ) (i : ℕ) → i < length xs → has xs (get_or xs i 0) ≡ true
has-at [] i l = absurd (omega arith)
has-at (x ∷ xs) zero l = or_left (x == x) (has xs x) (eq-eqb x x refl)
has-at (x ∷ xs) (suc i) l = or_right (x == get_or xs i 0) (has xs (get_or xs i 0)) (has-at xs i (omega arith))

module _ (circuit : Circuit) (wired : IsWired circuit.nets) (levelled : IsLevelled circuit) (items : List ℕ) (is : items ≡ circuit.order) where
  abbrev nets : Nets
  nets = circuit.nets

  items-order : IsOrder (data_sources circuit.timing) nets items
  items-order = subst (IsOrder (data_sources circuit.timing) nets) (sym (is ∙ levelled.order)) (order_is_order (data_sources circuit.timing) nets)

  module _ (assigned : TermAssignment) where
    abbrev term : ℕ → Source → Term
    term = assigned_term circuit.timing nets assigned

    pub made-all : (old new : Table) (c i : ℕ) (rows : CycleRows) → length items ≤ i → MadeSome circuit old new (term c) (take i items) rows → MadeCells circuit old new (term c) rows
    made-all old new c i rows le some =
        let all : take i items ≡ circuit.order = take_all i items le ∙ is in
        let full : MadeSome circuit old new (term c) circuit.order rows = subst (λ cells. MadeSome circuit old new (term c) cells rows) all some in
        record { grows = full.grows; shows = record { each = λ s within. full.shows s within (ready s within) } }
      where
        ready : (s : Source) → IsWithin nets s → IsTrue (is_ready (has circuit.order) s)
        ready (source.Cell j) within = ap (λ cells. has cells j) levelled.order ∙ levelled.each_settled j within
        ready (source.Input b) within = refl
        ready source.Zero within = refl
        ready source.One within = refl
        ready source.Unknown within = refl
        ready source.Missing within = refl

    pub made-none : (t : Table) (c : ℕ) (rows : CycleRows) → HasConstants t.nodes → ShowBits t.nodes rows.bits.items (λ b. assigned b c) → MadeSome circuit t t (term c) [] rows
    made-none t c rows has_constants bits = record { grows = Grows-none t; shows = by }
      where
        by : (s : Source) → IsWithin nets s → IsTrue (is_ready (has []) s) → IsRowOf t.nodes (row_of rows s) (term c s)
        by (source.Cell j) within h = absurd (true≢false (sym h))
        by (source.Input b) within h = subst (IsRowOf t.nodes (row_at rows.bits.items b)) (sym ((terms_by_cells nets assigned circuit.timing levelled.each_settled).0.input c b)) (bits.each b)
        by source.Zero within h = subst (IsRowOf t.nodes 0) (sym ((terms_by_cells nets assigned circuit.timing levelled.each_settled).0.zero_bit c)) has_constants.zero_row
        by source.One within h = subst (IsRowOf t.nodes 1) (sym ((terms_by_cells nets assigned circuit.timing levelled.each_settled).0.one_bit c)) has_constants.one_row
        by source.Unknown within h = subst (IsRowOf t.nodes 0) (sym ((terms_by_cells nets assigned circuit.timing levelled.each_settled).0.unknown_bit c)) has_constants.zero_row
        by source.Missing within h = subst (IsRowOf t.nodes 0) (sym ((terms_by_cells nets assigned circuit.timing levelled.each_settled).0.missing c)) has_constants.zero_row

  module _ (i : ℕ) (lt : i < length items) where
    abbrev k : ℕ
    k = get_or items i 0

    pub cell-within : k < length nets.cells
    cell-within = items-order.within k (has-at items i lt)

    module _ (cell : NetCell) (cells : List NetCell) (same : cells ≡ nets.cells) (read : cell ≡ get_or cells k cell) (old mid : Table) (assigned : TermAssignment) (rows : CycleRows) (c : ℕ)
        (so_far : MadeSome circuit old mid (assigned_term circuit.timing nets assigned c) (take i items) rows) where
      abbrev term_at : ℕ → Source → Term
      term_at = assigned_term circuit.timing nets assigned

      cell-is : cell ≡ cell_at nets k
      cell-is = cell_read nets k cell cells same cell-within read

      abbrev kept : Term
      kept = kept_term circuit.timing nets term_at c (cell_at nets k)

      pub cell-shown : (done : List CycleRows) → length done ≡ c → HasConstants mid.nodes → ShowCycles nets mid.nodes term_at done → IsShownCell mid.nodes circuit.timing rows done (term_at c) kept cell cell.kind
      cell-shown done count constants before =
          subst (λ (x : NetCell). IsShownCell mid.nodes circuit.timing rows done (term_at c) kept x x.kind) (sym cell-is)
          (subst (λ n. IsShownCell mid.nodes circuit.timing rows done (term_at n) (kept_term circuit.timing nets term_at n (cell_at nets k)) (cell_at nets k) (cell_at nets k).kind) count
          (shown-cell nets wired mid.nodes constants term_at rows (take i items) k cell-within circuit.timing done (items-order.after i lt)
          (subst (λ n. (s : Source) → IsWithin nets s → IsTrue (is_ready (has (take i items)) s) → IsRowOf mid.nodes (row_of rows s) (term_at n s)) (sym count) so_far.shows) before))

      pub cell-more : (new : Table) (r : Row) (more : CycleRows) → length rows.cells.items ≡ length nets.cells → more.bits.items ≡ rows.bits.items → more.cells.items ≡ set rows.cells.items k r
          → MadeRow mid new (kind_parts cell.kind (map (term_at c) (pin_sources cell))) (kept_cell_term kept cell.kind (map (term_at c) (pin_sources cell))) r.0
          → MadeSome circuit old new (term_at c) (take (i + 1) items) more
      cell-more new r more long bits_stay cells_set made =
          let it : MadeRow mid new (cell_parts nets (term_at c) k) (kept_cell_term kept (cell_at nets k).kind (map (term_at c) (pin_sources (cell_at nets k)))) r.0 =
          subst (λ (x : NetCell). MadeRow mid new (kind_parts x.kind (map (term_at c) (pin_sources x))) (kept_cell_term kept x.kind (map (term_at c) (pin_sources x))) r.0) cell-is made in
          let here : IsRowOf new.nodes r.0 (term_at c (source.Cell k)) = subst (IsRowOf new.nodes r.0) (sym (cell-term circuit.timing nets assigned levelled.each_settled c k cell-within)) it.row_is in
          let parts : flat_map (cell_parts nets (term_at c)) (take i items ++ k ∷ []) ≡ flat_map (cell_parts nets (term_at c)) (take i items) ++ cell_parts nets (term_at c) k =
          flat_map-append (cell_parts nets (term_at c)) (take i items) (k ∷ []) ∙ ap (λ l. flat_map (cell_parts nets (term_at c)) (take i items) ++ l) (append-nil (cell_parts nets (term_at c) k)) in
          let result : MadeSome circuit old new (term_at c) (take i items ++ k ∷ []) more = record {
            grows = subst (Grows old new) (sym parts) (Grows-more old mid new (flat_map (cell_parts nets (term_at c)) (take i items)) (cell_parts nets (term_at c) k) so_far.grows it.grows);
            shows = row-cases rows more k r (omega (arith, long, cell-within)) bits_stay cells_set
                (λ s n. IsWithin nets s → IsTrue (is_ready (has (take i items ++ k ∷ [])) s) → IsRowOf new.nodes n (term_at c s))
                (λ within ready. here)
                (λ s other within ready. Extends-row mid new it.grows.kept (row_of rows s) (term_at c s) (so_far.shows s within (ready-less (take i items) k s other ready)));
          } in
          subst (λ cs. MadeSome circuit old new (term_at c) cs more) (sym (take_more items i 0 lt)) result

      pub cell-stop : (stop : Stop) → StopsAt mid (kind_parts cell.kind (map (term_at c) (pin_sources cell))) stop → StopsAt old (flat_map (cell_parts nets (term_at c)) circuit.order) stop
      cell-stop stop stops =
          let f = cell_parts nets (term_at c) in
          let it : StopsAt mid (f k) stop = subst (λ (x : NetCell). StopsAt mid (kind_parts x.kind (map (term_at c) (pin_sources x))) stop) cell-is stops in
          let parts : flat_map f (take i items ++ k ∷ []) ≡ flat_map f (take i items) ++ f k = flat_map-append f (take i items) (k ∷ []) ∙ ap (λ l. flat_map f (take i items) ++ l) (append-nil (f k)) in
          let all : flat_map f circuit.order ≡ (flat_map f (take i items) ++ f k) ++ flat_map f (drop (i + 1) items) =
          ap (flat_map f) (sym is ∙ sym (take-append-drop (i + 1) items)) ∙ flat_map-append f (take (i + 1) items) (drop (i + 1) items)
          ∙ ap (λ l. l ++ flat_map f (drop (i + 1) items)) (ap (flat_map f) (take_more items i 0 lt) ∙ parts) in
          StopsAt-more old mid (flat_map f (take i items)) (f k) (flat_map f (drop (i + 1) items)) (flat_map f circuit.order) stop so_far.grows all it

-- no cell has its row
pub are-none : (nodes : List Node) (rows : CycleRows) (n : ℕ) (z : Row) → z.0 ≡ 0 → rows.cells.items ≡ replicate n z → HasConstants nodes → AreRows nodes rows.bits.items → AreCycleRows nodes rows
are-none nodes rows n z is cells has_constants bits = record { each = by }
  where
    by : (s : Source) → row_of rows s < length nodes
    by (source.Cell j) = subst (λ m. m < length nodes) (sym (ap (λ cs. row_at cs j) cells ∙ row-replicate n j z is)) has_constants.zero_row.within
    by (source.Input b) = bits.each b
    by source.Zero = has_constants.zero_row.within
    by source.One = has_constants.one_row.within
    by source.Unknown = has_constants.zero_row.within
    by source.Missing = has_constants.zero_row.within

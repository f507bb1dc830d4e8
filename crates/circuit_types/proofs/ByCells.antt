-- What is found of cells, for the definitions that are given by what is found.
use Rattle.std.proofs.Common.{◌≡◌, ℕ, zero, suc, ◌+◌, ◌<◌, ◌≤◌, Bool, true, false, List, [], ◌∷◌, ◌++◌, length, map, Option, None, Some, refl, sym, ap, ◌∙◌, subst, arith}
use Rattle.std.specs.List.{flat_map, list_all}
use Rattle.std.proofs.lemmas.Bool.{cases_Bool}
use Rattle.cell_kinds.specs.Cells.{gate_value}
use Rattle.cell_kinds.specs.declared.kind.CellKind.{CellKind}
use Rattle.cell_kinds.specs.declared.kind.CellKind.TheVariants.{Gate, Flop}
use Rattle.cell_kinds.specs.declared.kind.Flop.{Flop as AnyFlop}
use Rattle.cell_kinds.specs.declared.kind.GateKind.{GateKind}
use Rattle.circuit_types.specs.declared.circuit.Timing.{Timing}
use Rattle.circuit_types.specs.declared.circuit.Timing.TheVariants.{Settled, Cycles}
use Rattle.circuit_types.specs.declared.nets.NetCell.{NetCell}
use Rattle.circuit_types.specs.declared.nets.Nets.{Nets}
use Rattle.circuit_types.specs.declared.nets.Source.{Source}
use Rattle.circuit_types.specs.declared.nets.Source.TheVariants as source
use Rattle.circuit_types.specs.declared.roles.Roles.{Roles}
use Rattle.circuit_types.specs.DataSources.{cell_at, pin_sources, data_source, by_kind, gate_sources, settled_sources, data_sources}
use Rattle.circuit_types.specs.Found.{found}
use Rattle.circuit_types.specs.Held.{held_leaf, held_cell, held_value, AreHeldByCells}
use Rattle.circuit_types.specs.Order.{has, is_ready, order_of, IsClosed, AllSettled, AllLevelled}
use Rattle.circuit_types.specs.Stable.{stable_leaf, stable_cell, stable_sources, AreStableByCells}
use Rattle.circuit_types.specs.Value.{Assignment, leaf_value, settled_cell_value, kept_cell_value, start_value, settled_value, value_in_cycle, cycle_value, value, GatesHaveValues, FlopsHaveValues}
use Rattle.circuit_types.proofs.Listing.{order_is_order, order_length, order_is_least}
use Rattle.circuit_types.proofs.Finding.{found_leaf, found_cell}

-- cells that are settled, are levelled
module _ (nets : Nets) where
  closed_more : IsClosed settled_sources nets (has (order_of gate_sources nets))
  closed_more k lt ready = (order_is_least gate_sources nets).closed k lt (of_kind (cell_at nets k) (has (order_of gate_sources nets)) (cell_at nets k).kind refl ready)
    where
      of_kind : (cell : NetCell) (done : ℕ → Bool) (kind : CellKind) → cell.kind ≡ kind → list_all (is_ready done) (settled_sources cell) ≡ true → list_all (is_ready done) (gate_sources cell) ≡ true
      of_kind cell done (Gate g) is h =
          let a : settled_sources cell ≡ pin_sources cell = ap (λ kind. by_kind kind (pin_sources cell) (data_source cell ∷ [])) is in
          let b : gate_sources cell ≡ pin_sources cell = ap (λ kind. by_kind kind (pin_sources cell) []) is in
          subst (λ ss. list_all (is_ready done) ss ≡ true) (a ∙ sym b) h
      of_kind cell done (Flop f) is h =
          let b : gate_sources cell ≡ [] = ap (λ kind. by_kind kind (pin_sources cell) []) is in
          subst (λ ss. list_all (is_ready done) ss ≡ true) (sym b) refl

  pub settled_are_levelled : (timing : Timing) → AllSettled timing nets → AllLevelled nets
  settled_are_levelled Settled all k lt = (order_is_least settled_sources nets).least (has (order_of gate_sources nets)) closed_more k (all k lt)
  settled_are_levelled (Cycles n) all k lt = all k lt

-- what a cell of a kind reads
module _ (cell : NetCell) where
  pub gate_reads : (g : GateKind) → cell.kind ≡ Gate g → gate_sources cell ≡ pin_sources cell
  gate_reads g is = ap (λ kind. by_kind kind (pin_sources cell) []) is

  pub settled_gate_reads : (g : GateKind) → cell.kind ≡ Gate g → settled_sources cell ≡ pin_sources cell
  settled_gate_reads g is = ap (λ kind. by_kind kind (pin_sources cell) (data_source cell ∷ [])) is

  pub settled_flop_reads : (f : AnyFlop) → cell.kind ≡ Flop f → settled_sources cell ≡ data_source cell ∷ []
  settled_flop_reads f is = ap (λ kind. by_kind kind (pin_sources cell) (data_source cell ∷ [])) is

-- what is found, where every cell is in the order
module _ {V : Type 0} (leaf : Source → V) (of_cell : ℕ → List V → V) (reads : NetCell → List Source) (nets : Nets) where
  pub found_in_order : ((k : ℕ) → k < length nets.cells → has (order_of reads nets) k ≡ true) → (k : ℕ) → k < length nets.cells
      → found leaf of_cell reads nets (source.Cell k) ≡ of_cell k (map (found leaf of_cell reads nets) (reads (cell_at nets k)))
  found_in_order all k lt =
      let order = order_is_order reads nets in
      found_cell leaf of_cell reads nets (order_of reads nets) order.after (order_length reads nets) k (all k lt)

flat_map-map : (f : Source → List Source) (ss : List Source) → flat_map (λ sources. sources) (map f ss) ≡ flat_map f ss
flat_map-map f [] = refl
flat_map-map f (s ∷ ss) = ap (λ rest. f s ++ rest) (flat_map-map f ss)

module _ (roles : Roles) (nets : Nets) where
  pub stable_by_cells : AllLevelled nets → AreStableByCells roles nets (stable_sources roles nets)
  unfolding stable_sources
  stable_by_cells all = record {
    input = λ bit. found_leaf (stable_leaf roles) (λ k. stable_cell (cell_at nets k).kind k) gate_sources nets (source.Input bit) (λ f g. refl);
    zero_bit = found_leaf (stable_leaf roles) (λ k. stable_cell (cell_at nets k).kind k) gate_sources nets source.Zero (λ f g. refl);
    one_bit = found_leaf (stable_leaf roles) (λ k. stable_cell (cell_at nets k).kind k) gate_sources nets source.One (λ f g. refl);
    flop = λ k f lt is.
        let behind = found (stable_leaf roles) (λ k. stable_cell (cell_at nets k).kind k) gate_sources nets in
        found_in_order (stable_leaf roles) (λ k. stable_cell (cell_at nets k).kind k) gate_sources nets all k lt
        ∙ ap (λ kind. stable_cell kind k (map behind (gate_sources (cell_at nets k)))) is;
    gate = λ k g lt is.
        let behind = found (stable_leaf roles) (λ k. stable_cell (cell_at nets k).kind k) gate_sources nets in
        found_in_order (stable_leaf roles) (λ k. stable_cell (cell_at nets k).kind k) gate_sources nets all k lt
        ∙ ap (λ kind. stable_cell kind k (map behind (gate_sources (cell_at nets k)))) is
        ∙ ap (λ ss. flat_map (λ sources. sources) (map behind ss)) (gate_reads (cell_at nets k) g is)
        ∙ flat_map-map behind (pin_sources (cell_at nets k));
  }

pub flop_held : (f : AnyFlop) (vs ws : List (Option Bool)) → held_cell (Flop f) vs ≡ held_cell (Flop f) ws
flop_held f [] [] = refl
flop_held f [] (w ∷ ws) = refl
flop_held f (v ∷ vs) [] = refl
flop_held f (v ∷ vs) (w ∷ ws) = refl

-- what a buffer or an inverter reads is what any gate reads; another cell is not held whatever it reads
held_reads : (cell : NetCell) (held : Source → Option Bool) → held_cell cell.kind (map held (gate_sources cell)) ≡ held_cell cell.kind (map held (pin_sources cell))
held_reads cell held = of_kind cell.kind refl
  where
    of_kind : (kind : CellKind) → cell.kind ≡ kind → held_cell cell.kind (map held (gate_sources cell)) ≡ held_cell cell.kind (map held (pin_sources cell))
    of_kind (Gate g) is = ap (λ ss. held_cell cell.kind (map held ss)) (gate_reads cell g is)
    of_kind (Flop f) is =
        ap (λ kind. held_cell kind (map held (gate_sources cell))) is
        ∙ flop_held f (map held (gate_sources cell)) (map held (pin_sources cell))
        ∙ sym (ap (λ kind. held_cell kind (map held (pin_sources cell))) is)

module _ (roles : Roles) (nets : Nets) where
  pub held_by_cells : AllLevelled nets → AreHeldByCells roles nets (held_value roles nets)
  held_by_cells all = record {
    zero_bit = found_leaf (held_leaf roles) (λ k. held_cell (cell_at nets k).kind) gate_sources nets source.Zero (λ f g. refl);
    one_bit = found_leaf (held_leaf roles) (λ k. held_cell (cell_at nets k).kind) gate_sources nets source.One (λ f g. refl);
    unknown_bit = found_leaf (held_leaf roles) (λ k. held_cell (cell_at nets k).kind) gate_sources nets source.Unknown (λ f g. refl);
    missing = found_leaf (held_leaf roles) (λ k. held_cell (cell_at nets k).kind) gate_sources nets source.Missing (λ f g. refl);
    input = λ bit. found_leaf (held_leaf roles) (λ k. held_cell (cell_at nets k).kind) gate_sources nets (source.Input bit) (λ f g. refl);
    cell = λ k lt.
        found_in_order (held_leaf roles) (λ k. held_cell (cell_at nets k).kind) gate_sources nets all k lt
        ∙ held_reads (cell_at nets k) (held_value roles nets);
  }

-- values once all is settled
module _ (nets : Nets) (env : Assignment) where
  abbrev settled_at : ℕ → Source → Bool
  settled_at c = settled_value nets env c

  settled_gates : AllSettled Settled nets → GatesHaveValues nets env settled_at
  settled_gates all = record {
    zero_bit = λ c. found_leaf (leaf_value env c) (λ k. settled_cell_value (cell_at nets k).kind) settled_sources nets source.Zero (λ f g. refl);
    one_bit = λ c. found_leaf (leaf_value env c) (λ k. settled_cell_value (cell_at nets k).kind) settled_sources nets source.One (λ f g. refl);
    input = λ c bit. found_leaf (leaf_value env c) (λ k. settled_cell_value (cell_at nets k).kind) settled_sources nets (source.Input bit) (λ f g. refl);
    gate = λ c k g lt is.
        found_in_order (leaf_value env c) (λ k. settled_cell_value (cell_at nets k).kind) settled_sources nets all k lt
        ∙ ap (λ kind. settled_cell_value kind (map (settled_at c) (settled_sources (cell_at nets k)))) is
        ∙ ap (λ ss. gate_value g (map (settled_at c) ss)) (settled_gate_reads (cell_at nets k) g is);
  }

  settled_flops : AllSettled Settled nets → FlopsHaveValues Settled nets settled_at
  settled_flops all c k f lt is =
      found_in_order (leaf_value env c) (λ k. settled_cell_value (cell_at nets k).kind) settled_sources nets all k lt
      ∙ ap (λ kind. settled_cell_value kind (map (settled_at c) (settled_sources (cell_at nets k)))) is
      ∙ ap (λ ss. settled_cell_value (Flop f) (map (settled_at c) ss)) (settled_flop_reads (cell_at nets k) f is)

  -- values in a cycle
  module _ (all : AllLevelled nets) (c : ℕ) (kept : ℕ → Bool) where
    in_cycle_gate : (k : ℕ) (g : GateKind) → k < length nets.cells → (cell_at nets k).kind ≡ Gate g → value_in_cycle nets env c kept (source.Cell k) ≡ gate_value g (map (value_in_cycle nets env c kept) (pin_sources (cell_at nets k)))
    in_cycle_gate k g lt is =
        found_in_order (leaf_value env c) (λ k. kept_cell_value (kept k) (cell_at nets k).kind) gate_sources nets all k lt
        ∙ ap (λ kind. kept_cell_value (kept k) kind (map (value_in_cycle nets env c kept) (gate_sources (cell_at nets k)))) is
        ∙ ap (λ ss. gate_value g (map (value_in_cycle nets env c kept) ss)) (gate_reads (cell_at nets k) g is)

    in_cycle_flop : (k : ℕ) (f : AnyFlop) → k < length nets.cells → (cell_at nets k).kind ≡ Flop f → value_in_cycle nets env c kept (source.Cell k) ≡ kept k
    in_cycle_flop k f lt is =
        found_in_order (leaf_value env c) (λ k. kept_cell_value (kept k) (cell_at nets k).kind) gate_sources nets all k lt
        ∙ ap (λ kind. kept_cell_value (kept k) kind (map (value_in_cycle nets env c kept) (gate_sources (cell_at nets k)))) is

    in_cycle_leaf : (s : Source) → found (leaf_value env c) (λ k. kept_cell_value (kept k) (cell_at nets k).kind) gate_sources nets s ≡ leaf_value env c s → value_in_cycle nets env c kept s ≡ leaf_value env c s
    in_cycle_leaf s h = h

  abbrev in_cycle : ℕ → Source → Bool
  in_cycle c = cycle_value nets env c

  cycle_leaf : (s : Source) → ((kept : ℕ → Bool) (c : ℕ) → value_in_cycle nets env c kept s ≡ leaf_value env c s) → (c : ℕ) → in_cycle c s ≡ leaf_value env c s
  cycle_leaf s h zero = h (λ k. start_value (cell_at nets k).kind) 0
  cycle_leaf s h (suc c) = h (λ k. cycle_value nets env c (data_source (cell_at nets k))) (suc c)

  cycle_gate : AllLevelled nets → (c k : ℕ) (g : GateKind) → k < length nets.cells → (cell_at nets k).kind ≡ Gate g → in_cycle c (source.Cell k) ≡ gate_value g (map (in_cycle c) (pin_sources (cell_at nets k)))
  cycle_gate all zero k g lt is = in_cycle_gate all 0 (λ k. start_value (cell_at nets k).kind) k g lt is
  cycle_gate all (suc c) k g lt is = in_cycle_gate all (suc c) (λ k. cycle_value nets env c (data_source (cell_at nets k))) k g lt is

  cycle_gates : AllLevelled nets → GatesHaveValues nets env in_cycle
  cycle_gates all = record {
    zero_bit = cycle_leaf source.Zero (λ kept c. found_leaf (leaf_value env c) (λ k. kept_cell_value (kept k) (cell_at nets k).kind) gate_sources nets source.Zero (λ f g. refl));
    one_bit = cycle_leaf source.One (λ kept c. found_leaf (leaf_value env c) (λ k. kept_cell_value (kept k) (cell_at nets k).kind) gate_sources nets source.One (λ f g. refl));
    input = λ c bit. cycle_leaf (source.Input bit) (λ kept c. found_leaf (leaf_value env c) (λ k. kept_cell_value (kept k) (cell_at nets k).kind) gate_sources nets (source.Input bit) (λ f g. refl)) c;
    gate = cycle_gate all;
  }

  cycle_flops : (n : ℕ) → AllLevelled nets → FlopsHaveValues (Cycles n) nets in_cycle
  cycle_flops n all k f lt is = (
    in_cycle_flop all 0 (λ k. start_value (cell_at nets k).kind) k f lt is ∙ ap start_value is,
    λ c. in_cycle_flop all (suc c) (λ k. cycle_value nets env c (data_source (cell_at nets k))) k f lt is,
  )

  pub values_by_cells : (timing : Timing) → AllSettled timing nets → GatesHaveValues nets env (value timing nets env) × FlopsHaveValues timing nets (value timing nets env)
  unfolding value
  values_by_cells Settled all = (settled_gates all, settled_flops all)
  values_by_cells (Cycles n) all = (cycle_gates all, cycle_flops n all)

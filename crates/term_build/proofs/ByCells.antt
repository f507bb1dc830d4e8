-- The terms of sources by their kinds, where every cell is settled.
use Rattle.std.proofs.Common.{◌≡◌, ◌<◌, ℕ, zero, suc, length, map, refl, ap, ◌∙◌}
use Rattle.cell_kinds.specs.declared.kind.CellKind.TheVariants.{Gate, Flop}
use Rattle.cell_kinds.specs.declared.kind.Flop.{Flop as AnyFlop}
use Rattle.cell_kinds.specs.declared.kind.GateKind.{GateKind}
use Rattle.circuit_types.specs.declared.circuit.Timing.{Timing}
use Rattle.circuit_types.specs.declared.circuit.Timing.TheVariants.{Settled, Cycles}
use Rattle.circuit_types.specs.declared.nets.Nets.{Nets}
use Rattle.circuit_types.specs.declared.nets.Source.{Source}
use Rattle.circuit_types.specs.declared.nets.Source.TheVariants as source
use Rattle.circuit_types.specs.DataSources.{cell_at, pin_sources, data_source, gate_sources, settled_sources}
use Rattle.circuit_types.specs.Found.{at_source}
use Rattle.circuit_types.specs.Order.{AllSettled, AllLevelled}
use Rattle.circuit_types.specs.Value.{start_value}
use Rattle.circuit_types.proofs.Finding.{found_leaf}
use Rattle.circuit_types.proofs.ByCells.{gate_reads, settled_gate_reads, settled_flop_reads, found_in_order}
use Rattle.expr_table.specs.Term.{Term}
use Rattle.term_build.specs.GateTerms.{gate_term}
use Rattle.term_build.specs.InputTerms.{constant}
use Rattle.term_build.specs.SourceTerms.{TermAssignment, leaf_source_term, settled_cell_term, kept_cell_term, settled_term, term_in_cycle, cycle_term, assigned_term, GatesHaveTerms, FlopsHaveTerms}

-- no cell
abbrev IsLeafSource : Source → Type 0
IsLeafSource s = (f : ℕ → Term) (g : Source → Term) → at_source f g s ≡ g s

module _ (nets : Nets) (assigned : TermAssignment) where
  settled_leaf : (c : ℕ) (s : Source) → IsLeafSource s → settled_term nets assigned c s ≡ leaf_source_term assigned c s
  settled_leaf c s is = found_leaf (leaf_source_term assigned c) (λ k. settled_cell_term (cell_at nets k).kind) settled_sources nets s is

  settled_gates : AllSettled Settled nets → GatesHaveTerms nets assigned (settled_term nets assigned)
  settled_gates all = record {
    zero_bit = λ c. settled_leaf c source.Zero (λ f g. refl);
    one_bit = λ c. settled_leaf c source.One (λ f g. refl);
    unknown_bit = λ c. settled_leaf c source.Unknown (λ f g. refl);
    missing = λ c. settled_leaf c source.Missing (λ f g. refl);
    input = λ c bit. settled_leaf c (source.Input bit) (λ f g. refl);
    gate = λ c k g lt is.
        found_in_order (leaf_source_term assigned c) (λ k. settled_cell_term (cell_at nets k).kind) settled_sources nets all k lt
        ∙ ap (λ kind. settled_cell_term kind (map (settled_term nets assigned c) (settled_sources (cell_at nets k)))) is
        ∙ ap (λ ss. gate_term g (map (settled_term nets assigned c) ss)) (settled_gate_reads (cell_at nets k) g is);
  }

  settled_flops : AllSettled Settled nets → FlopsHaveTerms Settled nets (settled_term nets assigned)
  settled_flops all c k f lt is =
      found_in_order (leaf_source_term assigned c) (λ k. settled_cell_term (cell_at nets k).kind) settled_sources nets all k lt
      ∙ ap (λ kind. settled_cell_term kind (map (settled_term nets assigned c) (settled_sources (cell_at nets k)))) is
      ∙ ap (λ ss. settled_cell_term (Flop f) (map (settled_term nets assigned c) ss)) (settled_flop_reads (cell_at nets k) f is)

  -- terms in a cycle
  module _ (all : AllLevelled nets) (c : ℕ) (kept : ℕ → Term) where
    in_cycle_gate : (k : ℕ) (g : GateKind) → k < length nets.cells → (cell_at nets k).kind ≡ Gate g
        → term_in_cycle nets assigned c kept (source.Cell k) ≡ gate_term g (map (term_in_cycle nets assigned c kept) (pin_sources (cell_at nets k)))
    in_cycle_gate k g lt is =
        found_in_order (leaf_source_term assigned c) (λ k. kept_cell_term (kept k) (cell_at nets k).kind) gate_sources nets all k lt
        ∙ ap (λ kind. kept_cell_term (kept k) kind (map (term_in_cycle nets assigned c kept) (gate_sources (cell_at nets k)))) is
        ∙ ap (λ ss. gate_term g (map (term_in_cycle nets assigned c kept) ss)) (gate_reads (cell_at nets k) g is)

    in_cycle_flop : (k : ℕ) (f : AnyFlop) → k < length nets.cells → (cell_at nets k).kind ≡ Flop f → term_in_cycle nets assigned c kept (source.Cell k) ≡ kept k
    in_cycle_flop k f lt is =
        found_in_order (leaf_source_term assigned c) (λ k. kept_cell_term (kept k) (cell_at nets k).kind) gate_sources nets all k lt
        ∙ ap (λ kind. kept_cell_term (kept k) kind (map (term_in_cycle nets assigned c kept) (gate_sources (cell_at nets k)))) is

  in_cycle_leaf : (c : ℕ) (kept : ℕ → Term) (s : Source) → IsLeafSource s → term_in_cycle nets assigned c kept s ≡ leaf_source_term assigned c s
  in_cycle_leaf c kept s is = found_leaf (leaf_source_term assigned c) (λ k. kept_cell_term (kept k) (cell_at nets k).kind) gate_sources nets s is

  cycle_leaf : (c : ℕ) (s : Source) → IsLeafSource s → cycle_term nets assigned c s ≡ leaf_source_term assigned c s
  cycle_leaf zero s is = in_cycle_leaf 0 (λ k. constant (start_value (cell_at nets k).kind)) s is
  cycle_leaf (suc c) s is = in_cycle_leaf (suc c) (λ k. cycle_term nets assigned c (data_source (cell_at nets k))) s is

  cycle_gate : AllLevelled nets → (c k : ℕ) (g : GateKind) → k < length nets.cells → (cell_at nets k).kind ≡ Gate g
      → cycle_term nets assigned c (source.Cell k) ≡ gate_term g (map (cycle_term nets assigned c) (pin_sources (cell_at nets k)))
  cycle_gate all zero k g lt is = in_cycle_gate all 0 (λ k. constant (start_value (cell_at nets k).kind)) k g lt is
  cycle_gate all (suc c) k g lt is = in_cycle_gate all (suc c) (λ k. cycle_term nets assigned c (data_source (cell_at nets k))) k g lt is

  cycle_gates : AllLevelled nets → GatesHaveTerms nets assigned (cycle_term nets assigned)
  cycle_gates all = record {
    zero_bit = λ c. cycle_leaf c source.Zero (λ f g. refl);
    one_bit = λ c. cycle_leaf c source.One (λ f g. refl);
    unknown_bit = λ c. cycle_leaf c source.Unknown (λ f g. refl);
    missing = λ c. cycle_leaf c source.Missing (λ f g. refl);
    input = λ c bit. cycle_leaf c (source.Input bit) (λ f g. refl);
    gate = cycle_gate all;
  }

  cycle_flops : (n : ℕ) → AllLevelled nets → FlopsHaveTerms (Cycles n) nets (cycle_term nets assigned)
  cycle_flops n all k f lt is = (
    in_cycle_flop all 0 (λ k. constant (start_value (cell_at nets k).kind)) k f lt is ∙ ap (λ kind. constant (start_value kind)) is,
    λ c. in_cycle_flop all (suc c) (λ k. cycle_term nets assigned c (data_source (cell_at nets k))) k f lt is,
  )

  pub terms_by_cells : (timing : Timing) → AllSettled timing nets
      → GatesHaveTerms nets assigned (assigned_term timing nets assigned) × FlopsHaveTerms timing nets (assigned_term timing nets assigned)
  unfolding assigned_term
  terms_by_cells Settled all = (settled_gates all, settled_flops all)
  terms_by_cells (Cycles n) all = (cycle_gates all, cycle_flops n all)

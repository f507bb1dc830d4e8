-- The probes of a gadget, what they see, their tuples, and its terms are within the limits.
use Rattle.std.proofs.Common.{◌≡◌, ℕ, zero, suc, ◌+◌, ◌-◌, ◌*◌, ◌≤◌, ◌&&◌, min, nat_le, if◌then◌else◌, Bool, true, List, [], ◌∷◌, ◌++◌, length, length-append, map, filter, refl, ap, arith}
use Rattle.std.specs.List.{flat_map, range_with_len}
use Rattle.std.proofs.lemmas.Bool.{cond_both, and_parts, leb-true}
use Rattle.std.proofs.lemmas.List.{length-map}
use Rattle.std.proofs.lemmas.List.Elements.{All-from_recursion}
use Rattle.std.proofs.lemmas.List.FromFn.{length-range_with_len}
use Rattle.std.proofs.lemmas.List.Sums.{sum_by-le}
use Rattle.std.proofs.lemmas.Nat.{mul-le}
use Rattle.cell_kinds.specs.declared.kind.CellKind.{CellKind}
use Rattle.cell_kinds.specs.declared.kind.CellKind.TheVariants.{Gate, Flop}
use Rattle.cell_kinds.specs.declared.kind.GateKind.{GateKind}
use Rattle.cell_kinds.specs.declared.kind.GateKind.TheVariants.{Buf, Not, And, Nand, Or, Nor, Xor, Xnor, Andnot, Ornot, Mux, Nmux, Aoi3, Oai3, Aoi4, Oai4}
use Rattle.circuit_types.specs.DataSources.{cell_at, by_kind, pin_sources}
use Rattle.circuit_types.specs.InputBits.{is_probed}
use Rattle.circuit_types.specs.Order.{order}
use Rattle.circuit_types.specs.Probes.{probed_inputs, probed_sources, glitch_seen, probe_on, probe_list, seen_count, probe_causes}
use Rattle.circuit_types.specs.Stable.{has_source, stable_sources}
use Rattle.circuit_types.specs.Due.{IsClear}
use Rattle.circuit_types.specs.Worlds.{Leaf, secrets, secret_leaves, leaves_in, leaves_of, input_leaves, random_leaves, is_input_leaf, is_random_leaf, is_drawn}
use Rattle.circuit_types.specs.Worlds as world
use Rattle.circuit_types.specs.declared.circuit.Circuit.{Circuit}
use Rattle.circuit_types.specs.declared.circuit.Timing.TheVariants.{Settled}
use Rattle.circuit_types.specs.declared.nets.Nets.{Nets}
use Rattle.circuit_types.specs.declared.nets.Source.{Source}
use Rattle.circuit_types.specs.declared.nets.Source.TheVariants as source
use Rattle.circuit_types.specs.declared.probes.Model.TheVariants.{Glitch}
use Rattle.circuit_types.specs.declared.probes.Probe.{Probe}
use Rattle.circuit_types.specs.declared.roles.InputRole.{InputRole}
use Rattle.circuit_types.specs.declared.roles.Role.{Role}
use Rattle.circuit_types.specs.declared.roles.Role.TheVariants as role
use Rattle.circuit_types.specs.declared.roles.Roles.{Roles}
use Rattle.circuit_types.proofs.Listing.{order_length}
use Rattle.circuit_types.specs.DataSources.{settled_sources}
use Rattle.expr_table.specs.Table.{terms, leaves, with_term, has_term}
use Rattle.expr_table.specs.Term.{Term, xor_of}
use Rattle.expr_table.specs.declared.instance.Notion.TheVariants.{Probing}
use Rattle.expr_table.proofs.Rows.{length-terms}
use Rattle.expr_table.proofs.Leaves.{length-leaves}
use Rattle.term_build.specs.GateTerms.{gate_parts}
use Rattle.term_build.specs.InputTerms.{is_share, share_bits, drawn_bits, drawn_shares, joins, role_joins, made_for_inputs}
use Rattle.term_build.specs.Leaves.{given_term, drawn_term}
use Rattle.term_build.specs.SourceTerms.{source_term}
use Rattle.term_build.specs.TermInstance.{kind_parts, cell_parts, made_in_cycle, made_terms, with_terms, input_count, random_count, row_terms, term_causes}
use Rattle.tuple_rank.specs.Choices.{choices}
use Rattle.tuple_rank.specs.Tuples.{tuples}
use Rattle.net_build.proofs.EachLemmas.{each_any, each_map}
use Rattle.gadget_maker.proofs.Each.{Each, each-append, length_flat}
use Rattle.share_notes.specs.Shares.{share_count, given, secrets as secrets_of, distinct}
use Rattle.accepted_gadget.proofs.Spots.{for_each_shares}
use Rattle.accepted_gadget.proofs.Noted.{port_roles}

-- ---- lengths

filter_length : {X : Type 0} (p : X → Bool) (xs : List X) → length (filter p xs) ≤ length xs
filter_length p [] = omega arith
filter_length p (x ∷ xs) =
    let rest = filter_length p xs in
    cond_both (p x) (x ∷ filter p xs) (filter p xs) (λ v. length v ≤ suc (length xs)) (λ e. omega (arith, rest)) (λ e. omega (arith, rest))

-- ---- few inputs, for each number of shares

pub record HasFewInputs (r : Roles) : Type 0 where
  pub few_given : length r.inputs ≤ 153
  pub few_shares : r.shares ≤ 16
  pub few_secrets : length r.secrets ≤ 32

tested : (d : ℕ) → 2 ≤ d → d ≤ 16
    → (nat_le (length (port_roles d).inputs) 153 && (nat_le (port_roles d).shares 16 && nat_le (length (port_roles d).secrets) 32)) ≡ true
unfolding share_count given secrets_of distinct
tested =
    for_each_shares
    (λ d. (nat_le (length (port_roles d).inputs) 153 && (nat_le (port_roles d).shares 16 && nat_le (length (port_roles d).secrets) 32)) ≡ true)
    refl refl refl refl refl refl refl refl refl refl refl refl refl refl refl

pub few_inputs : (d : ℕ) → 2 ≤ d → d ≤ 16 → HasFewInputs (port_roles d)
few_inputs d some few =
    let h = tested d some few in
    let a = and_parts (nat_le (length (port_roles d).inputs) 153) (nat_le (port_roles d).shares 16 && nat_le (length (port_roles d).secrets) 32) h in
    let b = and_parts (nat_le (port_roles d).shares 16) (nat_le (length (port_roles d).secrets) 32) a.1 in
    record {
      few_given = leb-true (length (port_roles d).inputs) 153 a.0;
      few_shares = leb-true (port_roles d).shares 16 b.0;
      few_secrets = leb-true (length (port_roles d).secrets) 32 b.1;
    }

-- ---- probes

module _ (roles : Roles) (nets : Nets) (few : HasFewInputs roles) (small : length nets.cells ≤ 2053) where
  few_sources : length (probed_sources roles nets) ≤ 2206
  unfolding probed_sources
  few_sources =
      let a = length-map (filter (λ (i : InputRole). is_probed i.role) roles.inputs) (λ (i : InputRole). source.Input i.bit) in
      let b = filter_length (λ (i : InputRole). is_probed i.role) roles.inputs in
      let c = length-map (range_with_len 0 (length nets.cells)) (λ k. source.Cell k) in
      let e = length-range_with_len 0 (length nets.cells) in
      let f = length-append (probed_inputs roles.inputs) (map (λ k. source.Cell k) (range_with_len 0 (length nets.cells))) in
      omega (arith, a, b, c, e, f, few.few_given, small)

  by_kind_length : (kind : CellKind) (xs : List Source) (s : Source) → length xs ≤ 2206 → length (by_kind kind xs (s ∷ [])) ≤ 2206
  by_kind_length (Gate g) xs s h = h
  by_kind_length (Flop f) xs s h = omega arith

  few_seen : (s : Source) → length (glitch_seen roles nets s) ≤ 2206
  few_seen (source.Cell k) =
      let a = filter_length (has_source (stable_sources roles nets (source.Cell k))) (probed_sources roles nets) in
      by_kind_length (cell_at nets k).kind (filter (has_source (stable_sources roles nets (source.Cell k))) (probed_sources roles nets)) (source.Cell k)
      (omega (arith, a, few_sources))
  few_seen (source.Input b) = omega arith
  few_seen source.Zero = omega arith
  few_seen source.One = omega arith
  few_seen source.Unknown = omega arith
  few_seen source.Missing = omega arith

  abbrev circuit : Circuit
  circuit = record { nets = nets; order = order Settled nets; timing = Settled }

  abbrev the_probes : List Probe
  the_probes = map (probe_on Glitch roles nets Settled 0) (probed_sources roles nets) ++ []

  probes_are : probe_list Glitch roles circuit ≡ the_probes
  unfolding probe_list
  probes_are = refl

  pub few_probes : length (probe_list Glitch roles circuit) ≤ 2206
  few_probes =
      let a = ap length probes_are in
      let b = length-append (map (probe_on Glitch roles nets Settled 0) (probed_sources roles nets)) [] in
      let c = length-map (probed_sources roles nets) (probe_on Glitch roles nets Settled 0) in
      omega (arith, a, b, c, few_sources)

  each_seen : Each (λ (p : Probe). length p.seen ≤ 2206) the_probes
  each_seen =
      each-append (λ (p : Probe). length p.seen ≤ 2206) (map (probe_on Glitch roles nets Settled 0) (probed_sources roles nets)) []
      (each_map (λ (p : Probe). length p.seen ≤ 2206) (probe_on Glitch roles nets Settled 0) (probed_sources roles nets)
      (each_any (λ s. length (glitch_seen roles nets s) ≤ 2206) few_seen (probed_sources roles nets)))
      tt

  few_seen_all : seen_count (probe_list Glitch roles circuit) ≤ 2206 * 2206
  few_seen_all =
      let most = sum_by-le (λ (p : Probe). length p.seen) 2206 the_probes (All-from_recursion (λ (p : Probe). length p.seen ≤ 2206) the_probes each_seen) in
      let count : length the_probes ≤ 2206 = omega (arith, few_probes, ap length probes_are) in
      let square = mul-le (length the_probes) 2206 2206 2206 count (omega arith) in
      let e = ap seen_count probes_are in
      omega (arith, most, square, e)

  pub probes_clear : IsClear (probe_causes Glitch roles circuit)
  unfolding probe_causes
  probes_clear = ((λ over. omega (arith, few_probes, over)), ((λ over. omega (arith, few_seen_all, over)), tt))

  -- ---- terms

  joins_length : (t : Term) (us : List Term) → length (joins t us) ≡ length us
  joins_length t [] = refl
  joins_length t (u ∷ us) = ap suc (joins_length (xor_of t u) us)

  few_share_bits : (s i : ℕ) → length (share_bits roles s i) ≤ 153
  few_share_bits s i =
      let a = length-map (filter (λ (x : InputRole). is_share s i x.role) roles.inputs) (λ (x : InputRole). x.bit) in
      let b = filter_length (λ (x : InputRole). is_share s i x.role) roles.inputs in
      omega (arith, a, b, few.few_given)

  few_drawn_bits : (s : ℕ) → length (drawn_bits roles s) ≤ 2295
  few_drawn_bits s =
      let a = length_flat (share_bits roles s) 153 (few_share_bits s) (range_with_len 0 (roles.shares - 1)) in
      let b = length-range_with_len 0 (roles.shares - 1) in
      omega (arith, a, b, few.few_shares)

  few_joins : (g r : Leaf → Term) (x : Role) → length (role_joins roles g r x) ≤ 2295
  few_joins g r (role.Share s i) =
      let t = g (world.secret s) in
      let a = joins_length t (drawn_shares roles r s) in
      let b = length-map (drawn_bits roles s) (λ bit. r (world.input bit 0)) in
      let c = few_drawn_bits s in
      cond_both (is_drawn roles i) [] (joins t (drawn_shares roles r s)) (λ v. length v ≤ 2295) (λ e. omega arith) (λ e. omega (arith, a, b, c))
  few_joins g r role.Random = omega arith
  few_joins g r role.Public = omega arith
  few_joins g r role.Clock = omega arith
  few_joins g r (role.Held v) = omega arith

  few_made : length (made_for_inputs secrets roles Settled) ≤ 351135
  unfolding made_for_inputs
  few_made =
      let a = length_flat (λ (x : InputRole). role_joins roles (given_term secrets roles Settled) (drawn_term secrets roles Settled) x.role) 2295
      (λ x. few_joins (given_term secrets roles Settled) (drawn_term secrets roles Settled) x.role) roles.inputs in
      omega (arith, a, few.few_given)

  one_leaf : (test : Role → Bool) (i : InputRole) → length (if test i.role then world.input i.bit 0 ∷ [] else []) ≤ 1
  one_leaf test i = cond_both (test i.role) (world.input i.bit 0 ∷ []) [] (λ v. length v ≤ 1) (λ e. omega arith) (λ e. omega arith)

  few_leaves : (test : ℕ → Role → Bool) → length (leaves_of test roles Settled) ≤ 153
  few_leaves test =
      let a = length_flat (λ (i : InputRole). if test 0 i.role then world.input i.bit 0 ∷ [] else []) 1 (one_leaf (test 0)) roles.inputs in
      let b = length-append (leaves_in (test 0) roles 0) [] in
      omega (arith, a, b, few.few_given)

  few_input_leaves : length (input_leaves secrets roles Settled) ≤ 185
  unfolding input_leaves
  few_input_leaves =
      let a = length-map (range_with_len 0 (length roles.secrets)) (λ s. world.secret s) in
      let b = length-range_with_len 0 (length roles.secrets) in
      let c = few_leaves (is_input_leaf secrets) in
      let e = length-append (secret_leaves secrets roles) (leaves_of (is_input_leaf secrets) roles Settled) in
      omega (arith, a, b, c, e, few.few_secrets)

  few_random_leaves : length (random_leaves secrets roles Settled) ≤ 153
  unfolding random_leaves
  few_random_leaves = few_leaves (is_random_leaf secrets roles)

  few_gate_parts : (g : GateKind) (ts : List Term) → length (gate_parts g ts) ≤ 16
  unfolding gate_parts
  few_gate_parts Buf ts = omega arith
  few_gate_parts Not ts = omega arith
  few_gate_parts And ts = omega arith
  few_gate_parts Nand ts = omega arith
  few_gate_parts Or ts = omega arith
  few_gate_parts Nor ts = omega arith
  few_gate_parts Xor ts = omega arith
  few_gate_parts Xnor ts = omega arith
  few_gate_parts Andnot ts = omega arith
  few_gate_parts Ornot ts = omega arith
  few_gate_parts Mux ts = omega arith
  few_gate_parts Nmux ts = omega arith
  few_gate_parts Aoi3 ts = omega arith
  few_gate_parts Oai3 ts = omega arith
  few_gate_parts Aoi4 ts = omega arith
  few_gate_parts Oai4 ts = omega arith

  few_kind_parts : (kind : CellKind) (ts : List Term) → length (kind_parts kind ts) ≤ 16
  few_kind_parts (Gate g) ts = few_gate_parts g ts
  few_kind_parts (Flop f) ts = omega arith

  few_cell_terms : length (made_in_cycle Probing roles circuit 0) ≤ 32848
  few_cell_terms =
      let term = source_term Probing roles circuit 0 in
      let a = length_flat (cell_parts nets term) 16 (λ k. few_kind_parts (cell_at nets k).kind (map term (pin_sources (cell_at nets k)))) (order Settled nets) in
      let b = order_length settled_sources nets in
      omega (arith, a, b, small)

  few_made_terms : length (made_terms Probing roles circuit) ≤ 383983
  few_made_terms =
      let a = length-append (made_for_inputs secrets roles Settled) (made_in_cycle Probing roles circuit 0 ++ []) in
      let b = length-append (made_in_cycle Probing roles circuit 0) [] in
      omega (arith, a, b, few_made, few_cell_terms)

  with_term_length : (ts : List Term) (t : Term) → length (with_term ts t) ≤ length ts + 1
  with_term_length ts t =
      let a = length-append ts (t ∷ []) in
      cond_both (has_term ts t) ts (ts ++ t ∷ []) (λ v. length v ≤ length ts + 1) (λ e. omega arith) (λ e. omega (arith, a))

  with_terms_length : (ts more : List Term) → length (with_terms ts more) ≤ length ts + length more
  with_terms_length ts [] = omega arith
  with_terms_length ts (t ∷ more) = omega (arith, with_terms_length (with_term ts t) more, with_term_length ts t)

  few_rows : length (row_terms Probing roles circuit) ≤ 400000
  unfolding row_terms
  few_rows =
      let i = input_count Probing roles circuit in
      let r = random_count Probing roles circuit in
      let a = with_terms_length (terms (leaves i r)) (made_terms Probing roles circuit) in
      let b = length-terms (leaves i r) in
      let c = length-leaves i r in
      omega (arith, a, b, c, few_made_terms, few_input_leaves, few_random_leaves)

  pub terms_clear : IsClear (term_causes Probing roles circuit)
  unfolding term_causes
  terms_clear = ((λ over. omega (arith, few_rows, over)), tt)

-- ---- tuples

singles : (xs : List ℕ) → length (choices 1 xs) ≡ length xs
unfolding choices
singles [] = refl
singles (x ∷ xs) = ap suc (singles xs)

doubles : (xs : List ℕ) → length xs ≤ 2206 → length (choices 2 xs) ≤ 2206 * length xs
unfolding choices
doubles [] few = omega arith
doubles (x ∷ xs) few =
    let rest = doubles xs (omega (arith, few)) in
    let a = length-append (map (λ ys. x ∷ ys) (choices 1 xs)) (choices 2 xs) in
    let b = length-map (choices 1 xs) (λ ys. x ∷ ys) in
    let c = singles xs in
    omega (arith, rest, a, b, c, few)

up_to_two : (n m : ℕ) → n ≤ 2206 → m ≤ 2 → length (flat_map (λ k. choices k (range_with_len 0 n)) (range_with_len 1 m)) ≤ 5000000
up_to_two n zero few low = omega arith
up_to_two n (suc zero) few low =
    let xs = range_with_len 0 n in
    let a = length-range_with_len 0 n in
    let b = singles xs in
    let c = length-append (choices 1 xs) [] in
    omega (arith, a, b, c, few)
up_to_two n (suc (suc zero)) few low =
    let xs = range_with_len 0 n in
    let a = length-range_with_len 0 n in
    let b = singles xs in
    let c = doubles xs (omega (arith, a, few)) in
    let e = length-append (choices 2 xs) [] in
    let f = length-append (choices 1 xs) (choices 2 xs ++ []) in
    omega (arith, a, b, c, e, f, few)
up_to_two n (suc (suc (suc m))) few low = absurd (omega (arith, low))

pub few_tuples : (n t : ℕ) → n ≤ 2206 → t ≤ 2 → length (tuples n t) ≤ 5000000
unfolding tuples
few_tuples n t few low = up_to_two n (min t n) few (omega (arith, low))

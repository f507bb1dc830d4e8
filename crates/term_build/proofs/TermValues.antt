-- The terms of sources have the values of the sources.
use Rattle.std.proofs.Common.{◌≡◌, ℕ, zero, suc, Bool, true, false, cond, List, [], ◌∷◌, map, fold, Option, Some, None, refl, sym, ap, ◌∙◌}
use mathlib.Core.Bool.{xor}
use Rattle.std.specs.Option.{option_map, option_map_or}
use Rattle.cell_kinds.specs.declared.kind.CellKind.{CellKind}
use Rattle.cell_kinds.specs.declared.kind.CellKind.TheVariants.{Gate, Flop}
use Rattle.circuit_types.specs.declared.circuit.Timing.{Timing}
use Rattle.circuit_types.specs.declared.circuit.Timing.TheVariants.{Settled, Cycles}
use Rattle.circuit_types.specs.declared.nets.Nets.{Nets}
use Rattle.circuit_types.specs.declared.nets.Source.{Source}
use Rattle.circuit_types.specs.declared.nets.Source.TheVariants as source
use Rattle.circuit_types.specs.declared.roles.Role.{Role}
use Rattle.circuit_types.specs.declared.roles.Role.TheVariants as role
use Rattle.circuit_types.specs.declared.roles.Roles.{Roles}
use Rattle.circuit_types.specs.DataSources.{cell_at, data_source, gate_sources, settled_sources}
use Rattle.circuit_types.specs.InputBits.{role_of}
use Rattle.circuit_types.specs.Value.{Assignment, leaf_value, settled_cell_value, kept_cell_value, start_value, cycle_value, value}
use Rattle.circuit_types.specs.Worlds.{Inputs, secrets, shares, Leaf, secret, input, is_same_leaf, is_drawn, input_leaves, random_leaves, bit_of, drawn_sum, role_bit, world}
use Rattle.expr_table.specs.Term.{Term, Zero, Input, Random, xor_of}
use Rattle.expr_table.specs.Values.{bit, eval}
use Rattle.expr_table.proofs.Facts.{eval-xor_of}
use Rattle.term_build.specs.InputTerms.{constant, drawn_bits, drawn_shares, last_share, role_term, bit_term}
use Rattle.term_build.specs.Leaves.{leaf_number, leaf_term, given_term, drawn_term}
use Rattle.term_build.specs.SourceTerms.{TermAssignment, leaf_source_term, settled_cell_term, kept_cell_term, cycle_term, assigned_term}
use Rattle.term_build.proofs.FoundTerms.{found_through}
use Rattle.term_build.proofs.GateValues.{gate-value}
use Rattle.term_build.proofs.Sums.{xor-values, xor-false, xor_assoc, parity, drawn_parity}

-- a leaf's bit is the one at its number
number-step : (same : Bool) (o : Option ℕ) (b : Bool) (bits : List Bool) (r : Bool) → option_map_or (bit bits) o false ≡ r
    → option_map_or (bit (b ∷ bits)) (cond same (Some 0) (option_map suc o)) false ≡ cond same b r
number-step true o b bits r h = refl
number-step false None b bits r h = h
number-step false (Some i) b bits r h = h

no_bit : (o : Option ℕ) → option_map_or (bit []) o false ≡ false
no_bit None = refl
no_bit (Some i) = by i
  where
    by : (i : ℕ) → bit [] i ≡ false
    by zero = refl
    by (suc i) = refl

pub number-bit : (leaves : List Leaf) (bits : List Bool) (leaf : Leaf) → option_map_or (bit bits) (leaf_number leaves leaf) false ≡ bit_of leaves bits leaf
number-bit [] bits leaf = refl
number-bit (l ∷ leaves) [] leaf = no_bit (leaf_number (l ∷ leaves) leaf)
number-bit (l ∷ leaves) (b ∷ bits) leaf = number-step (is_same_leaf l leaf) (leaf_number leaves leaf) b bits (bit_of leaves bits leaf) (number-bit leaves bits leaf)

module _ (given drawn : List Bool) where
  abbrev at : Term → Bool
  at t = eval given drawn t

  at-given : (leaves : List Leaf) (leaf : Leaf) → at (leaf_term (λ i. Input i) leaves leaf) ≡ bit_of leaves given leaf
  at-given leaves leaf = by (leaf_number leaves leaf) ∙ number-bit leaves given leaf
    where
      by : (o : Option ℕ) → at (option_map_or (λ i. Input i) o Zero) ≡ option_map_or (bit given) o false
      by None = refl
      by (Some i) = refl

  at-drawn : (leaves : List Leaf) (leaf : Leaf) → at (leaf_term (λ i. Random i) leaves leaf) ≡ bit_of leaves drawn leaf
  at-drawn leaves leaf = by (leaf_number leaves leaf) ∙ number-bit leaves drawn leaf
    where
      by : (o : Option ℕ) → at (option_map_or (λ i. Random i) o Zero) ≡ option_map_or (bit drawn) o false
      by None = refl
      by (Some i) = refl

  at-xor : (a b : Term) → at (xor_of a b) ≡ xor (at a) (at b)
  at-xor a b = eval-xor_of given drawn a b ∙ xor-values (at a) (at b)

  -- terms joined one after another
  at-joined : (t : Term) (us : List Term) → at (fold xor_of t us) ≡ xor (at t) (parity (map at us))
  at-joined t [] = sym (xor-false (at t))
  at-joined t (u ∷ us) = at-joined (xor_of t u) us ∙ ap (λ b. xor b (parity (map at us))) (at-xor t u) ∙ xor_assoc (at t) (at u) (parity (map at us))

  pub at-constant : (b : Bool) → at (constant b) ≡ b
  at-constant true = refl
  at-constant false = refl

  module _ (roles : Roles) (in_leaf : Leaf → Term) (random_leaf : Leaf → Term) (in_bit : Leaf → Bool) (random_bit : Leaf → Bool)
      (same_in : (l : Leaf) → at (in_leaf l) ≡ in_bit l) (same_random : (l : Leaf) → at (random_leaf l) ≡ random_bit l) where
    drawn-values : (bits : List ℕ) → map at (map (λ b. random_leaf (input b 0)) bits) ≡ map (λ b. random_bit (input b 0)) bits
    drawn-values [] = refl
    drawn-values (b ∷ bits) = let here = same_random (input b 0) in let rest = drawn-values bits in λ i. here i ∷ rest i

    pub at-last : (s : ℕ) → at (last_share roles in_leaf random_leaf s) ≡ xor (in_bit (secret s)) (drawn_sum roles s (λ b. random_bit (input b 0)) roles.inputs)
    at-last s =
        at-joined (in_leaf (secret s)) (drawn_shares roles random_leaf s)
        ∙ (λ i. xor (same_in (secret s) i) ((ap parity (drawn-values (drawn_bits roles s)) ∙ drawn_parity roles s (λ b. random_bit (input b 0))) i))

    at-share : (inputs : Inputs) (bit s share cycle : ℕ) → at (role_term inputs roles in_leaf random_leaf bit cycle (role.Share s share)) ≡ role_bit inputs roles in_bit random_bit bit cycle (role.Share s share)
    at-share secrets bit s share cycle = by (is_drawn roles share)
      where
        by : (b : Bool) → at (cond b (random_leaf (input bit 0)) (last_share roles in_leaf random_leaf s))
            ≡ cond b (random_bit (input bit 0)) (xor (in_bit (secret s)) (drawn_sum roles s (λ b. random_bit (input b 0)) roles.inputs))
        by true = same_random (input bit 0)
        by false = at-last s
    at-share shares bit s share cycle = same_in (input bit 0)

    at-role : (inputs : Inputs) (bit cycle : ℕ) (r : Role) → at (role_term inputs roles in_leaf random_leaf bit cycle r) ≡ role_bit inputs roles in_bit random_bit bit cycle r
    at-role inputs bit cycle (role.Share s share) = at-share inputs bit s share cycle
    at-role inputs bit cycle role.Random = same_random (input bit cycle)
    at-role inputs bit cycle role.Public = same_in (input bit cycle)
    at-role inputs bit cycle role.Clock = refl
    at-role inputs bit cycle (role.Held v) = at-constant v

    pub at-bit : (inputs : Inputs) (bit cycle : ℕ) (o : Option Role)
        → at (option_map_or (role_term inputs roles in_leaf random_leaf bit cycle) o Zero) ≡ option_map_or (role_bit inputs roles in_bit random_bit bit cycle) o false
    at-bit inputs bit cycle None = refl
    at-bit inputs bit cycle (Some r) = at-role inputs bit cycle r

  -- the term of an input bit has the value that the world gives the bit
  pub bit-value : (inputs : Inputs) (roles : Roles) (timing : Timing) (b cycle : ℕ) → at (bit_term inputs roles timing b cycle) ≡ world inputs roles timing given drawn b cycle
  unfolding bit_term world
  bit-value inputs roles timing b cycle =
      at-bit roles (given_term inputs roles timing) (drawn_term inputs roles timing) (bit_of (input_leaves inputs roles timing) given) (bit_of (random_leaves inputs roles timing) drawn)
      (at-given (input_leaves inputs roles timing)) (at-drawn (random_leaves inputs roles timing)) inputs b cycle (role_of roles b)

  module _ (nets : Nets) (assigned : TermAssignment) (env : Assignment) (same : (b c : ℕ) → at (assigned b c) ≡ env b c) where
    at-leaf : (c : ℕ) (s : Source) → at (leaf_source_term assigned c s) ≡ leaf_value env c s
    at-leaf c (source.Input b) = same b c
    at-leaf c (source.Cell k) = refl
    at-leaf c source.Zero = refl
    at-leaf c source.One = refl
    at-leaf c source.Unknown = refl
    at-leaf c source.Missing = refl

    at-settled_cell : (kind : CellKind) (ts : List Term) → at (settled_cell_term kind ts) ≡ settled_cell_value kind (map at ts)
    at-settled_cell (Gate g) ts = gate-value given drawn g ts
    at-settled_cell (Flop f) [] = refl
    at-settled_cell (Flop f) (t ∷ ts) = refl

    at-kept_cell : (kept : Term) (b : Bool) → at kept ≡ b → (kind : CellKind) (ts : List Term) → at (kept_cell_term kept kind ts) ≡ kept_cell_value b kind (map at ts)
    at-kept_cell kept b is (Gate g) ts = gate-value given drawn g ts
    at-kept_cell kept b is (Flop f) ts = is

    cycle-value : (c : ℕ) (s : Source) → at (cycle_term nets assigned c s) ≡ cycle_value nets env c s
    cycle-value zero s =
        found_through at (leaf_source_term assigned 0) (leaf_value env 0)
        (λ k. kept_cell_term (constant (start_value (cell_at nets k).kind)) (cell_at nets k).kind) (λ k. kept_cell_value (start_value (cell_at nets k).kind) (cell_at nets k).kind)
        gate_sources nets (at-leaf 0) (λ k. at-kept_cell (constant (start_value (cell_at nets k).kind)) (start_value (cell_at nets k).kind) (at-constant (start_value (cell_at nets k).kind)) (cell_at nets k).kind) s
    cycle-value (suc c) s =
        found_through at (leaf_source_term assigned (suc c)) (leaf_value env (suc c))
        (λ k. kept_cell_term (cycle_term nets assigned c (data_source (cell_at nets k))) (cell_at nets k).kind) (λ k. kept_cell_value (cycle_value nets env c (data_source (cell_at nets k))) (cell_at nets k).kind)
        gate_sources nets (at-leaf (suc c))
        (λ k. at-kept_cell (cycle_term nets assigned c (data_source (cell_at nets k))) (cycle_value nets env c (data_source (cell_at nets k))) (cycle-value c (data_source (cell_at nets k))) (cell_at nets k).kind) s

    pub assigned-value : (timing : Timing) (c : ℕ) (s : Source) → at (assigned_term timing nets assigned c s) ≡ value timing nets env c s
    unfolding assigned_term value
    assigned-value Settled c s =
        found_through at (leaf_source_term assigned c) (leaf_value env c) (λ k. settled_cell_term (cell_at nets k).kind) (λ k. settled_cell_value (cell_at nets k).kind)
        settled_sources nets (at-leaf c) (λ k. at-settled_cell (cell_at nets k).kind) s
    assigned-value (Cycles n) c s = cycle-value c s

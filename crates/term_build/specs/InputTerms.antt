-- The terms of input bits, by their roles, as `world` gives their values.
use Rattle.std.specs.Prelude.{ℕ, ◌-◌, ◌==◌, ◌&&◌, Bool, true, false, List, [], ◌∷◌, map, filter, fold, if◌then◌else◌}
use Rattle.std.specs.Option.{option_map_or}
use Rattle.std.specs.List.{flat_map, range_with_len}
use Rattle.circuit_types.specs.declared.circuit.Timing.{Timing}
use Rattle.circuit_types.specs.declared.roles.InputRole.{InputRole}
use Rattle.circuit_types.specs.declared.roles.Role.{Role}
use Rattle.circuit_types.specs.declared.roles.Role.TheVariants as role
use Rattle.circuit_types.specs.declared.roles.Roles.{Roles}
use Rattle.circuit_types.specs.InputBits.{role_of}
use Rattle.circuit_types.specs.Worlds.{Inputs, secrets, shares, Leaf, secret, input, is_drawn}
use Rattle.expr_table.specs.Term.{Term, Zero, One, xor_of}
use Rattle.term_build.specs.Leaves.{given_term, drawn_term}

-- the term of a constant bit
abbrev pub constant : Bool → Term
constant true = One
constant false = Zero

-- it is this share of this secret bit
abbrev pub is_share : ℕ → ℕ → Role → Bool
is_share s i (role.Share t j) = t == s && j == i
is_share s i other = false

-- the input bits that are this share of this secret bit: one, where each share stands once
abbrev pub share_bits : Roles → ℕ → ℕ → List ℕ
share_bits roles s i = map (λ (x : InputRole). x.bit) (filter (λ (x : InputRole). is_share s i x.role) roles.inputs)

-- the input bits of the shares of a secret bit that are drawn: share 0, share 1 and so on up to the last but one
abbrev pub drawn_bits : Roles → ℕ → List ℕ
drawn_bits roles s = flat_map (share_bits roles s) (range_with_len 0 (roles.shares - 1))

-- the terms of these shares
abbrev pub drawn_shares : Roles → (Leaf → Term) → ℕ → List Term
drawn_shares roles drawn s = map (λ bit. drawn (input bit 0)) (drawn_bits roles s)

-- The last share of a secret bit, where the secrets are given: the secret's leaf, joined with share 0, share 1 and so on up
-- to the last but one.
abbrev pub last_share : Roles → (Leaf → Term) → (Leaf → Term) → ℕ → Term
last_share roles given drawn s = fold xor_of (given (secret s)) (drawn_shares roles drawn s)

-- the term of a share; it is the same in each cycle
abbrev pub share_term : Inputs → Roles → (Leaf → Term) → (Leaf → Term) → ℕ → ℕ → ℕ → Term
share_term secrets roles given drawn bit s share =
    if is_drawn roles share then drawn (input bit 0)
    else last_share roles given drawn s
share_term shares roles given drawn bit s share = given (input bit 0)

-- the term of an input bit by its role
abbrev pub role_term : Inputs → Roles → (Leaf → Term) → (Leaf → Term) → ℕ → ℕ → Role → Term
role_term inputs roles given drawn bit cycle (role.Share s share) = share_term inputs roles given drawn bit s share
role_term inputs roles given drawn bit cycle role.Random = drawn (input bit cycle)
role_term inputs roles given drawn bit cycle role.Public = given (input bit cycle)
role_term inputs roles given drawn bit cycle role.Clock = Zero
role_term inputs roles given drawn bit cycle (role.Held v) = constant v

-- the term of an input bit in a cycle; a bit without a role has Zero
unfoldable pub bit_term : Inputs → Roles → Timing → ℕ → ℕ → Term
bit_term inputs roles timing bit cycle =
    option_map_or
    (role_term inputs roles (given_term inputs roles timing) (drawn_term inputs roles timing) bit cycle)
    (role_of roles bit) Zero

-- what is made where a term is joined with others one after another
abbrev pub joins : Term → List Term → List Term
joins t [] = []
joins t (u ∷ us) = xor_of t u ∷ joins (xor_of t u) us

-- what is made for an input bit: for the last share of a secret bit all joins that lead to it
abbrev pub role_joins : Roles → (Leaf → Term) → (Leaf → Term) → Role → List Term
role_joins roles given drawn (role.Share s share) =
    if is_drawn roles share then [] else joins (given (secret s)) (drawn_shares roles drawn s)
role_joins roles given drawn other = []

-- what is made for the input bits, in port order
unfoldable pub made_for_inputs : Inputs → Roles → Timing → List Term
made_for_inputs secrets roles timing =
    flat_map (λ (x : InputRole). role_joins roles (given_term secrets roles timing) (drawn_term secrets roles timing) x.role) roles.inputs
made_for_inputs shares roles timing = []

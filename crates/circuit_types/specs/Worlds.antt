-- Worlds: what the inputs and the random bits give each input bit.
use Rattle.std.specs.Prelude.{ℕ, zero, suc, ◌+◌, ◌==◌, ◌&&◌, nat_lt, not, Bool, true, false, List, [], ◌∷◌, ◌++◌, map, if◌then◌else◌, Option, None, Some, length}
use Rattle.std.specs.Bool.{xor}
use Rattle.std.specs.Option.{option_map_or}
use Rattle.std.specs.List.{flat_map, range_with_len}
use Rattle.circuit_types.specs.declared.circuit.Timing.{Timing}
use Rattle.circuit_types.specs.declared.roles.InputRole.{InputRole}
use Rattle.circuit_types.specs.declared.roles.Role.{Role}
use Rattle.circuit_types.specs.declared.roles.Role.TheVariants.{Share, Random, Public, Clock, Held}
use Rattle.circuit_types.specs.declared.roles.Roles.{Roles}
use Rattle.circuit_types.specs.InputBits.{role_of}
use Rattle.circuit_types.specs.Probes.{cycles}
use Rattle.circuit_types.specs.Value.{Assignment}

-- What the inputs of a world are besides the public bits: the secret bits, as for probing security, or all of their shares,
-- as for non-interference and strong non-interference.
pub data Inputs : Type 0 where
  secrets : Inputs
  shares : Inputs

-- A leaf is a secret bit, or an input bit in a cycle. A share has the same value in each cycle, and stands at cycle 0.
pub data Leaf : Type 0 where
  secret : (s : ℕ) → Leaf
  input : (bit cycle : ℕ) → Leaf

abbrev pub is_same_leaf : Leaf → Leaf → Bool
is_same_leaf (secret s) (secret t) = s == t
is_same_leaf (input b c) (input e f) = b == e && c == f
is_same_leaf l m = false

-- a share that is drawn at random when the secrets are given: each but the last
abbrev pub is_drawn : Roles → ℕ → Bool
is_drawn roles share = nat_lt (share + 1) roles.shares

-- an input bit is an input leaf: a public bit in each cycle, and a share in cycle 0 where the shares are given
abbrev pub is_input_leaf : Inputs → ℕ → Role → Bool
is_input_leaf inputs cycle Public = true
is_input_leaf shares cycle (Share s i) = cycle == 0
is_input_leaf inputs cycle other = false

-- an input bit is a random leaf: a random bit in each cycle, and a share that is drawn, in cycle 0
abbrev pub is_random_leaf : Inputs → Roles → ℕ → Role → Bool
is_random_leaf inputs roles cycle Random = true
is_random_leaf secrets roles cycle (Share s i) = cycle == 0 && is_drawn roles i
is_random_leaf inputs roles cycle other = false

-- the input bits whose roles pass the test, in port order, as leaves of a cycle
abbrev pub leaves_in : (Role → Bool) → Roles → ℕ → List Leaf
leaves_in test roles cycle = flat_map (λ (i : InputRole). if test i.role then input i.bit cycle ∷ [] else []) roles.inputs

-- the leaves of all cycles, cycle by cycle
abbrev pub leaves_of : (ℕ → Role → Bool) → Roles → Timing → List Leaf
leaves_of test roles timing = flat_map (λ c. leaves_in (test c) roles c) (range_with_len 0 (cycles timing))

abbrev pub secret_leaves : Inputs → Roles → List Leaf
secret_leaves secrets roles = map (λ s. secret s) (range_with_len 0 (length roles.secrets))
secret_leaves shares roles = []

-- the input leaves in order: where the secrets are given, these first
unfoldable pub input_leaves : Inputs → Roles → Timing → List Leaf
input_leaves inputs roles timing = secret_leaves inputs roles ++ leaves_of (is_input_leaf inputs) roles timing

-- the random leaves in order
unfoldable pub random_leaves : Inputs → Roles → Timing → List Leaf
random_leaves inputs roles timing = leaves_of (is_random_leaf inputs roles) roles timing

-- the secret bit of a leaf, whose group it is in; a public or random leaf is in none
abbrev pub group_of : Roles → Leaf → Option ℕ
group_of roles (secret s) = Some s
group_of roles (input bit cycle) = option_map_or secret_of (role_of roles bit) None
  where
    secret_of : Role → Option ℕ
    secret_of (Share s i) = Some s
    secret_of other = None

-- the bit that a list gives a leaf: the bit at the leaf's place
abbrev pub bit_of : List Leaf → List Bool → Leaf → Bool
bit_of (l ∷ leaves) (b ∷ bits) leaf = if is_same_leaf l leaf then b else bit_of leaves bits leaf
bit_of leaves bits leaf = false

-- The exclusive or of those shares of a secret bit that are drawn.
abbrev pub drawn_sum : Roles → ℕ → (ℕ → Bool) → List InputRole → Bool
drawn_sum roles s drawn [] = false
drawn_sum roles s drawn (i ∷ inputs) = xor (part i.role) (drawn_sum roles s drawn inputs)
  where
    part : Role → Bool
    part (Share t share) = (t == s && is_drawn roles share) && drawn i.bit
    part other = false

-- The value of a share in a world whose inputs are the secrets: a share that is drawn is as drawn, and the last one makes the
-- exclusive or of all shares the secret bit. Where the inputs are the shares, a share is as given.
abbrev pub share_bit : Inputs → Roles → (Leaf → Bool) → (Leaf → Bool) → ℕ → ℕ → ℕ → Bool
share_bit secrets roles given drawn bit s share =
    if is_drawn roles share then drawn (input bit 0)
    else xor (given (secret s)) (drawn_sum roles s (λ b. drawn (input b 0)) roles.inputs)
share_bit shares roles given drawn bit s share = given (input bit 0)

-- the value of an input bit by its role
abbrev pub role_bit : Inputs → Roles → (Leaf → Bool) → (Leaf → Bool) → ℕ → ℕ → Role → Bool
role_bit inputs roles given drawn bit cycle (Share s share) = share_bit inputs roles given drawn bit s share
role_bit inputs roles given drawn bit cycle Random = drawn (input bit cycle)
role_bit inputs roles given drawn bit cycle Public = given (input bit cycle)
role_bit inputs roles given drawn bit cycle Clock = false
role_bit inputs roles given drawn bit cycle (Held v) = v

-- A world: the assignment that these bits of the input leaves and of the random leaves give, each list in the order of its
-- leaves. A held bit is its constant, and the clock is 0.
unfoldable pub world : Inputs → Roles → Timing → List Bool → List Bool → Assignment
world inputs roles timing given drawn bit cycle =
    option_map_or
    (role_bit inputs roles (bit_of (input_leaves inputs roles timing) given) (bit_of (random_leaves inputs roles timing) drawn) bit cycle)
    (role_of roles bit) false

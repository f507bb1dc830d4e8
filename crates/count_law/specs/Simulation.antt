-- When what is observed depends on few input leaves alone, and when on no secret at all. Said by counts, this is the
-- simulation form of non-interference and of strong non-interference (Barthe et al., CCS 2016), and the independence of
-- the secrets that probing security asks for (Ishai, Sahai and Wagner, CRYPTO 2003).
--
-- `groups` has for each input leaf its group: the secret bit that the leaf is, or is a share of. A leaf without a group
-- is public. `count inputs o` is how many assignments of the random leaves give the observation o, where the input leaves
-- have the bits `inputs`. A set of leaves is a test of their numbers.
use Rattle.std.specs.Prelude.{ℕ, ◌<◌, ◌≤◌, ◌≡◌, ◌&&◌, ◌||◌, not, Bool, false, if◌then◌else◌, IsTrue}
use Rattle.std.specs.Prelude.{List, length, map, Option, is_some, IsNone, IsSome}
use Rattle.std.specs.List.{range_with_len}
use Rattle.expr_table.specs.Values.{bit}
use Rattle.once_random.specs.Groups.{group_at, is_in_group}
use Rattle.once_random.specs.Numbers.{count_below}

-- the inputs have the same public bits
abbrev pub SamePublics : List (Option ℕ) → List Bool → List Bool → Type 0
SamePublics groups inputs others =
    (i : ℕ) → i < length groups → IsNone (group_at groups i) → bit inputs i ≡ bit others i

-- the inputs have the same bits on the set
abbrev pub SameOn : (ℕ → Bool) → List Bool → List Bool → Type 0
SameOn set inputs others = (i : ℕ) → IsTrue (set i) → bit inputs i ≡ bit others i

-- Of all inputs the set and the publics alone decide what is observed: any two inputs that agree on these give each
-- observation equally often.
abbrev pub DependsOn : List (Option ℕ) → (List Bool → List Bool → ℕ) → (ℕ → Bool) → Type 0
DependsOn groups count set = (inputs others o : List Bool)
    → SameOn set inputs others → SamePublics groups inputs others → count inputs o ≡ count others o

-- how many leaves of a group are in the set
abbrev pub members_in : List (Option ℕ) → (ℕ → Bool) → ℕ → ℕ
members_in groups set group = count_below (length groups) (λ i. is_in_group groups group i && set i)

-- What is observed is simulatable from the set within a bound: each leaf of the set has a group, no group has more leaves
-- in it than the bound, and what is observed depends on the set and the publics alone.
pub record IsSimulatable (groups : List (Option ℕ)) (count : List Bool → List Bool → ℕ) (set : ℕ → Bool) (bound : ℕ) : Type 0 where
  pub each_in_a_group : (i : ℕ) → IsTrue (set i) → IsSome (group_at groups i)
  pub few_of_each : (group : ℕ) → members_in groups set group ≤ bound
  pub depends_on_it : DependsOn groups count set

-- What is observed does not depend on the secrets: any two inputs that agree on the publics give each observation equally
-- often.
abbrev pub IsIndependent : List (Option ℕ) → (List Bool → List Bool → ℕ) → Type 0
IsIndependent groups count =
    (inputs others o : List Bool) → SamePublics groups inputs others → count inputs o ≡ count others o

-- the inputs that a simulator takes, who is given the bits on the set and the publics: 0 for each other leaf
abbrev pub known_inputs : List (Option ℕ) → (ℕ → Bool) → List Bool → List Bool
known_inputs groups set inputs =
    map (λ i. if set i || not (is_some (group_at groups i)) then bit inputs i else false) (range_with_len 0 (length groups))

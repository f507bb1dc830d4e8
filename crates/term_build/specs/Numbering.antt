-- How leaves are numbered while a circuit is gone through, cycle by cycle.
use Rattle.std.specs.Prelude.{ℕ, Bool, List, [], ◌∷◌, ◌++◌, if◌then◌else◌}
use Rattle.std.specs.List.{flat_map, range_with_len}
use Rattle.circuit_types.specs.declared.circuit.Timing.{Timing}
use Rattle.circuit_types.specs.declared.roles.InputRole.{InputRole}
use Rattle.circuit_types.specs.declared.roles.Role.{Role}
use Rattle.circuit_types.specs.declared.roles.Roles.{Roles}
use Rattle.circuit_types.specs.Worlds.{Leaf, input, is_input_leaf, is_random_leaf, leaves_in, secret_leaves, input_leaves, random_leaves}
use Rattle.expr_table.specs.declared.instance.Notion.{Notion}
use Rattle.expr_table.specs.Table.{Table}
use Rattle.expr_table.specs.Term.{Term}
use Rattle.expr_table.specs.Term as term
use Rattle.term_build.specs.declared.leaves.Sort.{Sort}
use Rattle.term_build.specs.declared.leaves.Sort.TheVariants.{Input, Random}
use Rattle.term_build.specs.Leaves.{inputs_of}

-- an input bit with this role is a leaf of the sort in this cycle
abbrev pub is_leaf : Sort → Notion → Roles → ℕ → Role → Bool
is_leaf Input notion roles cycle = is_input_leaf (inputs_of notion) cycle
is_leaf Random notion roles cycle = is_random_leaf (inputs_of notion) roles cycle

-- all leaves of the sort
abbrev pub all_leaves : Sort → Notion → Roles → Timing → List Leaf
all_leaves Input notion roles timing = input_leaves (inputs_of notion) roles timing
all_leaves Random notion roles timing = random_leaves (inputs_of notion) roles timing

-- those that are no input bits
abbrev pub leaves_of_secrets : Sort → Notion → Roles → List Leaf
leaves_of_secrets Input notion roles = secret_leaves (inputs_of notion) roles
leaves_of_secrets Random notion roles = []

-- the leaves of a cycle among some of the inputs
abbrev pub leaves_among : (Role → Bool) → ℕ → List InputRole → List Leaf
leaves_among test cycle inputs = flat_map (λ (i : InputRole). if test i.role then input i.bit cycle ∷ [] else []) inputs

-- the leaves before those of a cycle
abbrev pub leaves_before : Sort → Notion → Roles → ℕ → List Leaf
leaves_before sort notion roles cycle =
    leaves_of_secrets sort notion roles ++ flat_map (λ c. leaves_in (is_leaf sort notion roles c) roles c) (range_with_len 0 cycle)

-- the leaves up to some of the inputs of a cycle
abbrev pub leaves_up_to : Sort → Notion → Roles → ℕ → List InputRole → List Leaf
leaves_up_to sort notion roles cycle inputs = leaves_before sort notion roles cycle ++ leaves_among (is_leaf sort notion roles cycle) cycle inputs

-- the term of a leaf by its number
abbrev pub numbered_term : Sort → ℕ → Term
numbered_term Input i = term.Input i
numbered_term Random i = term.Random i

-- how many leaves of the sort a table has
abbrev pub leaf_count : Sort → Table → ℕ
leaf_count Input table = table.inputs
leaf_count Random table = table.randoms

-- The leaves of terms: secret bits and input bits by their places among the input leaves and the random leaves.
use Rattle.std.specs.Prelude.{ℕ, suc, List, [], ◌∷◌, Option, None, Some, if◌then◌else◌}
use Rattle.std.specs.Option.{option_map, option_map_or}
use Rattle.circuit_types.specs.declared.circuit.Timing.{Timing}
use Rattle.circuit_types.specs.declared.roles.Roles.{Roles}
use Rattle.circuit_types.specs.Worlds.{Inputs, secrets, shares, Leaf, is_same_leaf, input_leaves, random_leaves}
use Rattle.expr_table.specs.declared.instance.Notion.{Notion}
use Rattle.expr_table.specs.declared.instance.Notion.TheVariants.{Probing, Ni, Sni}
use Rattle.expr_table.specs.Term.{Term, Zero, Input, Random}

-- what the inputs of a world are: the secret bits for probing security, their shares for non-interference and strong
-- non-interference
abbrev pub inputs_of : Notion → Inputs
inputs_of Probing = secrets
inputs_of Ni = shares
inputs_of Sni = shares

-- where a leaf first stands in a list
abbrev pub leaf_number : List Leaf → Leaf → Option ℕ
leaf_number [] leaf = None
leaf_number (l ∷ leaves) leaf = if is_same_leaf l leaf then Some 0 else option_map suc (leaf_number leaves leaf)

-- the term of a leaf that stands in the list, and Zero for another
abbrev pub leaf_term : (ℕ → Term) → List Leaf → Leaf → Term
leaf_term numbered leaves leaf = option_map_or numbered (leaf_number leaves leaf) Zero

-- the term of an input leaf
abbrev pub given_term : Inputs → Roles → Timing → Leaf → Term
given_term inputs roles timing = leaf_term (λ i. Input i) (input_leaves inputs roles timing)

-- the term of a random leaf
abbrev pub drawn_term : Inputs → Roles → Timing → Leaf → Term
drawn_term inputs roles timing = leaf_term (λ i. Random i) (random_leaves inputs roles timing)

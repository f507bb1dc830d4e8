-- What is found of a source by going through the gates from the inputs and registers on.
use Rattle.std.specs.Prelude.{ℕ, zero, suc, List, map, length}
use Rattle.circuit_types.specs.declared.nets.NetCell.{NetCell}
use Rattle.circuit_types.specs.declared.nets.Nets.{Nets}
use Rattle.circuit_types.specs.declared.nets.Source.{Source}
use Rattle.circuit_types.specs.declared.nets.Source.TheVariants.{Cell}
use Rattle.circuit_types.specs.DataSources.{cell_at}

-- one thing of a cell, another of every other source
abbrev pub at_source : {V : Type 0} → (ℕ → V) → (Source → V) → Source → V
at_source of_cell leaf (Cell k) = of_cell k
at_source of_cell leaf other = leaf other

module _ {V : Type 0} (leaf : Source → V) (of_cell : ℕ → List V → V) (reads : NetCell → List Source) (nets : Nets) where
  -- What is found of a source by going back at most n cells. Of a cell it is `of_cell`, of its number and of what is found
  -- of the sources that it reads; of any other source it is `leaf`.
  abbrev pub found_within : ℕ → Source → V
  found_within zero s = leaf s
  found_within (suc n) s = at_source (λ k. of_cell k (map (found_within n) (reads (cell_at nets k)))) leaf s

  -- No way back through settled cells is longer than there are cells.
  unfoldable pub found : Source → V
  found s = found_within (length nets.cells) s

-- What is found of sources, seen through a map.
use Rattle.std.proofs.Common.{◌≡◌, ℕ, zero, suc, List, [], ◌∷◌, length, map, refl, ap, ◌∙◌}
use Rattle.circuit_types.specs.declared.nets.NetCell.{NetCell}
use Rattle.circuit_types.specs.declared.nets.Nets.{Nets}
use Rattle.circuit_types.specs.declared.nets.Source.{Source}
use Rattle.circuit_types.specs.declared.nets.Source.TheVariants as source
use Rattle.circuit_types.specs.DataSources.{cell_at}
use Rattle.circuit_types.specs.Found.{found_within, found}

map_through : {V W : Type 0} (h : V → W) (f : Source → V) (g : Source → W) → ((s : Source) → h (f s) ≡ g s) → (ss : List Source) → map h (map f ss) ≡ map g ss
map_through h f g same [] = refl
map_through h f g same (s ∷ ss) = let here = same s in let rest = map_through h f g same ss in λ i. here i ∷ rest i

module _ {V W : Type 0} (h : V → W) (leaf : Source → V) (leaf_of : Source → W) (cell : ℕ → List V → V) (cell_of : ℕ → List W → W) (reads : NetCell → List Source) (nets : Nets)
    (leaves : (s : Source) → h (leaf s) ≡ leaf_of s) (cells : (k : ℕ) (vs : List V) → h (cell k vs) ≡ cell_of k (map h vs)) where
  within_through : (n : ℕ) (s : Source) → h (found_within leaf cell reads nets n s) ≡ found_within leaf_of cell_of reads nets n s
  within_through zero s = leaves s
  within_through (suc n) (source.Cell k) =
      cells k (map (found_within leaf cell reads nets n) (reads (cell_at nets k)))
      ∙ ap (cell_of k) (map_through h (found_within leaf cell reads nets n) (found_within leaf_of cell_of reads nets n) (within_through n) (reads (cell_at nets k)))
  within_through (suc n) (source.Input b) = leaves (source.Input b)
  within_through (suc n) source.Zero = leaves source.Zero
  within_through (suc n) source.One = leaves source.One
  within_through (suc n) source.Unknown = leaves source.Unknown
  within_through (suc n) source.Missing = leaves source.Missing

  -- what is found is the same, whether it is mapped at each cell or at the end
  pub found_through : (s : Source) → h (found leaf cell reads nets s) ≡ found leaf_of cell_of reads nets s
  unfolding found
  found_through s = within_through (length nets.cells) s

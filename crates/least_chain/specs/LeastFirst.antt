-- Numbers kept so that the least comes first.
use Rattle.std.specs.Prelude.{ℕ, List, map}
use Rattle.std.specs.BinaryHeap.{IsHeap}
use Rattle.std.specs.Ordering.{nat_cmp}
use Rattle.std.specs.declared.cmp.Reverse.{Reverse}

-- the numbers of a heap
abbrev pub numbers_in : List (Reverse ℕ) → List ℕ
numbers_in items = map (λ (item : Reverse ℕ). item.0) items

-- no number is less than the one above it
abbrev pub IsLeastFirst : List (Reverse ℕ) → Type 0
IsLeastFirst items = IsHeap (λ (x y : Reverse ℕ). nat_cmp y.0 x.0) items

-- Shapes of signals as they are computed: a width past 2^33 is kept as 2^33, so that no sum overflows.
use Rattle.std.specs.Prelude.{◌≡◌, ℕ, ◌+◌, true, ◌&&◌, nat_le, min, List, [], ◌∷◌}
use Rattle.circuit_types.specs.Signals.{most_width}
use Rattle.circuit_types.specs.Signals as signals
use Rattle.net_build.specs.declared.shape.Shape.{Shape}

abbrev pub cap : ℕ
cap = 8589934592

abbrev pub capped : signals.Shape → Shape
capped s = record { width = min s.width cap; narrow = s.narrow; named = s.named; sliced = s.sliced }

-- the parts of a join so far, and one part more
abbrev pub with_part : Shape → signals.Shape → Shape
with_part w p = record {
  width = min (w.width + p.width) cap;
  narrow = w.narrow && p.narrow;
  named = w.named && p.named;
  sliced = w.sliced && p.sliced;
}

unfoldable pub with_parts : Shape → List signals.Shape → Shape
with_parts w [] = w
with_parts w (p ∷ ps) = with_parts (with_part w p) ps

-- a join is narrow where its parts are, and its own width is
abbrev pub whole : Shape → Shape
whole w = record { width = w.width; narrow = w.narrow && nat_le w.width most_width; named = w.named; sliced = w.sliced }

-- a signal whose bits can be written out: it is narrow, and its names and slices are good
pub record IsGood (s : signals.Shape) : Type 0 where
  pub narrow : s.narrow ≡ true
  pub named : s.named ≡ true
  pub sliced : s.sliced ≡ true

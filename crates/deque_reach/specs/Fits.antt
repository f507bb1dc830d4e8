-- What the families of a deque fit.
use Rattle.std.specs.Prelude.{ℕ, ◌≤◌}
use Rattle.probe_family.specs.declared.family.Family.{Family}
use Rattle.probe_family.specs.Families.{IsFamily}

-- a family over so many probes, whose tuples have at most so many of them
pub record Fits (probes order : ℕ) (family : Family) : Type 0 where
  pub is : IsFamily probes family
  pub small : family.size ≤ order

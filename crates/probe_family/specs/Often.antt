-- Lists that have each element as often.
use Rattle.std.specs.Prelude.{ℕ, ◌≡◌, List, map, sum_by}
use Rattle.probe_family.specs.declared.ending.Ended.{Ended}
use Rattle.probe_family.specs.declared.family.Family.{Family}

-- One list has each element as often as the other: however the elements are weighed, both weigh the same. Where the
-- weight is 1 at one element and else 0, that is how often it stands there.
abbrev pub AsOften : {X : Type 0} → List X → List X → Type 0
AsOften {X} xs ys = (h : X → ℕ) → sum_by h xs ≡ sum_by h ys

-- the families that ended
abbrev pub families_of : List Ended → List Family
families_of records = map (λ (e : Ended). e.family) records

-- Contents that an object may tell or not.
use Rattle.std.specs.Prelude.{Option, None, Some}

-- the relation holds of what is told before and after; what was told is told still
abbrev pub WhereTold : {S : Type 0} → (S → S → Type 0) → Option S → Option S → Type 0
WhereTold Relates None None = Unit {0}
WhereTold Relates (Some old) (Some new) = Relates old new
WhereTold Relates old new = ⊥

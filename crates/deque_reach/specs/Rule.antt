-- The rule of one deque, over the families that stand in it and the views of all its passes.
use Rattle.std.specs.Prelude.{◌≡◌, ℕ, ◌<◌, ◌⊎◌, List, [], ◌∷◌, ◌++◌, true, false, All, sum_by}
use Rattle.std.specs.List.{flat_map}
use Rattle.probe_family.specs.declared.family.Family.{Family}
use Rattle.deque_reach.specs.declared.pass_view.PassView.{PassView}
use Rattle.probe_family.specs.Often.{AsOften}
use Rattle.deque_reach.specs.Fits.{Fits}

-- the right to know a whole deque has so many parts
abbrev pub all_parts : ℕ
all_parts = 1024

-- the owner's view before the deque was told what its families fit
abbrev pub untold : PassView
untold = record { begun = false; parts = all_parts; probes = 0; order = 0; pushed = []; taken = [] }

-- the families that were pushed with any pass
abbrev pub all_pushed : List PassView → List Family
all_pushed views = flat_map (λ v. v.pushed) views

-- the families that were taken with any pass
abbrev pub all_taken : List PassView → List Family
all_taken views = flat_map (λ v. v.taken) views

-- a pass that has a part knows what the families fit, and with a pass that has none nothing was done
pub record IsPass (probes order : ℕ) (v : PassView) : Type 0 where
  pub begun : v.begun ≡ true
  pub numbers : 0 < v.parts → (v.probes ≡ probes) × (v.order ≡ order)
  pub idle : v.parts ≡ 0 → (v.pushed ≡ []) × (v.taken ≡ [])

-- the rule: what was pushed is what was taken and what stands there, as often, and what stands there fits
pub record ObeysRule (probes order : ℕ) (items : List Family) (views : List PassView) : Type 0 where
  pub balance : AsOften (all_pushed views) (all_taken views ++ items)
  pub fits : All (Fits probes order) items
  pub passes : All (IsPass probes order) views
  pub whole : sum_by (λ v. v.parts) views ≡ all_parts

-- A deque begins with the owner's pass alone. The family that it pushes first tells what later ones fit, and leaves again.
pub record IsBeginning (items : List Family) (views : List PassView) : Type 0 where
  pub owner : PassView
  pub alone : views ≡ owner ∷ []
  pub untold : owner.begun ≡ false
  pub whole : owner.parts ≡ all_parts
  pub pushed : items ≡ owner.pushed
  pub taken : owner.taken ≡ []

-- a deque is at its beginning, or it obeys the rule
abbrev pub Keeps : List Family → List PassView → Type 0
Keeps items views = IsBeginning items views ⊎ ((probes order : ℕ) × ObeysRule probes order items views)

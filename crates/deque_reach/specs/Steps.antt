-- What each step on a deque does to the view of its pass.
use Rattle.std.specs.Prelude.{◌≡◌, ℕ, ◌+◌, ◌-◌, List, [], ◌∷◌, ◌++◌, true, All, length}
use Rattle.probe_family.specs.declared.family.Family.{Family}
use Rattle.probe_family.specs.declared.part.Part.{Part}
use Rattle.deque_reach.specs.declared.pass_view.PassView.{PassView}
use Rattle.probe_family.specs.Often.{AsOften}
use Rattle.deque_reach.specs.Fits.{Fits}
use Rattle.deque_reach.specs.Rule.{all_parts}

-- the first family of a deque is pushed
abbrev pub Tells : PassView → List Family → PassView → Type 0
Tells v families w = w ≡ record v { pushed = families }

-- the length of the first set
abbrev pub probes_told : List Part → ℕ
probes_told [] = 0
probes_told (part ∷ parts) = length part.set

-- nothing was done yet, and later families fit so many probes and this order
abbrev pub fresh : ℕ → ℕ → PassView
fresh probes order = record { begun = true; parts = all_parts; probes = probes; order = order; pushed = []; taken = [] }

-- the first family tells them by the length of its first set and by its size
abbrev pub begun : List Family → PassView
begun [] = fresh 0 0
begun (f ∷ fs) = fresh (probes_told f.parts) f.size

-- the first family is popped
abbrev pub Begins : PassView → List Family → PassView → Type 0
Begins v families w = w ≡ begun v.pushed

-- no family was pushed
abbrev pub IsUntold : PassView → Type 0
IsUntold v = v.pushed ≡ []

-- families are pushed
abbrev pub Pushes : PassView → List Family → PassView → Type 0
Pushes v families w = w ≡ record v { pushed = v.pushed ++ families }

-- families are taken, and they fit
abbrev pub Takes : PassView → List Family → PassView → Type 0
Takes v families w = (w ≡ record v { taken = v.taken ++ families }) × All (Fits v.probes v.order) families

-- the view after one family was taken
abbrev pub after_take : PassView → Family → PassView
after_take v family = record v { taken = v.taken ++ family ∷ [] }

-- a pass without a part that it gives to another
abbrev pub without_part : PassView → PassView
without_part v = record v { parts = v.parts - 1 }

-- a new pass
abbrev pub with_one_part : PassView → PassView
with_one_part v = record v { parts = 1; pushed = []; taken = [] }

-- a pass that takes in another
abbrev pub both_views : PassView → PassView → PassView
both_views v w = record v { parts = v.parts + w.parts; pushed = v.pushed ++ w.pushed; taken = v.taken ++ w.taken }

-- what is left of the other
abbrev pub spent : PassView
spent = record { begun = true; parts = 0; probes = 0; order = 0; pushed = []; taken = [] }

-- what a pass that knows the whole finds where these families stand in the deque
abbrev pub Balances : PassView → List Family → Type 0
Balances v items = AsOften v.pushed (v.taken ++ items)

-- Facts on options: steps that give a value, tests and choices.
use Rattle.std.proofs.Common.{◌≡◌, Bool, true, false, cond, Option, Some, None, refl, ap, ◌∙◌, inl, inr, ◌⊎◌}
use Rattle.share_notes.specs.Reading.{◌>>=◌}
use Rattle.share_notes.specs.Reading.{choose}

abbrev pub some_of : {A : Type 0} → A → Option A
some_of x = Some x

abbrev pub nothing : {A : Type 0} → Option A
nothing = None

pub none_is_none : {A : Type 0} (x : A) → nothing ≡ Some x → ⊥
none_is_none x e = cc

pub some_is : {A : Type 0} (x y : A) → some_of x ≡ Some y → x ≡ y
some_is x y e = cc

-- the value of a step that gave one
pub bind_is : {A B : Type 0} (read : Option A) (f : A → Option B) (y : B) → (read >>= f) ≡ Some y → (x : A) × (read ≡ Some x) × (f x ≡ Some y)
bind_is None f y e = absurd cc
bind_is (Some x) f y e = (x, refl, e)

-- a step after one that gave its value
pub bind_at : {A B : Type 0} (read : Option A) (f : A → Option B) (x : A) (y : Option B) → read ≡ Some x → f x ≡ y → (read >>= f) ≡ y
bind_at {A} {B} read f x y e h = ap (λ (r : Option A). r >>= f) e ∙ h

-- a test that let a value through
pub guard_is : {A : Type 0} (b : Bool) (x y : A) → cond b (some_of x) None ≡ Some y → (b ≡ true) × (x ≡ y)
guard_is true x y e = (refl, cc)
guard_is false x y e = absurd cc

pub guard_at : {A : Type 0} (b : Bool) (x : Option A) → b ≡ true → cond b x None ≡ x
guard_at true x e = refl
guard_at false x e = absurd cc

-- which way a choice went
pub choose_is : {A B : Type 0} (read : Option A) (f : A → Option B) (other : Option B) (y : B) → choose read f other ≡ Some y → ((x : A) × (read ≡ Some x) × (f x ≡ Some y)) ⊎ (other ≡ Some y)
choose_is None f other y e = inr e
choose_is (Some x) f other y e = inl (x, refl, e)

pub cond_is : {A : Type 0} (b : Bool) (x y z : A) → cond b x y ≡ z → ((b ≡ true) × (x ≡ z)) ⊎ (y ≡ z)
cond_is true x y z e = inl (refl, e)
cond_is false x y z e = inr e

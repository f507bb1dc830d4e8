-- Premises that are tested element by element.
use Rattle.std.proofs.Common.{◌≡◌, ◌≢◌, ◌<◌, ◌≤◌, ℕ, ◌+◌, List, All, length, map, take, get_or, sym, subst}
use Rattle.std.specs.List.{AllPairs}
use Rattle.std.proofs.lemmas.List.{take_all, map_more}
use Rattle.std.proofs.lemmas.List.Elements.{All-more, All-push}
use Rattle.circuit_types.specs.declared.nets.Pin.{Pin}
use Rattle.circuit_types.specs.declared.nets.Source.{Source}
use Rattle.circuit_types.specs.declared.roles.InputRole.{InputRole}

-- one element more, of a list that was read under another name
pub all_more : {X : Type 0} (P : X → Type 0) (xs ys : List X) (i : ℕ) (d : X) → ys ≡ xs → i < length ys → All P (take i xs) → P (get_or ys i d) → All P (take (i + 1) xs)
all_more P xs ys i d same lt before here =
    subst (λ zs. All P (take (i + 1) zs)) same (All-more P ys i d lt (subst (λ zs. All P (take i zs)) (sym same) before) here)

pub all_taken : {X : Type 0} (P : X → Type 0) (xs ys : List X) (i : ℕ) → ys ≡ xs → length ys ≤ i → All P (take i xs) → All P xs
all_taken P xs ys i same le all = subst (All P) (take_all i xs (subst (λ zs. length zs ≤ i) same le)) all

-- one pin more
pub pins_more : (P : Source → Type 0) (pins read : List Pin) (i : ℕ) (d : Pin) → read ≡ pins → i < length read → All P (map (λ (pin : Pin). pin.source) (take i pins)) → P (get_or read i d).source
    → All P (map (λ (pin : Pin). pin.source) (take (i + 1) pins))
pins_more P pins read i d same lt before here =
    subst (λ ps. All P (map (λ (pin : Pin). pin.source) (take (i + 1) ps))) same
    (subst (All P) (sym (map_more (λ (pin : Pin). pin.source) read i d lt))
    (All-push P (map (λ (pin : Pin). pin.source) (take i read)) (get_or read i d).source (subst (λ ps. All P (map (λ (pin : Pin). pin.source) (take i ps))) (sym same) before) here))

pub pins_taken : (P : Source → Type 0) (pins read : List Pin) (i : ℕ) → read ≡ pins → length read ≤ i → All P (map (λ (pin : Pin). pin.source) (take i pins)) → All P (map (λ (pin : Pin). pin.source) pins)
pins_taken P pins read i same le all = subst (λ ps. All P (map (λ (pin : Pin). pin.source) ps)) (take_all i pins (subst (λ zs. length zs ≤ i) same le)) all

-- inputs whose bits ascend, below a bound, and are among so many
pub record AreApart (count next : ℕ) (inputs : List InputRole) : Type 0 where
  pub within : All (λ (i : InputRole). i.bit < count) inputs
  pub below : All (λ (i : InputRole). i.bit < next) inputs
  pub apart : AllPairs (λ (i j : InputRole). i.bit ≢ j.bit) inputs

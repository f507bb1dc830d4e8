-- Where bits end by the drives, and by the list of what drives each bit.
use Rattle.std.proofs.Common.{◌≡◌, ℕ, zero, suc, ◌+◌, ◌<◌, Bool, true, false, cond, ◌⊎◌, inl, inr, ⊎_elim, List, [], ◌∷◌, ◌++◌, length, map, get_or, Option, Some, None, refl, sym, ap, ◌∙◌, subst, arith}
use Rattle.std.specs.Prelude.{Contains}
use Rattle.std.specs.List.{Any, list_any, find}
use Rattle.std.specs.Option.{IfSome}
use Rattle.std.proofs.lemmas.Bool.{or_parts, cases_lt, eqb-true, eq-eqb}
use Rattle.std.proofs.lemmas.Option.{same_Some}
use Rattle.std.proofs.lemmas.List.{length-map, get_or-map, get_or_past, ext_get_or}
use Rattle.std.proofs.lemmas.List.Folds.{list_any-append}
use Rattle.circuit_types.specs.Bits.{numbers}
use Rattle.circuit_types.specs.Due.{Never}
use Rattle.circuit_types.specs.Items.{bit_count, kept_cells}
use Rattle.circuit_types.specs.declared.tree.Item.{Item}
use Rattle.net_build.specs.Good.{AreWithin}
use Rattle.circuit_types.specs.Drives.{Drive, by_cell, by_bit, is_input_bit, is_net, is_taken, redriven, Ends, at_zero, at_one, at_unknown, at_input, at_cell, through, EndsNowhere, EndsAt}
use Rattle.circuit_types.specs.Drives as drives
use Rattle.circuit_types.specs.Nets.{end_in}
use Rattle.circuit_types.specs.declared.nets.NetWire.{NetWire}
use Rattle.circuit_types.specs.declared.nets.SignalBit.{SignalBit}
use Rattle.circuit_types.specs.declared.nets.SignalBit.TheVariants as bit
use Rattle.circuit_types.specs.declared.nets.Source.{Source}
use Rattle.circuit_types.specs.declared.nets.Source.TheVariants as source
use Rattle.net_build.specs.Drivers.{IsWithin, KnowsDrivers, code_of, driver_or, first_driver}
use Rattle.net_build.specs.Ends.{step_of, step_at, Leads, here, on, IsEndOf, IsClosed, end_at}
use Rattle.net_build.specs.Sources.{AreSources}
use Rattle.net_build.specs.declared.drivers.Driver.{Driver}
use Rattle.net_build.specs.declared.drivers.Driver.TheVariants as driver
use Rattle.net_build.specs.declared.resolve.Step.TheVariants.{To, At}
use Rattle.net_build.proofs.BitLemmas.{length-numbers}
use Rattle.net_build.proofs.DueLemmas.{contains_first}
use Rattle.net_build.proofs.EachLemmas.{Each, any_cases, any_none, any_first, any_later}
use Rattle.net_build.proofs.EndLemmas.{leads_on}
use Rattle.net_build.proofs.WithinLemmas.{IsDriverWithin, IsDriveWithin, EachWithin, each_within, drives_within, input_bit_within}

-- the drive is of that bit, by that
abbrev Of : ℕ → drives.Driver → Drive → Type 0
Of k x d = (d.target ≡ bit.Net k) × (d.driver ≡ x)

-- the first of some drives of a bit is by that, and the bit was not taken before
record IsOnly (ws : List NetWire) (es ds : List Drive) (k : ℕ) (x : drives.Driver) : Type 0 where
  no_input : is_input_bit ws k ≡ false
  no_earlier : list_any (λ d. is_net k d.target) es ≡ false
  first : IfSome (find (λ d. is_net k d.target) ds) (λ d. d.driver ≡ x)
  some : driver_or (find (λ d. is_net k d.target) ds) ≡ code_of x

net_same : (k : ℕ) (b : SignalBit) → b ≡ bit.Net k → is_net k b ≡ true
net_same k b e = ap (is_net k) e ∙ eq-eqb k k refl

not_taken : (ws : List NetWire) (es ds : List Drive) (d : Drive) (b : Bool) → is_taken ws es d.target ≡ b → Never (Contains (cond b (d.line ∷ []) [] ++ redriven ws (es ++ d ∷ []) ds))
    → (is_taken ws es d.target ≡ false) × Never (Contains (redriven ws (es ++ d ∷ []) ds))
not_taken ws es ds d true e n = absurd (n d.line (contains_first d.line (redriven ws (es ++ d ∷ []) ds)))
not_taken ws es ds d false e n = (e, n)

next_once : (ws : List NetWire) (es ds : List Drive) (d : Drive) → Never (Contains (redriven ws es (d ∷ ds)))
    → (is_taken ws es d.target ≡ false) × Never (Contains (redriven ws (es ++ d ∷ []) ds))
unfolding redriven
next_once ws es ds d n = not_taken ws es ds d (is_taken ws es d.target) refl n

only_first : (ws : List NetWire) (es ds : List Drive) (d : Drive) (k : ℕ) (x : drives.Driver) → Of k x d → is_taken ws es d.target ≡ false → IsOnly ws es (d ∷ ds) k x
only_first ws es ds d k x o f =
    let parts = or_parts (is_input_bit ws k) (list_any (λ d. is_net k d.target) es) (sym (ap (is_taken ws es) o.0) ∙ f) in
    let found : find (λ d. is_net k d.target) (d ∷ ds) ≡ Some d = ap (λ b. cond b (Some d) (find (λ d. is_net k d.target) ds)) (net_same k d.target o.0) in
    record {
      no_input = parts.0;
      no_earlier = parts.1;
      first = subst (λ v. IfSome v (λ (y : Drive). y.driver ≡ x)) (sym found) o.1;
      some = ap driver_or found ∙ ap code_of o.1;
    }

only_later : (ws : List NetWire) (es ds : List Drive) (d : Drive) (k : ℕ) (x : drives.Driver) → IsOnly ws (es ++ d ∷ []) ds k x → IsOnly ws es (d ∷ ds) k x
only_later ws es ds d k x o =
    let parts = or_parts (list_any (λ d. is_net k d.target) es) (list_any (λ d. is_net k d.target) (d ∷ []))
    (sym (list_any-append (λ (y : Drive). is_net k y.target) es (d ∷ [])) ∙ o.no_earlier) in
    let one = or_parts (is_net k d.target) false parts.1 in
    let found : find (λ d. is_net k d.target) (d ∷ ds) ≡ find (λ d. is_net k d.target) ds = ap (λ b. cond b (Some d) (find (λ d. is_net k d.target) ds)) one.0 in
    record {
      no_input = o.no_input;
      no_earlier = parts.0;
      first = subst (λ v. IfSome v (λ (y : Drive). y.driver ≡ x)) (sym found) o.first;
      some = ap driver_or found ∙ o.some;
    }

only_drive : (ws : List NetWire) (es ds : List Drive) (k : ℕ) (x : drives.Driver) → Never (Contains (redriven ws es ds)) → Any (Of k x) ds → IsOnly ws es ds k x
only_drive ws es [] k x n a = absurd (any_none (Of k x) a)
only_drive ws es (d ∷ ds) k x n a =
    let m = next_once ws es ds d n in
    ⊎_elim (λ o. only_first ws es ds d k x o m.0) (λ b. only_later ws es ds d k x (only_drive ws (es ++ d ∷ []) ds k x m.1 b)) (any_cases (Of k x) d ds a)

-- what is needed of drives and of the list of drivers
pub record AreKnown (ws : List NetWire) (ds : List Drive) (m : ℕ) (drs : List Driver) : Type 0 where
  pub knows : KnowsDrivers ws ds drs
  pub once : Never (Contains (redriven ws [] ds))
  pub wires : EachWithin ws
  pub drives : Each (IsDriveWithin (bit_count ws) m) ds

-- the driver of a bit by its one drive
driver_at : (ws : List NetWire) (ds : List Drive) (m : ℕ) (drs : List Driver) (k : ℕ) (x : drives.Driver) → AreKnown ws ds m drs → k < bit_count ws → Any (Of k x) ds
    → get_or drs k driver.Nothing ≡ code_of x
unfolding first_driver
driver_at ws ds m drs k x h lt a =
    let o = only_drive ws [] ds k x h.once a in
    h.knows.each k (omega (arith, lt, h.knows.size))
    ∙ (ap (λ b. cond b driver.Input (driver_or (find (λ d. is_net k d.target) ds))) o.no_input ∙ o.some)

input_at : (ws : List NetWire) (ds : List Drive) (m : ℕ) (drs : List Driver) (k : ℕ) → AreKnown ws ds m drs → is_input_bit ws k ≡ true → get_or drs k driver.Nothing ≡ driver.Input
unfolding first_driver
input_at ws ds m drs k h e =
    let lt = input_bit_within (bit_count ws) ws k h.wires e in
    h.knows.each k (omega (arith, lt, h.knows.size)) ∙ ap (λ b. cond b driver.Input (driver_or (find (λ d. is_net k d.target) ds))) e

target_within : (n m k : ℕ) (x : drives.Driver) (ds : List Drive) → Each (IsDriveWithin n m) ds → Any (Of k x) ds → (k < n) × IsDriverWithin n m x
target_within n m k x [] h a = absurd (any_none (Of k x) a)
target_within n m k x (d ∷ ds) h a =
    ⊎_elim (λ o. (subst (IsWithin n) o.0 h.0.target, subst (IsDriverWithin n m) o.1 h.0.driver)) (λ b. target_within n m k x ds h.1 b) (any_cases (Of k x) d ds a)

step_is : (drs : List Driver) (k : ℕ) (x : Driver) → get_or drs k driver.Nothing ≡ x → step_at drs k ≡ step_of x k
unfolding step_at
step_is drs k x e = ap (λ y. step_of y k) e

-- where a bit comes to by the list
abbrev Comes : List Driver → SignalBit → Source → Type 0
Comes drs (bit.Net k) e = Leads drs k e
Comes drs bit.Zero e = e ≡ source.Zero
Comes drs bit.One e = e ≡ source.One
Comes drs bit.Unknown e = e ≡ source.Unknown

through_comes : (drs : List Driver) (k : ℕ) (b : SignalBit) (e : Source) → step_at drs k ≡ step_of (driver.Bit b) k → Comes drs b e → Leads drs k e
through_comes drs k (bit.Net n) e s c = on k n e s c
through_comes drs k bit.Zero e s c = here k e (s ∙ ap At (sym c))
through_comes drs k bit.One e s c = here k e (s ∙ ap At (sym c))
through_comes drs k bit.Unknown e s c = here k e (s ∙ ap At (sym c))

ends_come : (ws : List NetWire) (ds : List Drive) (m : ℕ) (drs : List Driver) → AreKnown ws ds m drs → (b : SignalBit) (e : Source) → Ends ws ds b e → Comes drs b e
ends_come ws ds m drs h b e at_zero = refl
ends_come ws ds m drs h b e at_one = refl
ends_come ws ds m drs h b e at_unknown = refl
ends_come ws ds m drs h b e (at_input k i) = here k (source.Input k) (step_is drs k driver.Input (input_at ws ds m drs k h i))
ends_come ws ds m drs h b e (at_cell k c a) =
    let t = target_within (bit_count ws) m k (by_cell c) ds h.drives a in
    here k (source.Cell c) (step_is drs k (driver.Cell c) (driver_at ws ds m drs k (by_cell c) h t.0 a))
ends_come ws ds m drs h b e (through k b' e' a l) =
    let t = target_within (bit_count ws) m k (by_bit b') ds h.drives a in
    through_comes drs k b' e' (step_is drs k (driver.Bit b') (driver_at ws ds m drs k (by_bit b') h t.0 a)) (ends_come ws ds m drs h b' e' l)

-- following comes to one end
at_once : (ds : List Driver) (k : ℕ) (e e' : Source) → step_at ds k ≡ At e → Leads ds k e' → e ≡ e'
at_once ds k e e' s (here k1 e1 h) = let z : At e ≡ At e' = sym s ∙ h in cc
at_once ds k e e' s (on k1 n e1 h l) = let z : At e ≡ To n = sym s ∙ h in cc

leads_once : (ds : List Driver) (k : ℕ) (e e' : Source) → Leads ds k e → Leads ds k e' → e ≡ e'
leads_once ds k e e' (here k1 e1 h) l = at_once ds k e e' h l
leads_once ds k e e' (on k1 n e1 h m) l = leads_once ds n e e' m (leads_on ds k n e' h l)

comes_once : (drs : List Driver) (b : SignalBit) (e e' : Source) → Comes drs b e → Comes drs b e' → e ≡ e'
comes_once drs (bit.Net k) e e' h l = leads_once drs k e e' h l
comes_once drs bit.Zero e e' h l = h ∙ sym l
comes_once drs bit.One e e' h l = h ∙ sym l
comes_once drs bit.Unknown e e' h l = h ∙ sym l

-- an end is never missing
never_missing : (ws : List NetWire) (ds : List Drive) (b : SignalBit) (e : Source) → Ends ws ds b e → e ≡ source.Missing → ⊥
never_missing ws ds b e at_zero q = cc
never_missing ws ds b e at_one q = cc
never_missing ws ds b e at_unknown q = cc
never_missing ws ds b e (at_input k i) q = cc
never_missing ws ds b e (at_cell k c a) q = cc
never_missing ws ds b e (through k b' e' a l) q = never_missing ws ds b' e' l q

-- the drive that is found
net_is : (k : ℕ) (b : SignalBit) → is_net k b ≡ true → b ≡ bit.Net k
net_is k (bit.Net j) e = ap bit.Net (eqb-true j k e)
net_is k bit.Zero e = cc
net_is k bit.One e = cc
net_is k bit.Unknown e = cc

found_case : (k : ℕ) (y : Drive) (ys : List Drive) (d : Drive) (b : Bool) → is_net k y.target ≡ b → cond b (Some y) (find (λ x. is_net k x.target) ys) ≡ Some d
    → (find (λ x. is_net k x.target) ys ≡ Some d → Any (Of k d.driver) ys) → Any (Of k d.driver) (y ∷ ys)
found_case k y ys d true t e f = any_first (Of k d.driver) y ys (net_is k y.target t, ap (λ (x : Drive). x.driver) (same_Some y d e))
found_case k y ys d false t e f = any_later (Of k d.driver) y ys (f e)

found_drive : (k : ℕ) (ds : List Drive) (d : Drive) → find (λ x. is_net k x.target) ds ≡ Some d → Any (Of k d.driver) ds
found_drive k [] d e = cc
found_drive k (y ∷ ys) d e = found_case k y ys d (is_net k y.target) refl e (found_drive k ys d)

-- a bit's driver: an input, nothing, or that of a drive
first_cases : (ws : List NetWire) (ds : List Drive) (k : ℕ) (b : Bool) (o : Option Drive) → is_input_bit ws k ≡ b → find (λ d. is_net k d.target) ds ≡ o
    → ((is_input_bit ws k ≡ true) × (cond b driver.Input (driver_or o) ≡ driver.Input))
    ⊎ ((cond b driver.Input (driver_or o) ≡ driver.Nothing) ⊎ ((x : drives.Driver) × (cond b driver.Input (driver_or o) ≡ code_of x) × Any (Of k x) ds))
first_cases ws ds k true o e f = inl (e, refl)
first_cases ws ds k false None e f = inr (inl refl)
first_cases ws ds k false (Some d) e f = inr (inr (d.driver, refl, found_drive k ds d f))

driver_cases : (ws : List NetWire) (ds : List Drive) (drs : List Driver) (k : ℕ) → KnowsDrivers ws ds drs → k < length drs
    → ((is_input_bit ws k ≡ true) × (step_at drs k ≡ At (source.Input k)))
    ⊎ ((step_at drs k ≡ At source.Missing) ⊎ ((x : drives.Driver) × (step_at drs k ≡ step_of (code_of x) k) × Any (Of k x) ds))
unfolding first_driver
driver_cases ws ds drs k h lt =
    let at = h.each k lt in
    ⊎_elim (λ a. inl (a.0, step_is drs k driver.Input (at ∙ a.1)))
    (λ c. inr (⊎_elim (λ n. inl (step_is drs k driver.Nothing (at ∙ n))) (λ x. inr (x.0, step_is drs k (code_of x.0) (at ∙ x.1), x.2)) c))
    (first_cases ws ds k (is_input_bit ws k) (find (λ d. is_net k d.target) ds) refl refl)

-- following stays among the bits
to_within : (n m k j : ℕ) (x : drives.Driver) → IsDriverWithin n m x → step_of (code_of x) k ≡ To j → j < n
to_within n m k j (by_cell c) h e = cc
to_within n m k j (by_bit (bit.Net i)) h e = let z : i ≡ j = cc in subst (λ v. v < n) z h
to_within n m k j (by_bit bit.Zero) h e = cc
to_within n m k j (by_bit bit.One) h e = cc
to_within n m k j (by_bit bit.Unknown) h e = cc

pub drivers_closed : (ws : List NetWire) (ds : List Drive) (m : ℕ) (drs : List Driver) → AreKnown ws ds m drs → IsClosed drs
drivers_closed ws ds m drs h k j lt s =
    ⊎_elim (λ a. let z : At (source.Input k) ≡ To j = sym a.1 ∙ s in absurd (cc))
    (λ c. ⊎_elim (λ n. let z : At source.Missing ≡ To j = sym n ∙ s in absurd (cc))
    (λ x. let t = target_within (bit_count ws) m k x.0 ds h.drives x.2 in
    let w = to_within (bit_count ws) m k j x.0 t.1 (sym x.1 ∙ s) in omega (arith, w, h.knows.size)) c)
    (driver_cases ws ds drs k h.knows lt)

-- where following leads is the end, unless nothing is there
here_ends : (ws : List NetWire) (ds : List Drive) (k : ℕ) (e : Source) (x : drives.Driver) → Any (Of k x) ds → step_of (code_of x) k ≡ At e → Ends ws ds (bit.Net k) e
here_ends ws ds k e (by_cell c) a s = let z : source.Cell c ≡ e = cc in subst (λ v. Ends ws ds (bit.Net k) v) z (at_cell k c a)
here_ends ws ds k e (by_bit (bit.Net i)) a s = cc
here_ends ws ds k e (by_bit bit.Zero) a s = let z : source.Zero ≡ e = cc in subst (λ v. Ends ws ds (bit.Net k) v) z (through k bit.Zero source.Zero a at_zero)
here_ends ws ds k e (by_bit bit.One) a s = let z : source.One ≡ e = cc in subst (λ v. Ends ws ds (bit.Net k) v) z (through k bit.One source.One a at_one)
here_ends ws ds k e (by_bit bit.Unknown) a s = let z : source.Unknown ≡ e = cc in subst (λ v. Ends ws ds (bit.Net k) v) z (through k bit.Unknown source.Unknown a at_unknown)

on_ends : (ws : List NetWire) (ds : List Drive) (k n : ℕ) (e : Source) (x : drives.Driver) → Any (Of k x) ds → step_of (code_of x) k ≡ To n → Ends ws ds (bit.Net n) e → Ends ws ds (bit.Net k) e
on_ends ws ds k n e (by_cell c) a s l = cc
on_ends ws ds k n e (by_bit (bit.Net i)) a s l = let z : n ≡ i = cc in through k (bit.Net i) e a (subst (λ v. Ends ws ds (bit.Net v) e) z l)
on_ends ws ds k n e (by_bit bit.Zero) a s l = cc
on_ends ws ds k n e (by_bit bit.One) a s l = cc
on_ends ws ds k n e (by_bit bit.Unknown) a s l = cc

at_same : (e e' : Source) → At e ≡ At e' → e ≡ e'
at_same e e' h = cc

leads_ends : (ws : List NetWire) (ds : List Drive) (m : ℕ) (drs : List Driver) → AreKnown ws ds m drs → (k : ℕ) (e : Source) → k < length drs → Leads drs k e
    → Ends ws ds (bit.Net k) e ⊎ (e ≡ source.Missing)
leads_ends ws ds m drs h k e lt (here k1 e1 s) =
    ⊎_elim (λ a. inl (subst (λ v. Ends ws ds (bit.Net k) v) (at_same (source.Input k) e (sym a.1 ∙ s)) (at_input k a.0)))
    (λ c. ⊎_elim (λ n. inr (sym (at_same source.Missing e (sym n ∙ s)))) (λ x. inl (here_ends ws ds k e x.0 x.2 (sym x.1 ∙ s))) c)
    (driver_cases ws ds drs k h.knows lt)
leads_ends ws ds m drs h k e lt (on k1 n e1 s l) =
    ⊎_elim (λ a. let z : At (source.Input k) ≡ To n = sym a.1 ∙ s in absurd (cc))
    (λ c. ⊎_elim (λ o. let z : At source.Missing ≡ To n = sym o ∙ s in absurd (cc))
    (λ x. ⊎_elim (λ y. inl (on_ends ws ds k n e x.0 x.2 (sym x.1 ∙ s) y)) (λ y. inr y) (leads_ends ws ds m drs h n e (drivers_closed ws ds m drs h k n lt s) l)) c)
    (driver_cases ws ds drs k h.knows lt)

-- an end, or Missing where there is none
ends_at : (ws : List NetWire) (ds : List Drive) (b : SignalBit) (e : Source) → ((e ≡ source.Missing → ⊥) → Ends ws ds b e) → (e ≡ source.Missing → EndsNowhere ws ds b) → EndsAt ws ds b e
ends_at ws ds b (source.Input k) f g = f (λ q. cc)
ends_at ws ds b (source.Cell k) f g = f (λ q. cc)
ends_at ws ds b source.Zero f g = f (λ q. cc)
ends_at ws ds b source.One f g = f (λ q. cc)
ends_at ws ds b source.Unknown f g = f (λ q. cc)
ends_at ws ds b source.Missing f g = g refl

pub at_cases : (ws : List NetWire) (ds : List Drive) (b : SignalBit) (e : Source) → EndsAt ws ds b e → Ends ws ds b e ⊎ ((e ≡ source.Missing) × EndsNowhere ws ds b)
at_cases ws ds b (source.Input k) h = inl h
at_cases ws ds b (source.Cell k) h = inl h
at_cases ws ds b source.Zero h = inl h
at_cases ws ds b source.One h = inl h
at_cases ws ds b source.Unknown h = inl h
at_cases ws ds b source.Missing h = inr (refl, h)

end_is : (ws : List NetWire) (ds : List Drive) (m : ℕ) (drs : List Driver) → AreKnown ws ds m drs → (k : ℕ) (e : Source) → k < length drs → IsEndOf drs k e → EndsAt ws ds (bit.Net k) e
end_is ws ds m drs h k e lt i =
    ⊎_elim
    (λ l. ends_at ws ds (bit.Net k) e (λ n. ⊎_elim (λ y. y) (λ q. absurd (n q)) (leads_ends ws ds m drs h k e lt l))
    (λ q. λ e' y. never_missing ws ds (bit.Net k) e' y (leads_once drs k e' e (ends_come ws ds m drs h (bit.Net k) e' y) l ∙ q)))
    (λ o. ends_at ws ds (bit.Net k) e (λ n. absurd (n o.0)) (λ q. λ e' y. o.1 e' (ends_come ws ds m drs h (bit.Net k) e' y)))
    i

pub are_sources : (ws : List NetWire) (ds : List Drive) (m : ℕ) (drs : List Driver) (sources : List Source) → AreKnown ws ds m drs → length sources ≡ length drs
    → ((k : ℕ) → k < length drs → IsEndOf drs k (end_at sources k)) → AreSources ws ds sources
are_sources ws ds m drs sources h size each = record {
  each_bit = size ∙ h.knows.size;
  ends = λ k lt. end_is ws ds m drs h k (end_at sources k) (omega (arith, lt, size)) (each k (omega (arith, lt, size)));
}

-- a list of drivers as the drives say
numbers_at : (a n i : ℕ) → i < n → get_or (numbers a n) i 0 ≡ a + i
numbers_at a zero i h = absurd (omega arith)
numbers_at a (suc n) zero h = (let z : a ≡ a + 0 = omega arith in z)
numbers_at a (suc n) (suc i) h = numbers_at (a + 1) n i (omega (arith, h)) ∙ (let z : a + 1 + i ≡ a + suc i = omega arith in z)

listed : List NetWire → List Drive → List Driver
listed ws ds = map (first_driver ws ds) (numbers 0 (bit_count ws))

listed_size : (ws : List NetWire) (ds : List Drive) → length (listed ws ds) ≡ bit_count ws
unfolding listed
listed_size ws ds = length-map (numbers 0 (bit_count ws)) (first_driver ws ds) ∙ length-numbers 0 (bit_count ws)

listed_known : (ws : List NetWire) (ds : List Drive) → KnowsDrivers ws ds (listed ws ds)
unfolding listed
listed_known ws ds = record {
  size = listed_size ws ds;
  each = λ k lt. let within : k < bit_count ws = omega (arith, lt, listed_size ws ds) in
      get_or-map (first_driver ws ds) (numbers 0 (bit_count ws)) k 0 driver.Nothing (omega (arith, within, length-numbers 0 (bit_count ws)))
      ∙ ap (first_driver ws ds) (numbers_at 0 (bit_count ws) k within ∙ (let z : 0 + k ≡ k = omega arith in z));
}

-- what makes ends unique
pub record AreOnce (ws : List NetWire) (ds : List Drive) (m : ℕ) : Type 0 where
  pub once : Never (Contains (redriven ws [] ds))
  pub wires : EachWithin ws
  pub drives : Each (IsDriveWithin (bit_count ws) m) ds

ends_once : (ws : List NetWire) (ds : List Drive) (m : ℕ) → AreOnce ws ds m → (b : SignalBit) (e e' : Source) → Ends ws ds b e → Ends ws ds b e' → e ≡ e'
ends_once ws ds m o b e e' h l =
    let k : AreKnown ws ds m (listed ws ds) = record { knows = listed_known ws ds; once = o.once; wires = o.wires; drives = o.drives } in
    comes_once (listed ws ds) b e e' (ends_come ws ds m (listed ws ds) k b e h) (ends_come ws ds m (listed ws ds) k b e' l)

pub ends_at_once : (ws : List NetWire) (ds : List Drive) (m : ℕ) → AreOnce ws ds m → (b : SignalBit) (e e' : Source) → EndsAt ws ds b e → EndsAt ws ds b e' → e ≡ e'
ends_at_once ws ds m o b e e' h l =
    ⊎_elim
    (λ p. ⊎_elim (λ q. ends_once ws ds m o b e e' p q) (λ q. absurd (q.1 e p)) (at_cases ws ds b e' l))
    (λ p. ⊎_elim (λ q. absurd (p.1 e' q)) (λ q. p.0 ∙ sym q.0) (at_cases ws ds b e' l))
    (at_cases ws ds b e h)

-- the sources are the only ones
pub sources_once : (ws : List NetWire) (ds : List Drive) (m : ℕ) → AreOnce ws ds m → (s t : List Source) → AreSources ws ds s → AreSources ws ds t → s ≡ t
sources_once ws ds m o s t h l =
    ext_get_or source.Missing s t (h.each_bit ∙ sym l.each_bit)
    (λ k lt. ends_at_once ws ds m o (bit.Net k) (end_at s k) (end_at t k) (h.ends k lt) (l.ends k (omega (arith, lt, h.each_bit, l.each_bit))))

-- where any bit among them ends
pub bit_ends : (ws : List NetWire) (ds : List Drive) (sources : List Source) → AreSources ws ds sources → (b : SignalBit) → IsWithin (bit_count ws) b → EndsAt ws ds b (end_in sources b)
bit_ends ws ds sources h (bit.Net k) w = h.ends k (omega (arith, w, h.each_bit))
bit_ends ws ds sources h bit.Zero w = at_zero
bit_ends ws ds sources h bit.One w = at_one
bit_ends ws ds sources h bit.Unknown w = at_unknown

-- an end is an input's bit or a cell that is there
abbrev pub IsSourceWithin : ℕ → ℕ → Source → Type 0
IsSourceWithin n m (source.Input k) = k < n
IsSourceWithin n m (source.Cell c) = c < m
IsSourceWithin n m other = Unit {0}

end_within : (ws : List NetWire) (ds : List Drive) (m : ℕ) → EachWithin ws → Each (IsDriveWithin (bit_count ws) m) ds → (b : SignalBit) (e : Source) → Ends ws ds b e
    → IsSourceWithin (bit_count ws) m e
end_within ws ds m w h b e at_zero = tt
end_within ws ds m w h b e at_one = tt
end_within ws ds m w h b e at_unknown = tt
end_within ws ds m w h b e (at_input k i) = input_bit_within (bit_count ws) ws k w i
end_within ws ds m w h b e (at_cell k c a) = (target_within (bit_count ws) m k (by_cell c) ds h a).1
end_within ws ds m w h b e (through k b' e' a l) = end_within ws ds m w h b' e' l

missing_within : (n m : ℕ) (e : Source) → e ≡ source.Missing → IsSourceWithin n m e
missing_within n m e q = subst (IsSourceWithin n m) (sym q) tt

pub source_within : (ws : List NetWire) (ds : List Drive) (m : ℕ) → EachWithin ws → Each (IsDriveWithin (bit_count ws) m) ds → (sources : List Source) → AreSources ws ds sources
    → (k : ℕ) → IsSourceWithin (bit_count ws) m (get_or sources k source.Missing)
source_within ws ds m w h sources a k =
    ⊎_elim
    (λ lt. ⊎_elim (λ e. end_within ws ds m w h (bit.Net k) (get_or sources k source.Missing) e) (λ q. missing_within (bit_count ws) m (get_or sources k source.Missing) q.0)
    (at_cases ws ds (bit.Net k) (get_or sources k source.Missing) (a.ends k lt)))
    (λ past. missing_within (bit_count ws) m (get_or sources k source.Missing) (get_or_past sources k source.Missing past))
    (cases_lt k (length sources))

-- the drivers of a module
pub known_of : (ws : List NetWire) (items : List Item) (drs drs' : List Driver) → AreWithin ws → KnowsDrivers ws (drives.drives ws items) drs' → drs ≡ drs'
    → Never (Contains (redriven ws [] (drives.drives ws items))) → AreKnown ws (drives.drives ws items) (length (kept_cells items)) drs
known_of ws items drs drs' h k e n = record {
  knows = subst (λ v. KnowsDrivers ws (drives.drives ws items) v) (sym e) k;
  once = n;
  wires = each_within ws h;
  drives = drives_within ws items (each_within ws h);
}

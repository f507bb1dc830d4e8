-- What drives the bits before any statement.
use Rattle.std.proofs.Common.{◌≡◌, ℕ, ◌+◌, ◌<◌, ◌≤◌, Bool, true, false, ◌&&◌, ◌||◌, cond, nat_le, nat_lt, List, [], length, take, get_or, set, ⊎_elim, refl, sym, ap, ◌∙◌, subst, arith, get_or-set_same, get_or-set_other}
use Rattle.std.specs.List.{list_any}
use Rattle.std.proofs.lemmas.Bool.{cases_lt, cases_eq, lt-ltb, le-ltb, le-leb, lt-leb, and_left, and_right, and_from}
use Rattle.std.proofs.lemmas.List.{take_all}
use Rattle.std.proofs.lemmas.List.Folds.{list_any_more}
use Rattle.circuit_types.specs.Items.{bit_count}
use Rattle.circuit_types.specs.Drives.{is_input, is_input_bit}
use Rattle.circuit_types.specs.declared.nets.NetWire.{NetWire}
use Rattle.net_build.specs.Drivers.{KnowsDrivers, first_driver, has_input}
use Rattle.net_build.specs.declared.drivers.Driver.{Driver}
use Rattle.net_build.specs.declared.drivers.Driver.TheVariants.{Nothing, Input}

-- the bits from the first up to another are marked, and no others
abbrev pub is_marked : ℕ → ℕ → ℕ → Bool
is_marked first end k = nat_le first k && nat_lt k end

abbrev pub AreMarked : ℕ → ℕ → List Driver → List Driver → Type 0
AreMarked first end old new = (k : ℕ) → get_or new k Nothing ≡ cond (is_marked first end k) Input (get_or old k Nothing)

unmarked : (first k : ℕ) → is_marked first first k ≡ false
unmarked first k =
    ⊎_elim (λ l. and_left (nat_le first k) (nat_lt k first) (lt-leb first k l)) (λ g. and_right (nat_le first k) (nat_lt k first) (le-ltb k first g)) (cases_lt k first)

pub none_marked : (first : ℕ) (xs : List Driver) → AreMarked first first xs xs
none_marked first xs k = sym (ap (λ b. cond b Input (get_or xs k Nothing)) (unmarked first k))

here_marked : (first bit : ℕ) → first ≤ bit → is_marked first (bit + 1) bit ≡ true
here_marked first bit h = and_from (nat_le first bit) (nat_lt bit (bit + 1)) (le-leb first bit h) (lt-ltb bit (bit + 1) (omega arith))

past : (bit k : ℕ) → bit ≤ k → (k ≡ bit → ⊥) → bit + 1 ≤ k
past bit k g n = ⊎_elim (λ l. absurd (n (let z : k ≡ bit = omega (arith, l, g) in z))) (λ h. h) (cases_lt k (bit + 1))

elsewhere : (first bit k : ℕ) → (k ≡ bit → ⊥) → is_marked first bit k ≡ is_marked first (bit + 1) k
elsewhere first bit k n =
    ap (λ b. nat_le first k && b)
    (⊎_elim (λ l. lt-ltb k bit l ∙ sym (lt-ltb k (bit + 1) (omega (arith, l)))) (λ g. le-ltb k bit g ∙ sym (le-ltb k (bit + 1) (past bit k g n))) (cases_lt k bit))

pub mark_more : (first bit : ℕ) (old now : List Driver) → first ≤ bit → bit < length now → AreMarked first bit old now → AreMarked first (bit + 1) old (set now bit Input)
mark_more first bit old now h lt m k =
    ⊎_elim
    (λ e. subst (λ j. get_or (set now bit Input) j Nothing ≡ cond (is_marked first (bit + 1) j) Input (get_or old j Nothing)) (sym e)
    (get_or-set_same now bit Input Nothing lt ∙ sym (ap (λ b. cond b Input (get_or old bit Nothing)) (here_marked first bit h))))
    (λ n. get_or-set_other now bit k Input Nothing n ∙ (m k ∙ ap (λ b. cond b Input (get_or old k Nothing)) (elsewhere first bit k n)))
    (cases_eq k bit)

pub all_marked : (w : NetWire) (bit : ℕ) (b : Bool) (old new : List Driver) → b ≡ true → b ≡ is_input w.port → bit ≡ w.first + w.width → AreMarked w.first bit old new
    → (k : ℕ) → get_or new k Nothing ≡ cond (has_input k w) Input (get_or old k Nothing)
all_marked w bit b old new t e h m k =
    m k ∙ (ap (λ n. cond (is_marked w.first n k) Input (get_or old k Nothing)) h
    ∙ ap (λ v. cond (v && is_marked w.first (w.first + w.width) k) Input (get_or old k Nothing)) (sym t ∙ e))

pub none_input : (w : NetWire) (b : Bool) (old : List Driver) → b ≡ false → b ≡ is_input w.port
    → (k : ℕ) → get_or old k Nothing ≡ cond (has_input k w) Input (get_or old k Nothing)
none_input w b old f e k = ap (λ v. cond (v && is_marked w.first (w.first + w.width) k) Input (get_or old k Nothing)) (sym f ∙ e)

-- the inputs among the first wires
abbrev pub AreStarted : List NetWire → List Driver → Type 0
AreStarted ws drs = (k : ℕ) → get_or drs k Nothing ≡ cond (list_any (has_input k) ws) Input Nothing

pub none_started : (drs : List Driver) → ((k : ℕ) → get_or drs k Nothing ≡ Nothing) → AreStarted [] drs
none_started drs h k = h k

either_input : (a b : Bool) → cond b Input (cond a Input Nothing) ≡ cond (a || b) Input Nothing
either_input true true = refl
either_input true false = refl
either_input false b = refl

pub more_started : (ws : List NetWire) (i : ℕ) (w : NetWire) (now new : List Driver) → i < length ws → w ≡ get_or ws i w → AreStarted (take i ws) now
    → ((k : ℕ) → get_or new k Nothing ≡ cond (has_input k w) Input (get_or now k Nothing)) → AreStarted (take (i + 1) ws) new
more_started ws i w now new lt e h m k =
    m k ∙ (ap (λ v. cond (has_input k w) Input v) (h k)
    ∙ (either_input (list_any (has_input k) (take i ws)) (has_input k w)
    ∙ sym (ap (λ b. cond b Input Nothing) (list_any_more (has_input k) ws i w lt ∙ ap (λ v. list_any (has_input k) (take i ws) || has_input k v) (sym e)))))

first_started : (ws : List NetWire) (k : ℕ) → first_driver ws [] k ≡ cond (list_any (has_input k) ws) Input Nothing
unfolding first_driver is_input_bit
first_started ws k = refl

pub all_started : (ws : List NetWire) (i : ℕ) (drs : List Driver) → length ws ≤ i → length drs ≡ bit_count ws → AreStarted (take i ws) drs → KnowsDrivers ws [] drs
all_started ws i drs h size m = record {
  size = size;
  each = λ k lt. m k ∙ (ap (λ vs. cond (list_any (has_input k) vs) Input Nothing) (take_all i ws h) ∙ sym (first_started ws k));
}

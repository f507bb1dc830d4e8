-- Which refusal is due, by the least lines of the causes.
use Rattle.std.proofs.Common.{◌≡◌, ℕ, ◌<◌, ◌≤◌, Bool, true, false, ◌⊎◌, inl, inr, ⊎_elim, min, List, [], ◌∷◌, length, get_or, Option, Some, None, refl, sym, ap, ◌∙◌, subst, arith, zero, suc}
use Rattle.std.proofs.lemmas.Bool.{cases_lt}
use Rattle.std.specs.Prelude.{Contains, IsTrue}
use Rattle.circuit_types.specs.Due.{Cause, at_lines, of_all, Never, IsLeast, IsClear, IsDue}
use Rattle.circuit_types.specs.Items.{cells, kept_cells, net_wires, bit_count}
use Rattle.circuit_types.specs.Nets.{net_causes, links, most_bits, most_cells}
use Rattle.circuit_types.specs.declared.tree.Item.{Item}
use Rattle.circuit_types.specs.declared.nets.NetWire.{NetWire}
use Rattle.circuit_types.specs.declared.refusal.Refusal.{Refusal}
use Rattle.circuit_types.specs.declared.refusal.Refusal.TheVariants.{Limit}
use Rattle.circuit_types.specs.declared.refusal.Which.TheVariants.{NetBits, Cells}
use Rattle.circuit_types.specs.declared.refusal.Stop.{Stop}
use Rattle.circuit_types.specs.declared.refusal.Stop.TheVariants.{Refused, NoMemory}
use Rattle.net_build.specs.Stops.{IfRefused}
use Rattle.net_build.specs.Faults.{earlier_of, least_of, AreFaults, else_line, else_all, refusal_in}
use Rattle.net_build.specs.Form.{form_causes, fault_causes, Decides}
use Rattle.net_build.specs.declared.faults.Faults.{Faults}

pub contains_first : (x : ℕ) (xs : List ℕ) → Contains (x ∷ xs) x
contains_first x xs = (0, omega arith, refl)

pub contains_later : (x y : ℕ) (xs : List ℕ) → Contains xs y → Contains (x ∷ xs) y
contains_later x y xs c = (suc c.0, omega (arith, c.1), c.2)

pub contains_cases : (x y : ℕ) (xs : List ℕ) (k : ℕ) → k < length (x ∷ xs) → get_or (x ∷ xs) k y ≡ y → (x ≡ y) ⊎ Contains xs y
contains_cases x y xs zero h e = inl e
contains_cases x y xs (suc k) h e = inr (k, omega (arith, h), e)

no_line : (x : ℕ) (o : Option ℕ) → earlier_of (Some x) o ≡ None → ⊥
no_line x None h = cc
no_line x (Some y) h = cc

pub least_none : (xs : List ℕ) → least_of xs ≡ None → Never (Contains xs)
unfolding least_of
least_none [] h line c = absurd (omega (arith, c.1))
least_none (x ∷ xs) h line c = absurd (no_line x (least_of xs) h)

some_once : (m n : ℕ) → Some m ≡ Some n → m ≡ n
some_once m n e = cc

least_with : (x : ℕ) (xs : List ℕ) (l : ℕ) (o : Option ℕ) → least_of xs ≡ o → earlier_of (Some x) o ≡ Some l
    → (least_of xs ≡ None → Never (Contains xs)) → ((m : ℕ) → least_of xs ≡ Some m → IsLeast (Contains xs) m) → IsLeast (Contains (x ∷ xs)) l
least_with x xs l None e h none some = let q : x ≡ l = some_once x l h in record {
  here = subst (λ y. Contains (x ∷ xs) y) q (contains_first x xs);
  least = λ other c. ⊎_elim (λ p. omega (arith, p, q)) (λ m. absurd (none e other m)) (contains_cases x other xs c.0 c.1 c.2);
}
least_with x xs l (Some m) e h none some = let s = some m e in let q : min x m ≡ l = some_once (min x m) l h in record {
  here = ⊎_elim
      (λ lt. subst (λ y. Contains (x ∷ xs) y) (let z : x ≡ l = omega (arith, lt, q) in z) (contains_first x xs))
      (λ ge. subst (λ y. Contains (x ∷ xs) y) (let z : m ≡ l = omega (arith, ge, q) in z) (contains_later x m xs s.here))
      (cases_lt x m);
  least = λ other c. ⊎_elim (λ p. omega (arith, p, q)) (λ n. omega (arith, s.least other n, q)) (contains_cases x other xs c.0 c.1 c.2);
}

pub least_some : (xs : List ℕ) (l : ℕ) → least_of xs ≡ Some l → IsLeast (Contains xs) l
unfolding least_of
least_some [] l h = absurd cc
least_some (x ∷ xs) l h = least_with x xs l (least_of xs) refl h (least_none xs) (least_some xs)

pub line_first : (refusal : ℕ → Refusal) (xs : List ℕ) (o : Option ℕ) → o ≡ least_of xs → (rest : Option Refusal) (causes : List Cause) → Decides rest causes
    → Decides (else_line refusal o rest) (at_lines refusal (Contains xs) ∷ causes)
line_first refusal xs None e None causes d = (least_none xs (sym e), d)
line_first refusal xs None e (Some r) causes d = inr (least_none xs (sym e), d)
line_first refusal xs (Some l) e rest causes d = inl (l, least_some xs l (sym e), refl)

both_values : (b : Bool) → false ≡ b → IsTrue b → ⊥
both_values true e h = cc
both_values false e h = cc

is_true : (b : Bool) → true ≡ b → IsTrue b
is_true true e = refl
is_true false e = sym e

pub all_first : (r : Refusal) (b any : Bool) → b ≡ any → (rest : Option Refusal) (causes : List Cause) → (b ≡ false → Decides rest causes)
    → Decides (else_all b r rest) (of_all r (IsTrue any) ∷ causes)
all_first r true any e rest causes d = inl (is_true any e, refl)
all_first r false any e None causes d = (both_values any e, d refl)
all_first r false any e (Some other) causes d = inr (both_values any e, d refl)

-- the refusal of the faults is that of the causes
pub faults_decide : (items : List Item) (ws : List NetWire) (f : Faults) → ws ≡ net_wires items → AreFaults (links ws items) (kept_cells items) f
    → Decides (refusal_in f) (fault_causes items)
unfolding net_causes
faults_decide items ws f e a =
    let b = subst (λ vs. AreFaults (links vs items) (kept_cells items) f) e a in
    all_first _ f.too_wide _ b.too_wide _ _
    (λ narrow. line_first _ _ f.unsupported b.unsupported _ _ (line_first _ _ f.hierarchy b.hierarchy _ _ (line_first _ _ f.no_wire b.no_wire _ _
    (line_first _ _ f.bad_slice b.bad_slice _ _ (line_first _ _ f.mismatch (b.mismatch narrow) _ _ (line_first _ _ f.missing b.missing None [] tt))))))

pub faults_decide_so : (items : List Item) (ws vs : List NetWire) (f : Faults) (o : Option Refusal) → ws ≡ vs → vs ≡ net_wires items → AreFaults (links ws items) (kept_cells items) f
    → o ≡ refusal_in f → Decides o (fault_causes items)
faults_decide_so items ws vs f o p q a e = subst (λ x. Decides x (fault_causes items)) (sym e) (faults_decide items ws f (p ∙ q) a)

-- the wires have too many bits
pub bits_due : (items : List Item) (s : Stop) → IfRefused s (λ r. (r ≡ Limit NetBits) × (most_bits < bit_count (net_wires items)))
    → IfRefused s (λ r. IsDue (form_causes items) r)
unfolding net_causes
bits_due items (Refused r) h = inl (h.1, h.0)
bits_due items NoMemory h = tt

few_bits : (items : List Item) (ws : List NetWire) → ws ≡ net_wires items → bit_count ws ≤ most_bits → most_bits < bit_count (net_wires items) → ⊥
few_bits items ws e few many = let same : bit_count ws ≡ bit_count (net_wires items) = ap bit_count e in omega (arith, same, few, many)

pub cells_due : (items : List Item) (ws : List NetWire) (n : ℕ) → ws ≡ net_wires items → bit_count ws ≤ most_bits → n ≡ length (cells items) → most_cells < n
    → IsDue (form_causes items) (Limit Cells)
unfolding net_causes
cells_due items ws n e few c many = inr (few_bits items ws e few, inl ((let z : most_cells < length (cells items) = omega (arith, c, many) in z), refl))

pub fault_due : (items : List Item) (ws : List NetWire) (n : ℕ) → ws ≡ net_wires items → bit_count ws ≤ most_bits → n ≡ length (cells items) → n ≤ most_cells
    → (r : Refusal) → IsDue (fault_causes items) r → IsDue (form_causes items) r
unfolding net_causes
fault_due items ws n e few c fits r d = inr (few_bits items ws e few, inr ((λ many. omega (arith, c, fits, many)), d))

pub all_clear : (items : List Item) (ws : List NetWire) (n : ℕ) → ws ≡ net_wires items → bit_count ws ≤ most_bits → n ≡ length (cells items) → n ≤ most_cells
    → IsClear (fault_causes items) → IsClear (form_causes items)
unfolding net_causes
all_clear items ws n e few c fits d = (few_bits items ws e few, ((λ many. omega (arith, c, fits, many)), d))

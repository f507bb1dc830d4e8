-- The roles of input bits, each of which has one.
use Rattle.std.proofs.Common.{◌≡◌, ◌≢◌, ℕ, zero, suc, ◌+◌, ◌<◌, Bool, true, false, ◌==◌, cond, List, [], ◌∷◌, ◌++◌, length, take, get_or, set, All, Some, refl, sym, ap, ◌∙◌, arith, ⊎_elim, get_or-set_same, get_or-set_other}
use Rattle.std.proofs.lemmas.List.{get_or-take, length-take-le, take_more}
use Rattle.std.specs.List.{AllPairs, find}
use Rattle.std.specs.Option.{option_map, option_map_or}
use Rattle.std.proofs.lemmas.Bool.{cases_eq, eq-eqb, ne_eqb}
use Rattle.circuit_types.specs.declared.roles.InputRole.{InputRole}
use Rattle.circuit_types.specs.declared.roles.Role.{Role}
use Rattle.circuit_types.specs.InputBits.{role_in}
use Rattle.expr_table.specs.declared.node.Row.{Row}
use Rattle.term_build.specs.Building.{row_at}

abbrev OneRole : List InputRole → Type 0
OneRole inputs = AllPairs (λ (x y : InputRole). x.bit ≢ y.bit) inputs

pub role-step : (b : ℕ) (x : InputRole) (xs : List InputRole) (s : Bool) → (x.bit == b) ≡ s → role_in (x ∷ xs) b ≡ cond s (Some x.role) (role_in xs b)
role-step b x xs true h = ap (λ s. option_map (λ (i : InputRole). i.role) (cond s (Some x) (find (λ (i : InputRole). i.bit == b) xs))) h
role-step b x xs false h = ap (λ s. option_map (λ (i : InputRole). i.role) (cond s (Some x) (find (λ (i : InputRole). i.bit == b) xs))) h

-- an input has the role that is given for its bit
pub role-at : (inputs : List InputRole) → OneRole inputs → (k : ℕ) (d : InputRole) → k < length inputs → role_in inputs (get_or inputs k d).bit ≡ Some (get_or inputs k d).role
role-at [] one k d lt = absurd (omega arith)
role-at (x ∷ xs) one zero d lt = role-step x.bit x xs true (eq-eqb x.bit x.bit refl)
role-at (x ∷ xs) one (suc k) d lt =
    role-step (get_or xs k d).bit x xs false (ne_eqb x.bit (get_or xs k d).bit (one 0 (suc k) d (omega arith) lt))
    ∙ role-at xs (λ i j e a b. one (suc i) (suc j) e (omega arith) (omega arith)) k d (omega arith)

-- one more input
pub role-other : (xs : List InputRole) (x : InputRole) (b : ℕ) → (x.bit ≡ b → ⊥) → role_in (xs ++ x ∷ []) b ≡ role_in xs b
role-other [] x b ne = role-step b x [] false (ne_eqb x.bit b ne)
role-other (y ∷ ys) x b ne = by (y.bit == b) refl (role-other ys x b ne)
  where
    by : (s : Bool) → (y.bit == b) ≡ s → role_in (ys ++ x ∷ []) b ≡ role_in ys b → role_in ((y ∷ ys) ++ x ∷ []) b ≡ role_in (y ∷ ys) b
    by true e rest = role-step b y (ys ++ x ∷ []) true e ∙ sym (role-step b y ys true e)
    by false e rest = role-step b y (ys ++ x ∷ []) false e ∙ rest ∙ sym (role-step b y ys false e)

pub role-here : (xs : List InputRole) (x : InputRole) → ((j : ℕ) (d : InputRole) → j < length xs → (get_or xs j d).bit ≢ x.bit) → role_in (xs ++ x ∷ []) x.bit ≡ Some x.role
role-here [] x others = role-step x.bit x [] true (eq-eqb x.bit x.bit refl)
role-here (y ∷ ys) x others =
    role-step x.bit y (ys ++ x ∷ []) false (ne_eqb y.bit x.bit (others 0 y (omega arith)))
    ∙ role-here ys x (λ j d lt. others (suc j) d (omega arith))

-- a row that is written
pub row-set_same : (rows : List Row) (i : ℕ) (r : Row) → i < length rows → row_at (set rows i r) i ≡ r.0
row-set_same rows i r lt = ap (λ (x : Row). x.0) (get_or-set_same rows i r (record { 0 = 0 }) lt)

pub row-set_other : (rows : List Row) (i j : ℕ) (r : Row) → (j ≡ i → ⊥) → row_at (set rows i r) j ≡ row_at rows j
row-set_other rows i j r ne = ap (λ (x : Row). x.0) (get_or-set_other rows i j r (record { 0 = 0 }) ne)

-- rows by role, with one more input
pub role-rows-push : (row : ℕ → Role → ℕ) (rows : List Row) (xs : List InputRole) (x : InputRole) (r : Row) → x.bit < length rows → r.0 ≡ row x.bit x.role
    → ((j : ℕ) (d : InputRole) → j < length xs → (get_or xs j d).bit ≢ x.bit)
    → ((b : ℕ) → row_at rows b ≡ option_map_or (row b) (role_in xs b) 0) → (b : ℕ) → row_at (set rows x.bit r) b ≡ option_map_or (row b) (role_in (xs ++ x ∷ []) b) 0
role-rows-push row rows xs x r lt is others each b =
    ⊎_elim
    (λ e. ap (row_at (set rows x.bit r)) e ∙ row-set_same rows x.bit r lt ∙ is ∙ ap (λ o. option_map_or (row x.bit) o 0) (sym (role-here xs x others))
    ∙ ap (λ c. option_map_or (row c) (role_in (xs ++ x ∷ []) c) 0) (sym e))
    (λ ne. row-set_other rows x.bit b r ne ∙ each b ∙ ap (λ o. option_map_or (row b) o 0) (sym (role-other xs x b (λ e. ne (sym e)))))
    (cases_eq b x.bit)

-- within a list the default does not matter
pub get_or-any : {X : Type 0} (xs : List X) (k : ℕ) (d e : X) → k < length xs → get_or xs k d ≡ get_or xs k e
get_or-any [] k d e lt = absurd (omega arith)
get_or-any (x ∷ xs) zero d e lt = refl
get_or-any (x ∷ xs) (suc k) d e lt = get_or-any xs k d e (omega arith)

-- the inputs before another have other bits
pub apart : (inputs : List InputRole) → OneRole inputs → (i : ℕ) (d : InputRole) → i < length inputs → (j : ℕ) (e : InputRole) → j < length (take i inputs)
    → (get_or (take i inputs) j e).bit ≢ (get_or inputs i d).bit
apart inputs one i d lt j e before same =
    let below : j < i = omega (arith, length-take-le i inputs (omega arith)) in
    one j i d below lt (ap (λ (x : InputRole). x.bit) (get_or-any inputs j d e (omega arith) ∙ sym (get_or-take i inputs j e below)) ∙ same)

-- one more input of a list
pub role-rows-more : (row : ℕ → Role → ℕ) (rows : List Row) (inputs : List InputRole) (i count : ℕ) (d : InputRole) (r : Row) → i < length inputs → length rows ≡ count
    → All (λ (x : InputRole). x.bit < count) inputs → OneRole inputs → r.0 ≡ row (get_or inputs i d).bit (get_or inputs i d).role
    → ((b : ℕ) → row_at rows b ≡ option_map_or (row b) (role_in (take i inputs) b) 0) → (b : ℕ) → row_at (set rows (get_or inputs i d).bit r) b ≡ option_map_or (row b) (role_in (take (i + 1) inputs) b) 0
role-rows-more row rows inputs i count d r lt long within one is each b =
    role-rows-push row rows (take i inputs) (get_or inputs i d) r (omega (arith, within i d lt)) is (apart inputs one i d lt) each b
    ∙ ap (λ xs. option_map_or (row b) (role_in xs b) 0) (sym (take_more inputs i d lt))

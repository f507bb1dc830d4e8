-- The numbers of leaves.
use Rattle.std.proofs.Common.{◌≡◌, ◌≢◌, ℕ, zero, suc, ◌+◌, ◌-◌, ◌<◌, ◌≤◌, Bool, true, false, ◌&&◌, ◌==◌, cond, List, [], ◌∷◌, ◌++◌, length, map, get_or, Option, Some, None, refl, sym, ap, ◌∙◌, arith, length-append}
use Rattle.std.specs.List.{flat_map, range_with_len}
use Rattle.std.specs.Option.{option_map}
use Rattle.std.proofs.lemmas.Bool.{eq-eqb, ne_eqb}
use Rattle.std.proofs.lemmas.List.{append_assoc, append-nil}
use Rattle.std.proofs.lemmas.List.Concat.{flat_map-append}
use Rattle.circuit_types.specs.declared.circuit.Timing.{Timing}
use Rattle.circuit_types.specs.declared.roles.InputRole.{InputRole}
use Rattle.circuit_types.specs.declared.roles.Role.{Role}
use Rattle.circuit_types.specs.declared.roles.Roles.{Roles}
use Rattle.circuit_types.specs.Probes.{cycles}
use Rattle.circuit_types.specs.Worlds.{Inputs, secrets, shares, Leaf, secret, input, is_same_leaf, leaves_in, secret_leaves, input_leaves, random_leaves}
use Rattle.expr_table.specs.declared.instance.Notion.{Notion}
use Rattle.term_build.specs.declared.leaves.Sort.{Sort}
use Rattle.term_build.specs.declared.leaves.Sort.TheVariants.{Input, Random}
use Rattle.term_build.specs.Leaves.{inputs_of, leaf_number}
use Rattle.term_build.specs.Numbering.{is_leaf, all_leaves, leaves_of_secrets, leaves_among, leaves_before, leaves_up_to}

-- ranges
pub range-split : (a n k : ℕ) → range_with_len a (n + k) ≡ range_with_len a n ++ range_with_len (a + n) k
range-split a zero k = let e : 0 + k ≡ k = omega arith in let f : a ≡ a + 0 = omega arith in λ i. range_with_len (f i) (e i)
range-split a (suc n) k =
    let e : suc n + k ≡ suc (n + k) = omega arith in
    let f : a + 1 + n ≡ a + suc n = omega arith in
    ap (range_with_len a) e ∙ ap (λ l. a ∷ l) (range-split (a + 1) n k ∙ ap (λ b. range_with_len (a + 1) n ++ range_with_len b k) f)

pub range-next : (n m : ℕ) → m ≡ n + 1 → range_with_len 0 m ≡ range_with_len 0 n ++ n ∷ []
range-next n m is = let e : 0 + n ≡ n = omega arith in ap (range_with_len 0) is ∙ range-split 0 n 1 ∙ ap (λ b. range_with_len 0 n ++ b ∷ []) e

-- one more input
pub among-yes : (test : Role → Bool) (c : ℕ) (xs : List InputRole) (x : InputRole) → test x.role ≡ true → leaves_among test c (xs ++ x ∷ []) ≡ leaves_among test c xs ++ input x.bit c ∷ []
among-yes test c xs x h =
    flat_map-append (λ (i : InputRole). cond (test i.role) (input i.bit c ∷ []) []) xs (x ∷ [])
    ∙ ap (λ b. leaves_among test c xs ++ (cond b (input x.bit c ∷ []) [] ++ [])) h

pub among-no : (test : Role → Bool) (c : ℕ) (xs : List InputRole) (x : InputRole) → test x.role ≡ false → leaves_among test c (xs ++ x ∷ []) ≡ leaves_among test c xs
among-no test c xs x h =
    flat_map-append (λ (i : InputRole). cond (test i.role) (input i.bit c ∷ []) []) xs (x ∷ [])
    ∙ ap (λ b. leaves_among test c xs ++ (cond b (input x.bit c ∷ []) [] ++ [])) h ∙ append-nil (leaves_among test c xs)

module _ (sort : Sort) (notion : Notion) (roles : Roles) where
  abbrev in_cycle : ℕ → List Leaf
  in_cycle c = leaves_in (is_leaf sort notion roles c) roles c

  -- one more cycle
  pub before-next : (c d : ℕ) → d ≡ c + 1 → leaves_before sort notion roles d ≡ leaves_up_to sort notion roles c roles.inputs
  before-next c d is =
      ap (λ r. leaves_of_secrets sort notion roles ++ flat_map in_cycle r) (range-next c d is)
      ∙ ap (λ l. leaves_of_secrets sort notion roles ++ l) (flat_map-append in_cycle (range_with_len 0 c) (c ∷ []) ∙ ap (λ l. flat_map in_cycle (range_with_len 0 c) ++ l) (append-nil (in_cycle c)))
      ∙ sym (append_assoc (leaves_of_secrets sort notion roles) (flat_map in_cycle (range_with_len 0 c)) (in_cycle c))

  -- further cycles stand behind
  pub before-split : (c k : ℕ) → leaves_before sort notion roles (c + k) ≡ leaves_before sort notion roles c ++ flat_map in_cycle (range_with_len c k)
  before-split c k =
      let e : 0 + c ≡ c = omega arith in
      ap (λ r. leaves_of_secrets sort notion roles ++ flat_map in_cycle r) (range-split 0 c k ∙ ap (λ b. range_with_len 0 c ++ range_with_len b k) e)
      ∙ ap (λ l. leaves_of_secrets sort notion roles ++ l) (flat_map-append in_cycle (range_with_len 0 c) (range_with_len c k))
      ∙ sym (append_assoc (leaves_of_secrets sort notion roles) (flat_map in_cycle (range_with_len 0 c)) (flat_map in_cycle (range_with_len c k)))

  pub before-fewer : (c n : ℕ) → c ≤ n → length (leaves_before sort notion roles c) ≤ length (leaves_before sort notion roles n)
  before-fewer c n le = of (n - c) n (omega arith)
    where
      of : (k n : ℕ) → n ≡ c + k → length (leaves_before sort notion roles c) ≤ length (leaves_before sort notion roles n)
      of k n is = omega (
        arith,
        ap (λ m. length (leaves_before sort notion roles m)) is,
        ap length (before-split c k),
        length-append (leaves_before sort notion roles c) (flat_map in_cycle (range_with_len c k)),
      )

pub before-all : (sort : Sort) (notion : Notion) (roles : Roles) (timing : Timing) → leaves_before sort notion roles (cycles timing) ≡ all_leaves sort notion roles timing
unfolding input_leaves random_leaves
before-all Input notion roles timing = refl
before-all Random notion roles timing = refl

-- where a leaf is not
number-front : (m l : Leaf) (ls : List Leaf) → is_same_leaf m l ≡ false → leaf_number ls l ≡ None → leaf_number (m ∷ ls) l ≡ None
number-front m l ls differ none = ap (λ b. cond b (Some 0) (option_map suc (leaf_number ls l))) differ ∙ ap (option_map suc) none

pub number-none : (xs ys : List Leaf) (l : Leaf) → leaf_number xs l ≡ None → leaf_number ys l ≡ None → leaf_number (xs ++ ys) l ≡ None
number-none [] ys l a b = b
number-none (x ∷ xs) ys l a b = by (is_same_leaf x l) (leaf_number xs l) refl refl a (λ f. number-none xs ys l f b)
  where
    by : (s : Bool) (o : Option ℕ) → is_same_leaf x l ≡ s → leaf_number xs l ≡ o → cond s (Some 0) (option_map suc o) ≡ None
        → (leaf_number xs l ≡ None → leaf_number (xs ++ ys) l ≡ None) → leaf_number ((x ∷ xs) ++ ys) l ≡ None
    by true o e f h rest = absurd cc
    by false None e f h rest = number-front x l (xs ++ ys) e (rest f)
    by false (Some n) e f h rest = absurd cc

-- and where it is
pub number-left : (xs ys : List Leaf) (l : Leaf) (n : ℕ) → leaf_number xs l ≡ Some n → leaf_number (xs ++ ys) l ≡ Some n
number-left [] ys l n h = absurd cc
number-left (x ∷ xs) ys l n h = by (is_same_leaf x l) (leaf_number xs l) refl refl h (λ m f. number-left xs ys l m f)
  where
    by : (s : Bool) (o : Option ℕ) → is_same_leaf x l ≡ s → leaf_number xs l ≡ o → cond s (Some 0) (option_map suc o) ≡ Some n
        → ((m : ℕ) → leaf_number xs l ≡ Some m → leaf_number (xs ++ ys) l ≡ Some m) → cond (is_same_leaf x l) (Some 0) (option_map suc (leaf_number (xs ++ ys) l)) ≡ Some n
    by true o e f h rest = ap (λ b. cond b (Some 0) (option_map suc (leaf_number (xs ++ ys) l))) e ∙ h
    by false None e f h rest = absurd cc
    by false (Some m) e f h rest =
        ap (λ b. cond b (Some 0) (option_map suc (leaf_number (xs ++ ys) l))) e ∙ ap (option_map suc) (rest m f) ∙ h

-- leaves behind that are others do not matter
pub number-before : (xs ys : List Leaf) (l : Leaf) → leaf_number ys l ≡ None → leaf_number (xs ++ ys) l ≡ leaf_number xs l
number-before xs ys l none = by (leaf_number xs l) refl
  where
    by : (o : Option ℕ) → leaf_number xs l ≡ o → leaf_number (xs ++ ys) l ≡ leaf_number xs l
    by None e = number-none xs ys l e none ∙ sym e
    by (Some n) e = number-left xs ys l n e ∙ sym e

pub number-other : (xs : List Leaf) (m l : Leaf) → is_same_leaf m l ≡ false → leaf_number (xs ++ m ∷ []) l ≡ leaf_number xs l
number-other xs m l differ = number-before xs (m ∷ []) l (number-front m l [] differ refl)

pub number-here : (xs : List Leaf) (m l : Leaf) → leaf_number xs l ≡ None → is_same_leaf m l ≡ true → leaf_number (xs ++ m ∷ []) l ≡ Some (length xs)
number-here [] m l none same = ap (λ b. cond b (Some 0) None) same
number-here (x ∷ xs) m l none same = by (is_same_leaf x l) (leaf_number xs l) refl refl none (λ f. number-here xs m l f same)
  where
    by : (s : Bool) (o : Option ℕ) → is_same_leaf x l ≡ s → leaf_number xs l ≡ o → cond s (Some 0) (option_map suc o) ≡ None
        → (leaf_number xs l ≡ None → leaf_number (xs ++ m ∷ []) l ≡ Some (length xs)) → cond (is_same_leaf x l) (Some 0) (option_map suc (leaf_number (xs ++ m ∷ []) l)) ≡ Some (suc (length xs))
    by true o e f h rest = absurd cc
    by false None e f h rest = ap (λ b. cond b (Some 0) (option_map suc (leaf_number (xs ++ m ∷ []) l))) e ∙ ap (option_map suc) (rest f)
    by false (Some n) e f h rest = absurd cc

and_false : (a : Bool) (b : Bool) → b ≡ false → (a && b) ≡ false
and_false true b h = h
and_false false b h = refl

module _ (b c : ℕ) where
  secrets-none : (a n : ℕ) → leaf_number (map (λ s. secret s) (range_with_len a n)) (input b c) ≡ None
  secrets-none a zero = refl
  secrets-none a (suc n) = ap (option_map suc) (secrets-none (a + 1) n)

  of_secrets-none : (sort : Sort) (notion : Notion) (roles : Roles) → leaf_number (leaves_of_secrets sort notion roles) (input b c) ≡ None
  of_secrets-none Input notion roles = by (inputs_of notion)
    where
      by : (inputs : Inputs) → leaf_number (secret_leaves inputs roles) (input b c) ≡ None
      by secrets = secrets-none 0 (length roles.secrets)
      by shares = refl
  of_secrets-none Random notion roles = refl

  -- no leaf of other inputs, or of another cycle
  among-none : (test : Role → Bool) (d : ℕ) (xs : List InputRole) → ((j : ℕ) (x : InputRole) → j < length xs → is_same_leaf (input (get_or xs j x).bit d) (input b c) ≡ false)
      → leaf_number (leaves_among test d xs) (input b c) ≡ None
  among-none test d [] differ = refl
  among-none test d (x ∷ xs) differ =
      let rest = among-none test d xs (λ j y lt. differ (suc j) y (omega arith)) in
      by (test x.role) rest
    where
      by : (s : Bool) → leaf_number (leaves_among test d xs) (input b c) ≡ None → leaf_number (cond s (input x.bit d ∷ []) [] ++ leaves_among test d xs) (input b c) ≡ None
      by true rest = number-front (input x.bit d) (input b c) (leaves_among test d xs) (differ 0 x (omega arith)) rest
      by false rest = rest

  other-cycle : (test : Role → Bool) (d : ℕ) (xs : List InputRole) → (d ≡ c → ⊥) → leaf_number (leaves_among test d xs) (input b c) ≡ None
  other-cycle test d xs ne = among-none test d xs (λ j x lt. and_false ((get_or xs j x).bit == b) (d == c) (ne_eqb d c ne))

  cycles-none : (sort : Sort) (notion : Notion) (roles : Roles) (a n : ℕ) → ((d : ℕ) → a ≤ d → d < a + n → d ≡ c → ⊥) → leaf_number (flat_map (in_cycle sort notion roles) (range_with_len a n)) (input b c) ≡ None
  cycles-none sort notion roles a zero ne = refl
  cycles-none sort notion roles a (suc n) ne =
      number-none (in_cycle sort notion roles a) (flat_map (in_cycle sort notion roles) (range_with_len (a + 1) n)) (input b c)
      (other-cycle (is_leaf sort notion roles a) a roles.inputs (ne a (omega arith) (omega arith)))
      (cycles-none sort notion roles (a + 1) n (λ d le lt. ne d (omega arith) (omega arith)))

  -- no leaf of a cycle stands before those of the cycle
  pub before-none : (sort : Sort) (notion : Notion) (roles : Roles) → leaf_number (leaves_before sort notion roles c) (input b c) ≡ None
  before-none sort notion roles =
      number-none (leaves_of_secrets sort notion roles) (flat_map (in_cycle sort notion roles) (range_with_len 0 c)) (input b c)
      (of_secrets-none sort notion roles) (cycles-none sort notion roles 0 c (λ d le lt e. omega arith))

  -- and none behind them
  pub number-all : (sort : Sort) (notion : Notion) (roles : Roles) (timing : Timing) (next : ℕ) → next ≡ c + 1 → c < cycles timing
      → leaf_number (leaves_before sort notion roles next) (input b c) ≡ leaf_number (all_leaves sort notion roles timing) (input b c)
  number-all sort notion roles timing next is lt = of (cycles timing - next) (omega arith)
    where
      of : (k : ℕ) → cycles timing ≡ next + k → leaf_number (leaves_before sort notion roles next) (input b c) ≡ leaf_number (all_leaves sort notion roles timing) (input b c)
      of k e =
          sym (number-before (leaves_before sort notion roles next) (flat_map (in_cycle sort notion roles) (range_with_len next k)) (input b c) (cycles-none sort notion roles next k (λ d le lt f. omega arith)))
          ∙ ap (λ ls. leaf_number ls (input b c)) (sym (before-split sort notion roles next k) ∙ ap (leaves_before sort notion roles) (sym e) ∙ before-all sort notion roles timing)

  -- the bit of an input that comes after others is none of theirs
  pub up_to-none : (sort : Sort) (notion : Notion) (roles : Roles) (xs : List InputRole) → ((j : ℕ) (x : InputRole) → j < length xs → (get_or xs j x).bit ≢ b)
      → leaf_number (leaves_up_to sort notion roles c xs) (input b c) ≡ None
  up_to-none sort notion roles xs ne =
      number-none (leaves_before sort notion roles c) (leaves_among (is_leaf sort notion roles c) c xs) (input b c) (before-none sort notion roles)
      (among-none (is_leaf sort notion roles c) c xs (λ j x lt. ap (λ e. e && (c == c)) (ne_eqb (get_or xs j x).bit b (ne j x lt))))

-- the number of a secret bit
secret-number : (a n j : ℕ) (rest : List Leaf) → j < n → leaf_number (map (λ s. secret s) (range_with_len a n) ++ rest) (secret (a + j)) ≡ Some j
secret-number a zero j rest lt = absurd (omega arith)
secret-number a (suc n) zero rest lt = let e : a ≡ a + 0 = omega arith in ap (λ b. cond b (Some 0) (option_map suc (leaf_number (map (λ s. secret s) (range_with_len (a + 1) n) ++ rest) (secret (a + 0))))) (eq-eqb a (a + 0) e)
secret-number a (suc n) (suc j) rest lt =
    let e : a + suc j ≡ a + 1 + j = omega arith in
    ap (λ b. cond b (Some 0) (option_map suc (leaf_number (map (λ s. secret s) (range_with_len (a + 1) n) ++ rest) (secret (a + suc j))))) (ne_eqb a (a + suc j) (λ f. omega arith))
    ∙ ap (λ k. option_map suc (leaf_number (map (λ s. secret s) (range_with_len (a + 1) n) ++ rest) (secret k))) e ∙ ap (option_map suc) (secret-number (a + 1) n j rest (omega arith))

pub number-secret : (roles : Roles) (timing : Timing) (s : ℕ) → s < length roles.secrets → leaf_number (input_leaves secrets roles timing) (secret s) ≡ Some s
unfolding input_leaves
number-secret roles timing s lt = let e : s ≡ 0 + s = omega arith in ap (λ k. leaf_number (input_leaves secrets roles timing) (secret k)) e ∙ secret-number 0 (length roles.secrets) s _ lt

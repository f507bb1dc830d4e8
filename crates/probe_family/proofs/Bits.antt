-- Small facts on tests, and on counts over lists.
use Rattle.std.proofs.Common.{◌≡◌, ℕ, ◌+◌, Bool, true, false, ◌&&◌, cond, List, [], ◌∷◌, ◌++◌, map, refl, sym, ap, ◌∙◌, arith, Some, None, count_by}
use Rattle.std.proofs.lemmas.List.Sums.{sum_by-cons, sum_by-append}
use Rattle.std.specs.List.{find}
use Rattle.std.specs.Option.{option_map}

abbrev pub one_if : Bool → ℕ
one_if b = cond b 1 0

-- two tests are one where each gives the other
pub same_tests : (a b : Bool) → (a ≡ true → b ≡ true) → (b ≡ true → a ≡ true) → a ≡ b
same_tests true b f g = sym (f refl)
same_tests false true f g = g refl
same_tests false false f g = refl

pub exchange : (a b c d : Bool) → ((a && b) && (c && d)) ≡ ((a && c) && (b && d))
exchange false b c d = refl
exchange true false false d = refl
exchange true false true d = refl
exchange true true c d = refl

module _ {X : Type 0} where
  pub count_cons : (p : X → Bool) (x : X) (xs : List X) → count_by p (x ∷ xs) ≡ one_if (p x) + count_by p xs
  count_cons p x xs = sum_by-cons (λ y. cond (p y) 1 0) x xs

  pub count_append : (p : X → Bool) (xs ys : List X) → count_by p (xs ++ ys) ≡ count_by p xs + count_by p ys
  count_append p xs ys = sum_by-append (λ y. cond (p y) 1 0) xs ys

  pub count_agree : (p q : X → Bool) → ((x : X) → p x ≡ q x) → (xs : List X) → count_by p xs ≡ count_by q xs
  count_agree p q same [] = refl
  count_agree p q same (x ∷ xs) =
      count_cons p x xs ∙ (ap (λ b. one_if b + count_by p xs) (same x) ∙ (ap (λ n. one_if (q x) + n) (count_agree p q same xs) ∙ sym (count_cons q x xs)))

  pub count_none : (p : X → Bool) → ((x : X) → p x ≡ false) → (xs : List X) → count_by p xs ≡ 0
  count_none p none [] = refl
  count_none p none (x ∷ xs) = count_cons p x xs ∙ (ap (λ b. one_if b + count_by p xs) (none x) ∙ (let e = count_none p none xs in omega arith))

  pub find_agree : (p q : X → Bool) → ((x : X) → p x ≡ q x) → (xs : List X) → find p xs ≡ find q xs
  find_agree p q same [] = refl
  find_agree p q same (x ∷ xs) = ap (λ b. cond b (Some x) (find p xs)) (same x) ∙ ap (λ o. cond (q x) (Some x) o) (find_agree p q same xs)

  pub find_none : (p : X → Bool) → ((x : X) → p x ≡ false) → (xs : List X) → find p xs ≡ None
  find_none p none [] = refl
  find_none p none (x ∷ xs) = ap (λ b. cond b (Some x) (find p xs)) (none x) ∙ find_none p none xs

pub count_map : {X Y : Type 0} (p : Y → Bool) (f : X → Y) (xs : List X) → count_by p (map f xs) ≡ count_by (λ x. p (f x)) xs
count_map p f [] = refl
count_map p f (x ∷ xs) = count_cons p (f x) (map f xs) ∙ (ap (λ n. one_if (p (f x)) + n) (count_map p f xs) ∙ sym (count_cons (λ x. p (f x)) x xs))

pub find_map : {X Y : Type 0} (p : Y → Bool) (f : X → Y) (xs : List X) → find p (map f xs) ≡ option_map f (find (λ x. p (f x)) xs)
find_map p f [] = refl
find_map p f (x ∷ xs) = by_case (p (f x)) (find_map p f xs)
  where
    by_case : (b : Bool) → find p (map f xs) ≡ option_map f (find (λ x. p (f x)) xs) → cond b (Some (f x)) (find p (map f xs)) ≡ option_map f (cond b (Some x) (find (λ x. p (f x)) xs))
    by_case true e = refl
    by_case false e = e

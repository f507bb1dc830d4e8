-- The union of two ascending lists, taken number by number.
use Rattle.std.proofs.Common.{◌≡◌, ◌<◌, ◌≤◌, ◌⊎◌, ℕ, suc, ◌+◌, ◌||◌, ◌==◌, Bool, true, false, List, [], ◌∷◌, ◌++◌, length, min, Some, None, refl, sym, ap, ◌∙◌, subst, inl, inr, arith, ⊎_elim}
use Rattle.std.proofs.lemmas.Bool.{cases_lt, cond-true, cond-false, eq-eqb, ne_eqb}
use Rattle.std.proofs.lemmas.List.{append-nil}
use Rattle.circuit_types.specs.Order.{has}
use Rattle.circuit_types.proofs.Ranges.{has-push}
use Rattle.glitch_cone.specs.Numbers.{AscendsFrom, IsUnion, least_first, past}

-- each number of the list is greater, as far as its first one tells
Above : ℕ → List ℕ → Type 0
Above x [] = Unit {0}
Above x (y ∷ ys) = x < y

-- the list begins with the number, or has only greater ones
Heads : ℕ → List ℕ → Type 0
Heads x xs = (xs ≡ x ∷ past x xs) ⊎ ((past x xs ≡ xs) × Above x xs)

heads_same : (x y : ℕ) (ys : List ℕ) → y ≡ x → (y ∷ ys) ≡ x ∷ past x (y ∷ ys)
heads_same x y ys e =
    let p : past x (y ∷ ys) ≡ ys = cond-true (y == x) ys (y ∷ ys) (eq-eqb y x e) in
    ap (λ n. n ∷ ys) e ∙ sym (ap (λ r. x ∷ r) p)

past_other : (x y : ℕ) (ys : List ℕ) → x < y → past x (y ∷ ys) ≡ y ∷ ys
past_other x y ys lt = cond-false (y == x) ys (y ∷ ys) (ne_eqb y x (λ e. absurd (omega arith)))

heads_le : (x y : ℕ) (ys : List ℕ) → x ≤ y → Heads x (y ∷ ys)
unfolding Heads Above
heads_le x y ys le =
    ⊎_elim (λ lt. inr (past_other x y ys lt, lt)) (λ ge. inl (heads_same x y ys (omega arith))) (cases_lt x y)

-- what the least first number is to both lists
record IsLeast (l r : List ℕ) (x : ℕ) : Type 0 where
  left : Heads x l
  right : Heads x r
  some : (l ≡ x ∷ past x l) ⊎ (r ≡ x ∷ past x r)

least_of : (l r : List ℕ) (x : ℕ) → least_first l r ≡ Some x → IsLeast l r x
unfolding Heads Above
least_of [] [] x is = absurd (cc)
least_of [] (y ∷ ys) x is =
    let e : y ≡ x = cc in
    record { left = inr (refl, tt); right = inl (heads_same x y ys e); some = inr (heads_same x y ys e) }
least_of (n ∷ ns) [] x is =
    let e : n ≡ x = cc in
    record { left = inl (heads_same x n ns e); right = inr (refl, tt); some = inl (heads_same x n ns e) }
least_of (n ∷ ns) (y ∷ ys) x is =
    let e : min n y ≡ x = cc in
    record {
      left = heads_le x n ns (omega arith);
      right = heads_le x y ys (omega arith);
      some = ⊎_elim (λ lt. inl (heads_same x n ns (omega arith))) (λ ge. inr (heads_same x y ys (omega arith))) (cases_lt n y);
    }

-- ascending lists in two parts
glue : (u v ys : List ℕ) (low x : ℕ) → AscendsFrom low (u ++ x ∷ v) → AscendsFrom (x + 1) ys → AscendsFrom low ((u ++ x ∷ []) ++ ys)
glue [] v ys low x a b = (a.0, b)
glue (n ∷ u) v ys low x a b = (a.0, glue u v ys (n + 1) x a.1 b)

rest_ascends : (u ys : List ℕ) (low y : ℕ) → AscendsFrom low (u ++ y ∷ ys) → AscendsFrom (y + 1) ys
rest_ascends [] ys low y a = a.1
rest_ascends (n ∷ u) ys low y a = rest_ascends u ys (n + 1) y a.1

above_ascends : (u l : List ℕ) (low x : ℕ) → AscendsFrom low (u ++ l) → Above x l → AscendsFrom (x + 1) l
unfolding Above
above_ascends u [] low x a above = tt
above_ascends u (y ∷ ys) low x a above = (let lt : x < y = above in omega arith, rest_ascends u ys low y a)

next_ascends : (u l v : List ℕ) (x : ℕ) → AscendsFrom 0 (u ++ l) → AscendsFrom 0 (u ++ x ∷ v) → Heads x l → AscendsFrom 0 ((u ++ x ∷ []) ++ past x l)
unfolding Heads
next_ascends u l v x a w h =
    ⊎_elim
    (λ e. glue u v (past x l) 0 x w (rest_ascends u (past x l) 0 x (subst (λ xs. AscendsFrom 0 (u ++ xs)) e a)))
    (λ p. glue u v (past x l) 0 x w (subst (AscendsFrom (x + 1)) (sym p.0) (above_ascends u l 0 x a p.1)))
    h

both : (u x p q : Bool) → ((u || x) || (p || q)) ≡ (u || ((x || p) || (x || q)))
both true x p q = refl
both false true p q = refl
both false false p q = refl

left_alone : (u x p q : Bool) → ((u || x) || (p || q)) ≡ (u || ((x || p) || q))
left_alone true x p q = refl
left_alone false true p q = refl
left_alone false false p q = refl

right_alone : (u x p q : Bool) → ((u || x) || (p || q)) ≡ (u || (p || (x || q)))
right_alone true x p q = refl
right_alone false true true q = refl
right_alone false true false q = refl
right_alone false false p q = refl

same_has : (u l r : List ℕ) (x n : ℕ) → IsLeast l r x → (has (u ++ x ∷ []) n || (has (past x l) n || has (past x r) n)) ≡ (has u n || (has l n || has r n))
unfolding Heads Above
same_has u l r x n is =
    ap (λ b. b || (has (past x l) n || has (past x r) n)) (has-push u x n)
    ∙ ⊎_elim
    (λ e. ⊎_elim
    (λ f. both (has u n) (x == n) (has (past x l) n) (has (past x r) n)
    ∙ ap (λ (xs : List ℕ). has u n || (has xs n || ((x == n) || has (past x r) n))) (sym e) ∙ ap (λ (ys : List ℕ). has u n || (has l n || has ys n)) (sym f))
    (λ f. left_alone (has u n) (x == n) (has (past x l) n) (has (past x r) n)
    ∙ ap (λ (xs : List ℕ). has u n || (has xs n || has (past x r) n)) (sym e) ∙ ap (λ (ys : List ℕ). has u n || (has l n || has ys n)) f.0)
    is.right)
    (λ e. ⊎_elim
    (λ f. right_alone (has u n) (x == n) (has (past x l) n) (has (past x r) n)
    ∙ ap (λ (xs : List ℕ). has u n || (has xs n || ((x == n) || has (past x r) n))) e.0 ∙ ap (λ (ys : List ℕ). has u n || (has l n || has ys n)) (sym f))
    (λ f. absurd (none e.1 f.1 is.some))
    is.right)
    is.left
  where
    no_head : (xs ys : List ℕ) → Above x xs → xs ≡ x ∷ ys → ⊥
    no_head xs ys a e = let b : x < x = subst (Above x) e a in omega arith

    none : Above x l → Above x r → (l ≡ x ∷ past x l) ⊎ (r ≡ x ∷ past x r) → ⊥
    none a b s = ⊎_elim (λ e. no_head l (past x l) a e) (λ e. no_head r (past x r) b e) s

-- one number more: what holds of both lists and of those taken from them
pub record IsMerged (left right merged lefts rights : List ℕ) : Type 0 where
  pub ascends_left : AscendsFrom 0 (merged ++ lefts)
  pub ascends_right : AscendsFrom 0 (merged ++ rights)
  pub each : (n : ℕ) → (has merged n || (has lefts n || has rights n)) ≡ (has left n || has right n)

pub merged_more : (left right u l r merged : List ℕ) (x : ℕ) → least_first l r ≡ Some x → merged ≡ u ++ x ∷ [] → IsMerged left right u l r → IsMerged left right merged (past x l) (past x r)
unfolding Heads
merged_more left right u l r merged x is more was =
    let least = least_of l r x is in
    let witness : (v : List ℕ) × AscendsFrom 0 (u ++ x ∷ v) =
    ⊎_elim (λ e. (past x l, subst (λ xs. AscendsFrom 0 (u ++ xs)) e was.ascends_left)) (λ e. (past x r, subst (λ xs. AscendsFrom 0 (u ++ xs)) e was.ascends_right)) least.some in
    record {
      ascends_left = subst (λ m. AscendsFrom 0 (m ++ past x l)) (sym more) (next_ascends u l witness.0 x was.ascends_left witness.1 least.left);
      ascends_right = subst (λ m. AscendsFrom 0 (m ++ past x r)) (sym more) (next_ascends u r witness.0 x was.ascends_right witness.1 least.right);
      each = λ n. ap (λ (m : List ℕ). has m n || (has (past x l) n || has (past x r) n)) more ∙ same_has u l r x n least ∙ was.each n;
    }

length_past : (l : List ℕ) (x : ℕ) → Heads x l → length (past x l) ≤ length l
unfolding Heads
length_past l x h =
    ⊎_elim (λ e. let len : length l ≡ suc (length (past x l)) = ap length e in omega arith) (λ p. let len : length (past x l) ≡ length l = ap length p.0 in omega arith) h

pub past_shorter : (l r : List ℕ) (x : ℕ) → least_first l r ≡ Some x → length (past x l) + length (past x r) < length l + length r
past_shorter l r x is =
    let least = least_of l r x is in
    let a = length_past l x least.left in
    let b = length_past r x least.right in
    ⊎_elim
    (λ e. let len : length l ≡ suc (length (past x l)) = ap length e in omega arith)
    (λ e. let len : length r ≡ suc (length (past x r)) = ap length e in omega arith)
    least.some

pub merged_all : (left right u l r : List ℕ) → least_first l r ≡ None → IsMerged left right u l r → IsUnion left right u
merged_all left right u [] [] is was = record {
  ascends = subst (AscendsFrom 0) (append-nil u) was.ascends_left;
  each = λ n. sym (or_nothing (has u n)) ∙ was.each n;
}
  where
    or_nothing : (b : Bool) → (b || (false || false)) ≡ b
    or_nothing true = refl
    or_nothing false = refl
merged_all left right u [] (y ∷ ys) is was = absurd (cc)
merged_all left right u (n ∷ ns) [] is was = absurd (cc)
merged_all left right u (n ∷ ns) (y ∷ ys) is was = absurd (cc)

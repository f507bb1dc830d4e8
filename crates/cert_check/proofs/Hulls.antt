-- The set of a hull, made number by number.
use Rattle.std.proofs.Common.{◌≡◌, ℕ, ◌+◌, ◌<◌, ◌≤◌, Bool, true, false, ◌||◌, ⊎_elim, List, [], ◌∷◌, length, get_or, take, replicate, eqb, eq-eqb, ne_eqb, lt-ltb, le-ltb, cond, refl, sym, ap, ◌∙◌, subst, arith, length-set}
use Rattle.std.specs.Prelude.{slice_set}
use Rattle.std.proofs.lemmas.Bool.{cases_Bool, cases_lt, eqb-true, true≢false}
use Rattle.std.proofs.lemmas.List.{take_more, length-replicate}
use Rattle.bit_rows.specs.Sets.{is_in, set_of}
use Rattle.bit_rows.proofs.Facts.{is_in-empty, is_in-set_same, is_in-set_other, is_in-set_of, length-set_of, set_of_is}
use Rattle.expr_table.specs.Table.{has}
use Rattle.once_random.proofs.Facts.{has-++}
use Rattle.cert_check.specs.Sound.{with_number}

pub set_begun : (n : ℕ) (hull : List ℕ) → replicate n false ≡ set_of n (has (take 0 hull))
set_begun n hull = set_of_is (replicate n false) n (has []) (length-replicate {A = Bool} n false) (λ i lt. is_in-empty n i)

module _ (n i : ℕ) (hull : List ℕ) (flags : List Bool) (is : flags ≡ set_of n (has (take i hull))) (lt : i < length hull) where
  long : length flags ≡ n
  long = ap length is ∙ length-set_of n (has (take i hull))

  was : (k : ℕ) → k < n → is_in flags k ≡ has (take i hull) k
  was k l = ap (λ (s : List Bool). is_in s k) is ∙ is_in-set_of n (has (take i hull)) k l

  now : (k : ℕ) → has (take (i + 1) hull) k ≡ (has (take i hull) k || (eqb (get_or hull i 0) k || false))
  now k = ap (λ (l : List ℕ). has l k) (take_more hull i 0 lt) ∙ has-++ (take i hull) (get_or hull i 0 ∷ []) k

  or_true : (b : Bool) → (b || true) ≡ true
  or_true true = refl
  or_true false = refl

  or_false : (b : Bool) → (b || false) ≡ b
  or_false true = refl
  or_false false = refl

  found : (k : ℕ) → get_or hull i 0 ≡ k → has (take (i + 1) hull) k ≡ true
  found k e = now k ∙ ap (λ (b : Bool). has (take i hull) k || (b || false)) (eq-eqb (get_or hull i 0) k e) ∙ or_true (has (take i hull) k)

  other : (k : ℕ) → (get_or hull i 0 ≡ k → ⊥) → has (take (i + 1) hull) k ≡ has (take i hull) k
  other k d = now k ∙ ap (λ (b : Bool). has (take i hull) k || (b || false)) (ne_eqb (get_or hull i 0) k d) ∙ or_false (has (take i hull) k)

  -- the number is added
  pub set_added : get_or hull i 0 < n → slice_set flags (get_or hull i 0) true ≡ set_of n (has (take (i + 1) hull))
  set_added below = set_of_is (slice_set flags (get_or hull i 0) true) n (has (take (i + 1) hull)) (length-set flags (get_or hull i 0) true ∙ long) each
    where
      each : (k : ℕ) → k < n → is_in (slice_set flags (get_or hull i 0) true) k ≡ has (take (i + 1) hull) k
      each k l =
          ⊎_elim
          (λ (t : eqb (get_or hull i 0) k ≡ true).
          let e : get_or hull i 0 ≡ k = eqb-true (get_or hull i 0) k t in
          ap (λ (j : ℕ). is_in (slice_set flags (get_or hull i 0) true) j) (sym e)
          ∙ is_in-set_same flags (get_or hull i 0) true (omega (arith, long))
          ∙ sym (found k e))
          (λ (f : eqb (get_or hull i 0) k ≡ false).
          let d : get_or hull i 0 ≡ k → ⊥ = λ e. true≢false (sym (eq-eqb (get_or hull i 0) k e) ∙ f) in
          is_in-set_other flags (get_or hull i 0) k true (λ e. d (sym e)) ∙ was k l ∙ sym (other k d))
          (cases_Bool (eqb (get_or hull i 0) k))

  -- it is not below the set's length
  pub set_kept : n ≤ get_or hull i 0 → flags ≡ set_of n (has (take (i + 1) hull))
  set_kept past = set_of_is flags n (has (take (i + 1) hull)) long (λ k l. was k l ∙ sym (other k (λ e. let t : k < k = omega (arith, e) in omega arith)))

  -- it is added where it is below
  pub set_more : with_number flags (get_or hull i 0) ≡ set_of n (has (take (i + 1) hull))
  set_more =
      ⊎_elim
      (λ (below : get_or hull i 0 < length flags).
      ap (λ (b : Bool). cond b (slice_set flags (get_or hull i 0) true) flags) (lt-ltb (get_or hull i 0) (length flags) below) ∙ set_added (subst (λ (k : ℕ). get_or hull i 0 < k) long below))
      (λ (past : length flags ≤ get_or hull i 0).
      ap (λ (b : Bool). cond b (slice_set flags (get_or hull i 0) true) flags) (le-ltb (get_or hull i 0) (length flags) past) ∙ set_kept (subst (λ (k : ℕ). k ≤ get_or hull i 0) long past))
      (cases_lt (get_or hull i 0) (length flags))

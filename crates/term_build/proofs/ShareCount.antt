-- There are as many input leaves as secret bits, or more.
use Rattle.std.proofs.Common.{◌≡◌, ℕ, zero, suc, ◌+◌, ◌<◌, ◌≤◌, ◌==◌, ◌&&◌, Bool, true, false, cond, List, [], ◌∷◌, ◌++◌, length, count_by, refl, ap, ◌∙◌, subst, arith, ⊎_elim, length-append}
use Rattle.std.specs.List.{range_with_len}
use Rattle.std.proofs.lemmas.Bool.{cases_eq, ne_eqb}
use Rattle.std.proofs.lemmas.List.{append-nil, length-map}
use Rattle.std.proofs.lemmas.List.Sums.{sum_by-cons}
use Rattle.circuit_types.specs.declared.circuit.Timing.{Timing}
use Rattle.circuit_types.specs.declared.roles.InputRole.{InputRole}
use Rattle.circuit_types.specs.declared.roles.Role.{Role}
use Rattle.circuit_types.specs.declared.roles.Role.TheVariants.{Share, Random, Public, Clock, Held}
use Rattle.circuit_types.specs.declared.roles.Roles.{Roles}
use Rattle.circuit_types.specs.Probes.{cycles}
use Rattle.circuit_types.specs.Worlds.{shares, secret, input, is_input_leaf}
use Rattle.expr_table.specs.declared.instance.Notion.{Notion}
use Rattle.expr_table.specs.declared.instance.Notion.TheVariants.{Probing, Ni, Sni}
use Rattle.term_build.specs.declared.leaves.Sort.TheVariants.{Input}
use Rattle.term_build.specs.InputTerms.{is_share}
use Rattle.term_build.specs.Leaves.{inputs_of}
use Rattle.term_build.specs.Numbering.{all_leaves, is_leaf, leaves_among, leaves_before, leaves_of_secrets}
use Rattle.term_build.specs.TermInstance.{HasEachShare}
use Rattle.term_build.proofs.Counted.{length-range}
use Rattle.term_build.proofs.CycleStep.{before-room}
use Rattle.term_build.proofs.Numbers.{before-next}

abbrev one_if : Bool → ℕ
one_if b = cond b 1 0

-- how many of the first secret bits a role is share 0 of
below : ℕ → Role → ℕ
below zero r = 0
below (suc m) r = below m r + one_if (is_share m 0 r)

-- and the sum of these
total : ℕ → List InputRole → ℕ
total m [] = 0
total m (x ∷ xs) = below m x.role + total m xs

below-zero : (r : Role) → below zero r ≡ 0
unfolding below
below-zero r = refl

below-suc : (m : ℕ) (r : Role) → below (suc m) r ≡ below m r + one_if (is_share m 0 r)
unfolding below
below-suc m r = refl

total-nil : (m : ℕ) → total m [] ≡ 0
unfolding total
total-nil m = refl

total-cons : (m : ℕ) (x : InputRole) (xs : List InputRole) → total m (x ∷ xs) ≡ below m x.role + total m xs
unfolding total
total-cons m x xs = refl

no-share : (m t j : ℕ) → (t ≡ m → ⊥) → one_if (is_share m 0 (Share t j)) ≡ 0
no-share m t j ne = ap (λ b. one_if (b && (j == 0))) (ne_eqb t m ne)

one-most : (b : Bool) → one_if b ≤ 1
one-most true = omega arith
one-most false = omega arith

below-none : (m t j : ℕ) → m ≤ t → below m (Share t j) ≡ 0
below-none zero t j le = below-zero (Share t j)
below-none (suc m) t j le = omega (arith, below-suc m (Share t j), below-none m t j (omega arith), no-share m t j (λ e. omega arith))

below-few : (m t j : ℕ) → below m (Share t j) ≤ 1
below-few zero t j = omega (arith, below-zero (Share t j))
below-few (suc m) t j =
    let few = below-few m t j in
    ⊎_elim
    (λ e. omega (arith, below-suc m (Share t j), below-none m t j (omega arith), one-most (is_share m 0 (Share t j))))
    (λ ne. omega (arith, below-suc m (Share t j), few, no-share m t j ne))
    (cases_eq t m)

below-other : (r : Role) → ((m : ℕ) → is_share m 0 r ≡ false) → (m : ℕ) → below m r ≡ 0
below-other r others zero = below-zero r
below-other r others (suc m) = omega (arith, below-suc m r, below-other r others m, ap (λ b. one_if b) (others m))

total-zero : (xs : List InputRole) → total 0 xs ≡ 0
total-zero [] = total-nil 0
total-zero (x ∷ xs) = omega (arith, total-cons 0 x xs, below-zero x.role, total-zero xs)

total-next : (m : ℕ) (xs : List InputRole) → total (suc m) xs ≡ total m xs + count_by (λ (x : InputRole). is_share m 0 x.role) xs
total-next m [] = omega (arith, total-nil (suc m), total-nil m)
total-next m (x ∷ xs) = omega (
  arith,
  total-cons (suc m) x xs,
  total-cons m x xs,
  below-suc m x.role,
  total-next m xs,
  sum_by-cons (λ (y : InputRole). one_if (is_share m 0 y.role)) x xs,
)

total-many : (m : ℕ) (xs : List InputRole) → ((s : ℕ) → s < m → count_by (λ (x : InputRole). is_share s 0 x.role) xs ≡ 1) → m ≤ total m xs
total-many zero xs each = omega arith
total-many (suc m) xs each = omega (arith, total-next m xs, total-many m xs (λ s lt. each s (omega arith)), each m (omega arith))

module _ (test : Role → Bool) (c : ℕ) (shares_pass : (t j : ℕ) → test (Share t j) ≡ true) where
  total-among : (m : ℕ) (xs : List InputRole) → total m xs ≤ length (leaves_among test c xs)
  total-among m [] = omega (arith, total-nil m)
  total-among m (x ∷ xs) = by x.role refl (total-among m xs)
    where
      split : length (leaves_among test c (x ∷ xs)) ≡ length (cond (test x.role) (input x.bit c ∷ []) []) + length (leaves_among test c xs)
      split = length-append (cond (test x.role) (input x.bit c ∷ []) []) (leaves_among test c xs)

      other : below m x.role ≡ 0 → total m xs ≤ length (leaves_among test c xs) → total m (x ∷ xs) ≤ length (leaves_among test c (x ∷ xs))
      other none rest = omega (arith, total-cons m x xs, none, rest, split)

      by : (r : Role) → x.role ≡ r → total m xs ≤ length (leaves_among test c xs) → total m (x ∷ xs) ≤ length (leaves_among test c (x ∷ xs))
      by (Share t j) is rest =
          omega (
            arith,
            total-cons m x xs,
            ap (below m) is,
            below-few m t j,
            rest,
            split,
            ap (λ b. length (cond b (input x.bit c ∷ []) [])) (ap test is ∙ shares_pass t j),
          )
      by Random is rest = other (ap (below m) is ∙ below-other Random (λ k. refl) m) rest
      by Public is rest = other (ap (below m) is ∙ below-other Public (λ k. refl) m) rest
      by Clock is rest = other (ap (below m) is ∙ below-other Clock (λ k. refl) m) rest
      by (Held v) is rest = other (ap (below m) is ∙ below-other (Held v) (λ k. refl) m) rest

module _ (roles : Roles) (timing : Timing) (some : 0 < cycles timing) where
  shares-below : (notion : Notion) → inputs_of notion ≡ shares → HasEachShare roles → length roles.secrets ≤ length (all_leaves Input notion roles timing)
  shares-below notion is has =
      let test = is_leaf Input notion roles 0 in
      let many = total-many (length roles.secrets) roles.inputs (λ s lt. has.once s 0 lt (has.some s lt)) in
      let among = total-among test 0 (λ t j. ap (λ inputs. is_input_leaf inputs 0 (Share t j)) is) (length roles.secrets) roles.inputs in
      let front = leaves_before Input notion roles 0 in
      let split : length (leaves_before Input notion roles 1) ≡ length front + length (leaves_among test 0 roles.inputs) =
      ap length (before-next Input notion roles 0 1 refl) ∙ length-append front (leaves_among test 0 roles.inputs) in
      let room = before-room Input notion roles timing 1 (omega (arith, some)) in
      omega (arith, many, among, split, room)

  secrets-known : length roles.secrets ≤ length (all_leaves Input Probing roles timing)
  secrets-known =
      let room : length (leaves_of_secrets Input Probing roles ++ []) ≤ length (all_leaves Input Probing roles timing) = before-room Input Probing roles timing 0 (omega arith) in
      let same : length (leaves_of_secrets Input Probing roles ++ []) ≡ length roles.secrets =
      ap length (append-nil (leaves_of_secrets Input Probing roles)) ∙ length-map (range_with_len 0 (length roles.secrets)) (λ s. secret s) ∙ length-range 0 (length roles.secrets) in
      subst (λ n. n ≤ length (all_leaves Input Probing roles timing)) same room

  pub secrets-below : (notion : Notion) → HasEachShare roles → length roles.secrets ≤ length (all_leaves Input notion roles timing)
  secrets-below Probing has = secrets-known
  secrets-below Ni has = shares-below Ni refl has
  secrets-below Sni has = shares-below Sni refl has

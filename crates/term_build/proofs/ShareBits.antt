-- The bits of shares by secret and share.
use Rattle.std.proofs.Common.{◌≡◌, ◌+◌, ◌*◌, ◌<◌, ◌≤◌, ◌/◌, ◌%◌, ℕ, zero, suc, Bool, true, false, ◌==◌, ◌&&◌, cond, List, [], ◌∷◌, map, filter, length, get_or, set, count_by, refl, sym, ap, ◌∙◌, subst, arith, ⊎_elim, get_or-set_same, get_or-set_other}
use Rattle.std.proofs.lemmas.Bool.{cases_Bool, cases_eq, eq-eqb, and_parts, eqb-true}
use Rattle.std.proofs.lemmas.List.Sums.{sum_by-cons}
use Rattle.std.proofs.lemmas.Nat.{mul-add-lt, div-mul-add, mod-mul-add}
use Rattle.circuit_types.specs.declared.roles.InputRole.{InputRole}
use Rattle.circuit_types.specs.declared.roles.Role.{Role}
use Rattle.circuit_types.specs.declared.roles.Role.TheVariants.{Share, Random, Public, Clock, Held}
use Rattle.circuit_types.specs.declared.roles.Roles.{Roles}
use Rattle.term_build.specs.Building.{AreShareBits}
use Rattle.term_build.specs.InputTerms.{is_share}
use Rattle.term_build.specs.TermInstance.{HasEachShare, IsKnownShare}
use Rattle.term_build.proofs.InputRoles.{get_or-any}

-- a role that passes is the share
pub is_share-role : (s i : ℕ) (role : Role) → is_share s i role ≡ true → role ≡ Share s i
is_share-role s i (Share t j) h =
    let p = and_parts (t == s) (j == i) h in
    let a = eqb-true t s p.0 in
    let b = eqb-true j i p.1 in
    λ k. Share (a k) (b k)
is_share-role s i Random h = absurd cc
is_share-role s i Public h = absurd cc
is_share-role s i Clock h = absurd cc
is_share-role s i (Held v) h = absurd cc

pub share-is_share : (s i : ℕ) → is_share s i (Share s i) ≡ true
share-is_share s i = (λ k. eq-eqb s s refl k && (i == i)) ∙ eq-eqb i i refl

module _ (s i : ℕ) where
  abbrev test : InputRole → Bool
  test x = is_share s i x.role

  abbrev bits_of : List InputRole → List ℕ
  bits_of xs = map (λ (x : InputRole). x.bit) (filter test xs)

  counted : (x : InputRole) (xs : List InputRole) (b : Bool) → test x ≡ b → count_by test (x ∷ xs) ≡ cond b 1 0 + count_by test xs
  counted x xs b e = sum_by-cons (λ y. cond (test y) 1 0) x xs ∙ ap (λ c. cond c 1 0 + count_by test xs) e

  bits-none : (xs : List InputRole) → count_by test xs ≡ 0 → bits_of xs ≡ []
  bits-none [] none = refl
  bits-none (x ∷ xs) none = ⊎_elim
      (λ passes. absurd (omega (arith, counted x xs true passes)))
      (λ fails. ap (λ b. map (λ (y : InputRole). y.bit) (cond b (x ∷ filter test xs) (filter test xs))) fails ∙ bits-none xs (omega (arith, counted x xs false fails)))
      (cases_Bool (test x))

  -- where one input passes, its bit is all
  pub bits-one : (bit : ℕ) (xs : List InputRole) → count_by test xs ≡ 1 → ((k : ℕ) (d : InputRole) → k < length xs → (get_or xs k d).role ≡ Share s i → bit ≡ (get_or xs k d).bit) → bits_of xs ≡ bit ∷ []
  bits-one bit [] one each = absurd cc
  bits-one bit (x ∷ xs) one each = ⊎_elim
      (λ passes.
      ap (λ b. map (λ (y : InputRole). y.bit) (cond b (x ∷ filter test xs) (filter test xs))) passes
      ∙ (λ k. sym (each 0 x (omega arith) (is_share-role s i x.role passes)) k ∷ bits-none xs (omega (arith, counted x xs true passes)) k))
      (λ fails.
      ap (λ b. map (λ (y : InputRole). y.bit) (cond b (x ∷ filter test xs) (filter test xs))) fails
      ∙ bits-one bit xs (omega (arith, counted x xs false fails)) (λ k d lt. each (suc k) d (omega arith)))
      (cases_Bool (test x))

  -- inputs that pass are counted
  count-one : (xs : List InputRole) (k : ℕ) (d : InputRole) → k < length xs → test (get_or xs k d) ≡ true → 1 ≤ count_by test xs
  count-one [] k d lt h = absurd (omega arith)
  count-one (x ∷ xs) zero d lt h = omega (arith, counted x xs true h)
  count-one (x ∷ xs) (suc k) d lt h = omega (arith, counted x xs (test x) refl, count-one xs k d (omega arith) h)

  pub count-two : (xs : List InputRole) (j k : ℕ) (d e : InputRole) → j < k → k < length xs → test (get_or xs j d) ≡ true → test (get_or xs k e) ≡ true → 2 ≤ count_by test xs
  count-two [] j k d e below lt a b = absurd (omega arith)
  count-two (x ∷ xs) j zero d e below lt a b = absurd (omega arith)
  count-two (x ∷ xs) zero (suc k) d e below lt a b = omega (arith, counted x xs true a, count-one xs k e (omega arith) b)
  count-two (x ∷ xs) (suc j) (suc k) d e below lt a b = omega (arith, counted x xs (test x) refl, count-two xs j k d e (omega arith) (omega arith) a b)

-- secret and share by the place of the share
pub place-secret : (n s i t u : ℕ) → i < n → u < n → s * n + i ≡ t * n + u → s ≡ t
place-secret n s i t u li lu e = sym (div-mul-add s n i li) ∙ ap (λ k. k / n) e ∙ div-mul-add t n u lu

pub place-share : (n s i t u : ℕ) → i < n → u < n → s * n + i ≡ t * n + u → i ≡ u
place-share n s i t u li lu e = sym (mod-mul-add s n i li) ∙ ap (λ k. k % n) e ∙ mod-mul-add t n u lu

same-share : (s i t u : ℕ) (role : Role) → role ≡ Share s i → role ≡ Share t u → (s ≡ t) × (i ≡ u)
same-share s i t u role a b = let e : Share s i ≡ Share t u = sym a ∙ b in (cc, cc)

-- the bits of shares so far
abbrev pub AreBitsTo : Roles → List InputRole → ℕ → List ℕ → Type 0
AreBitsTo roles inputs k bits =
    (j s i : ℕ) (d : InputRole) → j < k → (get_or inputs j d).role ≡ Share s i → get_or bits (s * roles.shares + i) 0 ≡ (get_or inputs j d).bit

module _ (roles : Roles) (inputs : List InputRole) (bits : List ℕ) (k : ℕ) (e : InputRole) (same : inputs ≡ roles.inputs) (lt : k < length inputs) where
  -- one more input that is a share
  pub share_bits-yes : (s i : ℕ) → HasEachShare roles → length bits ≡ length roles.secrets * roles.shares → (get_or inputs k e).role ≡ Share s i
      → AreBitsTo roles inputs k bits → AreBitsTo roles inputs (k + 1) (set bits (s * roles.shares + i) (get_or inputs k e).bit)
  share_bits-yes s i has long is each j t u d below was = ⊎_elim here other (cases_eq j k)
    where
      known : (m : ℕ) (d : InputRole) (t u : ℕ) → m < length inputs → (get_or inputs m d).role ≡ Share t u → (t < length roles.secrets) × (u < roles.shares)
      known m d t u within e = subst (IsKnownShare roles) (ap (λ (xs : List InputRole). (get_or xs m d).role) (sym same) ∙ e) (has.known m d (omega (arith, ap length same)))

      at_place : s * roles.shares + i < length bits
      at_place = let p = known k e s i lt is in omega (arith, long, mul-add-lt s roles.shares i (length roles.secrets) p.0 p.1)

      here : j ≡ k → get_or (set bits (s * roles.shares + i) (get_or inputs k e).bit) (t * roles.shares + u) 0 ≡ (get_or inputs j d).bit
      here f =
          let one : get_or inputs j d ≡ get_or inputs k e = ap (λ m. get_or inputs m d) f ∙ get_or-any inputs k d e lt in
          let p = same-share t u s i (get_or inputs k e).role (ap (λ (x : InputRole). x.role) (sym one) ∙ was) is in
          (λ m. get_or (set bits (s * roles.shares + i) (get_or inputs k e).bit) (p.0 m * roles.shares + p.1 m) 0)
          ∙ get_or-set_same bits (s * roles.shares + i) (get_or inputs k e).bit 0 at_place ∙ ap (λ (x : InputRole). x.bit) (sym one)

      other : (j ≡ k → ⊥) → get_or (set bits (s * roles.shares + i) (get_or inputs k e).bit) (t * roles.shares + u) 0 ≡ (get_or inputs j d).bit
      other ne =
          let p = known k e s i lt is in
          let q = known j d t u (omega arith) was in
          get_or-set_other bits (s * roles.shares + i) (t * roles.shares + u) (get_or inputs k e).bit 0 (λ f. twice p q f) ∙ each j t u d (omega arith) was
        where
          twice : (s < length roles.secrets) × (i < roles.shares) → (t < length roles.secrets) × (u < roles.shares) → t * roles.shares + u ≡ s * roles.shares + i → ⊥
          twice p q f =
              let a : (get_or inputs j d).role ≡ Share s i = was ∙ (λ m. Share (place-secret roles.shares t u s i q.1 p.1 f m) (place-share roles.shares t u s i q.1 p.1 f m)) in
              let two = count-two s i inputs j k d e (omega arith) lt (ap (is_share s i) a ∙ share-is_share s i) (ap (is_share s i) is ∙ share-is_share s i) in
              omega (arith, two, ap (λ (xs : List InputRole). count_by (λ (x : InputRole). is_share s i x.role) xs) same, has.once s i p.0 p.1)

  -- or none
  pub share_bits-no : ((s i : ℕ) → (get_or inputs k e).role ≡ Share s i → ⊥) → AreBitsTo roles inputs k bits → AreBitsTo roles inputs (k + 1) bits
  share_bits-no none each j t u d below was = ⊎_elim
      (λ f. absurd (none t u (ap (λ (x : InputRole). x.role) (sym (get_or-any inputs k d e lt) ∙ ap (λ m. get_or inputs m d) (sym f)) ∙ was)))
      (λ ne. each j t u d (omega arith) was)
      (cases_eq j k)

pub share_bits-made : (roles : Roles) (bits : List ℕ) → HasEachShare roles → length bits ≡ length roles.secrets * roles.shares
    → ((j s i : ℕ) (d : InputRole) → j < length roles.inputs → (get_or roles.inputs j d).role ≡ Share s i → get_or bits (s * roles.shares + i) 0 ≡ (get_or roles.inputs j d).bit) → AreShareBits roles bits
share_bits-made roles bits has long each = record {
  count = long;
  each = λ s i ls li. bits-one s i (get_or bits (s * roles.shares + i) 0) roles.inputs (has.once s i ls li) (λ k d lt is. each k s i d lt is);
}

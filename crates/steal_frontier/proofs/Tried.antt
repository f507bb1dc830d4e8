-- Deques that were found empty one after the other.
use Rattle.std.proofs.Common.{◌≡◌, ℕ, zero, suc, ◌+◌, ◌-◌, ◌<◌, ◌≤◌, ◌⊎◌, inl, inr, ⊎_elim, List, [], ◌∷◌, ◌++◌, length, get_or, sym, refl, ap, ◌∙◌, subst, arith, append_assoc}
use Rattle.std.specs.Prelude.{min}
use Rattle.std.specs.List.{range_with_len}
use Rattle.std.proofs.lemmas.Bool.{cases_eq, cases_lt}
use Rattle.std.proofs.lemmas.List.{length-set, get_or-set_same, get_or-set_other}
use Rattle.probe_family.specs.declared.family.Family.{Family}
use Rattle.deque_reach.specs.Counts.{Rises}
use Rattle.deque_reach.specs.Views.{ReachView, Misses, after_steal}
use Rattle.deque_reach.specs.declared.reach.Reach.{Reach}
use Rattle.deque_reach.specs.Reaches.{KeepsDeques}
use Rattle.steal_frontier.specs.Tries.{others_of, MissesEach, StealsFrom}

-- nothing but misses changed
pub missed_rest : (v w : ReachView) (ds : List ℕ) → MissesEach v ds w → w ≡ record v { misses = w.misses }
missed_rest v w [] m = let P : ReachView → Type 0 = λ x. x ≡ record v { misses = x.misses } in subst P (sym m) refl
missed_rest v w (d ∷ ds) m = missed_rest m.0 w ds m.2 ∙ ap (λ (x : ReachView). record x { misses = w.misses }) m.1.2

pub missed_append : (v u w : ReachView) (ds es : List ℕ) → MissesEach v ds u → MissesEach u es w → MissesEach v (ds ++ es) w
missed_append v u w [] es a b = subst (λ (x : ReachView). MissesEach x es w) a b
missed_append v u w (d ∷ ds) es a b = (a.0, a.1, missed_append a.0 u w ds es a.2 b)

pub missed_parts : (v w : ReachView) (ds es : List ℕ) → MissesEach v (ds ++ es) w → (u : ReachView) × MissesEach v ds u × MissesEach u es w
missed_parts v w [] es m = (v, refl, m)
missed_parts v w (d ∷ ds) es m = let rest = missed_parts m.0 w ds es m.2 in (rest.0, (m.0, m.1, rest.1), rest.2)

-- numbers in order, cut at one of them
pub range_at : (a n m k d : ℕ) → k ≡ n + m + 1 → d ≡ a + n → range_with_len a k ≡ range_with_len a n ++ d ∷ range_with_len (d + 1) m
range_at a zero m zero d e f = absurd (omega arith)
range_at a (suc n) m zero d e f = absurd (omega arith)
range_at a zero m (suc k) d e f =
    let count : k ≡ m = omega arith in
    let place : a ≡ d = omega arith in
    λ i. place i ∷ range_with_len (place i + 1) (count i)
range_at a (suc n) m (suc k) d e f = ap (λ l. a ∷ l) (range_at (a + 1) n m k d (omega arith) (omega arith))

pub missed_as : (v w : ReachView) (ds es : List ℕ) → ds ≡ es → MissesEach v ds w → MissesEach v es w
missed_as v w ds es e m = subst (λ l. MissesEach v l w) e m

-- no deque was tried yet
pub missed_none : (v : ReachView) (a k : ℕ) → k ≡ 0 → MissesEach v (range_with_len a k) v
missed_none v a zero e = refl
missed_none v a (suc k) e = absurd (omega arith)

pub missed_to : (v w : ReachView) (a k n : ℕ) → k ≡ n → MissesEach v (range_with_len a k) w → MissesEach v (range_with_len a n) w
missed_to v w a k n e m = subst (λ j. MissesEach v (range_with_len a j) w) e m

-- the numbers of the others, by what the code counts with
pub others_at : (workers number w n : ℕ) → w ≡ workers → n ≡ number → range_with_len (n + 1) (w - (n + 1)) ++ range_with_len 0 (n - 0) ≡ others_of workers number
others_at workers number w n e f =
    let g : n - 0 ≡ number = omega arith in
    λ t. range_with_len (f t + 1) (e t - (f t + 1)) ++ range_with_len 0 (g t)

-- one more deque was found empty
pub missed_more : (v u w : ReachView) (a k d : ℕ) → a ≤ d → k ≡ d + 1 - a → MissesEach v (range_with_len a (d - a)) u → Misses u d w → MissesEach v (range_with_len a k) w
missed_more v u w a k d low count before here =
    missed_as v w _ _ (sym (range_at a (d - a) 0 k d (omega arith) (omega arith))) (missed_append v u w (range_with_len a (d - a)) (d ∷ []) before (w, here, refl))

module _ (workers : ℕ) (v w : ReachView) (f : Family) where
  pub steals_as : (ds es : List ℕ) → ds ≡ es → StealsFrom workers v ds f w → StealsFrom workers v es f w
  steals_as ds es e s = subst (λ l. StealsFrom workers v l f w) e s

  -- a family was stolen from one of the deques in order
  pub steals_at : (u : ReachView) (a k d : ℕ) → a ≤ d → d < a + k → d < workers → MissesEach v (range_with_len a (d - a)) u → w ≡ after_steal u d f → StealsFrom workers v (range_with_len a k) f w
  steals_at u a k d low high among missed stolen = record {
    before = range_with_len a (d - a);
    deque = d;
    after = range_with_len (d + 1) (a + k - (d + 1));
    order = range_at a (d - a) (a + k - (d + 1)) k d (omega arith) (omega arith);
    among = among;
    reach = u;
    missed = missed;
    stolen = stolen;
  }

  -- more deques were not tried any more
  pub steals_before : (ds es : List ℕ) → StealsFrom workers v ds f w → StealsFrom workers v (ds ++ es) f w
  steals_before ds es s = record {
    before = s.before;
    deque = s.deque;
    after = s.after ++ es;
    order = ap (λ l. l ++ es) s.order ∙ append_assoc s.before (s.deque ∷ s.after) es;
    among = s.among;
    reach = s.reach;
    missed = s.missed;
    stolen = s.stolen;
  }

  -- more deques had been found empty
  pub steals_after : (u : ReachView) (es ds : List ℕ) → MissesEach v es u → StealsFrom workers u ds f w → StealsFrom workers v (es ++ ds) f w
  steals_after u es ds m s = record {
    before = es ++ s.before;
    deque = s.deque;
    after = s.after;
    order = ap (λ l. es ++ l) s.order ∙ sym (append_assoc es s.before (s.deque ∷ s.after));
    among = s.among;
    reach = s.reach;
    missed = missed_append v u s.reach es s.before m s.missed;
    stolen = s.stolen;
  }

-- counts of misses
rises-trans : (a b c m : ℕ) → min (a + 1) m ≤ b → min (b + 1) m ≤ c → min (a + 1) m ≤ c
rises-trans a b c m e f = omega arith

-- a count stays or rises
abbrev Stays : ℕ → ℕ → Type 0
Stays a b = (b ≡ a) ⊎ Rises a b

stays_rises : (a b c : ℕ) → Stays a b → Rises b c → Rises a c
stays_rises a b c (inl e) r = subst (λ n. Rises n c) e r
stays_rises a b c (inr s) r = rises-trans a b c _ s r

rises_stays : (a b c : ℕ) → Rises a b → Stays b c → Rises a c
rises_stays a b c r (inl e) = subst (Rises a) (sym e) r
rises_stays a b c r (inr s) = rises-trans a b c _ r s

stays-trans : (a b c : ℕ) → Stays a b → Stays b c → Stays a c
stays-trans a b c (inl e) s = subst (λ n. Stays n c) e s
stays-trans a b c (inr r) s = inr (rises_stays a b c r s)

abbrev count_at : ReachView → ℕ → ℕ
count_at v k = get_or v.misses k 0

module _ (v u : ReachView) (d : ℕ) (m : Misses v d u) where
  one-length : length u.misses ≡ length v.misses
  one-length = ap (λ (x : ReachView). length x.misses) m.2 ∙ length-set v.misses d m.0

  one_rises : d < length v.misses → Rises (count_at v d) (count_at u d)
  one_rises low = subst (Rises (count_at v d)) (sym (ap (λ (x : ReachView). count_at x d) m.2 ∙ get_or-set_same v.misses d m.0 0 low)) m.1

  one_other : (k : ℕ) → (k ≡ d → ⊥) → count_at u k ≡ count_at v k
  one_other k ne = ap (λ (x : ReachView). count_at x k) m.2 ∙ get_or-set_other v.misses d k m.0 0 ne

  one_stays : (k : ℕ) → k < length v.misses → Stays (count_at v k) (count_at u k)
  one_stays k low = ⊎_elim
      (λ (e : k ≡ d). inr (subst (λ j. Rises (count_at v j) (count_at u j)) (sym e) (one_rises (omega arith))))
      (λ (ne : k ≡ d → ⊥). inl (one_other k ne))
      (cases_eq k d)

pub missed-length : (v w : ReachView) (ds : List ℕ) → MissesEach v ds w → length w.misses ≡ length v.misses
missed-length v w [] m = ap (λ (x : ReachView). length x.misses) m
missed-length v w (d ∷ ds) m = missed-length m.0 w ds m.2 ∙ one-length v m.0 d m.1

each_stays : (v w : ReachView) (ds : List ℕ) → MissesEach v ds w → (k : ℕ) → k < length v.misses → Stays (count_at v k) (count_at w k)
each_stays v w [] m k low = inl (ap (λ (x : ReachView). count_at x k) m)
each_stays v w (d ∷ ds) m k low =
    let same = one-length v m.0 d m.1 in
    stays-trans (count_at v k) (count_at m.0 k) (count_at w k) (one_stays v m.0 d m.1 k low) (each_stays m.0 w ds m.2 k (omega arith))

range_rises : (v w : ReachView) (a n : ℕ) → MissesEach v (range_with_len a n) w → (k : ℕ) → a ≤ k → k < a + n → k < length v.misses → Rises (count_at v k) (count_at w k)
range_rises v w a zero m k low high within = absurd (omega arith)
range_rises v w a (suc n) m k low high within =
    let same = one-length v m.0 a m.1 in
    ⊎_elim
    (λ (e : k ≡ a). rises_stays (count_at v k) (count_at m.0 k) (count_at w k)
    (subst (λ j. Rises (count_at v j) (count_at m.0 j)) (sym e) (one_rises v m.0 a m.1 (omega arith)))
    (each_stays m.0 w (range_with_len (a + 1) n) m.2 k (omega arith)))
    (λ (ne : k ≡ a → ⊥). stays_rises (count_at v k) (count_at m.0 k) (count_at w k)
    (one_stays v m.0 a m.1 k within)
    (range_rises m.0 w (a + 1) n m.2 k (omega arith) (omega arith) (omega arith)))
    (cases_eq k a)

-- where the own deque and all others were found empty, the misses of each deque rose
pub each_rises : (v w : ReachView) (workers number : ℕ) → number < workers → length v.misses ≡ workers → MissesEach v (number ∷ others_of workers number) w
    → (k : ℕ) → k < workers → Rises (get_or v.misses k 0) (get_or w.misses k 0)
each_rises v w workers number low count m k high =
    let u = m.0 in
    let same = one-length v u number m.1 in
    let parts = missed_parts u w (range_with_len (number + 1) (workers - (number + 1))) (range_with_len 0 number) m.2 in
    let x = parts.0 in
    let after = missed-length u x (range_with_len (number + 1) (workers - (number + 1))) parts.1 in
    ⊎_elim
    (λ (below : k < number). stays_rises (count_at v k) (count_at x k) (count_at w k)
    (stays-trans (count_at v k) (count_at u k) (count_at x k)
    (one_stays v u number m.1 k (omega arith))
    (each_stays u x (range_with_len (number + 1) (workers - (number + 1))) parts.1 k (omega arith)))
    (range_rises x w 0 number parts.2 k (omega arith) (omega arith) (omega arith)))
    (λ (above : number ≤ k). ⊎_elim
    (λ (e : k ≡ number). rises_stays (count_at v k) (count_at u k) (count_at w k)
    (subst (λ j. Rises (count_at v j) (count_at u j)) (sym e) (one_rises v u number m.1 (omega arith)))
    (each_stays u w (others_of workers number) m.2 k (omega arith)))
    (λ (ne : k ≡ number → ⊥). stays_rises (count_at v k) (count_at u k) (count_at w k)
    (one_stays v u number m.1 k (omega arith))
    (rises_stays (count_at u k) (count_at x k) (count_at w k)
    (range_rises u x (number + 1) (workers - (number + 1)) parts.1 k (omega arith) (omega arith) (omega arith))
    (each_stays x w (range_with_len 0 number) parts.2 k (omega arith))))
    (cases_eq k number))
    (cases_lt k number)

pub keeps_deques-refl : (r : Reach) → KeepsDeques r r
keeps_deques-refl r = record { number = refl; deques = λ d of. of }

pub keeps_deques-trans : (a b c : Reach) → KeepsDeques a b → KeepsDeques b c → KeepsDeques a c
keeps_deques-trans a b c k l = record { number = l.number ∙ k.number; deques = λ d of. l.deques d (k.deques d of) }

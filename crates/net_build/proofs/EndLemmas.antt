-- Following bits to their ends.
use Rattle.std.proofs.Common.{◌≡◌, ℕ, ◌+◌, ◌<◌, Bool, true, false, ◌⊎◌, inl, inr, ⊎_elim, List, [], ◌∷◌, ◌++◌, length, take, get_or, set, refl, sym, ap, ◌∙◌, subst, arith, get_or-set_same, get_or-set_other, zero, suc, nat_lt, ltb-true, ltb-false}
use Rattle.std.proofs.Math.ListN.{length-set, get_or-eq_default}
use Rattle.std.proofs.lemmas.List.{take_more}
use Rattle.std.proofs.lemmas.Bool.{cases_eq}
use Rattle.circuit_types.specs.declared.nets.Source.{Source}
use Rattle.circuit_types.specs.declared.nets.Source.TheVariants as source
use Rattle.net_build.specs.Ends.{step_at, Leads, here, on, IsEndOf, IsClosed, Among, is_seen, end_at, IsSettled, HasFollowed, IsOnWay, ReplacesAmong}
use Rattle.net_build.specs.declared.drivers.Driver.{Driver}
use Rattle.net_build.specs.declared.resolve.Step.TheVariants.{To, At}

among_push : (xs : List ℕ) (x k : ℕ) → Among (xs ++ x ∷ []) k → Among xs k ⊎ (x ≡ k)
among_push [] x k a = ⊎_elim (λ e. inr e) (λ n. absurd n) a
among_push (y ∷ ys) x k a = ⊎_elim (λ e. inl (inl e)) (λ n. ⊎_elim (λ m. inl (inr m)) (λ e. inr e) (among_push ys x k n)) a

among_front : (xs : List ℕ) (x k : ℕ) → Among xs k → Among (xs ++ x ∷ []) k
among_front [] x k a = absurd a
among_front (y ∷ ys) x k a = ⊎_elim (λ e. inl e) (λ n. inr (among_front ys x k n)) a

among_last : (xs : List ℕ) (x : ℕ) → Among (xs ++ x ∷ []) x
among_last [] x = inl refl
among_last (y ∷ ys) x = inr (among_last ys x)

to_once : (m n : ℕ) → To m ≡ To n → m ≡ n
to_once m n e = cc

at_to : (e : Source) (n : ℕ) → At e ≡ To n → ⊥
at_to e n h = cc

pub leads_on : (ds : List Driver) (k n : ℕ) (e : Source) → step_at ds k ≡ To n → Leads ds k e → Leads ds n e
leads_on ds k n e s (here k' e' h) = absurd (at_to e n (sym h ∙ s))
leads_on ds k n e s (on k' next e' h l) = subst (λ m. Leads ds m e) (to_once next n (sym h ∙ s)) l

back_step : (ds : List Driver) (k n : ℕ) (e : Source) → step_at ds k ≡ To n → IsEndOf ds n e → IsEndOf ds k e
back_step ds k n e s h =
    ⊎_elim (λ l. inl (on k n e s l)) (λ m. inr (m.0, λ other l. m.1 other (leads_on ds k n other s l))) h

no_end : (ds : List Driver) (way : List ℕ) → ((k : ℕ) → Among way k → (n : ℕ) × (step_at ds k ≡ To n) × Among way n)
    → (k : ℕ) (e : Source) → Among way k → Leads ds k e → ⊥
no_end ds way steps k e a (here k' e' h) = let s = steps k a in at_to e s.0 (sym h ∙ s.1)
no_end ds way steps k e a (on k' next e' h l) =
    let s = steps k a in no_end ds way steps next e (subst (λ m. Among way m) (to_once s.0 next (sym s.1 ∙ h)) s.2) l

-- a bit is marked as seen
seen_set : (seen : List Bool) (bit k : ℕ) → is_seen (set seen bit true) k ≡ true → (is_seen seen k ≡ true) ⊎ (bit ≡ k)
seen_set seen bit k h = ⊎_elim (λ e. inr (sym e)) (λ n. inl (sym (get_or-set_other seen bit k true false n) ∙ h)) (cases_eq k bit)

set_seen : (seen : List Bool) (bit : ℕ) → bit < length seen → is_seen (set seen bit true) bit ≡ true
set_seen seen bit h = get_or-set_same seen bit true false h

seen_kept : (seen : List Bool) (bit k : ℕ) → bit < length seen → is_seen seen k ≡ true → is_seen (set seen bit true) k ≡ true
seen_kept seen bit k h e =
    ⊎_elim (λ q. subst (λ x. is_seen (set seen bit true) x ≡ true) (sym q) (set_seen seen bit h)) (λ n. get_or-set_other seen bit k true false n ∙ e) (cases_eq k bit)

pub start_way : (ds : List Driver) (start : ℕ) (seen : List Bool) (way : List ℕ) → start < length ds → way ≡ [] → IsOnWay ds start start seen seen way
start_way ds start seen way h e = subst (λ w. IsOnWay ds start start seen seen w) (sym e) (record {
  inside = h;
  back = λ k a. absurd a;
  steps = λ k a. absurd a;
  within = λ k a. absurd a;
  marked = λ k m. inl m;
  marks = λ k a. absurd a;
  kept = λ k m. m;
  reached = inl refl;
  size = refl;
})

pub next_way : (ds : List Driver) (start bit n : ℕ) (before seen : List Bool) (way : List ℕ) → IsOnWay ds start bit before seen way → length before ≡ length ds
    → IsClosed ds → step_at ds bit ≡ To n → IsOnWay ds start n before (set seen bit true) (way ++ bit ∷ [])
next_way ds start bit n before seen way w len closed s =
    let fits : bit < length seen = omega (arith, w.inside, w.size, len) in
    record {
      inside = closed bit n w.inside s;
      back = λ k a end h. ⊎_elim (λ m. w.back k m end (back_step ds bit n end s h)) (λ e. subst (λ x. IsEndOf ds x end) e (back_step ds bit n end s h)) (among_push way bit k a);
      steps = λ k a. ⊎_elim
          (λ m. let t = w.steps k m in (t.0, t.1, inl (⊎_elim (λ x. among_front way bit t.0 x) (λ e. subst (λ y. Among (way ++ bit ∷ []) y) (sym e) (among_last way bit)) t.2)))
          (λ e. (n, ap (step_at ds) (sym e) ∙ s, inr refl)) (among_push way bit k a);
      within = λ k a. ⊎_elim (λ m. w.within k m) (λ e. subst (λ x. x < length ds) e w.inside) (among_push way bit k a);
      marked = λ k m. ⊎_elim (λ x. ⊎_elim (λ y. inl y) (λ y. inr (among_front way bit k y)) (w.marked k x)) (λ e. inr (subst (λ y. Among (way ++ bit ∷ []) y) e (among_last way bit))) (seen_set seen bit k m);
      marks = λ k a. ⊎_elim (λ m. seen_kept seen bit k fits (w.marks k m)) (λ e. subst (λ x. is_seen (set seen bit true) x ≡ true) e (set_seen seen bit fits)) (among_push way bit k a);
      kept = λ k m. seen_kept seen bit k fits (w.kept k m);
      reached = inr (⊎_elim (λ e. subst (λ x. is_seen (set seen bit true) x ≡ true) e (set_seen seen bit fits)) (λ x. seen_kept seen bit start fits x) w.reached);
      size = length-set seen bit true ∙ w.size;
    }

-- the bit stops here
pub at_end : (ds : List Driver) (start bit : ℕ) (end : Source) (before seen : List Bool) (way : List ℕ) → IsOnWay ds start bit before seen way → length before ≡ length ds
    → step_at ds bit ≡ At end → HasFollowed ds start before (set seen bit true) (way ++ bit ∷ []) end
at_end ds start bit end before seen way w len s =
    let fits : bit < length seen = omega (arith, w.inside, w.size, len) in
    let stop : IsEndOf ds bit end = inl (here bit end s) in
    record {
      each = λ k a. ⊎_elim (λ m. w.back k m end stop) (λ e. subst (λ x. IsEndOf ds x end) e stop) (among_push way bit k a);
      within = λ k a. ⊎_elim (λ m. w.within k m) (λ e. subst (λ x. x < length ds) e w.inside) (among_push way bit k a);
      marked = λ k m. ⊎_elim (λ x. ⊎_elim (λ y. inl y) (λ y. inr (among_front way bit k y)) (w.marked k x)) (λ e. inr (subst (λ y. Among (way ++ bit ∷ []) y) e (among_last way bit))) (seen_set seen bit k m);
      marks = λ k a. ⊎_elim (λ m. seen_kept seen bit k fits (w.marks k m)) (λ e. subst (λ x. is_seen (set seen bit true) x ≡ true) e (set_seen seen bit fits)) (among_push way bit k a);
      kept = λ k m. seen_kept seen bit k fits (w.kept k m);
      reached = ⊎_elim (λ e. subst (λ x. is_seen (set seen bit true) x ≡ true) e (set_seen seen bit fits)) (λ x. seen_kept seen bit start fits x) w.reached;
      size = length-set seen bit true ∙ w.size;
    }

both_ways : (b : Bool) → b ≡ true → b ≡ false → ⊥
both_ways b p q = cc

-- the bit was met before: its end is known, or the way goes round
met_end : (ds : List Driver) (start bit : ℕ) (ends : List Source) (before seen : List Bool) (way : List ℕ) → IsOnWay ds start bit before seen way
    → IsSettled ds ends before → is_seen seen bit ≡ true → (b : Bool) → is_seen before bit ≡ b → IsEndOf ds bit (end_at ends bit)
met_end ds start bit ends before seen way w st m true e = st.known bit w.inside e
met_end ds start bit ends before seen way w st m false e =
    ⊎_elim (λ x. absurd (both_ways (is_seen before bit) x e))
    (λ a. inr (st.fresh bit e, λ other l. no_end ds way (λ k b. let t = w.steps k b in (t.0, t.1, ⊎_elim (λ x. x) (λ q. subst (λ y. Among way y) (sym q) a) t.2)) bit other a l))
    (w.marked bit m)

pub met : (ds : List Driver) (start bit : ℕ) (ends : List Source) (end : Source) (before seen : List Bool) (way : List ℕ) → IsOnWay ds start bit before seen way
    → IsSettled ds ends before → is_seen seen bit ≡ true → end ≡ end_at ends bit → HasFollowed ds start before seen way end
met ds start bit ends end before seen way w st m e =
    let at = met_end ds start bit ends before seen way w st m (is_seen before bit) refl in
    record {
      each = λ k a. subst (λ x. IsEndOf ds k x) (sym e) (w.back k a (end_at ends bit) at);
      within = w.within;
      marked = w.marked;
      marks = w.marks;
      kept = w.kept;
      reached = ⊎_elim (λ q. subst (λ x. is_seen seen x ≡ true) q m) (λ x. x) w.reached;
      size = w.size;
    }

pub among_at : (xs : List ℕ) (i : ℕ) → i < length xs → Among xs (get_or xs i 0)
among_at [] i h = absurd (omega arith)
among_at (x ∷ xs) zero h = inl refl
among_at (x ∷ xs) (suc i) h = inr (among_at xs i (omega arith))

pub none_replaced : (end : Source) (ends : List Source) → ReplacesAmong [] end ends ends
none_replaced end ends = (refl, λ k h. inr ((λ a. a), refl))

pub one_replaced : (way : List ℕ) (i : ℕ) (end : Source) (old new : List Source) → i < length way → get_or way i 0 < length old → ReplacesAmong (take i way) end old new
    → ReplacesAmong (take (i + 1) way) end old (set new (get_or way i 0) end)
one_replaced way i end old new h b r =
    let x = get_or way i 0 in
    let t = take_more way i 0 h in
    let fits : x < length new = omega (arith, r.0, b) in (
      length-set new x end ∙ r.0,
      λ k f. subst (λ ys. (Among ys k × (end_at (set new x end) k ≡ end)) ⊎ ((Among ys k → ⊥) × (end_at (set new x end) k ≡ end_at old k))) (sym t)
          (⊎_elim
          (λ e. inl (subst (λ y. Among (take i way ++ x ∷ []) y) (sym e) (among_last (take i way) x), ap (λ y. end_at (set new x end) y) e ∙ get_or-set_same new x end source.Missing fits))
          (λ n. let same = get_or-set_other new x k end source.Missing n in
          ⊎_elim (λ a. inl (among_front (take i way) x k a.0, same ∙ a.1))
          (λ a. inr ((λ m. ⊎_elim (λ y. a.0 y) (λ e. n (sym e)) (among_push (take i way) x k m)), same ∙ a.1)) (r.1 k f))
          (cases_eq k x)),
    )

unseen : (b : Bool) → (b ≡ true → ⊥) → b ≡ false
unseen true h = absurd (h refl)
unseen false h = refl

fresh_more : (ds : List Driver) (bit : ℕ) (end : Source) (old new : List Source) (before seen : List Bool) (way : List ℕ)
    → IsSettled ds old before → HasFollowed ds bit before seen way end → ReplacesAmong way end old new
    → (k : ℕ) → is_seen seen k ≡ false → (b : Bool) → nat_lt k (length old) ≡ b → end_at new k ≡ source.Missing
fresh_more ds bit end old new before seen way st f r k m true h =
    ⊎_elim (λ a. absurd (both_ways (is_seen seen k) (f.marks k a.0) m))
    (λ a. a.1 ∙ st.fresh k (unseen (is_seen before k) (λ x. both_ways (is_seen seen k) (f.kept k x) m))) (r.1 k (ltb-true k (length old) h))
fresh_more ds bit end old new before seen way st f r k m false h =
    get_or-eq_default new source.Missing (omega (arith, r.0, ltb-false k (length old) h))

-- one bit more is settled
pub settled_more : (ds : List Driver) (bit : ℕ) (end : Source) (old new : List Source) (before seen : List Bool) (way : List ℕ)
    → IsSettled ds old before → HasFollowed ds bit before seen way end → ReplacesAmong way end old new → IsSettled ds new seen
settled_more ds bit end old new before seen way st f r = record {
  all_ends = r.0 ∙ st.all_ends;
  all_seen = f.size ∙ st.all_seen;
  known = λ k h m. ⊎_elim (λ a. subst (λ x. IsEndOf ds k x) (sym a.1) (f.each k a.0))
      (λ a. ⊎_elim (λ b. subst (λ x. IsEndOf ds k x) (sym a.1) (st.known k h b)) (λ b. absurd (a.0 b)) (f.marked k m)) (r.1 k (omega (arith, st.all_ends, h)));
  fresh = λ k m. fresh_more ds bit end old new before seen way st f r k m (nat_lt k (length old)) refl;
}

pub seen_more : (ds : List Driver) (bit : ℕ) (end : Source) (before seen : List Bool) (way : List ℕ) → HasFollowed ds bit before seen way end
    → ((k : ℕ) → k < bit → is_seen before k ≡ true) → (k : ℕ) → k < bit + 1 → is_seen seen k ≡ true
seen_more ds bit end before seen way f all k h =
    ⊎_elim (λ e. subst (λ x. is_seen seen x ≡ true) (sym e) f.reached) (λ n. f.kept k (all k (omega (arith, n)))) (cases_eq k bit)

pub way_within : (ds : List Driver) (start : ℕ) (ends : List Source) (before seen : List Bool) (way : List ℕ) (end : Source) → IsSettled ds ends before
    → HasFollowed ds start before seen way end → (k : ℕ) → Among way k → k < length ends
way_within ds start ends before seen way end st f k a = omega (arith, f.within k a, st.all_ends)

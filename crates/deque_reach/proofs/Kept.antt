-- Each step on a deque keeps its rule.
use Rattle.std.proofs.Common.{◌≡◌, ℕ, zero, suc, ◌<◌, List, [], ◌∷◌, ◌++◌, All, length, sum_by, set, true, false, true≢false, sym, refl, ap, ◌∙◌, subst, inl, inr, arith, length-append}
use Rattle.std.proofs.lemmas.List.Sums.{sum_by-append, sum_by_push}
use Rattle.std.proofs.lemmas.List.Elements.{All-nil, All-push, All-set, All-weaker}
use mathlib.Core.Option.{some, some-injective, some-ne-none}
use lib.ListN.{get_elem?}
use Rattle.crossbeam_deque.specs.Tasks.{Pushes as CanPush, Takes as CanTake, Finds, Forks, Merges}
use Rattle.probe_family.specs.declared.family.Family.{Family}
use Rattle.deque_reach.specs.declared.pass_view.PassView.{PassView}
use Rattle.deque_reach.specs.Fits.{Fits}
use Rattle.deque_reach.specs.Rule.{all_parts, untold, all_taken, IsPass, ObeysRule, Keeps}
use Rattle.deque_reach.specs.Steps.{Tells, Begins, fresh, begun, Pushes, Takes, without_part, with_one_part, both_views, spent, Balances}
use Rattle.deque_reach.proofs.Weights.{nil_of, All_parts, All_one, All-at, sum_by-changed, sum_by-of_one, sum_by-flat_map, weight-changed, weight_push}

-- a pass that has begun shows that the deque has
has_begun : (items : List Family) (views : List PassView) (port : ℕ) (v : PassView) → v.begun ≡ true → get_elem? views port ≡ some v → Keeps items views
    → (probes order : ℕ) × ObeysRule probes order items views
has_begun items views port v told at (inr rule) = rule
has_begun items views zero v told at (inl b) =
    let e : get_elem? (b.owner ∷ []) 0 ≡ some v = subst (λ (l : List PassView). get_elem? l 0 ≡ some v) b.alone at in
    absurd (true≢false (sym told ∙ sym (ap (λ (x : PassView). x.begun) (some-injective b.owner v e)) ∙ b.untold))
has_begun items views (suc port) v told at (inl b) =
    let e : get_elem? (b.owner ∷ []) (suc port) ≡ some v = subst (λ (l : List PassView). get_elem? l (suc port) ≡ some v) b.alone at in
    absurd (some-ne-none v (sym e))

-- a pass that has not begun is the owner's, and alone
is_beginning : (items : List Family) (views : List PassView) (port : ℕ) (v : PassView) → v.begun ≡ false → get_elem? views port ≡ some v → Keeps items views
    → (port ≡ 0) × (views ≡ v ∷ []) × (items ≡ v.pushed) × (v.parts ≡ all_parts) × (v.taken ≡ [])
is_beginning items views port v not at (inr (probes, order, rule)) = absurd (true≢false (sym (All-at (IsPass probes order) views port v at rule.passes).begun ∙ not))
is_beginning items views zero v not at (inl b) =
    let e : get_elem? (b.owner ∷ []) 0 ≡ some v = subst (λ (l : List PassView). get_elem? l 0 ≡ some v) b.alone at in
    let is : b.owner ≡ v = some-injective b.owner v e in (
      refl,
      b.alone ∙ ap (λ (x : PassView). x ∷ []) is,
      b.pushed ∙ ap (λ (x : PassView). x.pushed) is,
      sym (ap (λ (x : PassView). x.parts) is) ∙ b.whole,
      sym (ap (λ (x : PassView). x.taken) is) ∙ b.taken,
    )
is_beginning items views (suc port) v not at (inl b) =
    let e : get_elem? (b.owner ∷ []) (suc port) ≡ some v = subst (λ (l : List PassView). get_elem? l (suc port) ≡ some v) b.alone at in
    absurd (some-ne-none v (sym e))

pub begins : Keeps [] (untold ∷ [])
begins = inl (record { owner = untold; alone = refl; untold = refl; whole = refl; pushed = refl; taken = refl })

pub tells : (port : ℕ) (v : PassView) (f : Family) → v ≡ untold → CanPush Keeps port v (f ∷ []) (Tells v (f ∷ []))
tells port v f is items views keeps at =
    let b = is_beginning items views port v (ap (λ (x : PassView). x.begun) is) at keeps in
    let w : PassView = record v { pushed = f ∷ [] } in
    let none : items ≡ [] = b.2 ∙ ap (λ (x : PassView). x.pushed) is in (
      w,
      inl (record {
        owner = w;
        alone = subst (λ (p : ℕ × List PassView). set p.1 p.0 w ≡ w ∷ []) (λ i. (sym b.0 i, sym b.1 i)) refl;
        untold = ap (λ (x : PassView). x.begun) is;
        whole = b.3;
        pushed = ap (λ (l : List Family). l ++ f ∷ []) none;
        taken = b.4;
      }),
      refl,
    )

obeys_fresh : (probes order : ℕ) → ObeysRule probes order [] (fresh probes order ∷ [])
obeys_fresh probes order = record {
  balance = λ h. refl;
  fits = All-nil (Fits probes order);
  passes = All_one (IsPass probes order) (fresh probes order) (record { begun = refl; numbers = λ _. (refl, refl); idle = λ none. (refl, refl) });
  whole = refl;
}

pub begins_with : (port : ℕ) (v : PassView) (f : Family) → v.begun ≡ false → v.pushed ≡ f ∷ [] → CanTake Keeps port v 1 (Begins v)
begins_with port v f not one xs items views more few keeps at =
    let b = is_beginning (xs ++ items) views port v not at keeps in
    let len : length (xs ++ items) ≡ 1 = ap length (b.2 ∙ one) in
    let none : length items ≡ 0 = omega (arith, length-append xs items) in
    let w : PassView = begun v.pushed in
    let same : w ≡ begun (f ∷ []) = ap begun one in
    let views' : set views port w ≡ begun (f ∷ []) ∷ [] = subst (λ (p : ℕ × List PassView). set p.1 p.0 w ≡ begun (f ∷ []) ∷ []) (λ i. (sym b.0 i, sym b.1 i)) (ap (λ (x : PassView). x ∷ []) same) in
    let rule : Keeps [] (begun (f ∷ []) ∷ []) = inr ((begun (f ∷ [])).probes, (begun (f ∷ [])).order, obeys_fresh _ _) in
    (w, subst (λ (p : List Family × List PassView). Keeps p.0 p.1) (λ i. (sym (nil_of items none) i, sym views' i)) rule, refl)

pub was_told : (port : ℕ) (v : PassView) (f : Family) → v.begun ≡ false → v.pushed ≡ f ∷ [] → Finds Keeps port v (v.pushed ≡ [])
was_told port v f not one views keeps at = sym ((is_beginning [] views port v not at keeps).2)

-- the passes after a step of one that has a part
passes_after : (probes order : ℕ) (views : List PassView) (port : ℕ) (v w : PassView) → get_elem? views port ≡ some v → All (IsPass probes order) views → 0 < v.parts
    → w.begun ≡ v.begun → w.probes ≡ v.probes → w.order ≡ v.order → 0 < w.parts → All (IsPass probes order) (set views port w)
passes_after probes order views port v w at all part b n m part' =
    let mine = All-at (IsPass probes order) views port v at all in
    let numbers = mine.numbers part in
    All-set (IsPass probes order) views port w (record { begun = b ∙ mine.begun; numbers = λ _. (n ∙ numbers.0, m ∙ numbers.1); idle = λ none. absurd (omega arith) }) all

-- what a pass with a part knows is what the deque's families fit
fits_known : (probes order : ℕ) (views : List PassView) (port : ℕ) (v : PassView) → get_elem? views port ≡ some v → All (IsPass probes order) views → 0 < v.parts
    → Fits v.probes v.order ≡ Fits probes order
fits_known probes order views port v at all part =
    let numbers = (All-at (IsPass probes order) views port v at all).numbers part in
    (λ i. Fits (numbers.0 i) (numbers.1 i))

pub pushes : (port : ℕ) (v : PassView) (f : Family) → v.begun ≡ true → 0 < v.parts → Fits v.probes v.order f → CanPush Keeps port v (f ∷ []) (Pushes v (f ∷ []))
pushes port v f told part fits items views keeps at =
    let (probes, order, rule) = has_begun items views port v told at keeps in
    let w : PassView = record v { pushed = v.pushed ++ f ∷ [] } in
    let known = fits_known probes order views port v at rule.passes part in
    let parts = sum_by-changed (λ u. u.parts) views port v w at in
    let whole = rule.whole in (
      w,
      inr (
        probes,
        order,
        record {
          balance = λ h.
              let is = rule.balance h in
              omega (
                arith,
                weight-changed h (λ u. u.pushed) views port v w at,
                weight-changed h (λ u. u.taken) views port v w at,
                sum_by-append h v.pushed (f ∷ []),
                sum_by-append h items (f ∷ []),
                sum_by-append h (all_taken views) items,
                sum_by-append h (all_taken (set views port w)) (items ++ f ∷ []),
              );
          fits = All-push (Fits probes order) items f rule.fits (subst (λ (P : Family → Type 0). P f) known fits);
          passes = passes_after probes order views port v w at rule.passes part refl refl refl part;
          whole = omega arith;
        },
      ),
      refl,
    )

pub takes : (port : ℕ) (v : PassView) → v.begun ≡ true → 0 < v.parts → CanTake Keeps port v 1 (Takes v)
takes port v told part xs items views more few keeps at =
    let (probes, order, rule) = has_begun (xs ++ items) views port v told at keeps in
    let w : PassView = record v { taken = v.taken ++ xs } in
    let known = fits_known probes order views port v at rule.passes part in
    let fits = All_parts (Fits probes order) xs items rule.fits in
    let parts = sum_by-changed (λ u. u.parts) views port v w at in
    let whole = rule.whole in (
      w,
      inr (
        probes,
        order,
        record {
          balance = λ h.
              let is = rule.balance h in
              omega (
                arith,
                weight-changed h (λ u. u.pushed) views port v w at,
                weight-changed h (λ u. u.taken) views port v w at,
                sum_by-append h v.taken xs,
                sum_by-append h xs items,
                sum_by-append h (all_taken views) (xs ++ items),
                sum_by-append h (all_taken (set views port w)) items,
              );
          fits = fits.1;
          passes = passes_after probes order views port v w at rule.passes part refl refl refl part;
          whole = omega arith;
        },
      ),
      (refl, subst (λ (P : Family → Type 0). All P xs) (sym known) fits.0),
    )

pub splits : (port : ℕ) (v : PassView) → v.begun ≡ true → 1 < v.parts → Forks Keeps port v (without_part v) (with_one_part v)
splits port v told part items views keeps at =
    let (probes, order, rule) = has_begun items views port v told at keeps in
    let l : PassView = without_part v in
    let r : PassView = with_one_part v in
    let vs : List PassView = set views port l in
    let mine = All-at (IsPass probes order) views port v at rule.passes in
    let whole = rule.whole in
    inr (
      probes,
      order,
      record {
        balance = λ h.
            let is = rule.balance h in
            omega (
              arith,
              weight-changed h (λ u. u.pushed) views port v l at,
              weight-changed h (λ u. u.taken) views port v l at,
              weight_push h (λ u. u.pushed) vs r,
              weight_push h (λ u. u.taken) vs r,
              sum_by-append h (all_taken views) items,
              sum_by-append h (all_taken (vs ++ r ∷ [])) items,
            );
        fits = rule.fits;
        passes = All-push (IsPass probes order) vs r (passes_after probes order views port v l at rule.passes (omega arith) refl refl refl (omega arith))
            (record { begun = told; numbers = λ _. mine.numbers (omega arith); idle = λ none. (refl, refl) });
        whole = (let a = sum_by-changed (λ u. u.parts) views port v l at in let b = sum_by_push (λ u. u.parts) vs r in omega arith);
      },
    )

pub merges : (port : ℕ) (v : PassView) (other : ℕ) (u : PassView) → v.begun ≡ true → 0 < v.parts → Merges Keeps port v other u (both_views v u) spent
merges port v other u told part items views keeps at two at' =
    let (probes, order, rule) = has_begun items views port v told at keeps in
    let b : PassView = both_views v u in
    let vs : List PassView = set views port b in
    let whole = rule.whole in
    inr (
      probes,
      order,
      record {
        balance = λ h.
            let is = rule.balance h in
            omega (
              arith,
              weight-changed h (λ x. x.pushed) views port v b at,
              weight-changed h (λ x. x.taken) views port v b at,
              weight-changed h (λ x. x.pushed) vs other u spent at',
              weight-changed h (λ x. x.taken) vs other u spent at',
              sum_by-append h v.pushed u.pushed,
              sum_by-append h v.taken u.taken,
              sum_by-append h (all_taken views) items,
              sum_by-append h (all_taken (set vs other spent)) items,
            );
        fits = rule.fits;
        passes = All-set (IsPass probes order) vs other spent (record { begun = refl; numbers = λ none. absurd (omega arith); idle = λ _. (refl, refl) })
            (passes_after probes order views port v b at rule.passes part refl refl refl (omega arith));
        whole = (let x = sum_by-changed (λ y. y.parts) views port v b at in let y = sum_by-changed (λ y. y.parts) vs other u spent at' in omega arith);
      },
    )

-- a pass with every part finds the balance of the whole
pub balances : (port : ℕ) (v : PassView) → v.begun ≡ true → v.parts ≡ all_parts → Finds Keeps port v (Balances v [])
balances port v told every views keeps at h =
    let (probes, order, rule) = has_begun [] views port v told at keeps in
    let whole : sum_by (λ u. u.parts) views ≡ v.parts = rule.whole ∙ sym every in
    let no_pushes = All-weaker (IsPass probes order) (λ u. u.parts ≡ 0 → sum_by h u.pushed ≡ 0) (λ u p none. ap (sum_by h) (p.idle none).0) views rule.passes in
    let no_takes = All-weaker (IsPass probes order) (λ u. u.parts ≡ 0 → sum_by h u.taken ≡ 0) (λ u p none. ap (sum_by h) (p.idle none).1) views rule.passes in
    let p = sum_by-of_one (λ u. u.parts) (λ u. sum_by h u.pushed) views port v at no_pushes whole in
    let q = sum_by-of_one (λ u. u.parts) (λ u. sum_by h u.taken) views port v at no_takes whole in
    let is = rule.balance h in
    omega (arith, sum_by-flat_map h (λ u. u.pushed) views, sum_by-flat_map h (λ u. u.taken) views, sum_by-append h (all_taken views) [], sum_by-append h v.taken [])

-- A family that ends right keeps the balance.
use Rattle.std.proofs.Common.{◌≡◌, ℕ, ◌+◌, List, [], ◌∷◌, ◌++◌, length, sym, ap, ◌∙◌, subst, arith, sum_by, All}
use Rattle.std.proofs.lemmas.List.{append-nil, map-append}
use Rattle.std.proofs.lemmas.List.Concat.{flat_map-append}
use Rattle.std.proofs.lemmas.List.Elements.{All-append, All-weaker, All-nil, All-cons}
use Rattle.std.proofs.lemmas.List.Sums.{sum_by-append, sum_by-cons}
use Rattle.expr_table.specs.declared.instance.Instance.{Instance}
use Rattle.once_random.proofs.Facts.{has-append_left}
use Rattle.probe_family.specs.declared.ending.Ended.{Ended}
use Rattle.probe_family.specs.declared.ending.Ending.{Ending}
use Rattle.probe_family.specs.declared.ending.Ending.TheVariants.{Proved, Failed, Beyond}
use Rattle.probe_family.specs.declared.family.Family.{Family}
use Rattle.probe_family.specs.Families.{IsFamily}
use Rattle.probe_family.specs.Roots.{roots_of}
use Rattle.probe_family.specs.Often.{AsOften, families_of}
use Rattle.frontier_core.specs.Balance.{Balanced, EndsRight, failed_rank, failed_ranks, given_by, given_of}

-- the family with its ending
abbrev pub ended_so : Family → Ending → Ended
ended_so family how = record { family = family; how = how }

families-push : (ended : List Ended) (family : Family) (how : Ending) → families_of (ended ++ ended_so family how ∷ []) ≡ families_of ended ++ family ∷ []
families-push ended family how = map-append (λ (e : Ended). e.family) ended (ended_so family how ∷ [])

given-push : (ended : List Ended) (family : Family) (how : Ending) → given_of (ended ++ ended_so family how ∷ []) ≡ given_of ended ++ given_by family how
given-push ended family how =
    flat_map-append (λ (e : Ended). given_by e.family e.how) ended (ended_so family how ∷ []) ∙ ap (λ l. given_of ended ++ l) (append-nil (given_by family how))

failed-push : (ended : List Ended) (family : Family) (how : Ending) → failed_ranks (ended ++ ended_so family how ∷ []) ≡ failed_ranks ended ++ failed_rank how
failed-push ended family how =
    flat_map-append (λ (e : Ended). failed_rank e.how) ended (ended_so family how ∷ []) ∙ ap (λ l. failed_ranks ended ++ l) (append-nil (failed_rank how))

-- what ended right is right with more failed ranks
right-more : (x : Instance) (t : ℕ) (failed more : List ℕ) (family : Family) (how : Ending) → EndsRight x t failed family how → EndsRight x t (failed ++ more) family how
right-more x t failed more family (Proved hull) right = right
right-more x t failed more family (Failed rank) right = right
right-more x t failed more family (Beyond best) right = (has-append_left failed more best right.0, right.1)

module _ (x : Instance) (t : ℕ) where
  -- a family ends, and what it gives waits
  pub end_keeps : (before after : List Family) (ended : List Ended) (family : Family) (how : Ending) → EndsRight x t (failed_ranks ended) family how
      → All (IsFamily (length x.probes)) (families_of (ended ++ ended_so family how ∷ []) ++ after)
      → ((h : Family → ℕ) → sum_by h after + h family ≡ sum_by h before + sum_by h (given_by family how))
      → Balanced x t before ended → Balanced x t after (ended ++ ended_so family how ∷ [])
  end_keeps before after ended family how right families moved old = record {
    families = families;
    as_often = λ h. omega (
      arith,
      old.as_often h,
      moved h,
      sum_by-append h (families_of ended) before,
      sum_by-append h (roots_of x t) (given_of ended),
      sum_by-append h (families_of (ended ++ ended_so family how ∷ [])) after,
      sum_by-append h (roots_of x t) (given_of (ended ++ ended_so family how ∷ [])),
      ap (sum_by h) (families-push ended family how),
      sum_by-append h (families_of ended) (family ∷ []),
      sum_by-cons h family [],
      ap (sum_by h) (given-push ended family how),
      sum_by-append h (given_of ended) (given_by family how),
    );
    right = subst (λ ranks. All (λ (e : Ended). EndsRight x t ranks e.family e.how) (ended ++ ended_so family how ∷ [])) (sym (failed-push ended family how))
        (All-append (λ (e : Ended). EndsRight x t (failed_ranks ended ++ failed_rank how) e.family e.how) ended (ended_so family how ∷ [])
        (All-weaker (λ (e : Ended). EndsRight x t (failed_ranks ended) e.family e.how) (λ (e : Ended). EndsRight x t (failed_ranks ended ++ failed_rank how) e.family e.how)
        (λ e is. right-more x t (failed_ranks ended) (failed_rank how) e.family e.how is) ended old.right)
        (All-cons (λ (e : Ended). EndsRight x t (failed_ranks ended ++ failed_rank how) e.family e.how) (ended_so family how) []
        (right-more x t (failed_ranks ended) (failed_rank how) family how right) (All-nil (λ (e : Ended). EndsRight x t (failed_ranks ended ++ failed_rank how) e.family e.how))));
  }

  -- the families that wait may change places
  pub waiting_moves : (before after : List Family) (ended : List Ended) → All (IsFamily (length x.probes)) (families_of ended ++ after) → AsOften after before → Balanced x t before ended → Balanced x t after ended
  waiting_moves before after ended families same old = record {
    families = families;
    as_often = λ h. omega (arith, old.as_often h, same h, sum_by-append h (families_of ended) before, sum_by-append h (families_of ended) after);
    right = old.right;
  }

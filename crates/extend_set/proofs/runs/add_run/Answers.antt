use Rattle.std.proofs.Common.{◌≡◌, ◌<◌, ◌∙◌, ◌+◌, ◌++◌, ◌||◌, ℕ, Bool, List, [], ◌∷◌, true, false, length, get_or, take, refl, sym, ap, arith}
use Rattle.std.proofs.lemmas.List.{take_more}
use Rattle.std.proofs.lemmas.List.Folds.{list_any-append}
use Rattle.bit_rows.specs.Sets.{is_in}
use Rattle.probe_family.specs.declared.part.Part.{Part}
use Rattle.probe_family.specs.Families.{is_in_part}
use Rattle.extend_set.specs.Growth.{with_run}
use Rattle.extend_set.proofs.RunSets.{length-run, run_both, run_same, run_of_none}
use Rattle.extend_set.proofs.runs.add_run.Goals as goal

or_last : (a b : Bool) → (a || (b || false)) ≡ (a || b)
or_last true b = refl
or_last false true = refl
or_last false false = refl

-- the parts so far and one more
part_more : (parts : List Part) (i : ℕ) (part : Part) → i < length parts → part ≡ get_or parts i part → (q : ℕ) → (is_in_part (take i parts) q || is_in part.set q) ≡ is_in_part (take (i + 1) parts) q
part_more parts i part lt is q =
    sym (or_last (is_in_part (take i parts) q) (is_in part.set q))
    ∙ (sym (list_any-append (λ (p : Part). is_in p.set q) (take i parts) (part ∷ []))
    ∙ ap (λ ps. is_in_part ps q) (sym (take_more parts i part lt ∙ ap (λ (p : Part). take i parts ++ p ∷ []) (sym is))))

pub loop-part-init : goal.loop-part-init
loop-part-init c = record {
  long = refl;
  added = sym (run_of_none c.args.set.now (is_in_part []) c.args.start c.args.end (λ q. refl));
  no_more = λ p from. refl;
  reached = omega arith;
  within = omega arith;
}

-- the members of one more part were added
pub loop-part-preserved : goal.loop-part-preserved
loop-part-preserved c =
    record {
      long = ap length c.add_members-part_reach.ensures.added ∙ (length-run c.loop-part.set (is_in c.part-item.result.set) c.args.start c.args.end ∙ c.loop-part.invariant.long);
      added =
          c.add_members-part_reach.ensures.added
          ∙ (ap (λ ys. with_run ys (is_in c.part-item.result.set) c.args.start c.args.end) c.loop-part.invariant.added
          ∙ (run_both c.args.set.now (is_in_part (take c.loop-part.part-index c.args.parts.now)) (is_in c.part-item.result.set) c.args.start c.args.end
          ∙ run_same c.args.set.now (λ q. is_in_part (take c.loop-part.part-index c.args.parts.now) q || is_in c.part-item.result.set q) (is_in_part (take (c.loop-part.part-index + 1) c.args.parts.now)) c.args.start c.args.end
          (part_more c.args.parts.now c.loop-part.part-index c.part-item.result c.loop-part-test.true c.part-item.is)));
      no_more = λ p past.
          c.add_members-part_reach.ensures.no_more p (omega (arith, c.max-reach.ensures)) ∙ c.loop-part.invariant.no_more p (omega (arith, c.max-reach.ensures));
      reached = omega (arith, c.max-reach.ensures);
      within = omega (arith, c.max-reach.ensures, c.add_members-part_reach.ensures.between);
    }

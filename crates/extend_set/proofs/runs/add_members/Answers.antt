use Rattle.std.proofs.Common.{◌≡◌, ◌≤◌, ◌∙◌, ◌+◌, length, slice_set, refl, sym, ap, arith, true, ⊎_elim}
use Rattle.std.proofs.lemmas.Bool.{both_ways, cases_lt}
use Rattle.std.proofs.lemmas.List.{length-set}
use Rattle.bit_rows.specs.Sets.{is_in}
use Rattle.bit_rows.proofs.Facts.{IsLeastFrom, NoneFrom, is_in-set_other}
use Rattle.extend_set.proofs.RunSets.{member_some, member_none, run_none, run_skip, run_more}
use Rattle.extend_set.proofs.runs.add_members.Goals as goal

pub loop-p-init : goal.loop-p-init
loop-p-init c = record {
  long = refl;
  added = sym (run_none c.args.set.now (is_in c.args.other.now) c.args.start);
  no_more = λ p from. refl;
  reached = omega arith;
  before = omega arith;
  within = omega arith;
}

-- the next member lies at the end or behind it
pub returns-then-p-end-clause-added : goal.returns-then-p-end-clause-added
returns-then-p-end-clause-added c =
    let least : IsLeastFrom c.args.other.now c.loop-p.from c.in-Some.p = member_some c.args.other.now c.loop-p.from c.in-Some.p (sym c.in-Some.is ∙ c.member_from.ensures) in
    c.loop-p.invariant.added
    ∙ run_skip c.args.set.now (is_in c.args.other.now) c.args.start c.loop-p.from c.args.end c.loop-p.invariant.within
    (λ q from below listed. absurd (both_ways (is_in c.args.other.now q) (least.before q from (omega arith)) listed))

-- there is no further member
pub returns-clause-added : goal.returns-clause-added
returns-clause-added c =
    let none : NoneFrom c.args.other.now c.loop-p.from = member_none c.args.other.now c.loop-p.from (sym c.in_default.is ∙ c.member_from.ensures) in
    c.loop-p.invariant.added
    ∙ run_skip c.args.set.now (is_in c.args.other.now) c.args.start c.loop-p.from c.args.end c.loop-p.invariant.within
    (λ q from below listed. absurd (both_ways (is_in c.args.other.now q) (none q from) listed))

pub get-requires : goal.get-requires
get-requires c = omega (arith, c.loop-p.invariant.long)

pub loop-p-smaller-then-not-get : goal.loop-p-smaller-then-not-get
loop-p-smaller-then-not-get c =
    let least : IsLeastFrom c.args.other.now c.loop-p.from c.in-Some.p = member_some c.args.other.now c.loop-p.from c.in-Some.p (sym c.in-Some.is ∙ c.member_from.ensures) in
    omega (arith, least.from)

pub loop-p-smaller : goal.loop-p-smaller
loop-p-smaller c =
    let least : IsLeastFrom c.args.other.now c.loop-p.from c.in-Some.p = member_some c.args.other.now c.loop-p.from c.in-Some.p (sym c.in-Some.is ∙ c.member_from.ensures) in
    omega (arith, least.from)

-- a member was added
pub loop-p-preserved-then-not-get : goal.loop-p-preserved-then-not-get
loop-p-preserved-then-not-get c =
    let least : IsLeastFrom c.args.other.now c.loop-p.from c.in-Some.p = member_some c.args.other.now c.loop-p.from c.in-Some.p (sym c.in-Some.is ∙ c.member_from.ensures) in
    let from : c.loop-p.from ≤ c.in-Some.p = least.from in
    record {
      long = ap length c.set.ensures ∙ (length-set c.loop-p.set c.in-Some.p true ∙ c.loop-p.invariant.long);
      added =
          c.set.ensures
          ∙ (ap (λ ys. slice_set ys c.in-Some.p true)
          (c.loop-p.invariant.added
          ∙ run_skip c.args.set.now (is_in c.args.other.now) c.args.start c.loop-p.from c.in-Some.p from
          (λ q l below listed. absurd (both_ways (is_in c.args.other.now q) (least.before q l below) listed)))
          ∙ run_more c.args.set.now (is_in c.args.other.now) c.args.start c.in-Some.p (c.in-Some.p + 1) refl (omega arith) (omega arith) least.is_member);
      no_more = λ q past.
          let other : q ≡ c.in-Some.p → ⊥ = λ e. absurd (omega arith) in
          ap (λ ys. is_in ys q) c.set.ensures ∙ (is_in-set_other c.loop-p.set c.in-Some.p q true other ∙ c.loop-p.invariant.no_more q (omega arith));
      reached = omega arith;
      before = omega arith;
      within = omega arith;
    }

-- a member was there before
pub loop-p-preserved : goal.loop-p-preserved
loop-p-preserved c =
    let least : IsLeastFrom c.args.other.now c.loop-p.from c.in-Some.p = member_some c.args.other.now c.loop-p.from c.in-Some.p (sym c.in-Some.is ∙ c.member_from.ensures) in
    let from : c.loop-p.from ≤ c.in-Some.p = least.from in
    let there : is_in c.loop-p.set c.in-Some.p ≡ true = sym c.get.ensures ∙ c.if-not-get.false in
    record {
      long = c.loop-p.invariant.long;
      added =
          c.loop-p.invariant.added
          ∙ run_skip c.args.set.now (is_in c.args.other.now) c.args.start c.loop-p.from (c.in-Some.p + 1) (omega arith)
          (λ q l below listed.
          ⊎_elim
          (λ earlier. absurd (both_ways (is_in c.args.other.now q) (least.before q l earlier) listed))
          (λ past. let here : q ≡ c.in-Some.p = omega arith in
          sym (c.loop-p.invariant.no_more q (omega arith)) ∙ (ap (is_in c.loop-p.set) here ∙ there))
          (cases_lt q c.in-Some.p));
      no_more = c.loop-p.invariant.no_more;
      reached = omega arith;
      before = omega arith;
      within = omega arith;
    }

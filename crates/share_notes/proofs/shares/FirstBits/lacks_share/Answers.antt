use Rattle.std.proofs.Common.{◌≡◌, ℕ, Bool, false, not, sym, ◌∙◌, subst, arith}
use Rattle.std.specs.List.{list_any, range_with_len}
use Rattle.share_notes.specs.Shares.{is_share}
use Rattle.share_notes.proofs.Firsts.{first_none, any_more, any_here}
use Rattle.share_notes.proofs.shares.FirstBits.lacks_share.Goals as goal

pub returns-then-is_none : goal.returns-then-is_none
returns-then-is_none c = λ shares known.
    let test : ℕ → Bool = λ i. not (list_any (is_share c.args.share.secret i) shares) in
    let here = first_none c.args.share.secret c.loop-index.index shares c.of.result c.is_none.result c.is_none.ensures (c.of.ensures shares known) in
    sym (any_here test c.args.count c.loop-index.index c.loop-index-test.true (sym here ∙ c.if-is_none.true))

pub loop-index-preserved : goal.loop-index-preserved
loop-index-preserved c = λ shares known.
    let test : ℕ → Bool = λ i. not (list_any (is_share c.args.share.secret i) shares) in
    let here = first_none c.args.share.secret c.loop-index.index shares c.of.result c.is_none.result c.is_none.ensures (c.of.ensures shares known) in
    any_more test c.loop-index.index (c.loop-index.invariant shares known) (sym here ∙ c.if-is_none.false)

pub returns : goal.returns
returns c = λ shares known.
    let test : ℕ → Bool = λ i. not (list_any (is_share c.args.share.secret i) shares) in
    let all : c.loop-index.index ≡ c.args.count = omega arith in
    sym (subst (λ (n : ℕ). list_any test (range_with_len 0 n) ≡ false) all (c.loop-index.invariant shares known))

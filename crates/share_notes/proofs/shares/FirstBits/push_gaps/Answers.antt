use Rattle.std.proofs.Common.{◌≡◌, ℕ, ◌+◌, List, ◌++◌, drop, get_or, sym, ap, ◌∙◌}
use Rattle.std.proofs.lemmas.List.{get_or_default}
use Rattle.share_notes.specs.Shares.{lacks_share, share_lines}
use Rattle.share_notes.proofs.Firsts.{line_found, line_passed, no_share}
use Rattle.share_notes.proofs.shares.FirstBits.push_gaps.Goals as goal
use Rattle.share_notes.proofs.shares.FirstBits.push_gaps.Goals.{then-lacks_share+in_ok-push, else-lacks_share}

pub loop-share-preserved : goal.loop-share-preserved
loop-share-preserved c =
    let xs = c.args.shares.now in
    let i = c.loop-share.share-index in
    let x = get_or xs i no_share in
    let test = lacks_share c.args.count xs in
    let all = c.args.lines.now.items ++ share_lines test xs in
    let is : x ≡ get_or xs i x = get_or_default xs i no_share x c.loop-share-test.true in
    elim c.if-lacks_share.branch [
      | then-lacks_share+in_ok-push w ↦
          ap (λ (ls : List ℕ). ls ++ share_lines test (drop (i + 1) xs)) (ap (λ v. v.items) w.lines-is ∙ w.in_ok-push.ensures.items)
          ∙ line_found test xs i x c.loop-share.lines.items all c.loop-share-test.true is (sym (c.lacks_share.ensures xs c.requires) ∙ w.if-lacks_share.true) c.loop-share.invariant
      | else-lacks_share w ↦
          ap (λ (ls : List ℕ). ls ++ share_lines test (drop (i + 1) xs)) (ap (λ v. v.items) w.lines-is)
          ∙ line_passed test xs i x c.loop-share.lines.items all c.loop-share-test.true is (sym (c.lacks_share.ensures xs c.requires) ∙ w.if-lacks_share.false) c.loop-share.invariant
    ]

use Rattle.std.proofs.Common.{◌≡◌, ℕ, ◌+◌, List, ◌++◌, drop, get_or, sym, ap, ◌∙◌}
use Rattle.std.proofs.lemmas.List.{get_or_default}
use Rattle.share_notes.specs.Shares.{is_repeated, share_lines}
use Rattle.share_notes.proofs.Firsts.{line_found, line_passed, no_share}
use Rattle.share_notes.proofs.shares.FirstBits.push_doubles.Goals as goal
use Rattle.share_notes.proofs.shares.FirstBits.push_doubles.Goals.{then-is_repeated+in_ok-push, else-is_repeated}

pub loop-share-preserved : goal.loop-share-preserved
loop-share-preserved c =
    let xs = c.args.shares.now in
    let i = c.loop-share.share-index in
    let x = get_or xs i no_share in
    let test = is_repeated xs in
    let all = c.args.lines.now.items ++ share_lines test xs in
    let is : x ≡ get_or xs i x = get_or_default xs i no_share x c.loop-share-test.true in
    elim c.if-is_repeated.branch [
      | then-is_repeated+in_ok-push w ↦
          ap (λ (ls : List ℕ). ls ++ share_lines test (drop (i + 1) xs)) (ap (λ v. v.items) w.lines-is ∙ w.in_ok-push.ensures.items)
          ∙ line_found test xs i x c.loop-share.lines.items all c.loop-share-test.true is (sym (c.is_repeated.ensures xs c.requires) ∙ w.if-is_repeated.true) c.loop-share.invariant
      | else-is_repeated w ↦
          ap (λ (ls : List ℕ). ls ++ share_lines test (drop (i + 1) xs)) (ap (λ v. v.items) w.lines-is)
          ∙ line_passed test xs i x c.loop-share.lines.items all c.loop-share-test.true is (sym (c.is_repeated.ensures xs c.requires) ∙ w.if-is_repeated.false) c.loop-share.invariant
    ]

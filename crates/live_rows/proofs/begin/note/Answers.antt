use Rattle.std.proofs.Common.{◌<◌, ◌++◌, length, arith, ap, ◌∙◌}
use Rattle.std.proofs.lemmas.List.{append_assoc}
use Rattle.once_random.proofs.Facts.{has_left, has_right}
use Rattle.live_rows.specs.Lists.{Held, with_added}
use Rattle.live_rows.proofs.Numbers.{with_more}
use Rattle.live_rows.proofs.begin.note.Goals as goal

pub add_parent-requires-clause-within : goal.add_parent-requires-clause-within
add_parent-requires-clause-within c = c.requires.sides c.in-And.a.0 (has_left c.args.node c.in-And.a c.in-And.b c.in-And.is)

pub add_parent-requires-then-a-b-clause-within : goal.add_parent-requires-then-a-b-clause-within
add_parent-requires-then-a-b-clause-within c =
    let h : c.in-And.b.0 < length c.args.marks.now = c.requires.sides c.in-And.b.0 (has_right c.args.node c.in-And.a c.in-And.b c.in-And.is) in
    omega arith

pub returns-then-a-b-clause-more : goal.returns-then-a-b-clause-more
returns-then-a-b-clause-more c =
    let first = with_more c.args.found.now.numbers c.in-And.a.0 in
    let second = with_more (with_added c.args.found.now.numbers c.in-And.a.0) c.in-And.b.0 in (
      first.0 ++ second.0,
      ap (λ (h : Held). h.numbers) c.add_parent-then-a-b.ensures.found
          ∙ ap (λ (h : Held). with_added h.numbers c.in-And.b.0) c.add_parent.ensures.found
          ∙ second.1 ∙ ap (λ xs. xs ++ second.0) first.1 ∙ append_assoc c.args.found.now.numbers first.0 second.0,
    )

pub returns-else-a-b-clause-more : goal.returns-else-a-b-clause-more
returns-else-a-b-clause-more c =
    let first = with_more c.args.found.now.numbers c.in-And.a.0 in
    (first.0, ap (λ (h : Held). h.numbers) c.add_parent.ensures.found ∙ first.1)

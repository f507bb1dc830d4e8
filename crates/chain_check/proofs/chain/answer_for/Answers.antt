use Rattle.std.proofs.Common.{◌≡◌, length, sym, ap, ◌∙◌, arith}
use Rattle.bit_rows.specs.Sets.{members}
use Rattle.once_random.specs.Cuts.{cuts_of}
use Rattle.once_random.specs.Tuples.{roots_of}
use Rattle.once_random.proofs.Facts.{inputs_within}
use Rattle.chain_check.proofs.Tables.{within_is}
use Rattle.chain_check.proofs.chain.answer_for.Goals as goal

pub are_within-requires-clause-few_groups : goal.are_within-requires-clause-few_groups
are_within-requires-clause-few_groups g c =
    let many : length c.as_slice.result.now ≡ c.args.instance.now.table.inputs = ap length c.as_slice.ensures ∙ c.requires.fitting.one_group_each in
    omega (arith, inputs_within c.args.instance.now.table c.requires.table, c.in_default.ensures.made.shows.rows)

pub returns-then-are_within-clause-answer : goal.returns-then-are_within-clause-answer
returns-then-are_within-clause-answer g c =
    let roots = roots_of c.args.instance.now (members c.args.probes.now) in
    let made = c.in_default.ensures.made in (
      made.chain,
      sym (within_is c.args.instance.now c.as_slice.result.now c.as_slice.ensures roots (cuts_of c.args.cuts.now) c.args.bound
          c.are_within.result (c.are_within.ensures.within roots (cuts_of c.args.cuts.now) made.shows)) ∙ c.if-are_within.true,
    )

pub returns-else-are_within-clause-answer : goal.returns-else-are_within-clause-answer
returns-else-are_within-clause-answer g c =
    let roots = roots_of c.args.instance.now (members c.args.probes.now) in
    let made = c.in_default.ensures.made in (
      made.chain,
      sym (within_is c.args.instance.now c.as_slice.result.now c.as_slice.ensures roots (cuts_of c.args.cuts.now) c.args.bound
          c.are_within.result (c.are_within.ensures.within roots (cuts_of c.args.cuts.now) made.shows)) ∙ c.if-are_within.false,
    )

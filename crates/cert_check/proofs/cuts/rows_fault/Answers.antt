use Rattle.std.proofs.Common.{◌∙◌}
use Rattle.cert_check.proofs.Chains.{answer_says, rows_within}
use Rattle.cert_check.proofs.cuts.rows_fault.Goals as goal

pub is_chain-requires-clause-cut_rows : goal.is_chain-requires-clause-cut_rows
is_chain-requires-clause-cut_rows c = rows_within c.args.instance.now.table c.args.rows.now c.args.cuts.now c.requires.same c.requires.there

pub returns-clause-fault : goal.returns-clause-fault
returns-clause-fault c =
    c.why_of.ensures
    ∙ answer_says c.args.instance.now c.args.hull.now c.args.bound c.args.cuts.now c.args.rows.now c.requires.same c.requires.there c.one_answer.ensures c.is_chain.result c.is_chain.ensures.answer

use Rattle.std.proofs.Common.{sym, ap, ◌∙◌}
use Rattle.std.proofs.lemmas.Result.{MatchResult-weaker}
use Rattle.expr_table.specs.Term.{xor_of, and_of}
use Rattle.term_build.specs.Building.{part_term}
use Rattle.term_build.proofs.Making.{Makes-same}
use Rattle.term_build.proofs.gate_rows.part_row.Goals as goal

pub differ-requires-clause-b_in : goal.differ-requires-clause-b_in
differ-requires-clause-b_in c = c.operand_row-a.ensures.within c.requires.pins c.requires.made

pub both-requires-clause-a_in : goal.both-requires-clause-a_in
both-requires-clause-a_in c = c.operand_row-a-in-Both.ensures.within c.requires.pins c.requires.made

pub both-requires-clause-b_in : goal.both-requires-clause-b_in
both-requires-clause-b_in c = c.operand_row-b.ensures.within c.requires.pins c.requires.made

pub differ-requires-in-Differ-clause-a_in : goal.differ-requires-in-Differ-clause-a_in
differ-requires-in-Differ-clause-a_in c = c.operand_row-a-in-Differ.ensures.within c.requires.pins c.requires.made

pub differ-requires-in-Differ-clause-b_in : goal.differ-requires-in-Differ-clause-b_in
differ-requires-in-Differ-clause-b_in c = c.operand_row-b-in-Differ.ensures.within c.requires.pins c.requires.made

pub returns-in-Not-clause-kept : goal.returns-in-Not-clause-kept
returns-in-Not-clause-kept c = MatchResult-weaker c.differ.result c.differ.ensures (λ row made. record { kept = made.grows.kept; within = made.row_is.within }) (λ stop stops. tt)

pub returns-in-Not-clause-makes : goal.returns-in-Not-clause-makes
returns-in-Not-clause-makes c ts done pins made =
    let one = c.one-one.ensures.row.term in
    let a = (c.operand_row-a.ensures.row ts done pins made).term in
    Makes-same c.args.table.now c.differ.new.table _ _ c.differ.result ((λ i. xor_of (one i) (a i)) ∙ ap (part_term ts done) (sym c.in-Not.is)) c.differ.ensures

pub returns-in-Both-clause-kept : goal.returns-in-Both-clause-kept
returns-in-Both-clause-kept c = MatchResult-weaker c.both.result c.both.ensures (λ row made. record { kept = made.grows.kept; within = made.row_is.within }) (λ stop stops. tt)

pub returns-in-Both-clause-makes : goal.returns-in-Both-clause-makes
returns-in-Both-clause-makes c ts done pins made =
    let a = (c.operand_row-a-in-Both.ensures.row ts done pins made).term in
    let b = (c.operand_row-b.ensures.row ts done pins made).term in
    Makes-same c.args.table.now c.both.new.table _ _ c.both.result ((λ i. and_of (a i) (b i)) ∙ ap (part_term ts done) (sym c.in-Both.is)) c.both.ensures

pub returns-in-Differ-clause-kept : goal.returns-in-Differ-clause-kept
returns-in-Differ-clause-kept c = MatchResult-weaker c.differ-in-Differ.result c.differ-in-Differ.ensures (λ row made. record { kept = made.grows.kept; within = made.row_is.within }) (λ stop stops. tt)

pub returns-in-Differ-clause-makes : goal.returns-in-Differ-clause-makes
returns-in-Differ-clause-makes c ts done pins made =
    let a = (c.operand_row-a-in-Differ.ensures.row ts done pins made).term in
    let b = (c.operand_row-b-in-Differ.ensures.row ts done pins made).term in
    Makes-same c.args.table.now c.differ-in-Differ.new.table _ _ c.differ-in-Differ.result ((λ i. xor_of (a i) (b i)) ∙ ap (part_term ts done) (sym c.in-Differ.is)) c.differ-in-Differ.ensures

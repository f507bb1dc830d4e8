use Rattle.cell_kinds.proofs.Reading.{table_of, gate_answer, flop_answer, none_answer}
use Rattle.cell_kinds.proofs.names.kind_of.Goals as goal

pub returns-in-Some-clause-value : goal.returns-in-Some-clause-value
returns-in-Some-clause-value c = gate_answer c.args.name.now c.in-Some.gate c.in-Some.ensures

pub returns-in-Some-clause-table : goal.returns-in-Some-clause-table
returns-in-Some-clause-table c = table_of c.args.name.now _ (gate_answer c.args.name.now c.in-Some.gate c.in-Some.ensures)

pub returns-in-Some-flop_of-clause-value : goal.returns-in-Some-flop_of-clause-value
returns-in-Some-flop_of-clause-value c =
    flop_answer c.args.name.now c.in-Some-flop_of.flop c.in-Some-flop_of.ensures.named

pub returns-in-Some-flop_of-clause-table : goal.returns-in-Some-flop_of-clause-table
returns-in-Some-flop_of-clause-table c =
    table_of c.args.name.now _ (flop_answer c.args.name.now c.in-Some-flop_of.flop c.in-Some-flop_of.ensures.named)

pub returns-in-None-clause-value : goal.returns-in-None-clause-value
returns-in-None-clause-value c =
    none_answer c.args.name.now c.gate_of.result c.gate_of.ensures c.in_default.not-Some c.in-None.ensures.unnamed

pub returns-in-None-clause-table : goal.returns-in-None-clause-table
returns-in-None-clause-table c =
    table_of c.args.name.now _ (none_answer c.args.name.now c.gate_of.result c.gate_of.ensures c.in_default.not-Some c.in-None.ensures.unnamed)

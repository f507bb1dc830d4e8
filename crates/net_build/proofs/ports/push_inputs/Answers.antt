use Rattle.net_build.proofs.PortLemmas.{all_read}
use Rattle.net_build.proofs.ports.push_inputs.Goals as goal

pub returns-clause-reads : goal.returns-clause-reads
returns-clause-reads c =
    all_read c.args.wires.now.list.now c.args.cell.now c.args.kind c.input_letters-letter-items.result.now c.loop-letter.letter-index c.args.reads.now.items c.loop-letter.reads.items
    c.requires.kind c.input_letters-letter-items.ensures c.loop-letter-test.false c.loop-letter.invariant

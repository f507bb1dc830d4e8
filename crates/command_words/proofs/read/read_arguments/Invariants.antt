use Rattle.std.proofs.Common.{length}
use Rattle.command_words.specs.declared.given.Given.{Given}
use Rattle.command_words.specs.Names.{texts}
use Rattle.command_words.specs.Reading.{HasRead, found_of}
use Rattle.command_words.proofs.read.read_arguments.Given as goal

abbrev pub invariant-loop-given : goal.invariant-loop-given
invariant-loop-given l =
    let given : Given = record { operands = l.given.0; workers = l.given.1.0; certificate = l.given.1.1.0; schedule = l.given.1.1.1.0 } in
    HasRead (texts l.words) (found_of given) (texts l.rest)

abbrev pub decreases-loop-given : goal.decreases-loop-given
decreases-loop-given l = length l.rest

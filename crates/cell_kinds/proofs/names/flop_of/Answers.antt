use Rattle.std.proofs.Common.{sym}
use Rattle.cell_kinds.proofs.Reading.{answers_named, answers_unnamed}
use Rattle.cell_kinds.proofs.names.flop_of.Goals as goal

pub returns-clause-named : goal.returns-clause-named
returns-clause-named c = answers_named c.args.name.now c.in_ok-family.family.synchronous c.in_ok-family.family.enabled c.in_ok-family.family.letters.now c.in_ok-letters.letters c.flop.result c.in_ok-family.ensures (sym c.in_ok-letters.ensures) c.flop.ensures

pub returns-clause-unnamed : goal.returns-clause-unnamed
returns-clause-unnamed c = answers_unnamed c.args.name.now c.in_ok-family.family.synchronous c.in_ok-family.family.enabled c.in_ok-family.family.letters.now c.in_ok-letters.letters c.flop.result c.in_ok-family.ensures (sym c.in_ok-letters.ensures) c.flop.ensures

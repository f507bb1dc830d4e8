use Rattle.certificate.proofs.NumberLists.{no_hull, some_hull}
use Rattle.certificate.proofs.numbers.is_hull.Goals as goal

pub returns-then-is_empty : goal.returns-then-is_empty
returns-then-is_empty c = no_hull c.args.numbers.now c.is_empty.result c.is_empty.ensures c.if-is_empty.true

pub returns : goal.returns
returns c = some_hull c.args.numbers.now c.is_empty.result c.is_ascending.result c.is_empty.ensures c.if-is_empty.false c.is_ascending.ensures

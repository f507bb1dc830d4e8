use Rattle.tuple_rank.proofs.Choosing.{length-choices}
use Rattle.tuple_rank.proofs.laws.choices_are_counted.Goals as goal

pub returns : goal.returns
returns c = length-choices

use Rattle.std.proofs.Common.{◌/◌, ◌*◌, ◌^◌, ap}
use Rattle.name_table.specs.Digests.{slot_of}
use Rattle.name_table.proofs.digest.slot_of.Goals as goal

pub returns-clause-slot : goal.returns-clause-slot
unfolding slot_of
returns-clause-slot c = ap (λ n. n * c.args.slots / 2 ^ 32) c.from.ensures

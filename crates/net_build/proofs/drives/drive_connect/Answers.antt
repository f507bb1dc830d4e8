use Rattle.std.proofs.Common.{◌∙◌, length}
use Rattle.net_build.proofs.GoodLemmas.{sides_fit}
use Rattle.net_build.proofs.WithinLemmas.{bits_all_within}
use Rattle.net_build.proofs.drives.drive_connect.Goals as goal

pub join-requires-clause-within : goal.join-requires-clause-within
join-requires-clause-within c =
    bits_all_within c.args.wires.now.list.now c.args.connect.now.left c.as_slice.result.now (length c.args.drivers.now.list.items) c.requires.within
    (c.as_slice.ensures.value ∙ c.in_ok-left.ensures) c.requires.size

pub join-requires-clause-fits : goal.join-requires-clause-fits
join-requires-clause-fits c =
    sides_fit c.args.wires.now.list.now c.args.connect.now c.as_slice.result.now c.as_slice-2.result.now c.requires.good
    (c.as_slice.ensures.value ∙ c.in_ok-left.ensures) (c.as_slice-2.ensures.value ∙ c.in_ok-right.ensures)

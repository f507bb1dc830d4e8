use Rattle.std.proofs.Common.{◌∙◌, ap}
use Rattle.circuit_types.specs.Drives.{output_connect}
use Rattle.net_build.proofs.GoodLemmas.{good_output}
use Rattle.net_build.proofs.ports.push_output.Goals as goal

pub push_signal-requires : goal.push_signal-requires
push_signal-requires c =
    good_output c.args.wires.now.list.now c.args.cell.now c.output_connect.result c.in-Some.connect c.requires.good
    (c.output_connect.ensures ∙ ap (output_connect c.args.cell.now) c.requires.kind) c.in-Some.is

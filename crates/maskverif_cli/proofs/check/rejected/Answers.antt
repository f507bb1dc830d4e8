use Rattle.std.proofs.Common.{refl}
use Rattle.maskverif_cli.proofs.Checking.{rejected-is}
use Rattle.maskverif_cli.proofs.check.rejected.Goals as goal

pub returns : goal.returns
returns c bytes keeps =
    (rejected-is c.args.question bytes c.args.bytes.now c.args.netlist.now keeps c.args.line c.args.why c.in_ok-text.text.items c.requires.fault c.in_ok-text.ensures, refl)

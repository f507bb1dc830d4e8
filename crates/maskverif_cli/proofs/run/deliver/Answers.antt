use Rattle.std.proofs.Common.{refl}
use Rattle.maskverif_cli.proofs.Ending.{breaks-file, sends-behind, sends-this}
use Rattle.maskverif_cli.proofs.run.deliver.Goals as goal

pub returns-in-Ok : goal.returns-in-Ok
returns-in-Ok g c =
    sends-behind _ _ _ _ _ _ _ c.in-Ok.ensures.stored c.in-Ok.ensures.writes c.keep.ensures.reads refl refl refl refl refl
    (sends-this _ _ _ _ _ _ _ _ c.as_slice.ensures.value c.finish.ensures)

pub returns : goal.returns
returns g c = breaks-file _ _ _ _ _ c.keep.ensures.reads refl refl c.in-Err.ensures.breaks

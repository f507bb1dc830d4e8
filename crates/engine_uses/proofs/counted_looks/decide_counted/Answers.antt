use Rattle.sim_rules.proofs.Tables.{fits_as_read}
use Rattle.engine_uses.proofs.counted_looks.decide_counted.Goals as goal

pub decide_over-provable-requires : goal.decide_over-provable-requires
decide_over-provable-requires g c =
    fits_as_read c.args.instance.now c.rows-rows.ensures.table c.requires.fitting c.as_slice.result.now c.as_slice-2.result.now c.args.probes.now c.args.scratch.now c.as_slice.ensures c.as_slice-2.ensures
    c.requires.one_flag_each c.requires.made_for

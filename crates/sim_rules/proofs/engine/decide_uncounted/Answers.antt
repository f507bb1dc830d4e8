use Rattle.bit_rows.specs.Sets.{members}
use Rattle.sim_rules.proofs.Tables.{fits_as_read, provable_is}
use Rattle.sim_rules.proofs.engine.decide_uncounted.Goals as goal

pub decide_over-requires : goal.decide_over-requires
decide_over-requires g c =
    fits_as_read c.args.instance.now c.rows-rows.ensures.table c.requires.fitting c.as_slice.result.now c.as_slice-2.result.now c.args.probes.now c.args.scratch.now c.as_slice.ensures c.as_slice-2.ensures
    c.requires.one_flag_each c.requires.made_for

pub returns-clause-provable : goal.returns-clause-provable
returns-clause-provable g c =
    provable_is c.args.instance.now c.rows-rows.ensures.table c.requires.fitting c.as_slice.result.now c.as_slice-2.result.now c.as_slice.ensures c.as_slice-2.ensures (members c.args.probes.now) c.args.bound
    c.decide_over.result c.decide_over.ensures.provable

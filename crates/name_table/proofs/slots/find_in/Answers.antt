use Rattle.std.proofs.Common.{length, ap, ◌∙◌, refl, arith}
use Rattle.name_table.specs.Digests.{slot_of}
use Rattle.name_table.proofs.Links.{start_sought, entry_known, next_sought}
use Rattle.name_table.proofs.slots.find_in.Goals as goal

pub loop-number-init : goal.loop-number-init
loop-number-init g c =
    start_sought c.args.heads.now c.args.name.now c.args.entries.now c.slot_of.result _ c.requires.shelved
    (c.slot_of.ensures.slot ∙ ap (slot_of (length c.args.heads.now)) c.requires.digest) c.slot_of.ensures.within refl

pub is_named-requires-clause-known : goal.is_named-requires-clause-known
is_named-requires-clause-known g c =
    entry_known (length c.args.heads.now) c.args.name.now c.args.entries.now c.loop-number.number c.index-entries-number.result (omega arith) c.index-entries-number.is c.loop-number.invariant

pub loop-number-smaller : goal.loop-number-smaller
loop-number-smaller g c =
    (next_sought (length c.args.heads.now) c.args.name.now c.args.entries.now c.loop-number.number c.index-entries-number.result c.is_named.result
    (omega arith) c.index-entries-number.is c.loop-number.invariant c.is_named.ensures c.if-is_named.false).1

pub loop-number-preserved : goal.loop-number-preserved
loop-number-preserved g c =
    (next_sought (length c.args.heads.now) c.args.name.now c.args.entries.now c.loop-number.number c.index-entries-number.result c.is_named.result
    (omega arith) c.index-entries-number.is c.loop-number.invariant c.is_named.ensures c.if-is_named.false).0

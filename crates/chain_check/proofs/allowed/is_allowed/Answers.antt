use Rattle.std.proofs.Common.{◌<◌, arith}
use Rattle.chain_check.proofs.Masks.{left_side, right_side}
use Rattle.chain_check.proofs.allowed.is_allowed.Goals as goal

pub masks-requires-clause-side_within : goal.masks-requires-clause-side_within
masks-requires-clause-side_within c =
    let low : c.args.a.0 < c.args.row.0 = c.requires.table.earlier c.args.row.0 c.args.a.0 (left_side c.args.table.now.nodes c.args.row.0 c.args.a c.args.b c.requires.xor) in
    omega arith

pub masks-requires-else-masks-clause-side_within : goal.masks-requires-else-masks-clause-side_within
masks-requires-else-masks-clause-side_within c =
    let low : c.args.b.0 < c.args.row.0 = c.requires.table.earlier c.args.row.0 c.args.b.0 (right_side c.args.table.now.nodes c.args.row.0 c.args.a c.args.b c.requires.xor) in
    omega arith

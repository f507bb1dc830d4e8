use Rattle.std.proofs.Common.{inl, inr}
use Rattle.std.proofs.lemmas.List.{take_rest}
use Rattle.rtlil_tree.proofs.PartLemmas.{feed_at}
use Rattle.rtlil_tree.proofs.part.part_size.Goals as goal

pub returns-then-size-bytes-clause-ends : goal.returns-then-size-bytes-clause-ends
returns-then-size-bytes-clause-ends c =
    inl (inr (feed_at c.args.bytes.now _ 16384 c.inline_size-size.result c.inline_size-size.ensures.size (take_rest c.args.bytes.now 16384) c.if-size-bytes.true))

use Rattle.std.proofs.Common.{arith, sym}
use Rattle.share_notes.proofs.Pieces.{cut_at-slices, cut_at-none}
use Rattle.share_notes.proofs.note.cut_at.Goals as goal

pub returns-then-found-byte : goal.returns-then-found-byte
returns-then-found-byte c = sym (cut_at-slices c.args.byte c.args.text.now c.loop-place.place (omega arith) c.loop-place.invariant c.if-found-byte.true)

pub returns : goal.returns
returns c = sym (cut_at-none c.args.byte c.args.text.now (λ k less. c.loop-place.invariant k (omega arith)))

use Rattle.std.proofs.Common.{rules, sym, refl, subst, All}
use Rattle.share_notes.specs.Known.{IsPlaced}
use Rattle.share_notes.proofs.FewShares.{placed_push}
use Rattle.share_notes.proofs.mark.push_wire.Goals as goal

pub returns-clause-placed : goal.returns-clause-placed
returns-clause-placed c =
    λ all. subst (All IsPlaced) (sym c.in_ok-push.ensures.items) (placed_push _ _ c.in-Wire.wire refl c.in_ok-read_mark.ensures (search rules) all)

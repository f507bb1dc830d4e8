use Rattle.std.proofs.Common.{◌∷◌}
use Rattle.engine_uses.proofs.marks.cut.Goals as goal

pub returns-in-Xor : goal.returns-in-Xor
returns-in-Xor g c = record {
  roots = c.requires.roots;
  cuts = c.args.row ∷ c.requires.cuts;
  shown = c.cut.ensures.shows c.requires.roots c.requires.cuts c.requires.shown;
}

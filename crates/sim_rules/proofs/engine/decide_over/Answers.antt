use Rattle.std.proofs.Common.{sym, ◌∙◌}
use Rattle.bit_rows.specs.Sets.{members}
use Rattle.once_random.specs.Tuples.{roots_over}
use Rattle.once_random.proofs.Facts.{saturated_decides}
use Rattle.live_rows.proofs.Facts.{roots_within}
use Rattle.sim_rules.proofs.engine.decide_over.Goals as goal

pub returns-clause-provable : goal.returns-clause-provable
returns-clause-provable g c =
    let nodes = g.S.Looks.nodes c.args.source.now in
    let roots = roots_over c.args.probes.now (members c.args.chosen.now) in
    let cut = c.cut_down.ensures.cut in
    let answer = c.are_within-within.ensures.within roots cut.cuts cut.shows in
    let decides = saturated_decides nodes c.args.groups.now roots c.requires.lower (roots_within nodes roots cut.cuts c.cut_down.new.live.marks cut.shows) cut.cuts cut.chain cut.full c.args.bound in
    (λ h. decides.0 (sym answer ∙ h), λ provable. answer ∙ decides.1 provable)

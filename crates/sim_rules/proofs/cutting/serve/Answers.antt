use Rattle.std.proofs.Common.{refl, sym, ◌∙◌}
use Rattle.expr_table.specs.Table.{node_at}
use Rattle.sim_rules.proofs.Turns.{idle_turn, other_turn, cut_turn, spare_serves, live_parent, not_xor}
use Rattle.sim_rules.proofs.cutting.serve.Goals as goal

pub returns-in_default-clause-cutting : goal.returns-in_default-clause-cutting
returns-in_default-clause-cutting g c roots limit before =
    idle_turn (g.S.Looks.nodes c.args.source.now) c.requires.lower roots limit c.args.live.now c.args.row.0 c.args.steps.now before
    (c.in_default.ensures (g.S.Looks.nodes c.args.source.now) roots before.cuts before.shows)

pub returns-in_default-look : goal.returns-in_default-look
returns-in_default-look g c = record {
  cutting = λ roots limit before.
      let nodes = g.S.Looks.nodes c.args.source.now in
      let only = c.in-Some.ensures nodes roots before.cuts before.shows in
      other_turn nodes c.requires.lower roots limit c.args.live.now c.args.row.0 c.args.steps.now before c.in-Some.parent.0 c.look.new.steps only.2
      (not_xor (node_at nodes c.in-Some.parent.0) (λ a b is. c.in_default-look.not-Xor a b (c.look.ensures.node ∙ is)))
      c.look.ensures.cost;
  found = refl;
  queued = refl;
}

pub returns-in-Xor-clause-cutting : goal.returns-in-Xor-clause-cutting
returns-in-Xor-clause-cutting g c roots limit before =
    let nodes = g.S.Looks.nodes c.args.source.now in
    let only = c.in-Some.ensures nodes roots before.cuts before.shows in
    let served = spare_serves nodes c.requires.lower roots limit c.args.live.now c.args.row.0 c.args.steps.now before c.in-Some.parent.0 c.requires.spare only.0 only.2 in
    cut_turn nodes c.requires.lower roots limit c.args.live.now c.args.row.0 c.args.steps.now before c.in-Some.parent.0 c.in-Xor.a c.in-Xor.b c.cut.new.self c.look.new.steps c.cut.new.steps
    (sym c.in-Xor.ensures.node) only.2 served c.look.ensures.cost
    (c.cut.ensures.shows roots before.cuts before.shows) c.cut.ensures.alone (c.cut.ensures.served roots before.cuts before.shows)
    c.cut.ensures.queued c.cut.ensures.few (c.cut.ensures.cost roots before.cuts before.shows)

pub returns-in-Xor-clause-found : goal.returns-in-Xor-clause-found
returns-in-Xor-clause-found g c =
    let nodes = g.S.Looks.nodes c.args.source.now in
    let before = c.requires.cutting.2 in
    let only = c.in-Some.ensures nodes c.requires.cutting.0 before.cuts before.shows in
    c.cut.ensures.kept_found (live_parent nodes c.requires.lower c.requires.cutting.0 c.requires.cutting.1 c.args.live.now c.args.row.0 c.args.steps.now before c.in-Some.parent.0 only.2)

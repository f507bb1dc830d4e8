use Rattle.std.proofs.Common.{◌+◌, [], length, ap, ◌∙◌}
use Rattle.bit_rows.specs.Sets.{members}
use Rattle.once_random.specs.Tuples.{roots_over}
use Rattle.live_rows.specs.Shown.{live_count}
use Rattle.sim_rules.proofs.Turns.{begun, turned, done}
use Rattle.sim_rules.proofs.cutting.cut_down.Goals as goal

pub loop-row-init : goal.loop-row-init
loop-row-init g c =
    let nodes = g.S.Looks.nodes c.args.source.now in
    let roots = roots_over c.args.probes.now (members c.args.chosen.now) in (
      begun nodes c.requires.lower roots c.begin.new.self c.begin.new.steps
          c.begin.ensures.shows c.begin.ensures.alone c.begin.ensures.queued c.begin.ensures.few,
      c.begin.ensures.found,
    )

pub serve-requires-clause-cutting : goal.serve-requires-clause-cutting
serve-requires-clause-cutting g c =
    let nodes = g.S.Looks.nodes c.args.source.now in
    let roots = roots_over c.args.probes.now (members c.args.chosen.now) in
    let limit = c.begin.new.steps + live_count nodes roots [] in
    (roots, limit, turned nodes roots limit c.loop-row.live c.take_alone.new.self c.in-Some.row.0 c.loop-row.steps c.take_alone.ensures.marks c.take_alone.ensures.found c.in-Some.ensures.taken c.loop-row.invariant.0)

pub loop-row-preserved : goal.loop-row-preserved
loop-row-preserved g c =
    let nodes = g.S.Looks.nodes c.args.source.now in
    let roots = roots_over c.args.probes.now (members c.args.chosen.now) in
    let limit = c.begin.new.steps + live_count nodes roots [] in (
      c.serve.ensures.cutting roots limit
          (turned nodes roots limit c.loop-row.live c.take_alone.new.self c.in-Some.row.0 c.loop-row.steps c.take_alone.ensures.marks c.take_alone.ensures.found c.in-Some.ensures.taken c.loop-row.invariant.0),
      ap length c.serve.ensures.found ∙ ap length c.take_alone.ensures.found ∙ c.loop-row.invariant.1,
    )

pub returns-clause-cut : goal.returns-clause-cut
returns-clause-cut g c =
    let nodes = g.S.Looks.nodes c.args.source.now in
    let roots = roots_over c.args.probes.now (members c.args.chosen.now) in
    done nodes c.requires.lower roots (c.begin.new.steps + live_count nodes roots []) c.loop-row.live c.take_alone.new.self c.loop-row.steps c.take_alone.ensures.marks c.in_default.ensures.taken.0 c.loop-row.invariant.0

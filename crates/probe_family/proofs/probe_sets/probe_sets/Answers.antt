use Rattle.std.proofs.Common.{◌∙◌, length, map, replicate, true, ap}
use Rattle.bit_rows.specs.Sets.{minus}
use Rattle.expr_table.specs.declared.instance.ProbeRoots.{ProbeRoots}
use Rattle.probe_family.proofs.RootTuples.{sets_are}
use Rattle.probe_family.proofs.probe_sets.probe_sets.Goals as goal

pub returns : goal.returns
returns c =
    sets_are c.args.instance.now c.in_ok-all.all c.minus_from.new.self c.in_ok-output.output
    (c.in_ok-all.ensures ∙ ap (λ probes. replicate (length probes) true) c.as_slice-probes.ensures)
    (c.in_ok-output.ensures ∙ ap (map (λ (probe : ProbeRoots). probe.output)) c.as_slice-probes.ensures)
    (c.minus_from.ensures ∙ ap (λ s. minus s c.in_ok-output.output) c.in_ok-internal.ensures)

use Rattle.std.proofs.Common.{◌<◌, ◌∙◌, ◌&&◌, length, map, false, [], sym, ap, arith}
use Rattle.std.proofs.lemmas.Bool.{lt-ltb}
use Rattle.std.proofs.lemmas.List.{length-map, get_or-map}
use Rattle.bit_rows.proofs.Facts.{same_sets}
use Rattle.expr_table.specs.declared.instance.ProbeRoots.{ProbeRoots}
use Rattle.once_random.specs.Tuples.{probe_at}
use Rattle.probe_family.proofs.probe_sets.output_probes.Goals as goal

pub returns : goal.returns
returns c =
    let probes = c.args.probes.now in
    same_sets c.loop-p.set (map (λ (probe : ProbeRoots). probe.output) probes) (c.loop-p.invariant.len ∙ sym (length-map probes (λ (probe : ProbeRoots). probe.output)))
    (λ i lt.
    let within : i < length probes = omega (arith, c.loop-p.invariant.len) in
    c.loop-p.invariant.so_far i
    ∙ (ap (λ b. b && (probe_at probes i).output) (lt-ltb i c.loop-p.p (omega arith))
    ∙ sym (get_or-map (λ (probe : ProbeRoots). probe.output) probes i (record { rows = []; output = false }) false within)))

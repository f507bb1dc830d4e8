use Rattle.std.proofs.Common.{map, sym, ◌∙◌}
use Rattle.circuit_types.specs.Nets.{pin_of}
use Rattle.circuit_types.specs.Reads.{is_output, wire_reads}
use Rattle.net_build.proofs.ReadLemmas.{output_added, none_output_added}
use Rattle.net_build.proofs.reads.with_wire.Goals as goal

pub returns-then-is_output : goal.returns-then-is_output
returns-then-is_output c = λ earlier h.
    output_added earlier (map (pin_of c.args.sources.now) (wire_reads c.args.wire.now)) (is_output c.args.wire.now.port) c.with_bits.result
    (sym c.is_output.ensures ∙ c.if-is_output.true) (c.with_bits.ensures earlier h)

pub returns-else-is_output : goal.returns-else-is_output
returns-else-is_output c = λ earlier h.
    none_output_added earlier (map (pin_of c.args.sources.now) (wire_reads c.args.wire.now)) (is_output c.args.wire.now.port) c.args.faults
    (sym c.is_output.ensures ∙ c.if-is_output.false) h

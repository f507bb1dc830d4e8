use Rattle.std.proofs.Common.{◌∙◌, length, refl}
use Rattle.net_build.proofs.PortLemmas.{cell_known, run_same}
use Rattle.net_build.proofs.ports.Ports.push_cell.Goals as goal

pub returns : goal.returns
returns c = λ cs h.
    let old = c.args.self.now in
    let outputs = c.push_output.new.outputs in
    cell_known c.args.wires.now.list.now cs c.args.cell.now old
    (record { cells = c.push.new.self; reads = c.push_inputs.new.reads; outputs = outputs; bits = c.push_inputs.new.bits })
    (record {
      line = c.args.cell.now.line;
      kind = c.args.kind;
      inputs = c.in_ok-inputs.inputs;
      output_line = c.in_ok-output_line.output_line;
      output = record { first = c.len-output.result; end = c.len.result };
    })
    h c.in_ok-inputs.ensures.reads c.in_ok-output_line.ensures.bits c.in_ok-push.ensures.items refl c.requires.kind c.in_ok-inputs.ensures.run c.in_ok-output_line.ensures.line
    (run_same c.len-output.result c.len.result (length old.outputs.items) (length outputs.items) (c.len-output.ensures ∙ old.outputs.ok.0) (c.len.ensures ∙ outputs.ok.0))

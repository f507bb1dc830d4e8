use Rattle.std.proofs.Common.{◌∙◌, map}
use Rattle.cell_kinds.specs.Names.{kind_named}
use Rattle.circuit_types.specs.Drives.{output_connect}
use Rattle.circuit_types.specs.Reads.{cell_reads}
use Rattle.net_build.specs.Ports.{port_bit, output_bits}
use Rattle.net_build.proofs.CellLemmas.{none_made, one_made}
use Rattle.net_build.proofs.PortLemmas.{run_is}
use Rattle.net_build.proofs.cells.push_cell.Goals as goal

pub returns-in_default : goal.returns-in_default
returns-in_default c = λ ws x h.
    none_made ws c.args.sources.now c.args.ports.now.reads.items c.args.ports.now.outputs.items x c.args.cell.now c.args.cells.now.items h c.in_default.is

pub returns : goal.returns
returns c = λ ws x h.
    let p = c.args.ports.now in
    one_made ws c.args.sources.now p.reads.items p.outputs.items x c.args.cell.now c.in-Some.kind c.run_of.result.now c.run_of-2.result.now c.from_vec.result c.first_net.result
    c.args.cells.now.items c.push.new.self.items h c.in-Some.is
    (run_is p.reads.items c.deref.result.now c.args.cell.now.inputs (map port_bit (cell_reads ws x)) c.run_of.result.now h.inputs c.deref.ensures.value c.run_of.ensures)
    (run_is p.outputs.items c.deref-2.result.now c.args.cell.now.output (output_bits ws (output_connect x (kind_named x.kind))) c.run_of-2.result.now h.output c.deref-2.ensures.value
    c.run_of-2.ensures)
    (c.from_vec.ensures ∙ c.in_ok-pins.ensures) c.first_net.ensures c.in_ok-push.ensures.items

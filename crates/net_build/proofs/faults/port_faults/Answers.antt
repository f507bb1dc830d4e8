use Rattle.std.proofs.Common.{◌∙◌, ◌&&◌, ◌||◌, not, nat_eq, sym, ap}
use Rattle.std.proofs.lemmas.Bool.{and_parts}
use Rattle.circuit_types.specs.Signals.{shape}
use Rattle.circuit_types.specs.Nets.{Link, port_link, is_port, is_unsupported, is_module, is_unnamed, is_badly_sliced, is_mismatched, lacks_port}
use Rattle.circuit_types.specs.declared.tree.Cell.{Cell}
use Rattle.net_build.proofs.FaultLemmas.{one_line, none_line, any_one, not_one, port_fits, fine_link}
use Rattle.net_build.proofs.faults.port_faults.Goals as goal

pub returns-then-shape-fits : goal.returns-then-shape-fits
returns-then-shape-fits c =
    let s = shape c.args.wires.now.list.now c.args.connect.now.signal in
    let found = c.shape_of-shape.result in
    let named = is_port c.args.kind c.args.connect.now.port in
    let all = and_parts ((found.narrow && found.named) && found.sliced) (not c.is_port.result || nat_eq found.width 1) c.if-shape-fits.true in
    let three = and_parts (found.narrow && found.named) found.sliced all.0 in
    let two = and_parts found.narrow found.named three.0 in
    fine_link (port_link c.args.wires.now.list.now c.args.kind c.args.connect.now)
    (sym (any_one found.narrow s.narrow (ap (λ x. x.narrow) c.shape_of-shape.ensures)) ∙ ap not two.0)
    (sym (not_one found.named s.named (ap (λ x. x.named) c.shape_of-shape.ensures)) ∙ ap not two.1)
    (sym (not_one found.sliced s.sliced (ap (λ x. x.sliced) c.shape_of-shape.ensures)) ∙ ap not three.1)
    (sym (port_fits c.is_port.result named found.width s.width (c.is_port.ensures ∙ ap (is_port c.args.kind) c.as_slice.ensures) (ap (λ x. x.width) c.shape_of-shape.ensures))
    ∙ ap not all.1)

pub returns : goal.returns
returns c =
    let link = port_link c.args.wires.now.list.now c.args.kind c.args.connect.now in
    let s = shape c.args.wires.now.list.now c.args.connect.now.signal in
    record {
      too_wide = any_one c.shape_of-shape.result.narrow s.narrow (ap (λ x. x.narrow) c.shape_of-shape.ensures);
      unsupported = none_line (λ (x : Cell). x.line) is_unsupported;
      hierarchy = none_line (λ (x : Cell). x.line) is_module;
      no_wire = one_line (λ (l : Link). l.line) is_unnamed link c.line_if.result _ c.line_if.ensures (not_one c.shape_of-shape.result.named s.named (ap (λ x. x.named) c.shape_of-shape.ensures));
      bad_slice = one_line (λ (l : Link). l.line) is_badly_sliced link c.line_if-2.result _ c.line_if-2.ensures (not_one c.shape_of-shape.result.sliced s.sliced (ap (λ x. x.sliced) c.shape_of-shape.ensures));
      mismatch = λ h. one_line (λ (l : Link). l.line) is_mismatched link c.line_if-3.result _ c.line_if-3.ensures (port_fits c.is_port.result (is_port c.args.kind c.args.connect.now.port) c.shape_of-shape.result.width s.width (c.is_port.ensures ∙ ap (is_port c.args.kind) c.as_slice.ensures) (ap (λ x. x.width) c.shape_of-shape.ensures));
      missing = none_line (λ (x : Cell). x.line) lacks_port;
    }

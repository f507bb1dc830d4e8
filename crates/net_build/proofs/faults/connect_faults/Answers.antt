use Rattle.std.proofs.Common.{ap}
use Rattle.circuit_types.specs.Signals.{shape}
use Rattle.circuit_types.specs.Nets.{Link, item_links, is_unsupported, is_module, is_unnamed, is_badly_sliced, is_mismatched, lacks_port}
use Rattle.circuit_types.specs.declared.tree.Cell.{Cell}
use Rattle.net_build.proofs.FaultLemmas.{as_found, one_line, none_line, any_two, not_two, connect_link, sides_fit}
use Rattle.net_build.proofs.faults.connect_faults.Goals as goal

pub returns : goal.returns
unfolding item_links
returns c =
    let l = shape c.args.wires.now.list.now c.args.connect.now.left in
    let r = shape c.args.wires.now.list.now c.args.connect.now.right in
    let link = connect_link c.args.wires.now.list.now c.args.connect.now in
    as_found _ _ _ _ c.found.ensures (record {
      too_wide = any_two c.shape_of-left.result.narrow l.narrow c.shape_of-right.result.narrow r.narrow (ap (λ x. x.narrow) c.shape_of-left.ensures) (ap (λ x. x.narrow) c.shape_of-right.ensures);
      unsupported = none_line (λ (x : Cell). x.line) is_unsupported;
      hierarchy = none_line (λ (x : Cell). x.line) is_module;
      no_wire = one_line (λ (l : Link). l.line) is_unnamed link c.line_if.result _ c.line_if.ensures (not_two c.shape_of-left.result.named l.named c.shape_of-right.result.named r.named (ap (λ x. x.named) c.shape_of-left.ensures) (ap (λ x. x.named) c.shape_of-right.ensures));
      bad_slice = one_line (λ (l : Link). l.line) is_badly_sliced link c.line_if-2.result _ c.line_if-2.ensures (not_two c.shape_of-left.result.sliced l.sliced c.shape_of-right.result.sliced r.sliced (ap (λ x. x.sliced) c.shape_of-left.ensures) (ap (λ x. x.sliced) c.shape_of-right.ensures));
      mismatch = λ h. one_line (λ (l : Link). l.line) is_mismatched link c.line_if-3.result _ c.line_if-3.ensures (sides_fit c.args.wires.now.list.now c.args.connect.now c.shape_of-left.result c.shape_of-right.result c.shape_of-left.ensures c.shape_of-right.ensures h);
      missing = none_line (λ (x : Cell). x.line) lacks_port;
    })

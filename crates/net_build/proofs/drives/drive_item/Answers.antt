use Rattle.std.proofs.Common.{[], ◌∷◌, ◌∙◌, length, map, sym, subst}
use Rattle.cell_kinds.specs.Names.{kind_named}
use Rattle.circuit_types.specs.Drives.{output_connect, drives_from}
use Rattle.net_build.specs.Drivers.{tied}
use Rattle.net_build.specs.Ports.{KnowsNext}
use Rattle.net_build.proofs.DriveLemmas.{cell_item, same_drives}
use Rattle.net_build.proofs.PortLemmas.{kept_cell, output_within, cell_tied}
use Rattle.net_build.proofs.drives.drive_item.Goals as goal

pub tie-requires : goal.tie-requires
tie-requires c =
    let ws = c.args.wires.now.list.now in
    let cell = c.in-Cell.cell in
    let kept = kept_cell c.args.item.now cell c.in-Cell.is (sym c.is_kept.ensures ∙ c.if-is_kept.true) in
    let out = c.output-line.ensures ws cell (subst (λ v. KnowsNext ws v c.args.number c.args.ports.now) kept c.requires.ports) in
    output_within ws (output_connect cell (kind_named cell.kind)) c.output-line.result.1.now (length c.args.drivers.now.list.items) c.requires.within out.1 c.requires.size

pub returns-then-is_kept-clause-driven : goal.returns-then-is_kept-clause-driven
returns-then-is_kept-clause-driven c = λ ds h.
    let ws = c.args.wires.now.list.now in
    let cell = c.in-Cell.cell in
    let is_kept = sym c.is_kept.ensures ∙ c.if-is_kept.true in
    let out = c.output-line.ensures ws cell (subst (λ v. KnowsNext ws v c.args.number c.args.ports.now) (kept_cell c.args.item.now cell c.in-Cell.is is_kept) c.requires.ports) in
    same_drives ws ds (map (tied c.output-line.result.0 c.args.number) c.output-line.result.1.now) (drives_from ws c.args.number (c.args.item.now ∷ [])) c.tie.new.self
    (cell_tied ws c.args.number c.output-line.result.0 cell c.output-line.result.1.now out.0 out.1 ∙ cell_item ws c.args.number c.args.item.now cell c.in-Cell.is is_kept)
    (c.tie.ensures.driven ws ds h)

use Rattle.std.proofs.Common.{length}
use Rattle.circuit_types.specs.Drives.{drives}
use Rattle.circuit_types.specs.Items.{kept_cells}
use Rattle.net_build.proofs.SourceLemmas.{known_of, drivers_closed, are_sources}
use Rattle.net_build.proofs.net_sources.net_sources.Goals as goal

pub sources_of-requires-clause-closed : goal.sources_of-requires-clause-closed
sources_of-requires-clause-closed c =
    let ws = c.args.wires.now.list.now in
    let items = c.args.items.now in
    drivers_closed ws (drives ws items) (length (kept_cells items)) c.as_slice.result.now
    (known_of ws items c.as_slice.result.now c.in_ok-drivers.drivers.items c.requires.within c.in_ok-drivers.ensures.known c.as_slice.ensures.value c.in_ok-drivers.ensures.once)

pub returns-clause-sources : goal.returns-clause-sources
returns-clause-sources c =
    let ws = c.args.wires.now.list.now in
    let items = c.args.items.now in
    are_sources ws (drives ws items) (length (kept_cells items)) c.as_slice.result.now c.in_ok-sources_of.field-0.items
    (known_of ws items c.as_slice.result.now c.in_ok-drivers.drivers.items c.requires.within c.in_ok-drivers.ensures.known c.as_slice.ensures.value c.in_ok-drivers.ensures.once)
    c.in_ok-sources_of.ensures.size c.in_ok-sources_of.ensures.ends

use Rattle.std.proofs.Common.{◌≡◌, ◌≤◌, length, take}
use Rattle.std.specs.Prelude.{sum_by}
use Rattle.share_notes.specs.declared.mark.MarkedWire.{MarkedWire}
use Rattle.share_notes.specs.Known.{KnowsPlaces}
use Rattle.share_notes.specs.Shares.{given, secrets}
use Rattle.share_notes.proofs.secrets.Secrets.new.Given as goal

-- the secret bits of the wires before this one are there
abbrev pub invariant-loop-wire : goal.invariant-loop-wire
invariant-loop-wire l = record {
  known : KnowsPlaces l.secrets.list.items l.secrets.places;
  few : length l.secrets.list.items ≤ sum_by (λ (w : MarkedWire). w.width) (take l.wire-index l.wires);
  list : l.secrets.list.items ≡ secrets (given l.direction (take l.wire-index l.wires));
}

use Rattle.std.proofs.Common.{◌≡◌, length, take, All}
use Rattle.std.specs.List.{flat_map}
use Rattle.circuit_types.specs.declared.roles.InputRole.{InputRole}
use Rattle.circuit_types.specs.Worlds.{secrets}
use Rattle.term_build.specs.Building.{Grows, IsShownShare}
use Rattle.term_build.specs.InputTerms.{role_joins}
use Rattle.term_build.specs.Leaves.{drawn_term, given_term}
use Rattle.term_build.proofs.share_rows.share_rows.Given as goal

abbrev pub invariant-loop-input : goal.invariant-loop-input
invariant-loop-input l = record {
  count : length l.rows.items ≡ l.fn.count;
  grows : Grows l.fn.table l.table (flat_map (λ (x : InputRole). role_joins l.roles (given_term secrets l.roles l.fn.timing) (drawn_term secrets l.roles l.fn.timing) x.role) (take l.input-index l.input-items));
  shows : All (λ (x : InputRole). IsShownShare secrets l.roles l.fn.timing l.table.nodes l.rows.items x x.role) (take l.input-index l.input-items);
}

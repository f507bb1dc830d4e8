use Rattle.std.proofs.Common.{List, map, ap, ◌∙◌, subst}
use Rattle.circuit_types.specs.declared.roles.Secret.{Secret}
use Rattle.share_notes.specs.declared.shares.NumberedShare.{NumberedShare}
use Rattle.share_notes.specs.Known.{KnowsFirst}
use Rattle.share_notes.specs.Shares.{given, numbered_share, numbered_shares}
use Rattle.share_notes.proofs.ports.shared_in.Goals as goal

pub returns : goal.returns
unfolding numbered_shares
returns c = record {
  list = c.in_ok-secrets.ensures.list;
  known = c.in_ok-secrets.ensures.known;
  shares = c.in_ok-shares.ensures ∙ ap (λ (ss : List Secret). map (numbered_share ss) (given c.args.direction c.args.wires.now)) c.in_ok-secrets.ensures.list;
  first = subst (λ (ts : List NumberedShare). KnowsFirst ts c.in_ok-first.first.bits) c.deref.ensures.value c.in_ok-first.ensures;
}

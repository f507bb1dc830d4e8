use Rattle.std.proofs.Common.{◌≡◌, List, length, take, get_or, sym, ap, ◌∙◌, subst, arith}
use Rattle.std.proofs.lemmas.List.Sums.{sum_by_more}
use Rattle.circuit_types.specs.declared.roles.Secret.{Secret}
use Rattle.share_notes.specs.declared.mark.MarkedWire.{MarkedWire}
use Rattle.share_notes.specs.Known.{KnowsPlaces}
use Rattle.share_notes.specs.Shares.{given, secrets}
use Rattle.share_notes.proofs.Places.{none_known, none_given, given_next}
use Rattle.share_notes.proofs.secrets.Secrets.new.Goals as goal

pub loop-wire-init : goal.loop-wire-init
loop-wire-init c =
    let none = ap length c.new.ensures.items in
    record {
      known = subst (λ (ss : List Secret). KnowsPlaces ss c.new-2.result) (sym c.new.ensures.items) (none_known c.new-2.result c.new-2.ensures.empty);
      few = omega (arith, none);
      list = c.new.ensures.items ∙ none_given c.args.direction;
    }

pub loop-wire-preserved : goal.loop-wire-preserved
loop-wire-preserved c =
    let ws = c.args.wires.now in
    let i = c.loop-wire.wire-index in
    let w = c.wire-item.result in
    let sum = sum_by_more (λ (v : MarkedWire). v.width) ws i w c.loop-wire-test.true in
    let width : w.width ≡ (get_or ws i w).width = ap (λ (v : MarkedWire). v.width) c.wire-item.is in
    record {
      known = c.in_ok-add_wire.ensures.known;
      few = omega (arith, c.in_ok-add_wire.ensures.few, c.loop-wire.invariant.few, sum, width);
      list =
          c.in_ok-add_wire.ensures.list (given c.args.direction (take i ws)) c.loop-wire.invariant.list
          ∙ ap secrets (sym (given_next c.args.direction ws i w c.loop-wire-test.true c.wire-item.is));
    }

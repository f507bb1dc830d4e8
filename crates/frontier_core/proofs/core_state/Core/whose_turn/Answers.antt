use Rattle.std.proofs.Common.{◌≡◌, ◌∙◌, ap, arith, sym, [], vec_len}
use Rattle.std.proofs.lemmas.Bool.{eqb-true}
use Rattle.std.proofs.lemmas.List.{nil_from_length}
use Rattle.frontier_core.proofs.Moving.{idle_from}
use Rattle.frontier_core.proofs.core_state.Core.whose_turn.Goals as goal

pub unreachable-requires : goal.unreachable-requires
unreachable-requires c =
    let empty : c.args.self.now.open_families ≡ [] =
    ap (λ s. s.open_families) (sym c.self.view_is) ∙ nil_from_length c.self.inside.open_families.items (let none = eqb-true (vec_len c.self.inside.open_families) 0 (sym c.is_empty.ensures ∙ c.if-not-is_empty.false) in omega (arith, c.self.inside.open_families.ok)) in
    c.requires.busy (idle_from c.args.self.now c.args.workers c.requires.crew empty c.in_default-first_holder.ensures)

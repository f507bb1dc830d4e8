use Rattle.std.proofs.Common.{◌≡◌, ◌∙◌, ap, arith, sym, [], vec_len}
use Rattle.std.proofs.lemmas.Bool.{eqb-true}
use Rattle.std.proofs.lemmas.List.{nil_from_length}
use Rattle.std.specs.List.{list_all}
use Rattle.std.specs.Prelude.{is_none}
use Rattle.frontier_core.proofs.Allowed.{all_none}
use Rattle.frontier_core.proofs.core_state.Core.idle.Goals as goal

pub returns-then-is_empty : goal.returns-then-is_empty
returns-then-is_empty c =
    let empty : c.args.self.now.open_families ≡ [] =
    ap (λ s. s.open_families) (sym c.self.view_is) ∙ nil_from_length c.self.inside.open_families.items (let none = eqb-true (vec_len c.self.inside.open_families) 0 (sym c.is_empty.ensures ∙ c.if-is_empty.true) in omega (arith, c.self.inside.open_families.ok)) in
    let hands : c.deref.result.now ≡ c.args.self.now.held = c.deref.ensures.value ∙ ap (λ s. s.held) c.self.view_is in
    let holds : c.hold_none.result ≡ list_all is_none c.args.self.now.held = c.hold_none.ensures ∙ ap (list_all is_none) hands in (
      λ is. (empty, (all_none c.args.self.now.held).0 (sym holds ∙ is)),
      λ idle. holds ∙ (all_none c.args.self.now.held).1 idle.1,
    )

use Rattle.std.proofs.Common.{◌≡◌, ◌<◌, ℕ, Bool, true, false, List, [], ◌∷◌, length, refl, sym, ◌∙◌, arith, true≢false}
use Rattle.std.specs.List.{list_any}
use Rattle.std.proofs.lemmas.Bool.{ne_eqb}
use Rattle.circuit_types.specs.DataSources.{data_sources}
use Rattle.level_unroll.proofs.Taking.{is_eq-nat_cmp, none_stands, least_stands, taken_woken}
use Rattle.level_unroll.proofs.queue.Queue.next.Goals as goal

none_any : (test : ℕ → Bool) (xs : List ℕ) → (0 < length xs → false ≡ true) → list_any test xs ≡ false
none_any test [] none = refl
none_any test (x ∷ xs) none = absurd (true≢false (sym (none (omega arith))))

pub returns-in_default-clause-next : goal.returns-in_default-clause-next
returns-in_default-clause-next c = none_stands (data_sources c.args.timing) c.args.nets.now c.args.self.now c.requires.queue (λ k. none_any _ c.args.self.now.ready.keys c.in_default.ensures.variant.1)

pub place_all-requires-clause-woken : goal.place_all-requires-clause-woken
place_all-requires-clause-woken c =
    taken_woken (data_sources c.args.timing) c.args.nets.now c.args.self.now c.requires.queue c.in-Some.cell c.in-Some.ensures.member c.index-latest.result.now c.index-latest.ensures _ refl refl refl
    (λ k other. c.in-Some.ensures.updates.2 k (is_eq-nat_cmp c.in-Some.cell k ∙ ne_eqb c.in-Some.cell k (λ e. other (sym e))))
    c.in-Some.ensures.updates.1

pub returns-clause-next : goal.returns-clause-next
returns-clause-next c =
    least_stands (data_sources c.args.timing) c.args.nets.now c.args.self.now c.requires.queue c.in-Some.cell c.in-Some.ensures.member c.in-Some.ensures.least

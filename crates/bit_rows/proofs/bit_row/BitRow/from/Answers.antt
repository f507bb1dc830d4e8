use Rattle.std.proofs.Common.{find, nat_le, sym, ap, ◌∙◌, subst}
use Rattle.bit_rows.specs.Sets.{members}
use Rattle.bit_rows.specs.Words.{NoBitFrom, IsFirstBit}
use Rattle.bit_rows.proofs.Rows.{none_left, least_from, past_all}
use Rattle.bit_rows.proofs.bit_row.BitRow.from.Goals as goal

pub returns-then-start-self : goal.returns-then-start-self
returns-then-start-self c =
    sym (ap (λ flags. find (λ k. nat_le c.args.start k) (members flags)) (sym c.self.view_is) ∙ none_left c.self.inside.len c.self.inside.words.items c.self.invariant c.args.start (past_all c.self.inside.len c.self.inside.words.items c.self.invariant c.args.start c.if-start-self.true))

pub returns-in-Some : goal.returns-in-Some
returns-in-Some c =
    let first : IsFirstBit c.self.inside.words.items c.args.start c.in-Some.i = subst (λ ws. IsFirstBit ws c.args.start c.in-Some.i) c.deref.ensures.value c.in-Some.ensures in
    sym (ap (λ flags. find (λ k. nat_le c.args.start k) (members flags)) (sym c.self.view_is) ∙ least_from c.self.inside.len c.self.inside.words.items c.self.invariant c.args.start c.in-Some.i first)

pub returns-in-None : goal.returns-in-None
returns-in-None c =
    let none : NoBitFrom c.self.inside.words.items c.args.start = subst (λ ws. NoBitFrom ws c.args.start) c.deref.ensures.value c.in-None.ensures in
    sym (ap (λ flags. find (λ k. nat_le c.args.start k) (members flags)) (sym c.self.view_is) ∙ none_left c.self.inside.len c.self.inside.words.items c.self.invariant c.args.start none)

use Rattle.std.proofs.Common.{◌≡◌, ℕ, ◌+◌, ◌<◌, ◌≤◌, List, ◌∷◌, length, sym, ap, ◌∙◌, subst, arith}
use Rattle.command_words.specs.Names.{texts}
use Rattle.command_words.specs.Reading.{BeginsWithPart}
use Rattle.command_words.proofs.Written.{NoPart, no_part_of_none}
use Rattle.command_words.proofs.Uses.{if-some, if-none, is-none}
use Rattle.command_words.proofs.parts.first_part.Goals as goal

pub returns-in_err-first-clause-other : goal.returns-in_err-first-clause-other
returns-in_err-first-clause-other c =
    is-none c.from_residual.result (NoPart (texts c.args.words.now)) (no_part_of_none c.args.words.now c.in_err-first.ensures.cases)

pub returns-clause-begins : goal.returns-clause-begins
returns-clause-begins c =
    let split : c.args.words.now ≡ c.in_ok-first.first.now ∷ c.in_ok-first.tail.now = c.in_ok-first.ensures.cases.0 in
    let same : c.as_str.result.now ∷ texts c.in_ok-first.tail.now ≡ texts c.args.words.now =
    ap (λ (w : List ℕ). w ∷ texts c.in_ok-first.tail.now) c.as_str.ensures.value ∙ sym (ap texts split) in
    if-some c.part_from.result
    (λ r. BeginsWithPart (c.as_str.result.now ∷ texts c.in_ok-first.tail.now) r.0 (texts r.1.now))
    (λ r. BeginsWithPart (texts c.args.words.now) r.0 (texts r.1.now))
    (λ r b. subst (λ (w : List (List ℕ)). BeginsWithPart w r.0 (texts r.1.now)) same b)
    c.part_from.ensures.begins

pub returns-clause-shorter : goal.returns-clause-shorter
returns-clause-shorter c =
    let sizes : length c.in_ok-first.tail.now + 1 ≡ length c.args.words.now = c.in_ok-first.ensures.cases.1 in
    if-some c.part_from.result
    (λ r. length r.1.now ≤ length c.in_ok-first.tail.now)
    (λ r. length r.1.now < length c.args.words.now)
    (λ r b. omega (arith, b, sizes))
    c.part_from.ensures.shorter

pub returns-clause-other : goal.returns-clause-other
returns-clause-other c =
    let split : c.args.words.now ≡ c.in_ok-first.first.now ∷ c.in_ok-first.tail.now = c.in_ok-first.ensures.cases.0 in
    let same : c.as_str.result.now ∷ texts c.in_ok-first.tail.now ≡ texts c.args.words.now =
    ap (λ (w : List ℕ). w ∷ texts c.in_ok-first.tail.now) c.as_str.ensures.value ∙ sym (ap texts split) in
    if-none c.part_from.result
    (NoPart (c.as_str.result.now ∷ texts c.in_ok-first.tail.now))
    (NoPart (texts c.args.words.now))
    (λ none part behind plain e. none part behind plain (same ∙ e))
    c.part_from.ensures.other

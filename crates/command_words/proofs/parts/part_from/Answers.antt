use Rattle.std.proofs.Common.{◌≡◌, ℕ, List, ◌∷◌, refl, sym, ap, ◌∙◌}
use Rattle.command_words.specs.Names.{texts}
use Rattle.command_words.specs.Parts.{operand, separate, joined, an_operand, a_value}
use Rattle.command_words.proofs.parts.part_from.Goals as goal

pub returns-in_ok-word-in-Word-clause-begins : goal.returns-in_ok-word-in-Word-clause-begins
returns-in_ok-word-in-Word-clause-begins c = record {
  part = operand c.args.first.now;
  plain = c.in_ok-word-in-Word.ensures.1;
  words_are = refl;
  gives = ap an_operand (sym c.in_ok-word-in-Word.ensures.0);
}

pub returns-in_ok-value-in-Joined-clause-begins : goal.returns-in_ok-value-in-Joined-clause-begins
returns-in_ok-value-in-Joined-clause-begins c = record {
  part = joined c.in-Joined.name c.in-Joined.value.now;
  plain = c.in_ok-value-in-Joined.ensures.1;
  words_are = ap (λ (w : List ℕ). w ∷ texts c.args.tail.now) c.in-Joined.ensures;
  gives = ap (a_value c.in-Joined.name) (sym c.in_ok-value-in-Joined.ensures.0);
}

pub returns-in_ok-value-in-Name-2-clause-begins : goal.returns-in_ok-value-in-Name-2-clause-begins
returns-in_ok-value-in-Name-2-clause-begins c =
    let split : c.args.tail.now ≡ c.in_ok-value-in-Name.value.now ∷ c.in_ok-value-in-Name.rest.now = c.in_ok-value-in-Name.ensures.cases.0 in
    let tail : texts c.args.tail.now ≡ c.as_str.result.now ∷ texts c.in_ok-value-in-Name.rest.now =
    ap texts split ∙ ap (λ (w : List ℕ). w ∷ texts c.in_ok-value-in-Name.rest.now) (sym c.as_str.ensures.value) in
    record {
      part = separate c.in-Name.name c.as_str.result.now;
      plain = c.in_ok-value-in-Name-2.ensures.1;
      words_are = λ i. c.in-Name.ensures i ∷ tail i;
      gives = ap (a_value c.in-Name.name) (sym c.in_ok-value-in-Name-2.ensures.0);
    }

use Rattle.std.proofs.Common.{◌≡◌, ◌∙◌, length, false, sym, subst, arith}
use Rattle.std.proofs.lemmas.Bool.{lt-leb}
use Rattle.std.proofs.lemmas.List.Folds.{list_all-map, list_all_at}
use Rattle.bit_rows.specs.Sets.{members}
use Rattle.probe_family.specs.declared.choice.Choice.{Choice}
use Rattle.probe_family.specs.Choices.{part_of_choice}
use Rattle.probe_family.specs.Families.{has_enough}
use Rattle.probe_family.proofs.choice.have_enough.Goals as goal

-- the set at hand has fewer members than are taken
pub returns-then-choice-count : goal.returns-then-choice-count
returns-then-choice-count c =
    let choice = c.choice-item.result in
    let lacks : has_enough (part_of_choice choice) ≡ false = lt-leb choice.take (length (members choice.set.now)) (omega arith) in
    sym (list_all-map has_enough part_of_choice c.args.choices.now
    ∙ list_all_at (λ choice. has_enough (part_of_choice choice)) c.args.choices.now c.loop-choice.choice-index choice c.loop-choice-test.true
    (subst (λ (other : Choice). has_enough (part_of_choice other) ≡ false) c.choice-item.is lacks))

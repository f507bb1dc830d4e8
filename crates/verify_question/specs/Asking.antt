-- Which questions are asked.
use Rattle.std.specs.Prelude.{◌≤◌}
use Rattle.circuit_types.specs.Order.{IsTiming}
use Rattle.verify_question.specs.declared.question.Question.{Question}

-- a tuple has at most 1 to 8 probes, and the circuit runs for some cycles, where it does not settle
pub record IsAsked (question : Question) : Type 0 where
  pub least : 1 ≤ question.order
  pub most : question.order ≤ 8
  pub timing : IsTiming question.timing

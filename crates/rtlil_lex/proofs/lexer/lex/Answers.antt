use Rattle.std.proofs.Common.{◌∙◌, ap, arith, length, Ok, Err}
use Rattle.std.proofs.lemmas.Result.{err_from_is_err_and}
use Rattle.rtlil_lex.specs.Tokens.{AreTokens}
use Rattle.rtlil_lex.proofs.Steps.{step_order, loop_more, loop_end, loop_fault, answers_tokens, answers_bad, answers_open}
use Rattle.rtlil_lex.proofs.lexer.lex.Goals as goal

pub returns-in_err-take_token-clause-fault : goal.returns-in_err-take_token-clause-fault
returns-in_err-take_token-clause-fault c =
    let p = err_from_is_err_and c.from_residual.result c.from_residual.ensures.1 in
    let fault = loop_fault c.args.bytes.now _ _ _ _ _ c.loop-tokens.invariant.input c.loop-tokens.invariant.reach c.in_err-take_token.ensures.step in
    rw (p.1, p.2) fault

pub returns-in_err-take_token-clause-all_tokens : goal.returns-in_err-take_token-clause-all_tokens
returns-in_err-take_token-clause-all_tokens c =
    let p = err_from_is_err_and c.from_residual.result c.from_residual.ensures.1 in
    let fault = loop_fault c.args.bytes.now _ _ _ _ _ c.loop-tokens.invariant.input c.loop-tokens.invariant.reach c.in_err-take_token.ensures.step in
    rw (p.1, p.2) (answers_tokens c.args.bytes.now (Err _) fault)

pub returns-in_err-take_token-clause-all_bad_bytes : goal.returns-in_err-take_token-clause-all_bad_bytes
returns-in_err-take_token-clause-all_bad_bytes c =
    let p = err_from_is_err_and c.from_residual.result c.from_residual.ensures.1 in
    let fault = loop_fault c.args.bytes.now _ _ _ _ _ c.loop-tokens.invariant.input c.loop-tokens.invariant.reach c.in_err-take_token.ensures.step in
    rw (p.1, p.2) (answers_bad c.args.bytes.now (Err _) fault)

pub returns-in_err-take_token-clause-all_open_strings : goal.returns-in_err-take_token-clause-all_open_strings
returns-in_err-take_token-clause-all_open_strings c =
    let p = err_from_is_err_and c.from_residual.result c.from_residual.ensures.1 in
    let fault = loop_fault c.args.bytes.now _ _ _ _ _ c.loop-tokens.invariant.input c.loop-tokens.invariant.reach c.in_err-take_token.ensures.step in
    rw (p.1, p.2) (answers_open c.args.bytes.now (Err _) fault)

pub loop-tokens-smaller : goal.loop-tokens-smaller
loop-tokens-smaller c =
    omega (
      arith,
      step_order _ _ _ _ c.in_ok-take_token.ensures.step,
      c.skip_gap-in-loop-tokens.ensures.order,
      c.skip_gap-in-loop-tokens.new.self.within,
      ap length c.skip_gap-in-loop-tokens.ensures.input,
      ap length c.take_token.ensures.input,
      ap length c.loop-tokens.invariant.input,
    )

pub loop-tokens-preserved : goal.loop-tokens-preserved
loop-tokens-preserved c = record {
  input = c.skip_gap-in-loop-tokens.ensures.input ∙ c.take_token.ensures.input ∙ c.loop-tokens.invariant.input;
  reach = loop_more c.args.bytes.now _ _ c.loop-tokens.tokens.items _ _ _ _ c.in_ok-take_token.field-0
      c.loop-tokens.invariant.input c.take_token.ensures.input c.loop-tokens.invariant.reach c.in_ok-take_token.ensures.step
      c.skip_gap-in-loop-tokens.ensures.order c.skip_gap-in-loop-tokens.ensures.gap c.in_ok-push.ensures.items;
}

-- what was pushed is the tokens of the bytes
tokens_in_all : (c : goal.In_ok-push-2) → AreTokens c.args.bytes.now c.push-2.new.self.items
tokens_in_all c =
    loop_end c.args.bytes.now _ c.loop-tokens.tokens.items _ _ _ c.end.result
    c.loop-tokens.invariant.input c.loop-tokens.invariant.reach
    (c.is_at_end.ensures.0 c.loop-tokens-test.false)
    c.loop-tokens.cursor.counted c.end.ensures c.in_ok-push-2.ensures.items

pub returns-clause-tokens : goal.returns-clause-tokens
returns-clause-tokens c = tokens_in_all c

pub returns-clause-all_tokens : goal.returns-clause-all_tokens
returns-clause-all_tokens c = answers_tokens c.args.bytes.now (Ok c.push-2.new.self) (tokens_in_all c)

pub returns-clause-all_bad_bytes : goal.returns-clause-all_bad_bytes
returns-clause-all_bad_bytes c = answers_bad c.args.bytes.now (Ok c.push-2.new.self) (tokens_in_all c)

pub returns-clause-all_open_strings : goal.returns-clause-all_open_strings
returns-clause-all_open_strings c = answers_open c.args.bytes.now (Ok c.push-2.new.self) (tokens_in_all c)

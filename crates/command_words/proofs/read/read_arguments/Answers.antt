use Rattle.std.proofs.Common.{rules, ◌≡◌, ◌<◌, length, sym, subst}
use Rattle.command_words.specs.Names.{texts}
use Rattle.command_words.specs.Parts.{Found}
use Rattle.command_words.specs.Reading.{HasRead}
use Rattle.command_words.proofs.Written.{begins, read_one, read_too_much, read_stuck, read_all}
use Rattle.command_words.proofs.Uses.{is-none}
use Rattle.command_words.proofs.read.read_arguments.Goals as goal

pub loop-given-init : goal.loop-given-init
loop-given-init c =
    subst (λ (f : Found). HasRead (texts c.args.words.now) f (texts c.args.words.now)) (sym c.new-given.ensures) (begins (texts c.args.words.now))

pub loop-given-preserved : goal.loop-given-preserved
loop-given-preserved c =
    read_one (texts c.args.words.now) _ _ _ _ _ c.loop-given.invariant c.in_ok-argument.ensures.begins c.in_ok-given.ensures.more

pub returns-in_err-argument-clause-other : goal.returns-in_err-argument-clause-other
returns-in_err-argument-clause-other c =
    let some : 0 < length c.loop-given.rest.now = search rules in
    is-none c.from_residual.result _
    (read_stuck (texts c.args.words.now) _ c.loop-given.rest.now c.loop-given.invariant some c.in_err-argument.ensures.other)

pub returns-in_err-given-clause-other : goal.returns-in_err-given-clause-other
returns-in_err-given-clause-other c =
    is-none c.from_residual-in_err-given.result _
    (read_too_much (texts c.args.words.now) _ _ _ _ c.loop-given.invariant c.in_ok-argument.ensures.begins c.in_err-given.ensures.over)

pub returns-clause-read : goal.returns-clause-read
returns-clause-read c =
    let none : length c.loop-given.rest.now ≡ 0 = search rules in
    read_all (texts c.args.words.now) _ c.loop-given.rest.now c.loop-given.invariant none

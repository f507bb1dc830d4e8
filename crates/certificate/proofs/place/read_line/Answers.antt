use Rattle.std.proofs.Common.{ℕ, List, drop, subst, arith}
use Rattle.std.proofs.lemmas.List.{take_rest}
use Rattle.certificate.specs.declared.line.Line.{Line}
use Rattle.certificate.specs.Parts.{LineFirst}
use Rattle.certificate.proofs.OneLine.{no_line_at, rest_within, stands_at}
use Rattle.certificate.proofs.place.read_line.Goals as goal

pub returns-in_default : goal.returns-in_default
returns-in_default c =
    let none : (line : Line) (rest : List ℕ) → LineFirst (drop c.args.at c.args.bytes.now) line rest → ⊥ =
    simp take_rest at (rw c.in_default.is at c.in_ok-line.ensures) in
    no_line_at c.args.bytes.now c.args.at none

pub overflow_sub-after : goal.overflow_sub-after
overflow_sub-after c =
    let first : LineFirst (drop c.args.at c.args.bytes.now) c.in-Some.line c.in-Some.rest.now =
    simp take_rest at (rw c.in-Some.is at c.in_ok-line.ensures) in
    omega (arith, rest_within c.args.bytes.now c.args.at c.in-Some.line c.in-Some.rest.now first)

pub returns : goal.returns
returns c =
    let first : LineFirst (drop c.args.at c.args.bytes.now) c.in-Some.line c.in-Some.rest.now =
    simp take_rest at (rw c.in-Some.is at c.in_ok-line.ensures) in
    stands_at c.args.bytes.now c.args.at c.in-Some.line c.in-Some.rest.now _ c.requires first
    (omega (arith, rest_within c.args.bytes.now c.args.at c.in-Some.line c.in-Some.rest.now first))

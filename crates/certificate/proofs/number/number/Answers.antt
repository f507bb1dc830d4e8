use Rattle.std.proofs.Common.{◌≡◌, ℕ, ◌∙◌, ap, take, drop}
use Rattle.std.specs.List.{prefix_len}
use Rattle.rtlil_lex.specs.Bytes.{is_digit}
use Rattle.certificate.proofs.Numerals.{none_plain, none_fits, numeral, number_found}
use Rattle.certificate.proofs.number.number.Goals as goal

pub returns-then-not-is_plain : goal.returns-then-not-is_plain
returns-then-not-is_plain c =
    none_plain c.args.bytes.now c.split_at.result.0.now c.is_plain.result
    (c.split_at.ensures.front ∙ ap (λ (n : ℕ). take n c.args.bytes.now) c.digits.ensures.run) c.is_plain.ensures.1 c.if-not-is_plain.true

pub value_of-requires : goal.value_of-requires
value_of-requires c =
    numeral c.args.bytes.now c.split_at.result.0.now
    (c.split_at.ensures.front ∙ ap (λ (n : ℕ). take n c.args.bytes.now) c.digits.ensures.run) (c.is_plain.ensures.0 c.if-not-is_plain.false)

pub returns-in_err-number : goal.returns-in_err-number
returns-in_err-number c =
    rw c.from_residual.ensures
    (none_fits c.args.bytes.now c.split_at.result.0.now
    (c.split_at.ensures.front ∙ ap (λ (n : ℕ). take n c.args.bytes.now) c.digits.ensures.run) c.in_err-number.ensures)

pub returns : goal.returns
returns c =
    number_found c.args.bytes.now c.split_at.result.0.now c.split_at.result.1.now c.in_ok-number.number
    (c.split_at.ensures.front ∙ ap (λ (n : ℕ). take n c.args.bytes.now) c.digits.ensures.run)
    (c.split_at.ensures.back ∙ ap (λ (n : ℕ). drop n c.args.bytes.now) c.digits.ensures.run)
    (c.is_plain.ensures.0 c.if-not-is_plain.false) c.in_ok-number.ensures

use Rattle.std.proofs.Common.{◌^◌, ◌<◌, ℕ, List, Option, sym, subst}
use Rattle.std.specs.Prelude.{SomeIff}
use Rattle.std.specs.Str.Parse.{digits_value, ParsesUnsigned}
use Rattle.certificate.proofs.Numerals.{numeral_text, value_is}
use Rattle.certificate.proofs.number.value_of.Goals as goal

pub returns-in-Err : goal.returns-in-Err
returns-in-Err c = λ fits. c.in-Err.ensures.cases.0 (numeral_text c.args.digits.now c.requires)

pub returns-in-Ok : goal.returns-in-Ok
returns-in-Ok c =
    subst (λ (o : Option ℕ). SomeIff o (digits_value 10 c.args.digits.now < 2 ^ 64) (digits_value 10 c.args.digits.now)) (sym c.ok.ensures.value)
    (value_is c.args.digits.now c.parse.result c.requires
    (subst (λ (s : List ℕ). ParsesUnsigned 64 10 s c.parse.result) c.in-Ok.ensures.cases.0 c.parse.ensures.value.0))

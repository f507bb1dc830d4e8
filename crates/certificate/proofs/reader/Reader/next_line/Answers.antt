use Rattle.std.proofs.Common.{ℕ, arith, refl}
use Rattle.std.proofs.lemmas.Result.{err_from_is_err_and}
use Rattle.certificate.proofs.ReadLines.{none_stands, stands_on, stands_within}
use Rattle.certificate.proofs.reader.Reader.next_line.Goals as goal

pub returns-in_default-clause-line : goal.returns-in_default-clause-line
returns-in_default-clause-line c = (refl, refl, none_stands c.args.self.now.bytes.now c.args.self.now.place (rw c.in_default.is at c.in_ok-line.ensures))

pub invariant_of-self : goal.invariant_of-self
invariant_of-self c =
    let stands = rw c.in-Some.is at c.in_ok-line.ensures in
    record {
      within = stands_within c.args.self.now.bytes.now c.args.self.now.place c.in-Some.line c.in-Some.after stands;
      short = c.args.self.now.short;
      counted = omega (arith, c.args.self.now.counted, stands_on c.args.self.now.bytes.now c.args.self.now.place c.in-Some.line c.in-Some.after stands);
    }

pub returns-clause-line : goal.returns-clause-line
returns-clause-line c = record { stands = rw c.in-Some.is at c.in_ok-line.ensures; counted = refl }

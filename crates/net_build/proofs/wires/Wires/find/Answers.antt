use Rattle.std.proofs.Common.{◌+◌, ◌≤◌, ◌∙◌, sym, subst}
use Rattle.std.specs.Option.{IfSome}
use Rattle.circuit_types.specs.Nets.{most_bits}
use Rattle.net_build.proofs.SpanLemmas.{span_within}
use Rattle.net_build.proofs.wires.Wires.find.Goals as goal

pub returns-clause-within : goal.returns-clause-within
returns-clause-within c =
    let s = c.args.self.now in
    subst (λ o. IfSome o (λ span. span.first + span.width ≤ most_bits))
    (sym (c.find.ensures ∙ s.known c.args.name.now))
    (span_within most_bits s.list.now c.args.name.now s.within)

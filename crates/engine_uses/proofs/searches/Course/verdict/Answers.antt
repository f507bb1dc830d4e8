use Rattle.engine_uses.proofs.searches.Course.verdict.Goals as goal

pub verdict-requires-clause-search : goal.verdict-requires-clause-search
verdict-requires-clause-search g c = (c.self.inside.instance, c.self.inside.counts.t, c.self.invariant.0)

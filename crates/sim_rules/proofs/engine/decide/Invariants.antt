use Rattle.sim_rules.proofs.engine.decide.Given as goal

-- the ledger is the blank's own
abbrev pub ghosts-decide_uncounted : goal.ghosts-decide_uncounted
ghosts-decide_uncounted a = record { name = a.blank.name; parts = a.blank.parts }

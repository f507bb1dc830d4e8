use Rattle.engine_uses.proofs.counted_looks.expect.Given as goal

-- the ledger is the blank's own
abbrev pub ghosts-decide_counted : goal.ghosts-decide_counted
ghosts-decide_counted g a = record { name = a.blank.name; parts = a.blank.parts }

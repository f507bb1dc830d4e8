use Rattle.least_chain.proofs.chain.least_chain.Given as goal

-- the ledger is the blank's own
abbrev pub ghosts-make_uncounted : goal.ghosts-make_uncounted
ghosts-make_uncounted a = record { name = a.blank.name; parts = a.blank.parts }

use Rattle.chain_check.proofs.chain.is_chain.Given as goal

-- the ledger is the blank's own
abbrev pub ghosts-check_uncounted : goal.ghosts-check_uncounted
ghosts-check_uncounted a = record { name = a.blank.name; parts = a.blank.parts }

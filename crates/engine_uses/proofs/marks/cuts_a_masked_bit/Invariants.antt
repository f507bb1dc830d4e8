use Rattle.engine_uses.proofs.marks.cuts_a_masked_bit.Given as goal

-- the ledger is the one of the blank
abbrev pub ghosts-unmask : goal.ghosts-unmask
ghosts-unmask g a = record { name = a.blank.name; parts = a.blank.parts }

use Rattle.std.proofs.Common.{◌≡◌, ◌∷◌, ◌++◌, [], ◌∙◌}
use Rattle.indexmap.proofs.CallerLemmas.{insert_entry-new}
use Rattle.expr_table.proofs.Keys.{same_node, lookup-absent, keys_of-made, IsNumbered-made}
use Rattle.expr_table.proofs.table.intern.add.Goals as goal

-- the entries end with the new node
made : (c : goal.In_ok-insert) → c.insert.new.self.entries ≡ c.args.rows.now.entries ++ (c.args.node, c.len-row.result) ∷ []
made c =
    c.in_ok-insert.ensures.entries
    ∙ insert_entry-new same_node c.args.rows.now c.args.node c.len-row.result (lookup-absent c.args.rows.now.entries c.requires.numbered c.args.node c.requires.absent)

pub returns-clause-nodes : goal.returns-clause-nodes
returns-clause-nodes c = keys_of-made c.args.rows.now.entries c.requires.numbered c.args.node c.insert.new.self.entries c.len-row.result c.len-row.ensures.len (made c)

pub returns-clause-numbered : goal.returns-clause-numbered
returns-clause-numbered c = IsNumbered-made c.args.rows.now.entries c.requires.numbered c.args.node c.insert.new.self.entries c.len-row.result c.len-row.ensures.len (made c)

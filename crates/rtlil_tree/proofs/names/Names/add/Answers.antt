use Rattle.rtlil_tree.proofs.SeenLemmas.{names_new, names_more}
use Rattle.rtlil_tree.proofs.names.Names.add.Goals as goal

pub returns-clause-new : goal.returns-clause-new
returns-clause-new c = names_new c.args.name.now c.self.inside.seen c.args.self.now c.in_ok-added.added c.self.view_is c.in_ok-added.ensures.new

pub returns-clause-names : goal.returns-clause-names
returns-clause-names c = names_more c.args.name.now c.self.inside.seen c.add.new.self c.args.self.now c.self.view_is c.in_ok-added.ensures.names

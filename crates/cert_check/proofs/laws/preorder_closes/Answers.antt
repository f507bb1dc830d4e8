use Rattle.cert_check.proofs.Trees as trees
use Rattle.cert_check.proofs.laws.preorder_closes.Goals as goal

pub returns : goal.returns
returns c x waiting closed families h =
    trees.preorder_closes c.least_chain_is_full.ensures.chain c.children_are_families.ensures.families x closed waiting families h

use Rattle.std.proofs.Common.{◌≡◌, ◌∙◌, ◌++◌, ap, reverse}
use Rattle.std.proofs.lemmas.List.{append-nil}
use Rattle.probe_family.specs.Roots.{roots_of}
use Rattle.worker_pool.specs.declared.found.Found.TheVariants.{Closed}
use Rattle.worker_pool.proofs.Steps.{begins, tree_begins}
use Rattle.worker_pool.proofs.search.Search.begin.Goals as goal

pub returns : goal.returns
returns c =
    let roots : reverse c.stack_up.new.stack.items ≡ roots_of c.args.instance.now c.args.order =
    c.in_ok-stack_up.ensures ∙ (ap (λ l. c.in_ok-roots.field-0.items ++ reverse l) c.new-stack.ensures.items ∙ (append-nil c.in_ok-roots.field-0.items ∙ c.in_ok-roots.ensures.roots)) in
    begins c.args.instance.now c.args.order (reverse c.stack_up.new.stack.items) (Closed c.new.result) c.requires.few roots
    (tree_begins c.args.instance.now c.args.order c.new.result.items (reverse c.stack_up.new.stack.items) c.new.ensures.items roots)

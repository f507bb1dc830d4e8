use Rattle.std.proofs.Common.{◌≡◌, ◌∙◌, [], ◌∷◌, None, sym, subst}
use Rattle.circuit_types.specs.Items.{kept_cells}
use Rattle.net_build.specs.Faults.{faults_in, refusal_in}
use Rattle.net_build.specs.Ports.{KnowsPorts}
use Rattle.net_build.proofs.FaultLemmas.{item_joins, kept-append, parts_fine, unrefused_of}
use Rattle.net_build.proofs.GoodLemmas.{fine_item}
use Rattle.net_build.proofs.form.check_item.Goals as goal

pub returns-then-is_some-clause-faults : goal.returns-then-is_some-clause-faults
returns-then-is_some-clause-faults c = λ xs a.
    item_joins c.args.wires.now.list.now xs c.args.item.now (faults_in c.args.before) (faults_in c.item_faults.result) (faults_in c.both-faults.result) a c.item_faults.ensures c.both-faults.ensures

pub push_item-requires-clause-good : goal.push_item-requires-clause-good
push_item-requires-clause-good c =
    let none : refusal_in (faults_in c.both-faults.result) ≡ None = sym c.refusal_of.ensures ∙ unrefused_of c.refusal_of.result (sym c.is_some.ensures ∙ c.if-is_some.false) in
    fine_item c.args.wires.now.list.now c.args.item.now (kept_cells (c.args.item.now ∷ [])) (faults_in c.item_faults.result) c.item_faults.ensures
    (parts_fine (faults_in c.args.before) (faults_in c.item_faults.result) (faults_in c.both-faults.result) c.both-faults.ensures none).1

pub returns-clause-faults : goal.returns-clause-faults
returns-clause-faults c = λ xs a.
    item_joins c.args.wires.now.list.now xs c.args.item.now (faults_in c.args.before) (faults_in c.item_faults.result) (faults_in c.both-faults.result) a c.item_faults.ensures c.both-faults.ensures

pub returns-clause-ports : goal.returns-clause-ports
returns-clause-ports c = λ xs known none.
    subst (λ v. KnowsPorts c.args.wires.now.list.now v c.push_item.new.self) (sym (kept-append xs (c.args.item.now ∷ [])))
    (c.in_ok-push_item.ensures (kept_cells xs) (known (parts_fine (faults_in c.args.before) (faults_in c.item_faults.result) (faults_in c.both-faults.result) c.both-faults.ensures none).0))

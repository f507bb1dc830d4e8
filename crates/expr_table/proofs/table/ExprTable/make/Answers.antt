use Rattle.std.proofs.Common.{sym, subst, arith}
use Rattle.expr_table.specs.Table.{IsTable, leaves}
use Rattle.expr_table.proofs.Keys.{keys-numbered, IsNumbered-numbered}
use Rattle.expr_table.proofs.Leaves.{IsTable-new}
use Rattle.expr_table.proofs.table.ExprTable.make.Goals as goal

pub invariant_of-result : goal.invariant_of-result
invariant_of-result c =
    let keys = keys-numbered c.add_randoms.new.rows.entries (leaves c.args.inputs c.args.randoms) c.in_ok-add_randoms.ensures in (
      IsNumbered-numbered c.add_randoms.new.rows.entries (leaves c.args.inputs c.args.randoms) c.in_ok-add_randoms.ensures,
      subst (λ ns. IsTable (record { inputs = c.args.inputs; randoms = c.args.randoms; nodes = ns })) (sym keys) (IsTable-new c.args.inputs c.args.randoms (omega arith)),
    )

pub returns-clause-made : goal.returns-clause-made
returns-clause-made c =
    let keys = keys-numbered c.add_randoms.new.rows.entries (leaves c.args.inputs c.args.randoms) c.in_ok-add_randoms.ensures in
    λ i. record { inputs = c.args.inputs; randoms = c.args.randoms; nodes = keys i }

pub returns-clause-table : goal.returns-clause-table
returns-clause-table c = (invariant_of-result c).1

-- Evaluation with cuts. A row that is cut reads its sides no further: it has the value of the random that masks it
-- (optimistic sampling; Barthe et al., EUROCRYPT 2015). Lists of cuts have the latest cut first.
use Rattle.std.specs.Prelude.{ℕ, ◌&&◌, List, [], ◌∷◌, length, slice_set, unwrap_or}
use Rattle.expr_table.specs.declared.node.Node.{Node}
use Rattle.expr_table.specs.Table.{Table, node_at, sides, has}
use Rattle.once_random.specs.Numbers.{least_below}
use Rattle.once_random.specs.Cuts.{masks}

-- the side whose random a cut of e takes over, after these cuts: of its sides that mask it the one of least row number
abbrev pub masking_side : List Node → List ℕ → List ℕ → ℕ → ℕ
masking_side nodes roots cuts e =
    unwrap_or (least_below (length nodes) (λ side. has (sides (node_at nodes e)) side && masks nodes roots cuts e side)) e

-- The nodes after cuts: a row that is cut becomes what its masking side is by then. That is a random leaf, as the law
-- `cuts_make_randoms` says, since a side that masks is a random leaf or was cut before.
abbrev pub cut_nodes : List Node → List ℕ → List ℕ → List Node
cut_nodes nodes roots [] = nodes
cut_nodes nodes roots (e ∷ cuts) =
    slice_set (cut_nodes nodes roots cuts) e (node_at (cut_nodes nodes roots cuts) (masking_side nodes roots cuts e))

-- the table after cuts
abbrev pub cut_table : Table → List ℕ → List ℕ → Table
cut_table t roots cuts = record { inputs = t.inputs; randoms = t.randoms; nodes = cut_nodes t.nodes roots cuts }

-- The values of a table's rows, and how often they are seen.
use Rattle.std.specs.Prelude.{ℕ, Bool, List, map}
use Rattle.expr_table.specs.declared.node.Node.{Node}
use Rattle.expr_table.specs.Table.{Table, terms, term_at}
use Rattle.expr_table.specs.Values.{eval}
use Rattle.count_law.specs.Counts.{count}

-- the value of a row, where the input leaves and the random leaves have these bits
abbrev pub row_value : List Node → List Bool → List Bool → ℕ → Bool
row_value nodes inputs randoms row = eval inputs randoms (term_at (terms nodes) row)

-- the values of rows, in order
abbrev pub row_values : List Node → List ℕ → List Bool → List Bool → List Bool
row_values nodes rows inputs randoms = map (row_value nodes inputs randoms) rows

-- how many assignments of the random leaves give the rows the values o, where the input leaves have these bits
abbrev pub count_of_rows : Table → List ℕ → List Bool → List Bool → ℕ
count_of_rows t rows inputs o = count t.randoms (λ randoms. row_values t.nodes rows inputs randoms) o

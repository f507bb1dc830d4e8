-- How the table keeps its rows, each node with its row number, and what interning a gate answers and leaves.
use Rattle.std.specs.Prelude.{ℕ, ◌+◌, ◌<◌, ◌≡◌, ◌≢◌, ◌↔◌, List, [], ◌∷◌, length, Result, Err, IfOk, OnOk, OnErr}
use Rattle.std.specs.Map.{keys_of}
use Rattle.expr_table.specs.declared.node.Node.{Node}
use Rattle.expr_table.specs.declared.node.Node.TheVariants as node
use Rattle.expr_table.specs.declared.node.Row.{Row}
use Rattle.expr_table.specs.declared.table.TermStop.{TermStop}
use Rattle.expr_table.specs.declared.table.TermStop.TheVariants.{TooManyTerms, NoMemory}
use Rattle.expr_table.specs.Term.{Term}
use Rattle.expr_table.specs.Table.{Table, IsTable, IsRowOf, IsNew, IsFull, IsBelow, Extends, node_at, terms, with_term}

-- nodes, each with its row, from a first row on
abbrev pub numbered : ℕ → List Node → List (Node × ℕ)
numbered row [] = []
numbered row (n ∷ ns) = (n, row) ∷ numbered (row + 1) ns

-- each entry's value is the number of the entry
abbrev pub IsNumbered : List (Node × ℕ) → Type 0
IsNumbered entries = entries ≡ numbered 0 (keys_of entries)

-- no row has the node
abbrev pub IsAbsent : List Node → Node → Type 0
IsAbsent nodes n = (row : ℕ) → row < length nodes → node_at nodes row ≢ n

-- the rows are there, and the term of the first is less than that of the second
abbrev pub AreOrdered : List Node → Row → Row → Type 0
AreOrdered nodes a b = (a.0 < length nodes) × (b.0 < length nodes) × IsBelow nodes a b

-- a gate over rows, the lesser term first
abbrev pub IsOrderedGate : List Node → Node → Type 0
IsOrderedGate nodes (node.And a b) = AreOrdered nodes a b
IsOrderedGate nodes (node.Xor a b) = AreOrdered nodes a b
IsOrderedGate nodes n = ⊥

-- what a call that interns a term answers, and the table that it leaves
pub record Interns (s : Term) (old new : Table) (result : Result Row TermStop) : Type 0 where
  pub row : IfOk result (λ (row : Row). IsRowOf new.nodes row.0 s)
  pub terms : OnOk result (terms new.nodes ≡ with_term (terms old.nodes) s)
  pub kept : Extends old new
  pub table : IsTable new
  pub stopped : OnErr result (new ≡ old)
  pub too_many : (result ≡ Err TooManyTerms) ↔ (IsNew old s × IsFull old)
  pub no_memory : result ≡ Err NoMemory → IsNew old s

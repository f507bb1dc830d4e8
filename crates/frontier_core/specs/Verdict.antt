-- The verdict on an instance and an order.
use Rattle.std.specs.Prelude.{ℕ, ◌≡◌, None, Some}
use Rattle.expr_table.specs.declared.instance.Instance.{Instance}
use Rattle.frontier_core.specs.declared.verdict.Verdict.{Verdict}
use Rattle.frontier_core.specs.declared.verdict.Verdict.TheVariants.{Secure, Unproved}
use Rattle.frontier_core.specs.Tree.{first_of, tree_of}

-- Secure exactly where every tuple of at most t probes is proved, and then with the closed families of the proof tree, in
-- its order; else the first tuple that is not proved.
abbrev pub IsVerdict : Instance → ℕ → Verdict → Type 0
IsVerdict x t (Secure closed) = (first_of x t ≡ None) × (closed.items ≡ tree_of x t)
IsVerdict x t (Unproved tuple) = first_of x t ≡ Some tuple.items

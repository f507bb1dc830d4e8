-- Tuples of probes, their roots and bounds, and when they are proved. A tuple is a list of probe numbers.
use Rattle.std.specs.Prelude.{ℕ, Bool, false, not, List, [], ◌∷◌, ◌++◌, length, count_by, find, Option, slice_index_or}
use Rattle.expr_table.specs.declared.instance.Instance.{Instance}
use Rattle.expr_table.specs.declared.instance.Notion.{Notion}
use Rattle.expr_table.specs.declared.instance.Notion.TheVariants.{Probing, Ni, Sni}
use Rattle.expr_table.specs.declared.instance.ProbeRoots.{ProbeRoots}
use Rattle.expr_table.specs.Instance.{rows_of}
use Rattle.once_random.specs.Provable.{is_provable}

-- a probe by its number
abbrev pub probe_at : List ProbeRoots → ℕ → ProbeRoots
probe_at probes p = slice_index_or probes p (record { rows = []; output = false })

-- the rows that the probes of the tuple see
abbrev pub roots_over : List ProbeRoots → List ℕ → List ℕ
roots_over probes [] = []
roots_over probes (p ∷ ps) = rows_of (probe_at probes p) ++ roots_over probes ps

-- the rows that those of an instance see
abbrev pub roots_of : Instance → List ℕ → List ℕ
roots_of x tuple = roots_over x.probes tuple

-- how many of the tuple's probes are no probes of an output share
abbrev pub internal_probes : Instance → List ℕ → ℕ
internal_probes x tuple = count_by (λ p. not (probe_at x.probes p).output) tuple

-- How many leaves of each group the tuple may depend on: none for probing security, as many as it has probes
-- for non-interference, as many as it has internal probes for strong non-interference (Barthe et al., CCS 2016).
abbrev pub bound_of_notion : Notion → Instance → List ℕ → ℕ
bound_of_notion Probing x tuple = 0
bound_of_notion Ni x tuple = length tuple
bound_of_notion Sni x tuple = internal_probes x tuple

-- the bound by the instance's notion
abbrev pub bound_of : Instance → List ℕ → ℕ
bound_of x tuple = bound_of_notion x.notion x tuple

-- the tuple's roots are provable within its bound
unfoldable pub is_proved : Instance → List ℕ → Bool
is_proved x tuple = is_provable x (roots_of x tuple) (bound_of x tuple)

-- the first of the tuples that is not proved
abbrev pub first_unproved : Instance → List (List ℕ) → Option (List ℕ)
first_unproved x tuples = find (λ tuple. not (is_proved x tuple)) tuples

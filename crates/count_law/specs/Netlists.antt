-- Simulation over a netlist: what a tuple of probes observes. A tuple is a list of probe numbers.
use Rattle.std.specs.Prelude.{ℕ, not, Bool, List, map, length, count_by, sum_by, Option}
use Rattle.circuit_types.specs.declared.circuit.Circuit.{Circuit}
use Rattle.circuit_types.specs.declared.probes.Model.{Model}
use Rattle.circuit_types.specs.declared.probes.Probe.{Probe}
use Rattle.circuit_types.specs.declared.roles.Roles.{Roles}
use Rattle.circuit_types.specs.Probes.{observation, probe_at, probe_list}
use Rattle.circuit_types.specs.Worlds.{input_leaves, group_of, world}
use Rattle.expr_table.specs.declared.instance.Notion.{Notion}
use Rattle.expr_table.specs.declared.instance.Notion.TheVariants.{Probing, Ni, Sni}
use Rattle.term_build.specs.Leaves.{inputs_of}
use Rattle.term_build.specs.TermInstance.{random_count}
use Rattle.count_law.specs.Counts.{count}
use Rattle.count_law.specs.Simulation.{IsSimulatable, IsIndependent}

-- what the tuple observes in the world of these bits of the input leaves and of the random leaves
abbrev pub observed : Notion → Model → Roles → Circuit → List ℕ → List Bool → List Bool → List Bool
observed notion model roles circuit tuple inputs randoms =
    observation model roles circuit tuple (world (inputs_of notion) roles circuit.timing inputs randoms)

-- how many assignments of the random leaves give the tuple the observation o, where the input leaves have these bits
abbrev pub count_of_tuple : Notion → Model → Roles → Circuit → List ℕ → List Bool → List Bool → ℕ
count_of_tuple notion model roles circuit tuple inputs o =
    count (random_count notion roles circuit) (observed notion model roles circuit tuple inputs) o

-- how many bits the tuple observes
abbrev pub bits_observed : Model → Roles → Circuit → List ℕ → ℕ
bits_observed model roles circuit tuple = sum_by (λ p. length (probe_at (probe_list model roles circuit) p).seen) tuple

-- the secret bit of each input leaf; a public leaf has none
abbrev pub leaf_groups : Notion → Roles → Circuit → List (Option ℕ)
leaf_groups notion roles circuit = map (group_of roles) (input_leaves (inputs_of notion) roles circuit.timing)

-- what the tuple observes is simulatable from the set within the bound
abbrev pub IsSimulatableTuple : Notion → Model → Roles → Circuit → List ℕ → (ℕ → Bool) → ℕ → Type 0
IsSimulatableTuple notion model roles circuit tuple set bound =
    IsSimulatable (leaf_groups notion roles circuit) (count_of_tuple notion model roles circuit tuple) set bound

-- what the tuple observes does not depend on the secrets
abbrev pub IsIndependentTuple : Notion → Model → Roles → Circuit → List ℕ → Type 0
IsIndependentTuple notion model roles circuit tuple =
    IsIndependent (leaf_groups notion roles circuit) (count_of_tuple notion model roles circuit tuple)

-- How many leaves of each secret bit a tuple may depend on: none for probing security, as many as it has probes for
-- non-interference, as many as it has probes of no output share for strong non-interference (Barthe et al., CCS 2016).
abbrev pub tuple_bound : Notion → List Probe → List ℕ → ℕ
tuple_bound Probing probes tuple = 0
tuple_bound Ni probes tuple = length tuple
tuple_bound Sni probes tuple = count_by (λ p. not (probe_at probes p).output) tuple

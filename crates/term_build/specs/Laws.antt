-- What a reader may want to know of the terms.
use Rattle.std.specs.Prelude.{ℕ, ◌<◌, ◌≡◌, ◌==◌, ◌&&◌, Bool, false, List, [], ◌∷◌, map, length}
use Rattle.std.specs.Bool.{xor}
use Rattle.circuit_types.specs.declared.circuit.Circuit.{Circuit}
use Rattle.circuit_types.specs.declared.circuit.Timing.{Timing}
use Rattle.circuit_types.specs.declared.nets.Nets.{Nets}
use Rattle.circuit_types.specs.declared.nets.Source.{Source}
use Rattle.circuit_types.specs.declared.probes.Probe.{Probe}
use Rattle.circuit_types.specs.declared.roles.InputRole.{InputRole}
use Rattle.circuit_types.specs.declared.roles.Role.{Role}
use Rattle.circuit_types.specs.declared.roles.Role.TheVariants.{Share}
use Rattle.circuit_types.specs.declared.roles.Roles.{Roles}
use Rattle.circuit_types.specs.InputBits.{FitsNets}
use Rattle.circuit_types.specs.Probes.{probe_values}
use Rattle.circuit_types.specs.Value.{Assignment, value}
use Rattle.circuit_types.specs.Worlds.{secrets, world}
use Rattle.expr_table.specs.declared.instance.Instance.{Instance}
use Rattle.expr_table.specs.declared.instance.Notion.{Notion}
use Rattle.expr_table.specs.declared.instance.ProbeRoots.{ProbeRoots}
use Rattle.expr_table.specs.Instance.{rows_of}
use Rattle.expr_table.specs.Table.{terms, term_at}
use Rattle.expr_table.specs.Values.{bit, eval}
use Rattle.term_build.specs.InputTerms.{bit_term}
use Rattle.term_build.specs.Leaves.{inputs_of}
use Rattle.term_build.specs.SourceTerms.{source_term}
use Rattle.term_build.specs.TermInstance.{HasInstance, HasEachShare}

-- the world of a circuit, where the input leaves and the random leaves have these bits
abbrev pub world_of : Notion → Roles → Circuit → List Bool → List Bool → Assignment
world_of notion roles circuit given drawn = world (inputs_of notion) roles circuit.timing given drawn

-- the term of a source has the source's value, in each world and each cycle
abbrev pub TermsHaveValues : Type 0
TermsHaveValues = (notion : Notion) (roles : Roles) (circuit : Circuit) (given drawn : List Bool) (cycle : ℕ) (s : Source)
    → eval given drawn (source_term notion roles circuit cycle s) ≡ value circuit.timing circuit.nets (world_of notion roles circuit given drawn) cycle s

-- the values of the roots of a probe
abbrev pub root_values : Instance → List Bool → List Bool → ProbeRoots → List Bool
root_values x given drawn roots = map (λ row. eval given drawn (term_at (terms x.table.nodes) row)) (rows_of roots)

-- the roots of each probe have the values that the probe sees
abbrev pub RootsHaveValues : Type 0
RootsHaveValues = (notion : Notion) (roles : Roles) (circuit : Circuit) (probes : List Probe) (x : Instance) (given drawn : List Bool)
    → HasInstance notion roles circuit probes x
    → map (root_values x given drawn) x.probes ≡ map (probe_values circuit (world_of notion roles circuit given drawn)) probes

-- the exclusive or of the bits that the shares of a secret bit have
abbrev pub shares_sum : ℕ → (ℕ → Bool) → List InputRole → Bool
shares_sum s bit_value [] = false
shares_sum s bit_value (x ∷ inputs) = xor (part x.role) (shares_sum s bit_value inputs)
  where
    part : Role → Bool
    part (Share t i) = t == s && bit_value x.bit
    part other = false

-- where the secrets are given, the terms of all shares of a secret bit join to the secret bit, in each cycle
abbrev pub SharesJoin : Type 0
SharesJoin = (roles : Roles) (nets : Nets) (timing : Timing) (given drawn : List Bool) (cycle s : ℕ)
    → FitsNets roles nets → HasEachShare roles → s < length roles.secrets
    → shares_sum s (λ b. eval given drawn (bit_term secrets roles timing b cycle)) roles.inputs ≡ bit given s

-- the circuit, its roles, its probes and the notion determine the instance
abbrev pub OneInstance : Type 0
OneInstance = (notion : Notion) (roles : Roles) (circuit : Circuit) (probes : List Probe) (x y : Instance)
    → HasInstance notion roles circuit probes x → HasInstance notion roles circuit probes y → x ≡ y

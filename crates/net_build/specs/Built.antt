-- What a module that is built comes to.
use Rattle.std.specs.Prelude.{◌≡◌, List, All, Result, Ok, Err}
use Rattle.circuit_types.specs.Due.{IsClear}
use Rattle.circuit_types.specs.Nets.{net_causes, AreNets, end_in}
use Rattle.circuit_types.specs.Reads.{reads}
use Rattle.circuit_types.specs.declared.nets.Nets.{Nets}
use Rattle.circuit_types.specs.declared.nets.Source.{Source}
use Rattle.circuit_types.specs.declared.nets.Source.TheVariants as source
use Rattle.circuit_types.specs.declared.refusal.Refusal.{Refusal}
use Rattle.circuit_types.specs.declared.refusal.Stop.{Stop}
use Rattle.circuit_types.specs.declared.refusal.Stop.TheVariants.{Refused, NoMemory}
use Rattle.circuit_types.specs.declared.tree.Item.{Item}

-- the nets of a module that no refusal is due for
pub record IsAccepted (items : List Item) (n : Nets) : Type 0 where
  pub nets : AreNets items n
  pub clear : IsClear (net_causes items)

-- an input, a cell, or a constant 0 or 1
abbrev pub IsEnd : Source → Type 0
IsEnd source.Missing = ⊥
IsEnd source.Unknown = ⊥
IsEnd other = Unit {0}

-- whatever a cell or an output wire reads has a driver and is no unknown constant
abbrev pub AreReadEnds : List Item → Nets → Type 0
AreReadEnds items nets = All (λ r. IsEnd (end_in nets.sources r.bit)) (reads nets.wires items)

-- the answer is these nets, unless memory was refused
abbrev pub AnswersNets : Result Nets Stop → Nets → Type 0
AnswersNets (Ok n) nets = n ≡ nets
AnswersNets (Err NoMemory) nets = Unit {0}
AnswersNets (Err (Refused r)) nets = ⊥

-- the answer is this refusal, unless memory was refused
abbrev pub AnswersRefusal : Result Nets Stop → Refusal → Type 0
AnswersRefusal (Ok n) refusal = ⊥
AnswersRefusal (Err NoMemory) refusal = Unit {0}
AnswersRefusal (Err (Refused r)) refusal = r ≡ refusal

-- What an answer of a step says.
use Rattle.circuit_types.specs.declared.refusal.Stop.{Stop}
use Rattle.circuit_types.specs.declared.refusal.Stop.TheVariants.{Refused, NoMemory}
use Rattle.circuit_types.specs.declared.refusal.Refusal.{Refusal}

-- a refusal is as said; memory may always be refused
abbrev pub IfRefused : Stop → (Refusal → Type 0) → Type 0
IfRefused (Refused r) P = P r
IfRefused NoMemory P = Unit {0}

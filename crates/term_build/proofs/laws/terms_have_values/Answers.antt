use Rattle.circuit_types.specs.Worlds.{world}
use Rattle.term_build.specs.InputTerms.{bit_term}
use Rattle.term_build.specs.Leaves.{inputs_of}
use Rattle.term_build.proofs.TermValues.{bit-value, assigned-value}
use Rattle.term_build.proofs.laws.terms_have_values.Goals as goal

pub returns : goal.returns
returns c notion roles circuit given drawn cycle s =
    assigned-value given drawn circuit.nets (bit_term (inputs_of notion) roles circuit.timing) (world (inputs_of notion) roles circuit.timing given drawn)
    (bit-value given drawn (inputs_of notion) roles circuit.timing) circuit.timing cycle s

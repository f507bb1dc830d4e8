-- What holds of netlists and refusals whatever the bytes.
use Rattle.std.specs.Prelude.{ℕ, ◌≡◌, List}
use Rattle.circuit_types.specs.declared.refusal.Refusal.{Refusal}
use Rattle.verify_question.specs.declared.question.Question.{Question}
use Rattle.accepted_netlist.specs.Netlist.{Netlist, IsNetlistOf, IsAcceptedAs, HasRefusal}

-- bytes are the text of at most one netlist
abbrev pub OneNetlist : Type 0
OneNetlist = (bytes : List ℕ) (n m : Netlist) → IsNetlistOf bytes n → IsNetlistOf bytes m → n ≡ m

-- at most one refusal is due
abbrev pub OneRefusal : Type 0
OneRefusal =
    (asked : Question) (bytes : List ℕ) (r s : Refusal)
    → HasRefusal asked bytes r → HasRefusal asked bytes s → r ≡ s

-- none is due where a netlist is accepted
abbrev pub AcceptedOrRefused : Type 0
AcceptedOrRefused =
    (asked : Question) (bytes : List ℕ) (n : Netlist) (r : Refusal)
    → IsAcceptedAs asked bytes n → HasRefusal asked bytes r → ⊥

use Rattle.std.proofs.Common.{◌≡◌, ℕ, ◌+◌, ◌-◌, ◌<◌, ◌≤◌, true, nat_le, nat_lt, List, [], ◌∷◌, ⊎_elim, sym, subst, arith}
use Rattle.std.specs.List.{list_any}
use Rattle.std.proofs.lemmas.Bool.{cases_lt, le-leb, lt-ltb, and_from, or_left, or_right}
use Rattle.std.proofs.lemmas.List.Sums.{sum_by-cons}
use Rattle.circuit_types.specs.Items.{wires, numbered, bit_count}
use Rattle.circuit_types.specs.declared.nets.NetWire.{NetWire}
use Rattle.circuit_types.specs.declared.tree.Wire.{Wire}
use Rattle.net_build.specs.Names.{has_bit}
use Rattle.net_build.proofs.laws.each_bit_is_of_a_wire.Goals as goal

numbered_has : (first : ℕ) (vs : List Wire) (k : ℕ) → first ≤ k → k < first + bit_count (numbered first vs) → list_any (has_bit k) (numbered first vs) ≡ true
numbered_has first [] k low high = absurd (omega (arith, low, high))
numbered_has first (v ∷ vs) k low high =
    let w : NetWire = record { line = v.line; name = v.name; first = first; width = v.width; port = v.port } in
    let rest = numbered (first + v.width) vs in
    let c = sum_by-cons (λ (x : NetWire). x.width) w rest in
    ⊎_elim
    (λ l. or_left (has_bit k w) (list_any (has_bit k) rest)
    (and_from (nat_le first k) (nat_lt (k - first) v.width) (le-leb first k low) (lt-ltb (k - first) v.width (omega (arith, l, low)))))
    (λ g. or_right (has_bit k w) (list_any (has_bit k) rest) (numbered_has (first + v.width) vs k g (omega (arith, c, high))))
    (cases_lt k (first + v.width))

pub returns : goal.returns
returns c = λ items nets bit a lt.
    subst (λ ws. list_any (has_bit bit) ws ≡ true) (sym a.each_wire) (numbered_has 0 (wires items) bit (omega arith) (omega (arith, lt, a.each_bit)))

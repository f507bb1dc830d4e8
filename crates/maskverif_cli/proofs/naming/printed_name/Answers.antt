use Rattle.std.proofs.Common.{rules, ◌≡◌, ℕ, ◌+◌, ◌-◌, ◌≤◌, true, false, ltb, leb, List, [], ◌∷◌, length, None, refl, sym, ap, ◌∙◌, arith, ⊎_elim}
use Rattle.std.specs.List.{find}
use Rattle.std.proofs.lemmas.Bool.{cases_Bool, ltb-true, and_parts}
use Rattle.std.proofs.lemmas.List.Elements.{recursion_from_All}
use Rattle.circuit_types.specs.declared.nets.NetWire.{NetWire}
use Rattle.net_build.specs.Names.{has_bit, name_in, printed_name}
use Rattle.net_build.proofs.EachLemmas.{Each}
use Rattle.maskverif_cli.proofs.naming.printed_name.Goals as goal

-- no wire has a bit past all bits
no-wire : (n bit : ℕ) (w : NetWire) → n ≤ bit → w.first + w.width ≤ n → has_bit bit w ≡ false
no-wire n bit w past within =
    ⊎_elim
    (λ (t : has_bit bit w ≡ true).
    let parts = and_parts (leb w.first bit) (ltb (bit - w.first) w.width) t in
    let lt = ltb-true (bit - w.first) w.width parts.1 in
    absurd (omega (arith, lt)))
    (λ (f : has_bit bit w ≡ false). f)
    (cases_Bool (has_bit bit w))

none-has : (n bit : ℕ) (ws : List NetWire) → n ≤ bit → Each (λ w. w.first + w.width ≤ n) ws → find (has_bit bit) ws ≡ None
none-has n bit [] past h = refl
none-has n bit (w ∷ ws) past h = rw (no-wire n bit w past h.0) (none-has n bit ws past h.1)

no-name : (n bit : ℕ) (ws : List NetWire) → n ≤ bit → Each (λ w. w.first + w.width ≤ n) ws → [] ≡ printed_name ws bit
unfolding printed_name
no-name n bit ws past h = ap (λ o. name_in o bit) (sym (none-has n bit ws past h))

pub returns-then-bit-as_slice : goal.returns-then-bit-as_slice
returns-then-bit-as_slice c =
    let nets = c.args.nets.now in
    let none : c.new.result.items ≡ [] = search rules in
    let count = ap length c.as_slice.ensures in
    none ∙ no-name (length nets.sources) c.args.bit nets.wires (omega (arith, count)) (recursion_from_All (λ (w : NetWire). w.first + w.width ≤ length nets.sources) nets.wires c.requires)

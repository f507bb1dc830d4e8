-- The shape and the bits of a signal, variant by variant.
use Rattle.std.proofs.Common.{◌≡◌, ℕ, List, map, rules, ap, sym, ◌∙◌}
use Rattle.circuit_types.specs.Signals.{Shape, shape, shape_step, signal_bits, bits_step}
use Rattle.circuit_types.specs.declared.signal.Signal.{Signal}
use Rattle.circuit_types.specs.declared.signal.Value.{Value}
use Rattle.circuit_types.specs.declared.signal.Signal.TheVariants as variant
use Rattle.circuit_types.specs.declared.signal.Signal.TheOpen.{Signal-F}
use Rattle.circuit_types.specs.declared.signal.Signal.TheFolds.{fold-roll-Signal}
use Rattle.circuit_types.specs.declared.nets.SignalBit.{SignalBit}
use Rattle.circuit_types.specs.declared.nets.NetWire.{NetWire}

pub shape_value : (ws : List NetWire) (v : Value) → shape ws (variant.Value v) ≡ shape_step ws (Signal-F.Value v)
shape_value ws v = ap (shape ws) (sym (variant.rolls-Value v)) ∙ fold-roll-Signal Shape (shape_step ws) (Signal-F.Value v)

pub shape_wire : (ws : List NetWire) (name : List ℕ) → shape ws (variant.Wire name) ≡ shape_step ws (Signal-F.Wire name)
shape_wire ws name = ap (shape ws) (sym (variant.rolls-Wire name)) ∙ fold-roll-Signal Shape (shape_step ws) (Signal-F.Wire name)

pub shape_slice : (ws : List NetWire) (of : Signal) (high low : ℕ)
    → shape ws (variant.Slice of high low) ≡ shape_step ws (Signal-F.Slice (shape ws of) high low)
shape_slice ws of high low = ap (shape ws) (sym (variant.rolls-Slice of high low)) ∙ fold-roll-Signal Shape (shape_step ws) (Signal-F.Slice of high low)

pub shape_join : (ws : List NetWire) (parts : List Signal)
    → shape ws (variant.Join parts) ≡ shape_step ws (Signal-F.Join (map (shape ws) parts))
shape_join ws parts = ap (shape ws) (sym (variant.rolls-Join parts)) ∙ fold-roll-Signal Shape (shape_step ws) (Signal-F.Join parts)

pub bits_value : (ws : List NetWire) (v : Value) → signal_bits ws (variant.Value v) ≡ bits_step ws (Signal-F.Value v)
bits_value ws v = ap (signal_bits ws) (sym (variant.rolls-Value v)) ∙ fold-roll-Signal (List SignalBit) (bits_step ws) (Signal-F.Value v)

pub bits_wire : (ws : List NetWire) (name : List ℕ) → signal_bits ws (variant.Wire name) ≡ bits_step ws (Signal-F.Wire name)
bits_wire ws name = ap (signal_bits ws) (sym (variant.rolls-Wire name)) ∙ fold-roll-Signal (List SignalBit) (bits_step ws) (Signal-F.Wire name)

pub bits_slice : (ws : List NetWire) (of : Signal) (high low : ℕ)
    → signal_bits ws (variant.Slice of high low) ≡ bits_step ws (Signal-F.Slice (signal_bits ws of) high low)
bits_slice ws of high low = ap (signal_bits ws) (sym (variant.rolls-Slice of high low)) ∙ fold-roll-Signal (List SignalBit) (bits_step ws) (Signal-F.Slice of high low)

pub bits_join : (ws : List NetWire) (parts : List Signal)
    → signal_bits ws (variant.Join parts) ≡ bits_step ws (Signal-F.Join (map (signal_bits ws) parts))
bits_join ws parts = ap (signal_bits ws) (sym (variant.rolls-Join parts)) ∙ fold-roll-Signal (List SignalBit) (bits_step ws) (Signal-F.Join parts)

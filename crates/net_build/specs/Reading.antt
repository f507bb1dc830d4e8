-- What is wrong with what is read.
use Rattle.std.specs.Prelude.{◌≡◌, ℕ, Bool, true, false, List, map, filter, Option, None}
use Rattle.circuit_types.specs.declared.nets.Pin.{Pin}
use Rattle.circuit_types.specs.declared.nets.Source.{Source}
use Rattle.circuit_types.specs.declared.nets.Source.TheVariants as source
use Rattle.circuit_types.specs.declared.refusal.Refusal.{Refusal}
use Rattle.circuit_types.specs.declared.refusal.Refusal.TheVariants.{Undriven, UnknownBit}
use Rattle.net_build.specs.Faults.{least_of, else_line}
use Rattle.net_build.specs.declared.reads.ReadFaults.{ReadFaults}

abbrev pub is_missing : Source → Bool
is_missing source.Missing = true
is_missing other = false

abbrev pub is_unknown : Source → Bool
is_unknown source.Unknown = true
is_unknown other = false

-- the lines of those whose source passes the test
abbrev pub pin_lines : (Source → Bool) → List Pin → List ℕ
pin_lines test pins = map (λ p. p.line) (filter (λ p. test p.source) pins)

pub record AreReadFaults (pins : List Pin) (f : ReadFaults) : Type 0 where
  pub undriven : f.undriven ≡ least_of (pin_lines is_missing pins)
  pub unknown : f.unknown ≡ least_of (pin_lines is_unknown pins)

-- the first of them
abbrev pub read_refusal : ReadFaults → Option Refusal
read_refusal f = else_line (λ l. Undriven l) f.undriven (else_line (λ l. UnknownBit l) f.unknown None)

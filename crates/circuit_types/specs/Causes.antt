-- Why a netlist with its roles cannot be evaluated.
use Rattle.std.specs.Prelude.{ℕ, ◌<◌, ◌≡◌, not, Bool, IsTrue, List, [], ◌∷◌, length}
use Rattle.circuit_types.specs.declared.circuit.Timing.{Timing}
use Rattle.circuit_types.specs.declared.nets.Nets.{Nets}
use Rattle.circuit_types.specs.declared.refusal.Refusal.{Refusal}
use Rattle.circuit_types.specs.declared.refusal.Stop.{Stop}
use Rattle.circuit_types.specs.declared.refusal.Stop.TheVariants.{Refused, NoMemory}
use Rattle.circuit_types.specs.declared.refusal.Refusal.TheVariants.{GateLoop, RegisterLoop, ResetNotHeld, EnableNotHeld}
use Rattle.circuit_types.specs.declared.roles.Roles.{Roles}
use Rattle.circuit_types.specs.Due.{Cause, at_lines}
use Rattle.circuit_types.specs.DataSources.{cell_at}
use Rattle.circuit_types.specs.Order.{is_levelled, is_settled}
use Rattle.circuit_types.specs.Held.{held_value, has_open_reset, has_open_enable}

-- a cell at this line passes the test, which is of cells by their numbers
abbrev pub AtCell : Nets → (ℕ → Bool) → ℕ → Type 0
AtCell nets test line = (k : ℕ) × (k < length nets.cells) × IsTrue (test k) × ((cell_at nets k).line ≡ line)

-- The refusals of a netlist that cannot be evaluated, in their order. Over cycles a register waits for nothing, so there
-- the second cause is the first one again and never comes.
unfoldable pub level_causes : Roles → Timing → Nets → List Cause
level_causes roles timing nets =
    at_lines (λ line. GateLoop line) (AtCell nets (λ k. not (is_levelled nets k)))
    ∷ at_lines (λ line. RegisterLoop line) (AtCell nets (λ k. not (is_settled timing nets k)))
    ∷ at_lines (λ line. ResetNotHeld line) (AtCell nets (λ k. has_open_reset (held_value roles nets) (cell_at nets k) (cell_at nets k).kind))
    ∷ at_lines (λ line. EnableNotHeld line) (AtCell nets (λ k. has_open_enable (held_value roles nets) (cell_at nets k) (cell_at nets k).kind))
    ∷ []

-- a refusal is one of these; want of memory is no refusal
abbrev pub IsRefusal : (Refusal → Type 0) → Stop → Type 0
IsRefusal holds (Refused refusal) = holds refusal
IsRefusal holds NoMemory = Unit {0}

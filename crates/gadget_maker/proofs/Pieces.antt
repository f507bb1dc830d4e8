-- How a wire's name and one bit of a wire are written.
use Rattle.std.proofs.Common.{◌≡◌, ℕ, ◌+◌, List, [], ◌∷◌, ◌++◌, sym, ap, ◌∙◌}
use Rattle.circuit_types.specs.declared.signal.Signal.TheVariants as signal
use Rattle.circuit_types.specs.declared.signal.Signal.TheOpen.{Signal-F}
use Rattle.circuit_types.specs.declared.signal.Signal.TheFolds.{fold-roll-Signal}
use Rattle.rtlil_tree.specs.Lexemes.{id}
use Rattle.rtlil_tree.specs.Statements.{Piece, lexeme, places, pieces_step, pieces_of, nesting_step, nesting_of}
use Rattle.gadget_maker.specs.Gadget.{bit_of}

pub wire_pieces : (name : List ℕ) → pieces_of (signal.Wire name) ≡ lexeme (id name) ∷ []
wire_pieces name = ap pieces_of (sym (signal.rolls-Wire name)) ∙ fold-roll-Signal (List Piece) pieces_step (Signal-F.Wire name)

pub wire_nesting : (name : List ℕ) → nesting_of (signal.Wire name) ≡ 0
wire_nesting name = ap nesting_of (sym (signal.rolls-Wire name)) ∙ fold-roll-Signal ℕ nesting_step (Signal-F.Wire name)

pub bit_pieces : (name : List ℕ) (k : ℕ) → pieces_of (bit_of name k) ≡ lexeme (id name) ∷ places k k ∷ []
bit_pieces name k =
    ap pieces_of (sym (signal.rolls-Slice (signal.Wire name) k k))
    ∙ (fold-roll-Signal (List Piece) pieces_step (Signal-F.Slice (signal.Wire name) k k) ∙ ap (λ l. l ++ places k k ∷ []) (wire_pieces name))

pub bit_nesting : (name : List ℕ) (k : ℕ) → nesting_of (bit_of name k) ≡ 1
bit_nesting name k =
    ap nesting_of (sym (signal.rolls-Slice (signal.Wire name) k k))
    ∙ (fold-roll-Signal ℕ nesting_step (Signal-F.Slice (signal.Wire name) k k) ∙ ap (λ n. 1 + n) (wire_nesting name))

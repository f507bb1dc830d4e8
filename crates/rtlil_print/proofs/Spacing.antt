-- The text of the pieces of each kind of signal.
use Rattle.std.proofs.Common.{◌≡◌, ℕ, List, [], ◌∷◌, ◌++◌, map, take, length, ◌≤◌, refl, ap, ◌∙◌, sym, codes, append_assoc}
use Rattle.std.specs.List.{flat_map}
use Rattle.std.proofs.lemmas.Grind.{flat_map-append}
use Rattle.std.proofs.lemmas.List.{take_all}
use Rattle.circuit_types.specs.declared.signal.Signal.{Signal}
use Rattle.circuit_types.specs.declared.signal.Signal.TheVariants as signal
use Rattle.circuit_types.specs.declared.signal.Signal.TheOpen.{Signal-F}
use Rattle.circuit_types.specs.declared.signal.Signal.TheFolds.{fold-roll-Signal}
use Rattle.rtlil_tree.specs.Lexemes.{open_join, close_join}
use Rattle.rtlil_tree.specs.Statements.{Piece, lexeme, all_of, pieces_step, pieces_of}
use Rattle.rtlil_print.specs.Printed.{spaced, piece_text}

abbrev pub signal_text : Signal → List ℕ
signal_text s = spaced (pieces_of s)

pub join_pieces : (parts : List Signal) → pieces_of (signal.Join parts) ≡ lexeme open_join ∷ (all_of (map pieces_of parts) ++ lexeme close_join ∷ [])
join_pieces parts = ap pieces_of (sym (signal.rolls-Join parts)) ∙ fold-roll-Signal (List Piece) pieces_step (Signal-F.Join parts)

pub spaced-append : (ps qs : List Piece) → spaced (ps ++ qs) ≡ spaced ps ++ spaced qs
spaced-append ps qs = flat_map-append (λ piece. 32 ∷ piece_text piece) ps qs

pub all_spaced : (parts : List Signal) → spaced (all_of (map pieces_of parts)) ≡ flat_map signal_text parts
all_spaced [] = refl
all_spaced (p ∷ ps) = spaced-append (pieces_of p) (all_of (map pieces_of ps)) ∙ ap (λ l. signal_text p ++ l) (all_spaced ps)

pub join_text : (parts : List Signal) → signal_text (signal.Join parts) ≡ codes " {" ++ (flat_map signal_text parts ++ codes " }")
join_text parts =
    ap spaced (join_pieces parts)
    ∙ ap (λ l. codes " {" ++ l) (spaced-append (all_of (map pieces_of parts)) (lexeme close_join ∷ []) ∙ ap (λ l. l ++ codes " }") (all_spaced parts))

pub join_done : (start text after : List ℕ) (s : Signal) (parts items : List Signal) (i : ℕ) → s ≡ signal.Join parts → items ≡ parts → length items ≤ i
    → text ≡ (start ++ codes " {") ++ flat_map signal_text (take i items) → after ≡ text ++ codes " }" → after ≡ start ++ signal_text s
join_done start text after s parts items i is same all so_far e =
    e
    ∙ ap (λ l. l ++ codes " }") (so_far ∙ ap (λ l. (start ++ codes " {") ++ flat_map signal_text l) (take_all i items all ∙ same))
    ∙ append_assoc (start ++ codes " {") (flat_map signal_text parts) (codes " }")
    ∙ append_assoc start (codes " {") (flat_map signal_text parts ++ codes " }")
    ∙ ap (λ l. start ++ l) (sym (ap signal_text is ∙ join_text parts))

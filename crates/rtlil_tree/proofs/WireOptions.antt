-- How the reader goes through the options of a wire.
use Rattle.std.proofs.Common.{◌≡◌, ℕ, zero, suc, ◌+◌, ◌-◌, ◌<◌, List, [], ◌∷◌, drop, map, refl, ap, ◌∙◌, sym, arith, Option, Some, None, option_map}
use Rattle.std.proofs.lemmas.List.{drop-drop, drop-map}
use Rattle.rtlil_tree.specs.declared.word.Word.{Word}
use Rattle.rtlil_tree.specs.declared.options.Options.{Options}
use Rattle.rtlil_tree.specs.declared.options.WireOption.{WireOption}
use Rattle.rtlil_tree.specs.Lexemes.{Lexeme}
use Rattle.rtlil_tree.specs.Statements.{no_options, with_option}
use Rattle.rtlil_tree.specs.Said.{plain}
use Rattle.rtlil_tree.specs.Forms.{option_at, only_name, options_from}

pub options_skip : (o : Options) (n : ℕ) (xs : List Lexeme) → options_from o n xs ≡ options_from o 0 (drop n xs)
unfolding options_from
options_skip o zero xs = refl
options_skip o (suc n) [] = refl
options_skip o (suc n) (x ∷ xs) = options_skip o n xs

drop_behind : {X : Type 0} (n : ℕ) (x : X) (xs : List X) → 0 < n → drop n (x ∷ xs) ≡ drop (n - 1) xs
drop_behind zero x xs h = absurd (omega arith)
drop_behind (suc n) x xs h = ap (λ k. drop k xs) (omega arith)

pub options_more : (o : Options) (xs : List Lexeme) (w : WireOption × ℕ) → option_at xs ≡ Some w → 0 < w.1 → options_from o 0 xs ≡ options_from (with_option o w.0) 0 (drop w.1 xs)
unfolding options_from
options_more o [] w e h = absurd cc
options_more o (x ∷ xs) w e h =
    ap (λ (f : Option (WireOption × ℕ)). elim f [ Some v ↦ options_from (with_option o v.0) (v.1 - 1) xs | None ↦ option_map (λ name. (o, name)) (only_name (x ∷ xs)) ]) e
    ∙ options_skip (with_option o w.0) (w.1 - 1) xs
    ∙ ap (λ ys. options_from (with_option o w.0) 0 ys) (sym (drop_behind w.1 x xs h))

pub options_last : (o : Options) (xs : List Lexeme) → option_at xs ≡ None → options_from o 0 xs ≡ option_map (λ name. (o, name)) (only_name xs)
unfolding options_from
options_last o [] e = refl
options_last o (x ∷ xs) e =
    ap (λ (f : Option (WireOption × ℕ)). elim f [ Some v ↦ options_from (with_option o v.0) (v.1 - 1) xs | None ↦ option_map (λ name. (o, name)) (only_name (x ∷ xs)) ]) e

pub words_left : (words : List Word) (place size : ℕ) → drop size (map plain (drop place words)) ≡ map plain (drop (place + size) words)
words_left words place size = drop-map plain size (drop place words) ∙ ap (map plain) (drop-drop size place words)

pub option_moves : (words : List Word) (o : Options) (place size : ℕ) (w : WireOption) → option_at (map plain (drop place words)) ≡ Some (w, size) → 0 < size → options_from (with_option o w) 0 (map plain (drop (place + size) words)) ≡ options_from o 0 (map plain (drop place words))
option_moves words o place size w e h =
    ap (options_from (with_option o w) 0) (sym (words_left words place size)) ∙ sym (options_more o (map plain (drop place words)) (w, size) e h)

-- the same, of the words from a place on as slicing gives them
pub moves_on : (words rest : List Word) (o after : Options) (place size : ℕ) (w : WireOption) → rest ≡ drop place words → Some (w, size) ≡ option_at (map plain rest) → 0 < size → after ≡ with_option o w → options_from o 0 (map plain (drop place words)) ≡ options_from no_options 0 (map plain words) → options_from after 0 (map plain (drop (place + size) words)) ≡ options_from no_options 0 (map plain words)
moves_on words rest o after place size w is e h with all =
    ap (λ (p : Options). options_from p 0 (map plain (drop (place + size) words))) with
    ∙ option_moves words o place size w (ap (λ (r : List Word). option_at (map plain r)) (sym is) ∙ sym e) h
    ∙ all

pub ends_here : (words rest : List Word) (o : Options) (place : ℕ) → rest ≡ drop place words → None ≡ option_at (map plain rest) → options_from o 0 (map plain (drop place words)) ≡ options_from no_options 0 (map plain words) → option_map (λ name. (o, name)) (only_name (map plain rest)) ≡ options_from no_options 0 (map plain words)
ends_here words rest o place is e all =
    sym (options_last o (map plain rest) (sym e)) ∙ ap (λ (r : List Word). options_from o 0 (map plain r)) is ∙ all

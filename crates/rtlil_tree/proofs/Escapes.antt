-- The bytes of a string, one more at a time.
use Rattle.std.proofs.Common.{◌≡◌, ℕ, ◌+◌, ◌<◌, ◌≤◌, ◌==◌, List, [], ◌∷◌, ◌++◌, length, get_or, drop, refl, ap, ◌∙◌, sym, false, append_assoc}
use Rattle.std.proofs.lemmas.List.{drop_more, drop_all}
use Rattle.std.proofs.lemmas.Bool.{or_parts, cond-false}
use Rattle.std.specs.List.{list_any}
use Rattle.rtlil_tree.specs.declared.string.Escape.{Escape}
use Rattle.rtlil_tree.specs.declared.string.Escape.TheVariants as escape
use Rattle.rtlil_tree.specs.Said.{text_from, escape_step, escape_end}

pub no_escape : (raw : List ℕ) → list_any (λ b. b == 92) raw ≡ false → text_from escape.None raw ≡ raw
unfolding text_from
no_escape [] h = refl
no_escape (b ∷ bs) h =
    let parts = or_parts (b == 92) (list_any (λ x. x == 92) bs) h in
    let stays : escape_step escape.None b ≡ (escape.None, b ∷ []) = cond-false (b == 92) _ _ parts.0 in
    ap (λ (s : Escape × List ℕ). s.1 ++ text_from s.0 bs) stays ∙ ap (λ xs. b ∷ xs) (no_escape bs parts.1)

pub text_step : (raw items : List ℕ) (i : ℕ) (e : Escape) → i < length raw → (items ++ (escape_step e (get_or raw i 0)).1) ++ text_from (escape_step e (get_or raw i 0)).0 (drop (i + 1) raw) ≡ items ++ text_from e (drop i raw)
unfolding text_from
text_step raw items i e h =
    append_assoc items _ _ ∙ ap (λ rest. items ++ text_from e rest) (sym (drop_more raw i 0 h))

pub text_end : (raw : List ℕ) (i : ℕ) (e : Escape) → length raw ≤ i → text_from e (drop i raw) ≡ escape_end e
unfolding text_from
text_end raw i e h = ap (text_from e) (drop_all i raw h)

pub text_moves : (raw items items' : List ℕ) (i : ℕ) (e e' : Escape) → i < length raw → (e' ≡ (escape_step e (get_or raw i 0)).0) × (items' ≡ items ++ (escape_step e (get_or raw i 0)).1) → items ++ text_from e (drop i raw) ≡ text_from escape.None raw → items' ++ text_from e' (drop (i + 1) raw) ≡ text_from escape.None raw
text_moves raw items items' i e e' h step all =
    ap (λ (s : List ℕ). s ++ text_from e' (drop (i + 1) raw)) step.1
    ∙ ap (λ (s : Escape). (items ++ (escape_step e (get_or raw i 0)).1) ++ text_from s (drop (i + 1) raw)) step.0
    ∙ text_step raw items i e h ∙ all

pub text_ends : (raw items items' : List ℕ) (i : ℕ) (e : Escape) → length raw ≤ i → items' ≡ items ++ escape_end e → items ++ text_from e (drop i raw) ≡ text_from escape.None raw → items' ≡ text_from escape.None raw
text_ends raw items items' i e h more all = more ∙ ap (λ (s : List ℕ). items ++ s) (sym (text_end raw i e h)) ∙ all

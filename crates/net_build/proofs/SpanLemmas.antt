-- The table of names, made wire by wire.
use Rattle.std.proofs.Common.{◌≡◌, ℕ, ◌+◌, ◌<◌, ◌≤◌, Bool, true, false, cond, List, [], ◌∷◌, ◌++◌, length, take, get_or, Option, Some, None, option_map, refl, sym, ap, ◌∙◌, subst, ⊎_elim}
use Rattle.std.specs.Str.{bytes_eq}
use Rattle.std.specs.List.{find, All}
use Rattle.std.specs.Option.{IfSome, option_or}
use Rattle.std.proofs.lemmas.Bool.{cases_Bool}
use Rattle.std.proofs.lemmas.List.{take_more, take_all}
use Rattle.std.proofs.lemmas.List.Elements.{All-head, All-tail}
use Rattle.std.proofs.lemmas.List.Folds.{find-append}
use Rattle.std.proofs.lemmas.Slice.Eq.{bytes_eq-Decides}
use Rattle.name_table.specs.Names.{value_of, HasAlso}
use Rattle.circuit_types.specs.Items.{wire_named}
use Rattle.circuit_types.specs.declared.nets.NetWire.{NetWire}
use Rattle.net_build.specs.Spans.{KnowsSpans, span_of, span_named}
use Rattle.net_build.specs.declared.wires.Span.{Span}

map_cond : (b : Bool) (w : NetWire) (o : Option NetWire) → option_map span_of (cond b (Some w) o) ≡ cond b (Some (span_of w)) (option_map span_of o)
map_cond true w o = refl
map_cond false w o = refl

eq_sym : (a b : List ℕ) → bytes_eq a b ≡ bytes_eq b a
eq_sym a b =
    ⊎_elim (λ t. t ∙ sym ((bytes_eq-Decides b a).1 (sym ((bytes_eq-Decides a b).0 t))))
    (λ f. ⊎_elim (λ t. let e : a ≡ b = sym ((bytes_eq-Decides b a).0 t) in let y = (bytes_eq-Decides a b).1 e in absurd cc) (λ g. f ∙ sym g) (cases_Bool (bytes_eq b a)))
    (cases_Bool (bytes_eq a b))

map_or : (o p : Option NetWire) → option_map span_of (option_or o p) ≡ option_or (option_map span_of o) (option_map span_of p)
map_or None p = refl
map_or (Some w) p = refl

pub none_known : (t : List (List ℕ × Span)) → t ≡ [] → KnowsSpans [] t
unfolding span_named wire_named
none_known t e name = ap (value_of name) e

one_known : (ws : List NetWire) (w : NetWire) (bs : List ℕ) (t u : List (List ℕ × Span)) → HasAlso t u bs (span_of w) → bs ≡ w.name → KnowsSpans ws t → KnowsSpans (ws ++ w ∷ []) u
unfolding span_named wire_named
one_known ws w bs t u h e known name =
    let p : NetWire → Bool = λ v. bytes_eq v.name name in
    let test : bytes_eq name bs ≡ bytes_eq w.name name = ap (bytes_eq name) e ∙ eq_sym name w.name in
    h name
    ∙ (ap (λ o. option_or o (cond (bytes_eq name bs) (Some (span_of w)) None)) (known name)
    ∙ (ap (λ b. option_or (span_named ws name) (cond b (Some (span_of w)) None)) test
    ∙ sym (ap (option_map span_of) (find-append p ws (w ∷ []))
    ∙ (map_or (find p ws) (cond (p w) (Some w) None) ∙ ap (option_or (option_map span_of (find p ws))) (map_cond (p w) w None)))))

-- one wire more
pub step_known : (ws : List NetWire) (i : ℕ) (w : NetWire) (bs : List ℕ) (s : Span) (t u : List (List ℕ × Span)) → i < length ws → w ≡ get_or ws i w → bs ≡ w.name → s ≡ span_of w
    → HasAlso t u bs s → KnowsSpans (take i ws) t → KnowsSpans (take (i + 1) ws) u
step_known ws i w bs s t u lt is e q h known =
    let more : take (i + 1) ws ≡ take i ws ++ w ∷ [] = take_more ws i w lt ∙ ap (λ x. take i ws ++ x ∷ []) (sym is) in
    subst (λ v. KnowsSpans v u) (sym more) (one_known (take i ws) w bs t u (subst (HasAlso t u bs) q h) e known)

pub all_known : (ws : List NetWire) (i : ℕ) (t : List (List ℕ × Span)) → length ws ≤ i → KnowsSpans (take i ws) t → KnowsSpans ws t
all_known ws i t h known = subst (λ v. KnowsSpans v t) (take_all i ws h) known

cond_within : (most : ℕ) (b : Bool) (w : NetWire) (o : Option NetWire) → w.first + w.width ≤ most
    → IfSome (option_map span_of o) (λ span. span.first + span.width ≤ most)
    → IfSome (option_map span_of (cond b (Some w) o)) (λ span. span.first + span.width ≤ most)
cond_within most true w o h k = h
cond_within most false w o h k = k

found_within : (most : ℕ) (ws : List NetWire) (name : List ℕ) → All (λ w. w.first + w.width ≤ most) ws
    → IfSome (option_map span_of (find (λ w. bytes_eq w.name name) ws)) (λ span. span.first + span.width ≤ most)
found_within most [] name h = tt
found_within most (w ∷ ws) name h =
    cond_within most (bytes_eq w.name name) w (find (λ v. bytes_eq v.name name) ws)
    (All-head (λ (v : NetWire). v.first + v.width ≤ most) w ws h) (found_within most ws name (All-tail (λ (v : NetWire). v.first + v.width ≤ most) w ws h))

-- what a name gives is within the bits, as each wire is
pub span_within : (most : ℕ) (ws : List NetWire) (name : List ℕ) → All (λ w. w.first + w.width ≤ most) ws
    → IfSome (span_named ws name) (λ span. span.first + span.width ≤ most)
unfolding span_named wire_named
span_within most ws name h = found_within most ws name h

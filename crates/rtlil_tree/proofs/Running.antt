-- How the reader runs from line to line.
use Rattle.std.proofs.Common.{◌≡◌, ℕ, Bool, true, false, cond, List, [], ◌∷◌, ◌++◌, refl, ap, ◌∙◌, sym, Result, Ok, Err}
use Rattle.std.specs.List.{AllByRecursion}
use Rattle.circuit_types.specs.declared.refusal.Refusal.{Refusal}
use Rattle.circuit_types.specs.declared.tree.Tree.{Tree}
use Rattle.circuit_types.specs.declared.tree.Attribute.{Attribute}
use Rattle.rtlil_tree.specs.Lines.{Line}
use Rattle.rtlil_tree.specs.Placed.{AreFormed}
use Rattle.rtlil_tree.specs.Machine.{State, has_some, bad_form, unsupported, unless, step, finish, run}

-- each token has the form of its kind
abbrev pub AllFormed : List Line → Type 0
AllFormed lines = AllByRecursion (λ (line : Line). AreFormed line.tokens) lines

-- the state behind the lines, or the first error
unfoldable pub after : State → List Line → Result State Refusal
after s [] = Ok s
after s (line ∷ lines) = elim (step s line) [ Ok t ↦ after t lines | Err r ↦ Err r ]

abbrev pub tree_behind : ℕ → List Line → Result State Refusal → Result Tree Refusal
tree_behind e lines (Ok t) = run e t lines
tree_behind e lines (Err r) = Err r

abbrev pub state_behind : List Line → Result State Refusal → Result State Refusal
state_behind lines (Ok t) = after t lines
state_behind lines (Err r) = Err r

pub run_end : (e : ℕ) (s : State) → run e s [] ≡ finish e s
unfolding run
run_end e s = refl

pub run_one : (e : ℕ) (s : State) (line : Line) (lines : List Line) → run e s (line ∷ lines) ≡ tree_behind e lines (step s line)
unfolding run
run_one e s line lines = refl

pub after_end : (s : State) → after s [] ≡ Ok s
unfolding after
after_end s = refl

pub after_one : (s : State) (line : Line) (lines : List Line) → after s (line ∷ lines) ≡ state_behind lines (step s line)
unfolding after
after_one s line lines = refl

pub run_ok : (e : ℕ) (s t : State) (line : Line) (lines : List Line) → step s line ≡ Ok t → run e s (line ∷ lines) ≡ run e t lines
run_ok e s t line lines h = run_one e s line lines ∙ ap (tree_behind e lines) h

pub run_err : (e : ℕ) (s : State) (r : Refusal) (line : Line) (lines : List Line) → step s line ≡ Err r → run e s (line ∷ lines) ≡ Err r
run_err e s r line lines h = run_one e s line lines ∙ ap (tree_behind e lines) h

pub same_ok : (x : Result State Refusal) (s t : State) → x ≡ Ok s → x ≡ Ok t → s ≡ t
same_ok x s t h g = cc

run_after_from : (e : ℕ) (t : State) (a b : List Line) → ((u : State) → after u a ≡ Ok t → run e u (a ++ b) ≡ run e t b) → (r : Result State Refusal) → state_behind a r ≡ Ok t → tree_behind e (a ++ b) r ≡ run e t b
run_after_from e t a b more (Ok u) h = more u h
run_after_from e t a b more (Err r) h = absurd cc

pub run_after : (e : ℕ) (s t : State) (a b : List Line) → after s a ≡ Ok t → run e s (a ++ b) ≡ run e t b
run_after e s t [] b h = ap (λ (x : State). run e x b) (same_ok (after s []) s t (after_end s) h)
run_after e s t (line ∷ a) b h =
    run_one e s line (a ++ b) ∙ run_after_from e t a b (λ u. run_after e u t a b) (step s line) (sym (after_one s line a) ∙ h)

run_stop_from : (e : ℕ) (f : Refusal) (a b : List Line) → ((u : State) → after u a ≡ Err f → run e u (a ++ b) ≡ Err f) → (r : Result State Refusal) → state_behind a r ≡ Err f → tree_behind e (a ++ b) r ≡ Err f
run_stop_from e f a b more (Ok u) h = more u h
run_stop_from e f a b more (Err r) h = let same : r ≡ f = cc in ap (λ (x : Refusal). tree_behind e (a ++ b) (Err x)) same

pub run_stop : (e : ℕ) (s : State) (f : Refusal) (a b : List Line) → after s a ≡ Err f → run e s (a ++ b) ≡ Err f
run_stop e s f [] b h = let none : Ok s ≡ Err f = sym (after_end s) ∙ h in absurd cc
run_stop e s f (line ∷ a) b h =
    run_one e s line (a ++ b) ∙ run_stop_from e f a b (λ u. run_stop e u f a b) (step s line) (sym (after_one s line a) ∙ h)

after_after_from : (t : State) (a b : List Line) → ((u : State) → after u a ≡ Ok t → after u (a ++ b) ≡ after t b) → (r : Result State Refusal) → state_behind a r ≡ Ok t → state_behind (a ++ b) r ≡ after t b
after_after_from t a b more (Ok u) h = more u h
after_after_from t a b more (Err r) h = absurd cc

pub after_after : (s t : State) (a b : List Line) → after s a ≡ Ok t → after s (a ++ b) ≡ after t b
after_after s t [] b h = ap (λ (x : State). after x b) (same_ok (after s []) s t (after_end s) h)
after_after s t (line ∷ a) b h =
    after_one s line (a ++ b) ∙ after_after_from t a b (λ u. after_after u t a b) (step s line) (sym (after_one s line a) ∙ h)

-- one line more
pub after_more : (s t : State) (a : List Line) (line : Line) → after s a ≡ Ok t → after s (a ++ line ∷ []) ≡ step t line
after_more s t a line h = after_after s t a (line ∷ []) h ∙ after_one t line [] ∙ behind_none (step t line)
  where
    behind_none : (r : Result State Refusal) → state_behind [] r ≡ r
    behind_none (Ok u) = after_end u
    behind_none (Err r) = refl

-- ---- what a test answers

pub unless_ok : (bad : Bool) (line : ℕ) (s t : State) → unless bad line s ≡ Ok t → (bad ≡ false) × (s ≡ t)
unless_ok false line s t h = (refl, cc)
unless_ok true line s t h = absurd cc

pub unless_not : (bad : Bool) (line : ℕ) (s : State) → bad ≡ false → unless bad line s ≡ Ok s
unless_not false line s h = refl
unless_not true line s h = absurd cc

pub none_held : (held : List Attribute) → has_some held ≡ false → held ≡ []
none_held [] h = refl
none_held (a ∷ held) h = absurd cc

-- the answer, unless the name of the wire stands already
pub new_wire : (again : Bool) (line : ℕ) (x : Result State Refusal) (s : State) → cond again (bad_form line) x ≡ Ok s → (again ≡ false) × (x ≡ Ok s)
new_wire true line x s h = absurd cc
new_wire false line x s h = (refl, h)

pub foreign_stops : (foreign : Bool) (line : ℕ) (x : Result State Refusal) (s : State) → cond foreign (unsupported line) x ≡ Ok s → (foreign ≡ false) × (x ≡ Ok s)
foreign_stops true line x s h = absurd cc
foreign_stops false line x s h = (refl, h)

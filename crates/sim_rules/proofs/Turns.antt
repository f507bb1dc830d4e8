-- A row's turn while cuts are made.
use Rattle.std.proofs.Common.{◌≡◌, ◌⊎◌, ℕ, ◌+◌, ◌≤◌, true, false, not, ◌||◌, ◌==◌, List, [], ◌∷◌, ◌++◌, length, refl, sym, ap, ◌∙◌, subst, arith}
use Rattle.std.proofs.lemmas.Bool.{and_parts, and_from, eq-eqb}
use Rattle.expr_table.specs.declared.node.Node.{Node}
use Rattle.expr_table.specs.declared.node.Node.TheVariants as node
use Rattle.expr_table.specs.declared.node.Row.{Row}
use Rattle.expr_table.specs.Table.{node_at, has}
use Rattle.once_random.specs.Cuts.{is_xor}
use Rattle.once_random.specs.Live.{AreLower, is_live_parent, AreAmong, AreRows, live_parents}
use Rattle.once_random.proofs.Facts.{live-side}
use Rattle.live_rows.specs.declared.mark.Mark.{Mark}
use Rattle.live_rows.specs.Marks.{mark_at, queued_count, is_spare}
use Rattle.live_rows.specs.Shown.{Shows, live_count, serves}
use Rattle.live_rows.specs.State.{State}
use Rattle.live_rows.proofs.Facts.{roots_within, taken-has, taken-length}
use Rattle.sim_rules.specs.Cutting.{IsServing, IsCutDown}
use Rattle.sim_rules.proofs.Waiting.{parent_parts, taken_idle, taken_other, taken_cut, serves_allowed, waiting_begun, none_waits}

module _ (nodes : List Node) (lower : AreLower nodes) (roots : List ℕ) (limit : ℕ) (state : State) (row : ℕ) (steps : ℕ) (before : IsServing nodes roots limit state (row ∷ state.alone) steps) where
  within : AreRows nodes roots
  within = roots_within nodes roots before.cuts state.marks before.shows

  taken : (q : ℕ) → has (row ∷ state.alone) q ≡ (row == q || has state.alone q)
  taken q = refl

  -- no row alone reads it
  pub idle_turn : (live_parents nodes roots before.cuts row ≡ 1 → ⊥) → IsServing nodes roots limit state state.alone steps
  idle_turn idle = record {
    cuts = before.cuts;
    chain = before.chain;
    shows = before.shows;
    serving = taken_idle nodes lower roots within before.cuts (row ∷ state.alone) state.alone row taken before.serving idle;
    few = before.few;
    cost = omega (arith, before.cost);
  }

  -- the row that alone reads it is no Xor
  pub other_turn : (p after : ℕ) → is_live_parent nodes roots before.cuts row p ≡ true → is_xor (node_at nodes p) ≡ false → after ≡ steps + 1
      → IsServing nodes roots limit state state.alone after
  other_turn p after only other looked = record {
    cuts = before.cuts;
    chain = before.chain;
    shows = before.shows;
    serving = taken_other nodes lower roots within before.cuts (row ∷ state.alone) state.alone row taken before.serving p only other;
    few = before.few;
    cost = omega (arith, before.cost);
  }

  -- a spare row that one row alone reads serves a cut of it
  pub spare_serves : (p : ℕ) → is_spare (mark_at state.marks row) ≡ true → live_parents nodes roots before.cuts row ≡ 1 → is_live_parent nodes roots before.cuts row p ≡ true
      → serves nodes roots before.cuts row ≡ true
  spare_serves p spare one only =
      let parts = and_parts (mark_at state.marks row).fresh (not (mark_at state.marks row).root) spare in
      let is = parent_parts nodes lower roots within before.cuts row p only in
      let l = live-side nodes lower roots within before.cuts p row is.0 is.1 is.2 in
      and_from _ _ (sym (before.shows.fresh row l) ∙ parts.0) (and_from _ _ (sym (ap not (before.shows.root row)) ∙ parts.1) (eq-eqb _ 1 one))

  -- a live parent is marked as live
  pub live_parent : (p : ℕ) → is_live_parent nodes roots before.cuts row p ≡ true → (mark_at state.marks p).live ≡ true
  live_parent p only = before.shows.live p ∙ (parent_parts nodes lower roots within before.cuts row p only).0

  -- and as not cut
  pub uncut_parent : (p : ℕ) → is_live_parent nodes roots before.cuts row p ≡ true → (mark_at state.marks p).cut ≡ false
  uncut_parent p only = before.shows.cut p ∙ (parent_parts nodes lower roots within before.cuts row p only).1

  -- it is cut
  pub cut_turn : (p : ℕ) (a b : Row) (new : State) (looked after : ℕ) → node_at nodes p ≡ node.Xor a b → is_live_parent nodes roots before.cuts row p ≡ true
      → serves nodes roots before.cuts row ≡ true → looked ≡ steps + 1 → Shows nodes roots (p ∷ before.cuts) new.marks → AreAmong state.alone new.alone
      → ((q : ℕ) → serves nodes roots (p ∷ before.cuts) q ≡ true → (serves nodes roots before.cuts q ≡ true) ⊎ (has new.alone q ≡ true))
      → queued_count new.marks + length state.alone ≡ queued_count state.marks + length new.alone → queued_count new.marks ≤ length new.found
      → after + live_count nodes roots (p ∷ before.cuts) ≤ looked + live_count nodes roots before.cuts
      → IsServing nodes roots limit new new.alone after
  cut_turn p a b new looked after is only served look shows among gains queued few cost = record {
    cuts = p ∷ before.cuts;
    chain = (serves_allowed nodes lower roots within before.cuts row p a b is only served, before.chain);
    shows = shows;
    serving = taken_cut nodes lower roots within before.cuts (row ∷ state.alone) state.alone row taken before.serving p new.alone only served among gains;
    few = few;
    cost = omega (arith, before.cost);
  }

-- a node that is no Xor
pub not_xor : (n : Node) → ((a b : Row) → n ≡ node.Xor a b → ⊥) → is_xor n ≡ false
not_xor node.Zero none = refl
not_xor node.One none = refl
not_xor (node.Input i) none = refl
not_xor (node.Random i) none = refl
not_xor (node.And a b) none = refl
not_xor (node.Xor a b) none = absurd (none a b refl)

-- the row at the end of a list may stand at its head
pub turned : (nodes : List Node) (roots : List ℕ) (limit : ℕ) (old new : State) (row steps : ℕ) → new.marks ≡ old.marks → new.found ≡ old.found → old.alone ≡ new.alone ++ row ∷ []
    → IsServing nodes roots limit old old.alone steps → IsServing nodes roots limit new (row ∷ new.alone) steps
turned nodes roots limit old new row steps marks found alone before =
    let len = taken-length old.alone new.alone row alone in
    let queued : queued_count new.marks ≡ queued_count old.marks = ap queued_count marks in
    let many : length new.found ≡ length old.found = ap length found in
    record {
      cuts = before.cuts;
      chain = before.chain;
      shows = subst (λ (ms : List Mark). Shows nodes roots before.cuts ms) (sym marks) before.shows;
      serving = λ side e parent h xor. sym (taken-has old.alone new.alone row alone side) ∙ before.serving side e parent h xor;
      few = omega (arith, before.few);
      cost = omega (arith, before.cost);
    }

-- before any cut
pub begun : (nodes : List Node) → AreLower nodes → (roots : List ℕ) (state : State) (steps : ℕ) → Shows nodes roots [] state.marks
    → ((row : ℕ) → serves nodes roots [] row ≡ true → has state.alone row ≡ true) → queued_count state.marks ≡ length state.alone → queued_count state.marks ≤ length state.found
    → IsServing nodes roots (steps + live_count nodes roots []) state state.alone steps
begun nodes lower roots state steps shows each queued few = record {
  cuts = [];
  chain = tt;
  shows = shows;
  serving = waiting_begun nodes lower roots (roots_within nodes roots [] state.marks shows) [] state.alone each;
  few = few;
  cost = omega arith;
}

-- where none waits, the cuts are done
pub done : (nodes : List Node) → AreLower nodes → (roots : List ℕ) (limit : ℕ) (old new : State) (steps : ℕ) → new.marks ≡ old.marks → old.alone ≡ []
    → IsServing nodes roots limit old old.alone steps → IsCutDown nodes roots new
done nodes lower roots limit old new steps marks none is = record {
  cuts = is.cuts;
  chain = is.chain;
  full = none_waits nodes lower roots (roots_within nodes roots is.cuts old.marks is.shows) is.cuts old.alone none is.serving;
  shows = subst (λ (ms : List Mark). Shows nodes roots is.cuts ms) (sym marks) is.shows;
}

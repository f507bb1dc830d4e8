use Rattle.std.proofs.Common.{◌≡◌, ◌+◌, ◌<◌, ◌≤◌, ◌==◌, ◌∙◌, ℕ, true, false, get_or, length, refl, sym, ap, subst, arith}
use Rattle.std.proofs.lemmas.Bool.{eq-eqb}
use Rattle.live_rows.specs.Lists.{Held}
use Rattle.live_rows.specs.Tally.{IsTally, is_marked_leaf}
use Rattle.live_rows.proofs.Tally.{Counted, none_counted, row_within, group_within, leaf_room, leaf_counted, none_more, all_counted, leaf_of, leaf_of_none, dead_leaf}
use Rattle.live_rows.proofs.within.count_leaves.Goals as goal
use Rattle.live_rows.proofs.within.count_leaves.Goals.{then-marks-row+in-Some, then-marks-row+in_default, else-marks-row}

pub loop-place-init : goal.loop-place-init
loop-place-init g c = record {
  counts = none_counted (g.S.Looks.nodes c.args.source.now) c.args.groups.now c.args.marks.now c.args.found.now.numbers c.args.leaves.now c.requires.none;
  tally = c.requires.tally;
  room = refl;
  cost = omega arith;
}

pub bounds-marks-row : goal.bounds-marks-row
bounds-marks-row g c =
    subst (λ r. r < length c.args.marks.now) (sym c.get.ensures)
    (row_within (g.S.Looks.nodes c.args.source.now) c.args.groups.now c.args.marks.now c.args.found.now.numbers c.requires.rows c.requires.found c.loop-place.place (omega arith))

pub count_leaf-requires-clause-within : goal.count_leaf-requires-clause-within
count_leaf-requires-clause-within g c =
    let low : c.in-Some.group < length c.args.groups.now =
    group_within c.args.groups.now c.requires.groups_within c.look-node.result c.in-Some.group (sym (c.in-Some.ensures c.in-Some.group) ∙ eq-eqb c.in-Some.group c.in-Some.group refl) in
    omega arith

pub count_leaf-requires-clause-small : goal.count_leaf-requires-clause-small
count_leaf-requires-clause-small g c =
    let nodes = g.S.Looks.nodes c.args.source.now in
    let place = c.loop-place.place in
    let found = c.args.found.now.numbers in
    let here : (q : ℕ) → is_marked_leaf nodes c.args.groups.now c.args.marks.now q c.get.result ≡ (c.in-Some.group == q) =
    leaf_of nodes c.args.groups.now c.args.marks.now c.get.result c.look-node.result c.look-node.ensures.node c.if-marks-row.true c.in-Some.group c.in-Some.ensures in
    let there : is_marked_leaf nodes c.args.groups.now c.args.marks.now c.in-Some.group (get_or found place 0) ≡ true =
    subst (λ r. is_marked_leaf nodes c.args.groups.now c.args.marks.now c.in-Some.group r ≡ true) c.get.ensures (here c.in-Some.group ∙ eq-eqb c.in-Some.group c.in-Some.group refl) in
    let room : get_or c.loop-place.leaves c.in-Some.group 0 + 1 ≤ length nodes =
    leaf_room nodes c.args.groups.now c.args.marks.now found c.requires.rows c.requires.found place (omega arith) c.loop-place.leaves c.loop-place.invariant.counts c.in-Some.group there in
    omega (arith, room, c.requires.rows, c.requires.few)

pub loop-place-preserved : goal.loop-place-preserved
loop-place-preserved g c =
    let nodes = g.S.Looks.nodes c.args.source.now in
    let groups = c.args.groups.now in
    let marks = c.args.marks.now in
    let place = c.loop-place.place in
    let found = c.args.found.now.numbers in
    let leaves = c.loop-place.leaves in
    elim c.if-marks-row.branch [
      | then-marks-row+in-Some w ↦
          let group = w.in-Some.group in
          let here : (q : ℕ) → is_marked_leaf nodes groups marks q (get_or found place 0) ≡ (group == q) =
          subst (λ r. (q : ℕ) → is_marked_leaf nodes groups marks q r ≡ (group == q)) c.get.ensures
          (leaf_of nodes groups marks c.get.result w.look-node.result w.look-node.ensures.node w.if-marks-row.true group w.in-Some.ensures) in
          let low : group < length groups =
          group_within groups c.requires.groups_within w.look-node.result group (sym (w.in-Some.ensures group) ∙ eq-eqb group group refl) in
          record {
            counts = subst (λ ls. Counted nodes groups marks found ls (place + 1)) (sym (w.leaves-is ∙ w.count_leaf.ensures.leaves))
                (leaf_counted nodes groups marks found c.requires.rows c.requires.found place (omega arith) leaves c.loop-place.invariant.counts group (omega (arith, low, c.requires.few_groups)) here);
            tally = subst (λ ls. IsTally ls c.if-marks-row.counted.numbers) (sym w.leaves-is) (subst (λ (h : Held). IsTally w.count_leaf.new.leaves h.numbers) (sym w.counted-is) w.count_leaf.ensures.tally);
            room = ap (λ (h : Held). h.room) w.counted-is ∙ w.count_leaf.ensures.room ∙ c.loop-place.invariant.room;
            cost = omega (arith, w.steps-is, w.look-node.ensures.cost, c.loop-place.invariant.cost);
          }
      | then-marks-row+in_default w ↦
          let none : (q : ℕ) → is_marked_leaf nodes groups marks q (get_or found place 0) ≡ false =
          subst (λ r. (q : ℕ) → is_marked_leaf nodes groups marks q r ≡ false) c.get.ensures
          (leaf_of_none nodes groups marks c.get.result w.look-node.result w.look-node.ensures.node w.group_of.result w.in_default.is w.group_of.ensures) in
          record {
            counts = subst (λ ls. Counted nodes groups marks found ls (place + 1)) (sym w.leaves-is)
                (none_more nodes groups marks found c.requires.rows c.requires.found place (omega arith) leaves c.loop-place.invariant.counts none);
            tally = subst (λ ls. IsTally ls c.if-marks-row.counted.numbers) (sym w.leaves-is) (subst (λ (h : Held). IsTally leaves h.numbers) (sym w.counted-is) c.loop-place.invariant.tally);
            room = ap (λ (h : Held). h.room) w.counted-is ∙ c.loop-place.invariant.room;
            cost = omega (arith, w.steps-is, w.look-node.ensures.cost, c.loop-place.invariant.cost);
          }
      | else-marks-row w ↦
          let none : (q : ℕ) → is_marked_leaf nodes groups marks q (get_or found place 0) ≡ false =
          subst (λ r. (q : ℕ) → is_marked_leaf nodes groups marks q r ≡ false) c.get.ensures (dead_leaf nodes groups marks c.get.result w.if-marks-row.false) in
          record {
            counts = subst (λ ls. Counted nodes groups marks found ls (place + 1)) (sym w.leaves-is)
                (none_more nodes groups marks found c.requires.rows c.requires.found place (omega arith) leaves c.loop-place.invariant.counts none);
            tally = subst (λ ls. IsTally ls c.if-marks-row.counted.numbers) (sym w.leaves-is) (subst (λ (h : Held). IsTally leaves h.numbers) (sym w.counted-is) c.loop-place.invariant.tally);
            room = ap (λ (h : Held). h.room) w.counted-is ∙ c.loop-place.invariant.room;
            cost = omega (arith, w.steps-is, c.loop-place.invariant.cost);
          }
    ]

pub returns-clause-counts : goal.returns-clause-counts
returns-clause-counts g c =
    all_counted (g.S.Looks.nodes c.args.source.now) c.args.groups.now c.args.marks.now c.args.found.now.numbers c.requires.found c.loop-place.leaves c.loop-place.place (omega arith) c.loop-place.invariant.counts

use Rattle.std.proofs.Common.{◌≡◌, ◌∷◌, [], ◌++◌, ◌+◌, ℕ, Option, map, refl, sym, ap, ◌∙◌, arith}
use Rattle.std.specs.declared.alloc.Global.{Global}
use Rattle.std.specs.declared.vec.Vec.{Vec}
use Rattle.circuit_types.specs.Probes.{cycles}
use Rattle.circuit_types.specs.Worlds.{group_of}
use Rattle.term_build.specs.declared.leaves.Sort.TheVariants.{Input}
use Rattle.term_build.specs.Numbering.{leaves_before}
use Rattle.term_build.proofs.Grouped.{groups-no, groups-yes}
use Rattle.term_build.proofs.LeafRows.{leaves-all}
use Rattle.term_build.proofs.Numbers.{before-all}
use Rattle.term_build.proofs.groups.groups.Goals.{then-is_leaf+in_ok-push, else-is_leaf}
use Rattle.term_build.proofs.groups.groups.Goals as goal

pub loop-input-preserved : goal.loop-input-preserved
loop-input-preserved c =
    let notion = c.args.notion in
    let roles = c.args.roles.now in
    let cycle = c.loop-cycle.cycle in
    let inputs = c.as_slice-input-items.result.now in
    let i = c.loop-input.input-index in
    let same = c.as_slice-input-items.ensures in
    elim c.if-is_leaf.branch [
      | then-is_leaf+in_ok-push w ↦
          ap (λ (v : Vec (Option ℕ) Global). v.items) w.groups-is ∙ w.in_ok-push.ensures.items
          ∙ ap (λ (g : Option ℕ). c.loop-input.groups.items ++ g ∷ []) w.secret_of.ensures
          ∙ groups-yes notion roles cycle inputs i _ c.loop-input.groups.items same c.loop-input-test.true c.loop-input.invariant c.requires.roles (sym c.is_leaf.ensures ∙ w.if-is_leaf.true)
      | else-is_leaf w ↦
          ap (λ (v : Vec (Option ℕ) Global). v.items) w.groups-is
          ∙ groups-no notion roles cycle inputs i _ c.loop-input.groups.items same c.loop-input-test.true c.loop-input.invariant (sym c.is_leaf.ensures ∙ w.if-is_leaf.false)
    ]

pub loop-cycle-preserved : goal.loop-cycle-preserved
loop-cycle-preserved c =
    c.loop-input.invariant
    ∙ ap (map (group_of c.args.roles.now)) (leaves-all Input c.args.notion c.args.roles.now c.loop-cycle.cycle (c.loop-cycle.cycle + 1) c.as_slice-input-items.result.now c.loop-input.input-index refl
    c.as_slice-input-items.ensures c.loop-input-test.false)

pub returns : goal.returns
returns c =
    let last : c.loop-cycle.cycle ≡ cycles c.args.timing = omega (arith, c.cycles-cycle-end.ensures) in
    c.loop-cycle.invariant
    ∙ ap (λ n. map (group_of c.args.roles.now) (leaves_before Input c.args.notion c.args.roles.now n)) last
    ∙ ap (map (group_of c.args.roles.now)) (before-all Input c.args.notion c.args.roles.now c.args.timing)

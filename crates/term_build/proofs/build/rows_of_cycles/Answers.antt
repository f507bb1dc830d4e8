use Rattle.std.proofs.Common.{◌≤◌, ◌<◌, ◌+◌, ◌∙◌, length, subst, sym, ap, refl, arith, length-append, ◌∷◌, []}
use Rattle.std.proofs.lemmas.Result.{err_from_is_err_and}
use Rattle.std.specs.List.{flat_map, range_with_len}
use Rattle.circuit_types.specs.Probes.{cycles}
use Rattle.expr_table.specs.Table.{most_rows}
use Rattle.term_build.specs.declared.leaves.Sort.TheVariants.{Input, Random}
use Rattle.term_build.specs.Building.{AreCycles}
use Rattle.term_build.specs.InputTerms.{bit_term, made_for_inputs}
use Rattle.term_build.specs.Leaves.{inputs_of}
use Rattle.term_build.specs.TermInstance.{made_in_cycle}
use Rattle.term_build.proofs.CycleStep.{HasLeaves-kept, ShowShares-kept, bits-made, bits-read, cycle-stop, cycles-are-more, cycles-read, few-secrets, grows-more, known-leaves, shows-more}
use Rattle.term_build.proofs.Making.{ShowBits-rows, StopsAt-first}
use Rattle.term_build.proofs.Shown.{HasConstants-kept}
use Rattle.term_build.proofs.build.rows_of_cycles.Goals as goal

pub returns-in_err-shares : goal.returns-in_err-shares
returns-in_err-shares c =
    let roles = c.args.roles.now in
    let circuit = c.args.circuit.now in
    let p = err_from_is_err_and c.from_residual.result c.from_residual.ensures.1 in
    rw (p.1, p.2) (StopsAt-first c.args.table.now (made_for_inputs (inputs_of c.args.notion) roles circuit.timing) (flat_map (made_in_cycle c.args.notion roles circuit) (range_with_len 0 (cycles circuit.timing))) c.in_err-shares.field-0.0 c.in_err-shares.ensures)

pub overflow_cast-inputs : goal.overflow_cast-inputs
overflow_cast-inputs c =
    let few : c.secret_count-inputs.result ≤ most_rows = subst (λ n. n ≤ most_rows) (sym c.secret_count-inputs.ensures) (few-secrets c.args.notion c.args.roles.now c.args.circuit.now c.args.table.now c.requires.leaves) in
    omega (arith, few)

pub leaf_rows-requires-clause-known : goal.leaf_rows-requires-clause-known
leaf_rows-requires-clause-known c =
    known-leaves c.args.notion c.args.roles.now c.args.circuit.now Input c.loop-cycle.table (c.loop-cycle.cycle + 1)
    (HasLeaves-kept c.args.notion c.args.roles.now c.args.circuit.now c.args.table.now c.loop-cycle.table c.loop-cycle.invariant.grows.kept c.requires.leaves) (omega (arith, c.loop-cycle-test.true, c.cycles-cycle-end.ensures))

pub leaf_rows-requires-in-loop-cycle-clause-known : goal.leaf_rows-requires-in-loop-cycle-clause-known
leaf_rows-requires-in-loop-cycle-clause-known c =
    known-leaves c.args.notion c.args.roles.now c.args.circuit.now Random c.loop-cycle.table (c.loop-cycle.cycle + 1)
    (HasLeaves-kept c.args.notion c.args.roles.now c.args.circuit.now c.args.table.now c.loop-cycle.table c.loop-cycle.invariant.grows.kept c.requires.leaves) (omega (arith, c.loop-cycle-test.true, c.cycles-cycle-end.ensures))

pub cell_rows-requires-clause-bits : goal.cell_rows-requires-clause-bits
cell_rows-requires-clause-bits c =
    let notion = c.args.notion in
    let roles = c.args.roles.now in
    let circuit = c.args.circuit.now in
    let mid = c.loop-cycle.table in
    let cycle = c.loop-cycle.cycle in
    let constants = HasConstants-kept c.args.table.now mid c.loop-cycle.invariant.grows.kept c.requires.leaves.constants in
    let lt : cycle < cycles circuit.timing = omega (arith, c.loop-cycle-test.true, c.cycles-cycle-end.ensures) in
    ShowBits-rows mid.nodes c.in_ok-bits.bits.items (λ b. bit_term (inputs_of notion) roles circuit.timing b cycle)
    (bits-made notion roles circuit mid.nodes constants c.in_ok-given.given.rows.items c.in_ok-drawn.drawn.rows.items c.in_ok-shares.shares.items c.deref.result.now c.deref-in-loop-cycle.result.now c.deref-in-loop-cycle-2.result.now
    c.in_ok-bits.bits.items cycle (cycle + 1) refl lt c.deref.ensures.value c.deref-in-loop-cycle.ensures.value c.deref-in-loop-cycle-2.ensures.value c.in_ok-given.ensures.rows c.in_ok-drawn.ensures.rows c.loop-cycle.invariant.shares c.in_ok-bits.ensures)

pub cell_rows-requires-clause-constants : goal.cell_rows-requires-clause-constants
cell_rows-requires-clause-constants c = HasConstants-kept c.args.table.now c.loop-cycle.table c.loop-cycle.invariant.grows.kept c.requires.leaves.constants

pub cell_rows-requires-clause-done : goal.cell_rows-requires-clause-done
cell_rows-requires-clause-done c = subst (AreCycles c.loop-cycle.table.nodes) (sym c.deref-in-loop-cycle-3.ensures.value) c.loop-cycle.invariant.are

pub returns-in_err-rows : goal.returns-in_err-rows
returns-in_err-rows c =
    let notion = c.args.notion in
    let roles = c.args.roles.now in
    let circuit = c.args.circuit.now in
    let old = c.args.table.now in
    let mid = c.loop-cycle.table in
    let cycle = c.loop-cycle.cycle in
    let done = c.loop-cycle.done.items in
    let read = c.deref-in-loop-cycle-3.result.now in
    let same = c.deref-in-loop-cycle-3.ensures.value in
    let bits = c.in_ok-bits.bits.items in
    let constants = HasConstants-kept old mid c.loop-cycle.invariant.grows.kept c.requires.leaves.constants in
    let lt : cycle < cycles circuit.timing = omega (arith, c.loop-cycle-test.true, c.cycles-cycle-end.ensures) in
    let shown = bits-made notion roles circuit mid.nodes constants c.in_ok-given.given.rows.items c.in_ok-drawn.drawn.rows.items c.in_ok-shares.shares.items c.deref.result.now c.deref-in-loop-cycle.result.now c.deref-in-loop-cycle-2.result.now
    bits cycle (cycle + 1) refl lt c.deref.ensures.value c.deref-in-loop-cycle.ensures.value c.deref-in-loop-cycle-2.ensures.value c.in_ok-given.ensures.rows c.in_ok-drawn.ensures.rows c.loop-cycle.invariant.shares c.in_ok-bits.ensures in
    let stops = c.in_err-rows.ensures.makes (bit_term (inputs_of notion) roles circuit.timing) (bits-read notion roles circuit old mid done read cycle same c.loop-cycle.invariant.one_each bits shown)
    (cycles-read notion roles circuit old mid done read cycle same c.loop-cycle.invariant.one_each c.loop-cycle.invariant.shows) in
    let p = err_from_is_err_and c.from_residual-in_err-rows.result c.from_residual-in_err-rows.ensures.1 in
    rw (p.1, p.2) (cycle-stop notion roles circuit old mid done read cycle same c.loop-cycle.invariant.one_each c.in_err-rows.field-0.0 lt c.loop-cycle.invariant.grows stops)

pub loop-cycle-preserved : goal.loop-cycle-preserved
loop-cycle-preserved c =
    let notion = c.args.notion in
    let roles = c.args.roles.now in
    let circuit = c.args.circuit.now in
    let old = c.args.table.now in
    let mid = c.loop-cycle.table in
    let new = c.cell_rows.new.table in
    let cycle = c.loop-cycle.cycle in
    let done = c.loop-cycle.done.items in
    let read = c.deref-in-loop-cycle-3.result.now in
    let same = c.deref-in-loop-cycle-3.ensures.value in
    let count = c.loop-cycle.invariant.one_each in
    let bits = c.in_ok-bits.bits.items in
    let rows = c.in_ok-rows.rows in
    let all = c.push.new.self.items in
    let constants = HasConstants-kept old mid c.loop-cycle.invariant.grows.kept c.requires.leaves.constants in
    let lt : cycle < cycles circuit.timing = omega (arith, c.loop-cycle-test.true, c.cycles-cycle-end.ensures) in
    let shown = bits-made notion roles circuit mid.nodes constants c.in_ok-given.given.rows.items c.in_ok-drawn.drawn.rows.items c.in_ok-shares.shares.items c.deref.result.now c.deref-in-loop-cycle.result.now c.deref-in-loop-cycle-2.result.now
    bits cycle (cycle + 1) refl lt c.deref.ensures.value c.deref-in-loop-cycle.ensures.value c.deref-in-loop-cycle-2.ensures.value c.in_ok-given.ensures.rows c.in_ok-drawn.ensures.rows c.loop-cycle.invariant.shares c.in_ok-bits.ensures in
    let made = c.in_ok-rows.ensures.makes (bit_term (inputs_of notion) roles circuit.timing) (bits-read notion roles circuit old mid done read cycle same count bits shown)
    (cycles-read notion roles circuit old mid done read cycle same count c.loop-cycle.invariant.shows) in
    record {
      inputs = c.in_ok-given.ensures.next;
      randoms = c.in_ok-drawn.ensures.next;
      one_each = ap length c.in_ok-push.ensures.items ∙ length-append done (rows ∷ []) ∙ ap (λ n. n + 1) count;
      grows = grows-more notion roles circuit old mid done read cycle same count new rows c.loop-cycle.invariant.grows made;
      shares = ShowShares-kept mid new made.grows.kept (inputs_of notion) roles circuit.timing c.in_ok-shares.shares.items c.loop-cycle.invariant.shares;
      are = cycles-are-more mid new done rows all c.in_ok-push.ensures.items made.grows.kept c.loop-cycle.invariant.are c.in_ok-rows.ensures.are;
      shows = shows-more notion roles circuit old mid done read cycle same count new rows all c.in_ok-push.ensures.items c.loop-cycle.invariant.shows made;
    }

use Rattle.std.proofs.Common.{refl}
use Rattle.std.proofs.lemmas.Result.{err_from_is_err_and}
use Rattle.rtlil_tree.proofs.LoadMoves.{lines_start, part_loaded, loaded_less, part_not_loaded, none_taken, some_taken, taken_on, taken_less}
use Rattle.rtlil_tree.proofs.lines.Lines.advance.Goals as goal

pub loop-alloc-init : goal.loop-alloc-init
loop-alloc-init c = lines_start c.args.self.now

pub returns-then-self-clause-line : goal.returns-then-self-clause-line
returns-then-self-clause-line c = none_taken c.args.self.now c.loop-alloc.self _ c.loop-alloc.invariant (record { bytes = refl; place = refl; order = c.advance.ensures.order }) c.loop-alloc-test.ensures.line c.if-self.true

pub returns-then-self-clause-on : goal.returns-then-self-clause-on
returns-then-self-clause-on c = taken_on c.args.self.now c.loop-alloc.self _ c.loop-alloc.invariant (record { bytes = refl; place = refl; order = c.advance.ensures.order })

pub loop-alloc-smaller : goal.loop-alloc-smaller
loop-alloc-smaller c = loaded_less c.loop-alloc.self _ c.load.new.self c.in_ok-load.ensures.less (record { bytes = refl; place = refl; order = c.advance.ensures.order })

pub loop-alloc-preserved : goal.loop-alloc-preserved
loop-alloc-preserved c =
    part_loaded c.in_ok-load.field-0 c.args.self.now c.loop-alloc.self _ c.load.new.self c.in_ok-load.ensures.load c.in_ok-load.ensures.on c.loop-alloc.invariant (record { bytes = refl; place = refl; order = c.advance.ensures.order }) c.loop-alloc-test.ensures.line

pub returns-in_err-load-clause-line : goal.returns-in_err-load-clause-line
returns-in_err-load-clause-line c =
    let p = err_from_is_err_and c.from_residual.result c.from_residual.ensures.1 in
    part_not_loaded c.in_err-load.field-0.0 p.0 c.from_residual.result c.args.self.now c.loop-alloc.self _ c.load.new.self c.in_err-load.ensures.load p.1 p.2 c.loop-alloc.invariant (record { bytes = refl; place = refl; order = c.advance.ensures.order })

pub returns-clause-line : goal.returns-clause-line
returns-clause-line c = some_taken c.args.self.now c.loop-alloc.self _ c.loop-alloc.invariant (record { bytes = refl; place = refl; order = c.advance.ensures.order }) c.loop-alloc-test.ensures.line

pub returns-clause-on : goal.returns-clause-on
returns-clause-on c = taken_on c.args.self.now c.loop-alloc.self _ c.loop-alloc.invariant (record { bytes = refl; place = refl; order = c.advance.ensures.order })

pub returns-clause-less : goal.returns-clause-less
returns-clause-less c = λ h. taken_less c.args.self.now c.loop-alloc.self _ c.loop-alloc.invariant (record { bytes = refl; place = refl; order = c.advance.ensures.order }) (c.loop-alloc-test.ensures.less refl)

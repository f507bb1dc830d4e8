use Rattle.std.proofs.Common.{◌+◌, List, [], ◌∷◌, ◌++◌, get_or, refl, sym, ap, ◌∙◌}
use Rattle.std.proofs.lemmas.List.{take_rest}
use Rattle.std.proofs.lemmas.Result.{err_from_is_err_and}
use Rattle.circuit_types.specs.declared.signal.Signal.{Signal}
use Rattle.circuit_types.specs.declared.signal.Signal.TheVariants as signal
use Rattle.rtlil_tree.specs.declared.keyword.Keyword.TheVariants.{Attribute}
use Rattle.rtlil_tree.specs.declared.word.Word.{Word}
use Rattle.rtlil_tree.specs.declared.word.Word.TheVariants as word
use Rattle.rtlil_tree.proofs.Joins.{at_slice, at_no_slice, at_bad_slice, at_deep_join, at_bad_join, at_open_join, at_join, at_atom, at_no_atom, parts_exit, none_unless, stops_none, unless_none}
use Rattle.rtlil_tree.proofs.signals.+parts.Goals as goal

abbrev first : Word
first = word.Key Attribute

pub returns-in_default-slice_at : goal.returns-in_default-slice_at
returns-in_default-slice_at t c =
    at_no_slice c.args.words.now _ c.args.start c.args.depth c.loop-place.place _ c.loop-place.signals.items c.loop-place.invariant c.loop-place-test.true c.in-OpenSlice.is
    (take_rest c.args.words.now (c.loop-place.place + 1)) c.in_default-slice_at.ensures.places

pub returns-in_err-sliced-in-OpenSlice : goal.returns-in_err-sliced-in-OpenSlice
returns-in_err-sliced-in-OpenSlice t c =
    let p = err_from_is_err_and c.from_residual.result c.from_residual.ensures.1 in
    parts_exit c.from_residual.result p.0 c.in_err-sliced-in-OpenSlice.field-0.0 c.args.words.now c.args.start c.args.depth p.1 p.2
    (none_unless c.in_err-sliced-in-OpenSlice.field-0.0 c.args.words.now c.args.start c.args.depth (λ no_form.
    at_bad_slice c.args.words.now _ c.args.start c.args.depth c.loop-place.place c.in-Some.high c.in-Some.low c.in-Some.size _ c.loop-place.signals.items c.loop-place.invariant c.loop-place-test.true c.in-OpenSlice.is
    (take_rest c.args.words.now (c.loop-place.place + 1)) c.in-Some.ensures.places (stops_none _ _ no_form c.in_err-sliced-in-OpenSlice.ensures)))

pub loop-place-preserved-in-OpenSlice : goal.loop-place-preserved-in-OpenSlice
loop-place-preserved-in-OpenSlice t c =
    at_slice c.args.words.now _ c.args.start c.args.depth c.loop-place.place c.in-Some.high c.in-Some.low c.in-Some.size _ c.loop-place.signals.items c.sliced.new.signals.items c.loop-place.invariant c.loop-place-test.true c.in-OpenSlice.is
    (take_rest c.args.words.now (c.loop-place.place + 1)) c.in-Some.ensures.places c.in-Some.ensures.size c.in_ok-sliced-in-OpenSlice.ensures

pub returns-then-depth-ge-MOST_NESTING : goal.returns-then-depth-ge-MOST_NESTING
returns-then-depth-ge-MOST_NESTING t c =
    at_deep_join c.args.words.now c.args.start c.args.depth c.loop-place.place _ c.loop-place.signals.items c.loop-place.invariant c.loop-place-test.true c.in-OpenJoin.is c.if-depth-ge-MOST_NESTING.true

pub returns-in_err-inner-in-OpenJoin : goal.returns-in_err-inner-in-OpenJoin
returns-in_err-inner-in-OpenJoin t c =
    let p = err_from_is_err_and c.from_residual-in_err-inner-in-OpenJoin.result c.from_residual-in_err-inner-in-OpenJoin.ensures.1 in
    parts_exit c.from_residual-in_err-inner-in-OpenJoin.result p.0 c.in_err-inner-in-OpenJoin.field-0.0 c.args.words.now c.args.start c.args.depth p.1 p.2
    (none_unless c.in_err-inner-in-OpenJoin.field-0.0 c.args.words.now c.args.start c.args.depth (λ no_form.
    at_bad_join c.args.words.now c.args.start c.args.depth c.loop-place.place _ c.loop-place.signals.items c.loop-place.invariant c.loop-place-test.true c.in-OpenJoin.is c.if-depth-ge-MOST_NESTING.false
    (unless_none _ _ _ _ no_form c.in_err-inner-in-OpenJoin.ensures)))

pub returns-then-not-closes : goal.returns-then-not-closes
returns-then-not-closes t c =
    at_open_join c.args.words.now _ c.args.start c.args.depth c.loop-place.place c.in_ok-inner-in-OpenJoin.after _ c.loop-place.signals.items c.in_ok-inner-in-OpenJoin.inner.items c.loop-place.invariant c.loop-place-test.true c.in-OpenJoin.is
    c.if-depth-ge-MOST_NESTING.false c.in_ok-inner-in-OpenJoin.ensures (take_rest c.args.words.now c.in_ok-inner-in-OpenJoin.after) (sym c.if-not-closes.ensures)

pub loop-place-preserved-in-OpenJoin : goal.loop-place-preserved-in-OpenJoin
loop-place-preserved-in-OpenJoin t c =
    at_join c.args.words.now _ c.args.start c.args.depth c.loop-place.place c.in_ok-inner-in-OpenJoin.after _ c.loop-place.signals.items c.in_ok-inner-in-OpenJoin.inner.items c.push.new.self.items c.loop-place.invariant c.loop-place-test.true c.in-OpenJoin.is
    c.if-depth-ge-MOST_NESTING.false c.in_ok-inner-in-OpenJoin.ensures (take_rest c.args.words.now c.in_ok-inner-in-OpenJoin.after) (sym c.if-not-closes.ensures) (c.in_ok-push-in-OpenJoin.ensures.items ∙ ap (λ (l : List Signal). c.loop-place.signals.items ++ signal.Join l ∷ []) c.from_vec.ensures)

pub returns-in_err-atom-in_default : goal.returns-in_err-atom-in_default
returns-in_err-atom-in_default t c =
    let p = err_from_is_err_and c.from_residual-in_err-atom-in_default.result c.from_residual-in_err-atom-in_default.ensures.1 in
    parts_exit c.from_residual-in_err-atom-in_default.result p.0 c.in_err-atom-in_default.field-0.0 c.args.words.now c.args.start c.args.depth p.1 p.2
    (none_unless c.in_err-atom-in_default.field-0.0 c.args.words.now c.args.start c.args.depth (λ no_form.
    at_no_atom c.args.words.now c.args.start c.args.depth c.loop-place.place first (get_or c.args.words.now c.loop-place.place first) c.loop-place.signals.items c.loop-place.invariant c.loop-place-test.true refl
    c.in_default.not-OpenSlice c.in_default.not-OpenJoin c.in_default.not-CloseJoin (stops_none _ _ no_form c.in_err-atom-in_default.ensures)))

pub loop-place-preserved : goal.loop-place-preserved
loop-place-preserved t c =
    at_atom c.args.words.now c.args.start c.args.depth c.loop-place.place first (get_or c.args.words.now c.loop-place.place first) c.in_ok-atom-in_default.field-0 c.loop-place.signals.items c.push-in_default.new.self.items c.loop-place.invariant c.loop-place-test.true refl
    c.in_ok-atom-in_default.ensures c.in_ok-push-in_default.ensures.items

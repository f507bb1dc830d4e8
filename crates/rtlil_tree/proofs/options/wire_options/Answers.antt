use Rattle.std.proofs.Common.{length, ap, ◌∙◌, arith, option_map}
use Rattle.std.proofs.lemmas.List.{take_rest, length-drop}
use Rattle.rtlil_tree.proofs.WireOptions.{moves_on, ends_here}
use Rattle.rtlil_tree.proofs.options.wire_options.Goals as goal

pub loop-option-preserved : goal.loop-option-preserved
loop-option-preserved c =
    let words = c.args.words.now in
    let rest = take_rest words c.loop-option.place in
    record {
      within = omega (arith, ap length rest, length-drop c.loop-option.place words, c.in-Some.ensures.size);
      reads = moves_on words _ c.loop-option.options c.with-options.result c.loop-option.place c.in-Some.size c.in-Some.option rest c.in-Some.ensures.option c.in-Some.ensures.size.0 c.with-options.ensures c.loop-option.invariant.reads;
    }

pub returns-in-Some-only_name : goal.returns-in-Some-only_name
returns-in-Some-only_name c =
    let words = c.args.words.now in
    ap (option_map (λ name. (c.loop-option.options, name))) c.in-Some-only_name.ensures
    ∙ ends_here words _ c.loop-option.options c.loop-option.place (take_rest words c.loop-option.place) c.in_default.ensures.option c.loop-option.invariant.reads

pub returns-in-None : goal.returns-in-None
returns-in-None c =
    let words = c.args.words.now in
    ap (option_map (λ name. (c.loop-option.options, name))) c.in-None.ensures
    ∙ ends_here words _ c.loop-option.options c.loop-option.place (take_rest words c.loop-option.place) c.in_default.ensures.option c.loop-option.invariant.reads

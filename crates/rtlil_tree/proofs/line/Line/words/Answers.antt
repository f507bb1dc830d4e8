use Rattle.std.proofs.Common.{◌∙◌, sym, ap, map}
use Rattle.std.proofs.lemmas.List.{map_push}
use Rattle.rtlil_tree.specs.Said.{plain}
use Rattle.rtlil_tree.proofs.LineLemmas.{words_more, words_stop, words_end}
use Rattle.rtlil_tree.proofs.line.Line.words.Goals as goal

pub returns-in_default : goal.returns-in_default
returns-in_default c =
    words_stop c.args.self.now.bytes.now c.args.self.now.tokens.now c.loop-token.token-index _ (map plain c.loop-token.words.items) c.loop-token-test.true (sym c.in_default.ensures) c.loop-token.invariant

pub loop-token-preserved : goal.loop-token-preserved
loop-token-preserved c =
    words_more c.args.self.now.bytes.now c.args.self.now.tokens.now c.loop-token.token-index _ (map plain c.loop-token.words.items) _ (plain c.in-Some.word) c.loop-token-test.true (sym c.in-Some.ensures)
    (ap (map plain) c.in_ok-push.ensures.items ∙ map_push plain c.loop-token.words.items c.in-Some.word) c.loop-token.invariant

pub returns : goal.returns
returns c = words_end c.args.self.now.bytes.now c.args.self.now.tokens.now c.loop-token.token-index (map plain c.loop-token.words.items) c.loop-token-test.false c.loop-token.invariant

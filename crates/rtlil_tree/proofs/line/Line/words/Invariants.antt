use Rattle.std.proofs.Common.{◌≡◌, ◌++◌, drop, map, option_map}
use Rattle.rtlil_tree.specs.Lines.{spelled}
use Rattle.rtlil_tree.specs.Said.{plain, lexemes_of}
use Rattle.rtlil_tree.proofs.line.Line.words.Given as goal

abbrev pub invariant-loop-token : goal.invariant-loop-token
invariant-loop-token l =
    option_map (λ xs. map plain l.words.items ++ xs) (lexemes_of (map (spelled l.self.bytes.now) (drop l.token-index l.self.tokens.now))) ≡ lexemes_of (map (spelled l.self.bytes.now) l.self.tokens.now)

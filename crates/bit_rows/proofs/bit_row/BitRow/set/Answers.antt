use Rattle.std.proofs.Common.{◌≡◌, ◌≢◌, List, ℕ, ◌<◌, ◌++◌, take, drop, true, sym, ap, ◌∙◌, subst, length, slice_set, arith}
use Rattle.bit_rows.specs.Sets.{set_of}
use Rattle.bit_rows.specs.Words.{words_bit, IsRow}
use Rattle.bit_rows.proofs.Rows.{row-room, row-within, written_back, changed-row, changed-set}
use Rattle.bit_rows.proofs.bit_row.BitRow.set.Goals as goal

pub set-requires : goal.set-requires
set-requires c =
    omega (arith, row-within c.self.inside.len c.self.inside.words.items c.args.self.now c.self.view_is c.args.i c.requires, row-room c.self.inside.len c.self.inside.words.items c.self.invariant, ap (λ (words : List ℕ). length words) c.deref_mut.ensures.value)

within : (c : goal.After-self-1) → c.args.i < c.self.inside.len
within c = row-within c.self.inside.len c.self.inside.words.items c.args.self.now c.self.view_is c.args.i c.requires

-- the words as they were
abbrev words : goal.After-self-1 → List ℕ
words c = c.self.inside.words.items

same_len : (c : goal.After-self-1) → length c.set.new.words ≡ length (words c)
same_len c = c.set.auto.words ∙ ap (λ (ws : List ℕ). length ws) c.deref_mut.ensures.value

back : (c : goal.After-self-1) → take c.self.inside.words.len (c.set.new.words ++ drop (length c.set.new.words) (words c)) ≡ c.set.new.words
back c = written_back c.self.inside.words.len c.set.new.words (words c) (c.set.auto.words ∙ c.deref_mut.ensures.len)

others : (c : goal.After-self-1) → (k : ℕ) → k ≢ c.args.i → words_bit c.set.new.words k ≡ words_bit (words c) k
others c k other = c.set.ensures.others k other ∙ ap (λ ws. words_bit ws k) c.deref_mut.ensures.value

pub invariant_of-self : goal.invariant_of-self
invariant_of-self c =
    subst (IsRow c.self.inside.len) (sym (back c)) (changed-row c.self.inside.len (words c) c.self.invariant c.args.i (within c) true c.set.new.words (same_len c) c.set.ensures.bit (others c))

pub returns : goal.returns
returns c =
    ap (λ ws. set_of c.self.inside.len (words_bit ws)) (back c)
    ∙ changed-set c.self.inside.len (words c) c.self.invariant c.args.i (within c) true c.set.new.words (same_len c) c.set.ensures.bit (others c)
    ∙ ap (λ flags. slice_set flags c.args.i true) c.self.view_is

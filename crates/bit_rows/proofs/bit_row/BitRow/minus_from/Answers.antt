use Rattle.std.proofs.Common.{◌≡◌, List, ℕ, not, ◌&&◌, ◌++◌, take, drop, sym, ap, ◌∙◌, subst, length}
use Rattle.bit_rows.specs.Sets.{set_of, minus}
use Rattle.bit_rows.specs.Words.{words_bit, IsRow}
use Rattle.bit_rows.proofs.Rows.{same_lengths, same_word_count, written_back, minus-row, minus-set}
use Rattle.bit_rows.proofs.bit_row.BitRow.minus_from.Goals as goal

-- the words of either set as they were
abbrev xs : goal.After-self-1 → List ℕ
xs c = c.self.inside.words.items

abbrev ys : goal.After-self-1 → List ℕ
ys c = c.other.inside.words.items

same : (c : goal.After-self-1) → c.self.inside.len ≡ c.other.inside.len
same c = same_lengths c.self.inside.len c.other.inside.len (xs c) (ys c) c.args.self.now c.args.other.now c.self.view_is c.other.view_is c.requires

pub clear_all-requires : goal.clear_all-requires
clear_all-requires c =
    let same_len : c.self.inside.len ≡ c.other.inside.len = same_lengths c.self.inside.len c.other.inside.len c.self.inside.words.items c.other.inside.words.items c.args.self.now c.args.other.now c.self.view_is c.other.view_is c.requires in
    ap (λ (ws : List ℕ). length ws) c.deref_mut.ensures.value
    ∙ same_word_count c.self.inside.len c.other.inside.len c.self.inside.words.items c.other.inside.words.items c.self.invariant c.other.invariant same_len
    ∙ sym (ap (λ (ws : List ℕ). length ws) c.deref.ensures.value)

same_len : (c : goal.After-self-1) → length c.clear_all.new.words ≡ length (xs c)
same_len c = c.clear_all.auto.words ∙ ap (λ (ws : List ℕ). length ws) c.deref_mut.ensures.value

back : (c : goal.After-self-1) → take c.self.inside.words.len (c.clear_all.new.words ++ drop (length c.clear_all.new.words) (xs c)) ≡ c.clear_all.new.words
back c = written_back c.self.inside.words.len c.clear_all.new.words (xs c) (c.clear_all.auto.words ∙ c.deref_mut.ensures.len)

each : (c : goal.After-self-1) → (i : ℕ) → words_bit c.clear_all.new.words i ≡ (words_bit (xs c) i && not (words_bit (ys c) i))
each c i = c.clear_all.ensures i ∙ ap (λ ws. words_bit ws i && not (words_bit c.deref.result.now i)) c.deref_mut.ensures.value ∙ ap (λ ws. words_bit (xs c) i && not (words_bit ws i)) c.deref.ensures.value

pub invariant_of-self : goal.invariant_of-self
invariant_of-self c =
    subst (IsRow c.self.inside.len) (sym (back c)) (minus-row c.self.inside.len c.other.inside.len (xs c) (ys c) c.clear_all.new.words c.self.invariant c.other.invariant (same c) (same_len c) (each c))

pub returns : goal.returns
returns c =
    ap (λ ws. set_of c.self.inside.len (words_bit ws)) (back c)
    ∙ minus-set c.self.inside.len c.other.inside.len (xs c) (ys c) c.clear_all.new.words c.self.invariant c.other.invariant (same c) (same_len c) (each c)
    ∙ ap (λ flags. minus flags (set_of c.other.inside.len (words_bit (ys c)))) c.self.view_is
    ∙ ap (minus c.args.self.now) c.other.view_is

use Rattle.std.proofs.Common.{◌≡◌, List, ℕ, true, ◌↔◌, sym, ap, ◌∙◌, length}
use Rattle.bit_rows.specs.Sets.{is_subset}
use Rattle.bit_rows.specs.Words.{words_bit}
use Rattle.bit_rows.proofs.Rows.{row_set, same_lengths, same_word_count, subset-rows}
use Rattle.bit_rows.proofs.bit_row.BitRow.is_subset.Goals as goal

pub are_within-requires : goal.are_within-requires
are_within-requires c =
    let same_len : c.self.inside.len ≡ c.other.inside.len = same_lengths c.self.inside.len c.other.inside.len c.self.inside.words.items c.other.inside.words.items c.args.self.now c.args.other.now c.self.view_is c.other.view_is c.requires in
    ap (λ (ws : List ℕ). length ws) c.deref.ensures.value
    ∙ same_word_count c.self.inside.len c.other.inside.len c.self.inside.words.items c.other.inside.words.items c.self.invariant c.other.invariant same_len
    ∙ sym (ap (λ (ws : List ℕ). length ws) c.deref-2.ensures.value)

pub returns : goal.returns
returns c =
    let xs : List ℕ = c.self.inside.words.items in
    let ys : List ℕ = c.other.inside.words.items in
    let x_is : c.deref.result.now ≡ xs = c.deref.ensures.value in
    let y_is : c.deref-2.result.now ≡ ys = c.deref-2.ensures.value in
    let iff : (c.are_within.result ≡ true) ↔ ((i : ℕ) → words_bit xs i ≡ true → words_bit ys i ≡ true) =
    ((λ yes i x. sym (ap (λ ws. words_bit ws i) y_is) ∙ c.are_within.ensures.0 yes i (ap (λ ws. words_bit ws i) x_is ∙ x)), (λ each. c.are_within.ensures.1 (λ i x. ap (λ ws. words_bit ws i) y_is ∙ each i (sym (ap (λ ws. words_bit ws i) x_is) ∙ x)))) in
    subset-rows c.self.inside.len c.other.inside.len xs ys c.self.invariant c.other.invariant c.are_within.result iff
    ∙ ap (λ flags. is_subset flags (row_set c.other.inside.len ys)) c.self.view_is
    ∙ ap (is_subset c.args.self.now) c.other.view_is

use Rattle.std.proofs.Common.{◌≡◌, List, Bool, sym, ap, ◌∙◌, length, arith}
use Rattle.std.proofs.lemmas.Bool.{both_ways}
use Rattle.bit_rows.specs.Sets.{is_subset}
use Rattle.bit_rows.proofs.Facts.{is_subset-itself, subsets_same}
use Rattle.bit_rows.proofs.bit_row.BitRow.same.Goals as goal

pub returns-then-is_subset : goal.returns-then-is_subset
returns-then-is_subset c =
    let x : List Bool = c.args.self.now in
    let y : List Bool = c.args.other.now in
    let len : length x ≡ length y = omega arith in (
      (λ yes. subsets_same x y len (sym c.is_subset.ensures ∙ c.if-is_subset.true) (sym c.is_subset-then-is_subset.ensures ∙ yes)),
      (λ same. c.is_subset-then-is_subset.ensures ∙ ap (λ flags. is_subset flags x) (sym same) ∙ is_subset-itself x),
    )

pub returns-else-is_subset : goal.returns-else-is_subset
returns-else-is_subset c = (
  (λ yes. absurd (both_ways c.is_subset.result c.if-is_subset.false yes)),
  (λ same. c.is_subset.ensures ∙ ap (λ flags. is_subset flags c.args.other.now) same ∙ is_subset-itself c.args.other.now),
)

use Rattle.std.proofs.Common.{◌≡◌, ◌-◌, ◌<◌, ◌≤◌, ◌^◌, ℕ, List, length, get_or, sym, ap, subst, ◌∙◌, arith}
use Rattle.tuple_rank.specs.Choices.{choose}
use Rattle.tuple_rank.proofs.Choosing.{choose-within}
use Rattle.tuple_rank.proofs.Places.{length-tuples}
use Rattle.tuple_rank.proofs.Order.{tuple-within}
use Rattle.tuple_rank.proofs.Placing.{IsPlaced, placed_none, placed_all, placed_step, no_more}
use Rattle.tuple_rank.proofs.binomials.Binomials.place.Goals as goal

pub loop-x-init : goal.loop-x-init
loop-x-init c =
    let n : ℕ = c.args.self.now.n in
    let numbers : List ℕ = c.args.tuple.now.items in
    subst (IsPlaced n numbers 0 0 0) (sym c.len-left.ensures.value) (placed_none n numbers (tuple-within n c.args.self.now.t numbers c.requires))

pub overflow_sub-place : goal.overflow_sub-place
overflow_sub-place c =
    let n : ℕ = c.args.self.now.n in
    let numbers : List ℕ = c.args.tuple.now.items in
    let i : ℕ = c.loop-x.x-index in
    let x : ℕ = get_or c.as_slice-x-items.result.now i 0 in
    let left : ℕ = c.loop-x.left in
    let x_is : x ≡ get_or numbers i 0 = ap (λ xs. get_or xs i 0) c.as_slice-x-items.ensures.value in
    let in_numbers : i < length numbers = omega (arith, ap length c.as_slice-x-items.ensures.value) in
    let all : c.choose.result ≡ choose (n - c.loop-x.low) left = c.choose.ensures.number ∙ ap (λ m. choose (m - c.loop-x.low) left) c.n-n.ensures.n in
    let after : c.choose-in-loop-x.result ≡ choose (n - x) left = c.choose-in-loop-x.ensures.number ∙ ap (λ m. choose (m - x) left) c.n-n.ensures.n in
    omega (arith, no_more n numbers i c.loop-x.place c.loop-x.low left x c.loop-x.invariant in_numbers x_is)

pub overflow_add-place : goal.overflow_add-place
overflow_add-place c =
    let n : ℕ = c.args.self.now.n in
    let numbers : List ℕ = c.args.tuple.now.items in
    let left : ℕ = c.loop-x.left in
    let all : c.choose.result ≡ choose (n - c.loop-x.low) left = c.choose.ensures.number ∙ ap (λ m. choose (m - c.loop-x.low) left) c.n-n.ensures.n in
    let few : choose n (length numbers) ≤ 2 ^ 62 = omega (arith, choose-within n (length numbers) c.args.self.now.t c.requires.some (omega (arith, c.requires.few)), length-tuples n c.args.self.now.t, c.n-n.ensures.small) in
    omega (arith, c.loop-x.invariant.room)

pub loop-x-preserved : goal.loop-x-preserved
loop-x-preserved c =
    let n : ℕ = c.args.self.now.n in
    let numbers : List ℕ = c.args.tuple.now.items in
    let i : ℕ = c.loop-x.x-index in
    let x : ℕ = get_or c.as_slice-x-items.result.now i 0 in
    let left : ℕ = c.loop-x.left in
    let x_is : x ≡ get_or numbers i 0 = ap (λ xs. get_or xs i 0) c.as_slice-x-items.ensures.value in
    let in_numbers : i < length numbers = omega (arith, ap length c.as_slice-x-items.ensures.value) in
    let all : c.choose.result ≡ choose (n - c.loop-x.low) left = c.choose.ensures.number ∙ ap (λ m. choose (m - c.loop-x.low) left) c.n-n.ensures.n in
    let after : c.choose-in-loop-x.result ≡ choose (n - x) left = c.choose-in-loop-x.ensures.number ∙ ap (λ m. choose (m - x) left) c.n-n.ensures.n in
    placed_step n numbers i c.loop-x.place c.loop-x.low left x c.loop-x.invariant in_numbers x_is c.choose.result c.choose-in-loop-x.result all after

pub returns : goal.returns
returns c = placed_all c.args.self.now.n c.args.tuple.now.items c.loop-x.x-index c.loop-x.place c.loop-x.low c.loop-x.left c.loop-x.invariant (omega (arith, ap length c.as_slice-x-items.ensures.value))

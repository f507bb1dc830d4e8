use Rattle.std.proofs.Common.{◌≡◌, ◌≤◌, ◌<◌, ℕ, length, get_or}
use Rattle.family_split.proofs.Insides.{restored}
use Rattle.family_split.proofs.numbers.step_down.Given as goal

abbrev pub invariant-loop-i : goal.invariant-loop-i
invariant-loop-i l = record {
  restored : l.numbers ≡ restored l.parts l.initial.numbers l.i;
  zeros : (k : ℕ) → l.i ≤ k → k < length l.initial.numbers → get_or l.initial.numbers k 0 ≡ 0;
}

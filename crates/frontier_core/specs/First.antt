-- What it means of the tuples of at most t probes that one is the first which is not proved, and that none is.
use Rattle.std.specs.Prelude.{ℕ, IsTrue, IsFalse, List, length}
use Rattle.expr_table.specs.declared.instance.Instance.{Instance}
use Rattle.once_random.specs.Tuples.{is_proved}
use Rattle.tuple_rank.specs.Tuples.{IsTuple, is_before}

-- each tuple of at most t probes is proved
abbrev pub AreAllProved : Instance → ℕ → Type 0
AreAllProved x t = (tuple : List ℕ) → IsTuple (length x.probes) t tuple → IsTrue (is_proved x tuple)

-- The tuple of at most t probes is not proved, and each one before it is: each shorter one, and each as long that comes
-- before it lexicographically.
pub record IsFirstUnproved (x : Instance) (t : ℕ) (tuple : List ℕ) : Type 0 where
  pub is : IsTuple (length x.probes) t tuple
  pub fails : IsFalse (is_proved x tuple)
  pub before : (other : List ℕ) → IsTuple (length x.probes) t other → IsTrue (is_before other tuple) → IsTrue (is_proved x other)

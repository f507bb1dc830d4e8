-- What each step on a word tells the seat that makes it: its view after the step, and what the loaded word has to be.
use Rattle.std.specs.Prelude.{◌≡◌, ℕ, ◌+◌, ◌^◌, ◌<◌, ◌≤◌, ◌⊎◌, true, All, Contains}
use Rattle.atomic_table.specs.Table.{Me, Step}
use Rattle.open_count.specs.declared.view.CountView.{CountView}
use Rattle.open_count.specs.Views.{no_rank, after_split, after_close, after_open_now, after_fail, after_best, after_stop, after_stopped}

-- a best word that a seat with this view may load
pub record IsNextBest (v : CountView) (word : ℕ) : Type 0 where
  pub rank : (word ≡ no_rank) ⊎ (word < 2 ^ 62)
  pub failed : All (λ r. word ≤ r) v.failed
  pub loaded : All (λ b. word ≤ b) v.bests_seen

-- a stop word that a seat with this view may load
pub record IsNextStop (v : CountView) (word : ℕ) : Type 0 where
  pub bit : (word ≡ 0) ⊎ (word ≡ 1)
  pub stopped : v.stopped ≡ true → word ≡ 1
  pub loaded : Contains v.stops_seen 1 → word ≡ 1

module _ (s : Step (Unit {0})) (old : Me (Unit {0}) CountView) (found : ℕ) (new : Me (Unit {0}) CountView) where
  -- the open word grew by one less than the children
  abbrev pub Splits : Type 0
  Splits = new.0 ≡ after_split old.0 (s.first + 1)

  abbrev pub Closes : Type 0
  Closes = new.0 ≡ after_close old.0

  abbrev pub LoadsOpen : Type 0
  LoadsOpen = new.0 ≡ after_open_now old.0 found

  abbrev pub Fails : Type 0
  Fails = new.0 ≡ after_fail old.0 s.first

  abbrev pub LoadsBest : Type 0
  LoadsBest = (new.0 ≡ after_best old.0 found) × IsNextBest old.0 found

  abbrev pub Stops : Type 0
  Stops = new.0 ≡ after_stop old.0

  abbrev pub LoadsStop : Type 0
  LoadsStop = (new.0 ≡ after_stopped old.0 found) × IsNextStop old.0 found

-- The rule of the words: what the open, the best and the stop word are, between any two steps, by the views of all seats.
-- A seat that was dropped keeps its view among them. So the rule counts the seats too: a table gives out as many as there are workers, and no other.
use Rattle.std.specs.Prelude.{◌≡◌, ℕ, ◌+◌, ◌%◌, ◌^◌, ◌<◌, ◌≤◌, ◌⊎◌, List, [], ◌∷◌, All, Contains, length, sum_by, min}
use Rattle.std.specs.List.{flat_map, list_any}
use Rattle.atomic_table.specs.Table.{State}
use Rattle.open_count.specs.declared.rule.Setup.{Setup}
use Rattle.open_count.specs.declared.view.CountView.{CountView}
use Rattle.open_count.specs.Views.{no_rank, stop_entry}

-- the splits that all seats counted
abbrev pub all_splits : List CountView → ℕ
all_splits views = sum_by (λ v. v.splits) views

-- the families that all seats closed
abbrev pub all_closes : List CountView → ℕ
all_closes views = sum_by (λ v. v.closes) views

-- the children that all seats counted
abbrev pub all_children : List CountView → ℕ
all_children views = sum_by (λ v. v.children) views

-- the seats that may still be made
abbrev pub all_spare : List CountView → ℕ
all_spare views = sum_by (λ v. v.spare) views

-- the ranks that any seat failed
abbrev pub all_failed : List CountView → List ℕ
all_failed views = flat_map (λ v. v.failed) views

-- the best words that any seat loaded
abbrev pub loaded_bests : List CountView → List ℕ
loaded_bests views = flat_map (λ v. v.bests_seen) views

-- the stop words that any seat loaded
abbrev pub loaded_stops : List CountView → List ℕ
loaded_stops views = flat_map (λ v. v.stops_seen) views

-- the least of the ranks, and 2 ^ 64 - 1 where there are none
abbrev pub least_word : List ℕ → ℕ
least_word [] = no_rank
least_word (r ∷ rs) = min r (least_word rs)

-- the rule
pub record ObeysRule (roots workers open_word best_word stop_word : ℕ) (views : List CountView) : Type 0 where
  -- the seats that were made and those that may still be made are the workers
  pub seats : length views + all_spare views ≡ workers
  -- modulo 2 ^ 64, the open word is the roots and all children that were counted, less all splits and closes
  pub counted : (open_word + (all_splits views + all_closes views)) % 2 ^ 64 ≡ (roots + all_children views) % 2 ^ 64
  -- a failed rank is no word that stands for none
  pub ranks : All (λ r. r < 2 ^ 62) (all_failed views)
  -- the best word is the least failed rank, or 2 ^ 64 - 1 for none
  pub best : best_word ≡ least_word (all_failed views)
  -- a best word that was loaded is none, or a rank that some seat failed
  pub loaded : All (λ b. (b ≡ no_rank) ⊎ Contains (all_failed views) b) (loaded_bests views)
  -- it is never below the best word
  pub lowered : All (λ b. best_word ≤ b) (loaded_bests views)
  -- the stop word is 1 where some seat stopped, and else 0
  pub stop : stop_word ≡ stop_entry (list_any (λ v. v.stopped) views)
  -- a stop that was seen was set
  pub seen : Contains (loaded_stops views) 1 → stop_word ≡ 1

-- the table has the three words, and they obey the rule with the views of all seats
abbrev pub IsKept : Setup → State (Unit {0}) CountView → Type 0
IsKept setup s =
    (open_word best_word stop_word : ℕ)
    × (s.words ≡ open_word ∷ best_word ∷ stop_word ∷ [])
    × ObeysRule setup.roots setup.workers open_word best_word stop_word s.views

-- the views give the words: there is one open, one best and one stop word that obey the rule with them
abbrev pub ViewsGiveWords : Type 0
ViewsGiveWords = (roots workers o b s o' b' s' : ℕ) (views : List CountView)
    → o < 2 ^ 64 → ObeysRule roots workers o b s views → o' < 2 ^ 64 → ObeysRule roots workers o' b' s' views → (o ≡ o') × (b ≡ b') × (s ≡ s')

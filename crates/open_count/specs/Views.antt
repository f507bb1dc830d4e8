-- A seat's view: what the seat has done and seen, and what each call adds to it.
use Rattle.std.specs.Prelude.{ℕ, ◌+◌, ◌-◌, ◌∷◌, [], ◌++◌, Bool, true, false, Option, Some, None}
use Rattle.open_count.specs.declared.view.CountView.{CountView}

-- a seat that has done and seen nothing, and makes no seat
abbrev pub newcomer : CountView
newcomer = record { spare = 0; splits = 0; children = 0; closes = 0; failed = []; opens_seen = []; bests_seen = []; stopped = false; stops_seen = [] }

-- one that may still make so many seats
abbrev pub newcomer_with : ℕ → CountView
newcomer_with spare = record newcomer { spare = spare }

-- a seat was made
abbrev pub after_another : CountView → CountView
after_another v = record v { spare = v.spare - 1 }

-- a family gave so many children
abbrev pub after_split : CountView → ℕ → CountView
after_split v children = record v { splits = v.splits + 1; children = v.children + children }

-- a family gave none
abbrev pub after_close : CountView → CountView
after_close v = record v { closes = v.closes + 1 }

-- the open word was loaded
abbrev pub after_open_now : CountView → ℕ → CountView
after_open_now v word = record v { opens_seen = v.opens_seen ++ word ∷ [] }

-- a rank failed
abbrev pub after_fail : CountView → ℕ → CountView
after_fail v rank = record v { failed = v.failed ++ rank ∷ [] }

-- the best word was loaded
abbrev pub after_best : CountView → ℕ → CountView
after_best v word = record v { bests_seen = v.bests_seen ++ word ∷ [] }

-- the stop word was set
abbrev pub after_stop : CountView → CountView
after_stop v = record v { stopped = true }

-- the stop word was loaded
abbrev pub after_stopped : CountView → ℕ → CountView
after_stopped v word = record v { stops_seen = v.stops_seen ++ word ∷ [] }

-- the best word where no rank was failed: 2 ^ 64 - 1
abbrev pub no_rank : ℕ
no_rank = 18446744073709551615

-- the best word that an answer stands for
abbrev pub best_entry : Option ℕ → ℕ
best_entry (Some rank) = rank
best_entry None = no_rank

-- the stop word that an answer stands for
abbrev pub stop_entry : Bool → ℕ
stop_entry true = 1
stop_entry false = 0

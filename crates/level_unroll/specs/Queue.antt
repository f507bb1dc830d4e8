-- What the queue keeps while cells are put in order.
use Rattle.std.specs.Prelude.{ℕ, ◌<◌, ◌≤◌, ◌≡◌, ◌==◌, Bool, false, IsTrue, IsFalse, List, [], ◌∷◌, length, reverse, Option, None, Some, slice_index, slice_index_or, if◌then◌else◌}
use Rattle.std.specs.List.{list_any, list_all}
use Rattle.std.specs.Ordering.{nat_cmp}
use Rattle.std.specs.BTreeSet as set
use Rattle.circuit_types.specs.declared.nets.NetCell.{NetCell}
use Rattle.circuit_types.specs.declared.nets.Nets.{Nets}
use Rattle.circuit_types.specs.declared.nets.Source.{Source}
use Rattle.circuit_types.specs.declared.nets.Source.TheVariants.{Cell}
use Rattle.circuit_types.specs.DataSources.{cell_at}
use Rattle.circuit_types.specs.Order.{has, is_ready, may_be_next}
use Rattle.level_unroll.specs.declared.queue.Queue.{Queue}
use Rattle.level_unroll.specs.declared.queue.Wait.{Wait}

-- the flag of a number
abbrev pub is_in : List Bool → ℕ → Bool
is_in flags i = slice_index_or flags i false

-- the source is this cell
abbrev pub is_cell : ℕ → Source → Bool
is_cell c (Cell k) = k == c
is_cell c other = false

-- one of the sources is this cell
abbrev pub reads_cell : List Source → ℕ → Bool
reads_cell sources c = list_any (is_cell c) sources

-- a cell among the sources that is not in the set, or none where each source is ready
abbrev pub Awaits : (ℕ → Bool) → List Source → Option ℕ → Type 0
Awaits done sources None = IsTrue (list_all (is_ready done) sources)
Awaits done sources (Some c) = IsFalse (done c) × IsTrue (reads_cell sources c)

-- a source that is a cell has a number below n
abbrev pub IsBelow : ℕ → Source → Type 0
IsBelow n (Cell k) = k < n
IsBelow n other = Unit {0}

abbrev pub is_listed : Queue → ℕ → Bool
is_listed q = is_in q.listed.items

-- the cell may be next
abbrev pub stands_ready : Queue → ℕ → Bool
stands_ready q k = set.contains nat_cmp q.ready k

-- The cells of the wait with this number and of the waits that it is linked to. The list has the latest wait first.
unfoldable pub cells_from : List Wait → ℕ → List ℕ
cells_from [] number = []
cells_from (w ∷ ws) number = if number == length (w ∷ ws) then w.cell ∷ cells_from ws w.earlier else cells_from ws number

-- each wait is linked to one before it, or to none; the list has the latest wait first
abbrev pub AreLinked : List Wait → Type 0
AreLinked [] = Unit {0}
AreLinked (w ∷ ws) = (w.earlier ≤ length ws) × AreLinked ws

abbrev pub waiting_from : Queue → ℕ → List ℕ
waiting_from q number = cells_from (reverse q.waits.items) number

-- the waits of the one queue have their numbers and links in the other, which may have more
abbrev pub HasWaits : Queue → Queue → Type 0
HasWaits old new = (number : ℕ) → number ≤ length old.waits.items → (number ≤ length new.waits.items) × (waiting_from new number ≡ waiting_from old number)

-- the cell waits for the cell c
abbrev pub waits_for : Queue → ℕ → ℕ → Bool
waits_for q k c = has (waiting_from q (slice_index q.latest.items c)) k

-- Each cell that is not listed stands ready or waits for a cell that is not listed; but not yet those that are late.
pub record IsQueue (reads : NetCell → List Source) (nets : Nets) (late : ℕ → Bool) (q : Queue) : Type 0 where
  pub one_flag_each : length q.listed.items ≡ length nets.cells
  pub one_number_each : length q.latest.items ≡ length nets.cells
  pub numbered : (c : ℕ) → slice_index q.latest.items c ≤ length q.waits.items
  pub linked : AreLinked (reverse q.waits.items)
  pub each_ready : (k : ℕ) → IsTrue (stands_ready q k) → (k < length nets.cells) × IsTrue (may_be_next reads nets (is_listed q) k)
  pub each_waiting : (c k : ℕ) → IsFalse (is_listed q c) → IsTrue (waits_for q k c) → (k < length nets.cells) × IsFalse (is_listed q k) × IsTrue (reads_cell (reads (cell_at nets k)) c)
  pub each_placed : (k : ℕ) → k < length nets.cells → IsFalse (is_listed q k) → IsFalse (late k) → IsFalse (stands_ready q k) → (c : ℕ) × IsFalse (is_listed q c) × IsTrue (waits_for q k c)

-- The waits from this one on are over, so their cells are late, and no others. Each is a cell of the netlist that is not listed.
pub record AreWoken (reads : NetCell → List Source) (nets : Nets) (q : Queue) (number : ℕ) : Type 0 where
  pub numbered : number ≤ length q.waits.items
  pub each : (k : ℕ) → IsTrue (has (waiting_from q number) k) → (k < length nets.cells) × IsFalse (is_listed q k)
  pub queue : IsQueue reads nets (has (waiting_from q number)) q

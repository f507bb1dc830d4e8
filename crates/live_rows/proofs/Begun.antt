-- From the roots to the live rows.
use Rattle.std.proofs.Common.{◌≡◌, ℕ, zero, suc, ◌<◌, ◌≤◌, ◌==◌, Bool, true, false, not, ◌&&◌, if◌then◌else◌, bit_xor, List, [], ◌∷◌, ◌++◌, length, take, drop, refl, sym, ap, ◌∙◌, arith}
use Rattle.std.specs.Int.Bits.{xor_zero_r}
use Rattle.std.proofs.lemmas.Bool.{and_from, and_parts, and_left, eqb-true, both_ways}
use Rattle.std.proofs.lemmas.List.{append-nil, take_all}
use Rattle.std.proofs.Math.Seq.{take-length}
use Rattle.expr_table.specs.declared.node.Node.{Node}
use Rattle.expr_table.specs.Table.{node_at, sides, has}
use Rattle.once_random.specs.Cuts.{is_fresh, is_random}
use Rattle.once_random.specs.Live.{is_live, is_live_parent, live_parents, AreLower}
use Rattle.once_random.proofs.Facts.{count_none, count_below-same, live-side}
use Rattle.live_rows.specs.declared.mark.Mark.{Mark}
use Rattle.live_rows.specs.Marks.{mark_at, empty_mark, is_lone, is_spare, queued_count}
use Rattle.live_rows.specs.Shown.{Shows, mixed_below, live_count, serves}
use Rattle.live_rows.specs.Spread.{reads, IsCounted, IsSpread, rooted, offered, is_offered}
use Rattle.live_rows.specs.State.{IsFound, IsQueue}
use Rattle.live_rows.proofs.Counts.{count_exists, mixed_same}
use Rattle.live_rows.proofs.Counted.{is_reader, roots_within, settle}
use Rattle.live_rows.proofs.Marks.{found_within, queue_within}
use Rattle.live_rows.proofs.Numbers.{length_is_count, or-false}

-- what a slice of a whole vector was left as
pub written : {A : Type 0} (items new : List A) (len : ℕ) → len ≡ length items → length new ≡ length items → take len (new ++ drop (length new) items) ≡ new
written items new len is same =
    ap (λ xs. take len (new ++ xs)) (none (length new) items (omega arith))
    ∙ ap (take len) (append-nil new)
    ∙ take_all len new (omega arith)
  where
    none : {A : Type 0} (n : ℕ) (xs : List A) → length xs ≤ n → drop n xs ≡ []
    none zero [] l = refl
    none (suc n) [] l = refl
    none zero (x ∷ xs) l = absurd (omega arith)
    none (suc n) (x ∷ xs) l = none n xs (omega arith)

mixed_none : (n : ℕ) (test : ℕ → Bool) → ((i : ℕ) → test i ≡ false) → mixed_below n test ≡ 0
mixed_none zero test h = refl
mixed_none (suc n) test h =
    ap (λ a. bit_xor a (if test n then n else 0)) (mixed_none n test h)
    ∙ ap (λ b. bit_xor 0 (if b then n else 0)) (h n)
    ∙ xor_zero_r 0

-- marks with no counts, where what is live is a root and the other way round
module _ (nodes : List Node) (roots : List ℕ) (marks : List Mark) (found : List ℕ) (rows : length marks ≡ length nodes) (listed : IsFound marks found)
    (each : (r : ℕ) → mark_at marks r ≡ rooted (has roots r) empty_mark) where
  root_live : (b : Bool) → (rooted b empty_mark).live ≡ b
  root_live true = refl
  root_live false = refl

  root_root : (b : Bool) → (rooted b empty_mark).root ≡ b
  root_root true = refl
  root_root false = refl

  root_touched : (b : Bool) → (rooted b empty_mark).touched ≡ b
  root_touched true = refl
  root_touched false = refl

  root_parents : (b : Bool) → (rooted b empty_mark).parents ≡ 0
  root_parents true = refl
  root_parents false = refl

  root_mixed : (b : Bool) → (rooted b empty_mark).mixed ≡ 0
  root_mixed true = refl
  root_mixed false = refl

  root_flags : (b : Bool) → ((rooted b empty_mark).cut ≡ false) × ((rooted b empty_mark).queued ≡ false) × ((rooted b empty_mark).fresh ≡ false)
  root_flags true = (refl, refl, refl)
  root_flags false = (refl, refl, refl)

  pub marked_root : (r : ℕ) → (mark_at marks r).root ≡ has roots r
  marked_root r = ap (λ (m : Mark). m.root) (each r) ∙ root_root (has roots r)

  marked_live : (r : ℕ) → (mark_at marks r).live ≡ has roots r
  marked_live r = ap (λ (m : Mark). m.live) (each r) ∙ root_live (has roots r)

  marked_parents : (r : ℕ) → (mark_at marks r).parents ≡ 0
  marked_parents r = ap (λ (m : Mark). m.parents) (each r) ∙ root_parents (has roots r)

  pub none_looked : IsSpread nodes marks marks found 0
  none_looked = record {
    within = omega arith;
    listed = listed;
    counted = record {
      rows = rows;
      parents = λ r. marked_parents r ∙ sym (count_none (reads nodes (has []) r) (length nodes) (λ i l. refl));
      mixed = λ r. ap (λ (m : Mark). m.mixed) (each r) ∙ root_mixed (has roots r) ∙ sym (mixed_none (length nodes) (reads nodes (has []) r) (λ i. refl));
      rooted = λ r h. marked_live r ∙ sym (marked_root r) ∙ h;
      read = λ r h. let e = marked_parents r in absurd (omega arith);
      from = λ r l u. absurd (both_ways (has roots r) (sym (marked_root r) ∙ u) (sym (marked_live r) ∙ l));
    };
    live = λ r. marked_live r ∙ sym (ap (λ (m : Mark). m.touched) (each r) ∙ root_touched (has roots r));
    fresh = λ r. ap (λ (m : Mark). m.fresh) (each r) ∙ (root_flags (has roots r)).2;
    root = λ r. refl;
    cut = λ r. ap (λ (m : Mark). m.cut) (each r) ∙ (root_flags (has roots r)).0;
    queued = λ r. ap (λ (m : Mark). m.queued) (each r) ∙ (root_flags (has roots r)).1;
  }

module _ (nodes : List Node) (roots : List ℕ) (start marks : List Mark) (found : List ℕ) (lower : AreLower nodes) (root : (r : ℕ) → (mark_at start r).root ≡ has roots r)
    (spread : IsSpread nodes start marks found (length found)) where
  abbrev all : List ℕ
  all = take (length found) found

  found_live : (r : ℕ) → has found r ≡ (mark_at marks r).live
  found_live r = spread.listed.each r ∙ sym (spread.live r)

  seen_live : (r : ℕ) → has all r ≡ (mark_at marks r).live
  seen_live r = ap (λ xs. has xs r) (take-length found) ∙ found_live r

  and_uncut : (b c : Bool) → c ≡ false → (b && not c) ≡ b
  and_uncut true c h = ap not h
  and_uncut false c h = refl

  seen_reader : (r : ℕ) → has all r ≡ is_reader marks r
  seen_reader r = seen_live r ∙ sym (and_uncut (mark_at marks r).live (mark_at marks r).cut (spread.cut r))

  reader_seen : (row p : ℕ) → reads nodes (has all) row p ≡ reads nodes (is_reader marks) row p
  reader_seen row p = ap (λ b. b && has (sides (node_at nodes p)) row) (seen_reader p)

  counted : IsCounted nodes (is_reader marks) marks
  counted = record {
    rows = spread.counted.rows;
    parents = λ r. spread.counted.parents r ∙ count_below-same (length nodes) (reads nodes (has all) r) (reads nodes (is_reader marks) r) (λ p _. reader_seen r p);
    mixed = λ r. spread.counted.mixed r ∙ mixed_same (length nodes) (reads nodes (has all) r) (reads nodes (is_reader marks) r) (λ p _. reader_seen r p);
    rooted = spread.counted.rooted;
    read = spread.counted.read;
    from = spread.counted.from;
  }

  -- the marks are right for the roots and no cuts
  pub all_shown : Shows nodes roots [] marks
  all_shown = settle nodes roots [] marks lower (λ r. spread.root r ∙ root r) spread.cut counted (λ r l.
      spread.fresh r ∙ ap (λ b. b && is_random (node_at nodes r)) (seen_live r ∙ l) ∙ sym (or-false (is_random (node_at nodes r))))

  -- the rows found are the live ones
  pub found_count : length found ≡ live_count nodes roots []
  found_count =
      length_is_count (length nodes) found spread.listed.distinct
      (λ r h. let l : r < length marks = found_within marks found spread.listed r h in omega (arith, spread.counted.rows))
      ∙ count_below-same (length nodes) (has found) (is_live nodes roots []) (λ r _. found_live r ∙ all_shown.live r)

  module _ (new : List Mark) (alone : List ℕ) (len : length new ≡ length marks)
      (each : (r : ℕ) → mark_at new r ≡ offered (is_offered marks found r) (mark_at marks r))
      (listed : (r : ℕ) → has alone r ≡ is_offered marks found r)
      (queue : IsQueue new alone) where
    same_but_queued : {A : Type 0} (f : Mark → A) → ((b : Bool) (m : Mark) → f (offered b m) ≡ f m) → (r : ℕ) → f (mark_at new r) ≡ f (mark_at marks r)
    same_but_queued f h r = ap f (each r) ∙ h (is_offered marks found r) (mark_at marks r)

    offered_root : (b : Bool) (m : Mark) → (offered b m).root ≡ m.root
    offered_root true m = refl
    offered_root false m = refl

    offered_cut : (b : Bool) (m : Mark) → (offered b m).cut ≡ m.cut
    offered_cut true m = refl
    offered_cut false m = refl

    offered_live : (b : Bool) (m : Mark) → (offered b m).live ≡ m.live
    offered_live true m = refl
    offered_live false m = refl

    offered_parents : (b : Bool) (m : Mark) → (offered b m).parents ≡ m.parents
    offered_parents true m = refl
    offered_parents false m = refl

    offered_mixed : (b : Bool) (m : Mark) → (offered b m).mixed ≡ m.mixed
    offered_mixed true m = refl
    offered_mixed false m = refl

    offered_fresh : (b : Bool) (m : Mark) → (offered b m).fresh ≡ m.fresh
    offered_fresh true m = refl
    offered_fresh false m = refl

    offered_touched : (b : Bool) (m : Mark) → (offered b m).touched ≡ m.touched
    offered_touched true m = refl
    offered_touched false m = refl

    offered_queued : (b : Bool) (m : Mark) → m.queued ≡ false → (offered b m).queued ≡ b
    offered_queued true m h = refl
    offered_queued false m h = h

    pub offered_shown : Shows nodes roots [] new
    offered_shown = record {
      rows = len ∙ all_shown.rows;
      root = λ r. same_but_queued (λ (m : Mark). m.root) offered_root r ∙ all_shown.root r;
      cut = λ r. same_but_queued (λ (m : Mark). m.cut) offered_cut r ∙ all_shown.cut r;
      live = λ r. same_but_queued (λ (m : Mark). m.live) offered_live r ∙ all_shown.live r;
      parents = λ r. same_but_queued (λ (m : Mark). m.parents) offered_parents r ∙ all_shown.parents r;
      mixed = λ r. same_but_queued (λ (m : Mark). m.mixed) offered_mixed r ∙ all_shown.mixed r;
      fresh = λ r l. same_but_queued (λ (m : Mark). m.fresh) offered_fresh r ∙ all_shown.fresh r l;
    }

    -- what may serve a cut is listed
    pub serving_listed : (r : ℕ) → serves nodes roots [] r ≡ true → has alone r ≡ true
    serving_listed r h =
        let parts = and_parts (is_fresh nodes [] r) (not (has roots r) && (live_parents nodes roots [] r == 1)) h in
        let more = and_parts (not (has roots r)) (live_parents nodes roots [] r == 1) parts.1 in
        let one : live_parents nodes roots [] r ≡ 1 = eqb-true (live_parents nodes roots [] r) 1 more.1 in
        let p = count_exists (is_live_parent nodes roots [] r) (length nodes) (omega arith) in
        let reader = and_parts (is_live nodes roots [] p.0 && not (has [] p.0)) (has (sides (node_at nodes p.0)) r) p.2 in
        let alive = and_parts (is_live nodes roots [] p.0) true reader.0 in
        let here : is_live nodes roots [] r ≡ true = live-side nodes lower roots (roots_within nodes roots [] marks all_shown) [] p.0 r alive.0 refl reader.1 in
        let lone : is_lone (mark_at marks r) ≡ true =
        and_from (is_spare (mark_at marks r) && ((mark_at marks r).parents == 1)) (not (mark_at marks r).queued)
        (and_from (is_spare (mark_at marks r)) ((mark_at marks r).parents == 1)
        (and_from (mark_at marks r).fresh (not (mark_at marks r).root) (all_shown.fresh r here ∙ parts.0) (ap not (all_shown.root r) ∙ more.0))
        (ap (λ n. n == 1) (all_shown.parents r) ∙ more.1))
        (ap not (spread.queued r)) in
        listed r ∙ and_from (has found r) (is_lone (mark_at marks r)) (found_live r ∙ all_shown.live r ∙ here) lone

    queued_listed : (r : ℕ) → has alone r ≡ (mark_at new r).queued
    queued_listed r = listed r ∙ sym (ap (λ (m : Mark). m.queued) (each r) ∙ offered_queued (is_offered marks found r) (mark_at marks r) (spread.queued r))

    -- what is queued is listed
    pub queued_length : queued_count new ≡ length alone
    queued_length =
        sym (length_is_count (length new) alone queue.distinct (queue_within new alone queue)
        ∙ count_below-same (length new) (has alone) (λ r. (mark_at new r).queued) (λ r _. queued_listed r))

    -- the rows found stay
    pub offered_found : IsFound new found
    offered_found = record {
      distinct = spread.listed.distinct;
      each = λ r. spread.listed.each r ∙ sym (same_but_queued (λ (m : Mark). m.touched) offered_touched r);
      empty = λ r h.
          let u : (mark_at marks r).touched ≡ false = sym (same_but_queued (λ (m : Mark). m.touched) offered_touched r) ∙ h in
          each r ∙ ap (λ b. offered b (mark_at marks r)) (and_left (has found r) (is_lone (mark_at marks r)) (spread.listed.each r ∙ u)) ∙ spread.listed.empty r u;
    }

-- what `begin` leaves
pub record IsBegun (nodes : List Node) (roots : List ℕ) (marks : List Mark) (found alone : List ℕ) : Type 0 where
  pub shown : Shows nodes roots [] marks
  pub serving : (r : ℕ) → serves nodes roots [] r ≡ true → has alone r ≡ true
  pub queued : queued_count marks ≡ length alone
  pub count : length found ≡ live_count nodes roots []
  pub listed : IsFound marks found
  pub queue : IsQueue marks alone

pub begun : (nodes : List Node) (roots : List ℕ) (marked spread new : List Mark) (early found alone : List ℕ) → AreLower nodes → length marked ≡ length nodes → IsFound marked early
    → ((r : ℕ) → mark_at marked r ≡ rooted (has roots r) empty_mark) → IsSpread nodes marked spread found (length found)
    → length new ≡ length spread → ((r : ℕ) → mark_at new r ≡ offered (is_offered spread found r) (mark_at spread r)) → ((r : ℕ) → has alone r ≡ is_offered spread found r) → IsQueue new alone
    → IsBegun nodes roots new found alone
begun nodes roots marked spread new early found alone lower rows listed each is len offer list queue =
    let root : (r : ℕ) → (mark_at marked r).root ≡ has roots r = marked_root nodes roots marked early rows listed each in
    record {
      shown = offered_shown nodes roots marked spread found lower root is new alone len offer list queue;
      serving = serving_listed nodes roots marked spread found lower root is new alone len offer list queue;
      queued = queued_length nodes roots marked spread found lower root is new alone len offer list queue;
      count = found_count nodes roots marked spread found lower root is;
      listed = offered_found nodes roots marked spread found lower root is new alone len offer list queue;
      queue = queue;
    }

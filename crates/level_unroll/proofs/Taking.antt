-- The next cell is taken from those that stand ready.
use Rattle.std.proofs.Common.{◌≡◌, ◌<◌, ◌≤◌, ℕ, Bool, true, false, not, ◌==◌, List, length, reverse, set, Some, None, get_or, refl, sym, ap, ◌∙◌, subst, arith, true≢false, ⊎_elim, length-set, get_or-set_same, get_or-set_other}
use Rattle.std.specs.List.{list_all}
use Rattle.std.specs.Ordering.{nat_cmp, is_eq, is_gt}
use Rattle.std.proofs.lemmas.Bool.{and_parts, and_from, not-true, both_ways, cases_Bool, cases_eq, cases_order, cond-true, cond-false, eq-eqb, ne_eqb, lt-ltb, le-ltb}
use Rattle.std.proofs.lemmas.List.{get_or_default}
use Rattle.circuit_types.specs.declared.nets.NetCell.{NetCell}
use Rattle.circuit_types.specs.declared.nets.Nets.{Nets}
use Rattle.circuit_types.specs.declared.nets.Source.{Source}
use Rattle.circuit_types.specs.DataSources.{cell_at}
use Rattle.circuit_types.specs.Order.{has, is_ready, may_be_next, next_cell}
use Rattle.circuit_types.proofs.Ranges.{found_first, none_found}
use Rattle.circuit_types.proofs.Listing.{all_ready_more}
use Rattle.level_unroll.specs.declared.queue.Queue.{Queue}
use Rattle.level_unroll.specs.declared.queue.Wait.{Wait}
use Rattle.level_unroll.specs.Queue.{cells_from, AreLinked, is_in, is_listed, stands_ready, waiting_from, waits_for, IsQueue, AreWoken}
use Rattle.level_unroll.proofs.Waits.{ready_cell}

-- the order of numbers
pub is_eq-nat_cmp : (x y : ℕ) → is_eq (nat_cmp x y) ≡ (x == y)
is_eq-nat_cmp x y =
    ⊎_elim
    (λ e. ap is_eq (cond-false _ _ _ (le-ltb x y (omega arith)) ∙ cond-true _ _ _ (eq-eqb x y e)) ∙ sym (eq-eqb x y e))
    (λ other.
    ⊎_elim
    (λ lt. ap is_eq (cond-true _ _ _ (lt-ltb x y lt)) ∙ sym (ne_eqb x y (λ e. omega arith)))
    (λ gt. ap is_eq (cond-false _ _ _ (le-ltb x y (omega arith)) ∙ cond-false _ _ _ (ne_eqb x y (λ e. omega arith))) ∙ sym (ne_eqb x y (λ e. omega arith)))
    other)
    (cases_order x y)

pub le_from_cmp : (x y : ℕ) → is_gt (nat_cmp x y) ≡ false → x ≤ y
le_from_cmp x y h =
    ⊎_elim (λ e. omega arith)
    (λ other.
    ⊎_elim (λ lt. omega arith)
    (λ gt. absurd (true≢false (sym (ap is_gt (cond-false _ _ _ (le-ltb x y (omega arith)) ∙ cond-false _ _ _ (ne_eqb x y (λ e. omega arith)))) ∙ h)))
    other)
    (cases_order x y)

module _ (reads : NetCell → List Source) (nets : Nets) where
  may_parts : (done : ℕ → Bool) (k : ℕ) → may_be_next reads nets done k ≡ true → (done k ≡ false) × (list_all (is_ready done) (reads (cell_at nets k)) ≡ true)
  may_parts done k h = let p = and_parts (not (done k)) (list_all (is_ready done) (reads (cell_at nets k))) h in (not-true (done k) p.0, p.1)

  -- sets with the same numbers have the same next cells
  may_more : (f g : ℕ → Bool) → ((k : ℕ) → f k ≡ g k) → (k : ℕ) → may_be_next reads nets f k ≡ true → may_be_next reads nets g k ≡ true
  may_more f g same k h =
      let p = may_parts f k h in
      and_from (not (g k)) (list_all (is_ready g) (reads (cell_at nets k))) (ap not (sym (same k) ∙ p.0))
      (all_ready_more f g (λ j t. sym (same j) ∙ t) (reads (cell_at nets k)) p.1)

  module _ (q : Queue) (old : IsQueue reads nets (λ k. false) q) where
    -- a cell that may be next stands ready
    stands : (k : ℕ) → k < length nets.cells → may_be_next reads nets (is_listed q) k ≡ true → stands_ready q k ≡ true
    stands k lt may =
        let p = may_parts (is_listed q) k may in
        ⊎_elim (λ t. t)
        (λ f.
        let w = old.each_placed k lt p.0 refl f in
        let reads_w = old.each_waiting w.0 k w.1 w.2 in
        absurd (both_ways (is_listed q w.0) w.1 (ready_cell (is_listed q) (reads (cell_at nets k)) w.0 p.1 reads_w.2)))
        (cases_Bool (stands_ready q k))

    not_next : (listed : List ℕ) → ((k : ℕ) → is_listed q k ≡ has listed k) → (k : ℕ) → k < length nets.cells → stands_ready q k ≡ false → may_be_next reads nets (has listed) k ≡ false
    not_next listed same k lt f =
        ⊎_elim
        (λ t. absurd (both_ways (stands_ready q k) f (stands k lt (may_more (has listed) (is_listed q) (λ j. sym (same j)) k t))))
        (λ no. no)
        (cases_Bool (may_be_next reads nets (has listed) k))

    pub none_stands : ((k : ℕ) → stands_ready q k ≡ false) → (listed : List ℕ) → ((k : ℕ) → is_listed q k ≡ has listed k) → None ≡ next_cell reads nets listed
    none_stands none listed same =
        sym (none_found (may_be_next reads nets (has listed)) (length nets.cells) 0 (λ k a b. not_next listed same k (omega arith) (none k)))

    module _ (cell : ℕ) (ready : stands_ready q cell ≡ true) where
      pub within_ready : cell < length nets.cells
      within_ready = (old.each_ready cell ready).0

      pub unlisted_ready : is_listed q cell ≡ false
      unlisted_ready = (may_parts (is_listed q) cell (old.each_ready cell ready).1).0

      sources_ready : list_all (is_ready (is_listed q)) (reads (cell_at nets cell)) ≡ true
      sources_ready = (may_parts (is_listed q) cell (old.each_ready cell ready).1).1

      -- it waits for no cell that is not listed
      waits_not : (c : ℕ) → is_listed q c ≡ false → waits_for q cell c ≡ true → ⊥
      waits_not c f h = both_ways (is_listed q c) f (ready_cell (is_listed q) (reads (cell_at nets cell)) c sources_ready (old.each_waiting c cell f h).2)

      pub least_stands : ((k : ℕ) → stands_ready q k ≡ true → is_gt (nat_cmp cell k) ≡ false) → (listed : List ℕ) → ((k : ℕ) → is_listed q k ≡ has listed k) → Some cell ≡ next_cell reads nets listed
      least_stands least listed same =
          sym (found_first (may_be_next reads nets (has listed)) (length nets.cells) 0 cell (omega arith) (omega (arith, within_ready))
          (may_more (is_listed q) (has listed) same cell (old.each_ready cell ready).1)
          (λ j a b. not_next listed same j (omega (arith, within_ready))
          (⊎_elim (λ t. absurd (below_least j b (le_from_cmp cell j (least j t)))) (λ f. f) (cases_Bool (stands_ready q j)))))
        where
          below_least : (j : ℕ) → j < cell → cell ≤ j → ⊥
          below_least j a b = omega arith

      -- the cells that waited for it
      module _ (number : ℕ) (latest_is : number ≡ get_or q.latest.items cell number) where
        number_is : number ≡ get_or q.latest.items cell 0
        number_is = latest_is ∙ get_or_default q.latest.items cell number 0 (let one = old.one_number_each in omega (arith, one, within_ready))

        woken_waits : (k : ℕ) → has (waiting_from q number) k ≡ true → waits_for q k cell ≡ true
        woken_waits k h = ap (λ n. has (waiting_from q n) k) (sym number_is) ∙ h

        woken_from : (k : ℕ) → waits_for q k cell ≡ true → has (waiting_from q number) k ≡ true
        woken_from k h = ap (λ n. has (waiting_from q n) k) number_is ∙ h

        woken_within : (k : ℕ) → has (waiting_from q number) k ≡ true → k < length nets.cells
        woken_within k h = (old.each_waiting cell k unlisted_ready (woken_waits k h)).0

        woken_other : (k : ℕ) → has (waiting_from q number) k ≡ true → k ≡ cell → ⊥
        woken_other k h e = waits_not cell unlisted_ready (subst (λ n. waits_for q n cell ≡ true) e (woken_waits k h))

        woken_unlisted : (k : ℕ) → has (waiting_from q number) k ≡ true → is_in (set q.listed.items cell true) k ≡ false
        woken_unlisted k h = get_or-set_other q.listed.items cell k true false (woken_other k h) ∙ (old.each_waiting cell k unlisted_ready (woken_waits k h)).1

        module _ (r : Queue) (flags : r.listed.items ≡ set q.listed.items cell true) (latest : r.latest.items ≡ q.latest.items) (waits : r.waits.items ≡ q.waits.items)
            (others_ready : (k : ℕ) → (k ≡ cell → ⊥) → stands_ready r k ≡ stands_ready q k) (taken : stands_ready r cell ≡ false) where
          listed_cell : is_listed r cell ≡ true
          listed_cell = ap (λ xs. get_or xs cell false) flags ∙ get_or-set_same q.listed.items cell true false (let len = old.one_flag_each in omega (arith, within_ready))

          listed_other : (k : ℕ) → (k ≡ cell → ⊥) → is_listed r k ≡ is_listed q k
          listed_other k other = ap (λ xs. get_or xs k false) flags ∙ get_or-set_other q.listed.items cell k true false other

          unlisted_other : (k : ℕ) → is_listed r k ≡ false → k ≡ cell → ⊥
          unlisted_other k f e = both_ways (is_listed r cell) (subst (λ n. is_listed r n ≡ false) e f) listed_cell

          listed_more : (k : ℕ) → is_listed q k ≡ true → is_listed r k ≡ true
          listed_more k h =
              ⊎_elim (λ e. subst (λ n. is_listed r n ≡ true) (sym e) listed_cell) (λ other. listed_other k other ∙ h) (cases_eq k cell)

          same_waits : (k c : ℕ) → waits_for r k c ≡ waits_for q k c
          same_waits k c =
              ap (λ (ws : List Wait). has (cells_from (reverse ws) (get_or r.latest.items c 0)) k) waits ∙ ap (λ ns. has (waiting_from q (get_or ns c 0)) k) latest

          same_woken : (k : ℕ) → has (waiting_from r number) k ≡ has (waiting_from q number) k
          same_woken k = ap (λ (ws : List Wait). has (cells_from (reverse ws) number) k) waits

          taken_queue : IsQueue reads nets (has (waiting_from r number)) r
          taken_queue = record {
            one_flag_each = ap length flags ∙ length-set q.listed.items cell true ∙ old.one_flag_each;
            one_number_each = ap length latest ∙ old.one_number_each;
            numbered = λ c. let a = ap (λ ns. get_or ns c 0) latest in let b = ap length waits in let le = old.numbered c in omega (arith, a, b, le);
            linked = subst (λ (ws : List Wait). AreLinked (reverse ws)) (sym waits) old.linked;
            each_ready = λ k h.
                let other : k ≡ cell → ⊥ = λ e. both_ways (stands_ready r cell) taken (subst (λ n. stands_ready r n ≡ true) e h) in
                let before = old.each_ready k (sym (others_ready k other) ∙ h) in
                let p = may_parts (is_listed q) k before.1 in (
                  before.0,
                  and_from (not (is_listed r k)) (list_all (is_ready (is_listed r)) (reads (cell_at nets k))) (ap not (listed_other k other ∙ p.0))
                      (all_ready_more (is_listed q) (is_listed r) listed_more (reads (cell_at nets k)) p.1),
                );
            each_waiting = λ c k f h.
                let c_other = unlisted_other c f in
                let free : is_listed q c ≡ false = sym (listed_other c c_other) ∙ f in
                let waits_k : waits_for q k c ≡ true = sym (same_waits k c) ∙ h in
                let before = old.each_waiting c k free waits_k in
                let k_other : k ≡ cell → ⊥ = λ e. waits_not c free (subst (λ n. waits_for q n c ≡ true) e waits_k) in
                (before.0, listed_other k k_other ∙ before.1, before.2);
            each_placed = λ k lt u late f.
                let k_other = unlisted_other k u in
                let w = old.each_placed k lt (sym (listed_other k k_other) ∙ u) refl (sym (others_ready k k_other) ∙ f) in
                let c_other : w.0 ≡ cell → ⊥
                = λ e. both_ways (has (waiting_from r number) k) late (same_woken k ∙ woken_from k (subst (λ n. waits_for q k n ≡ true) e w.2)) in
                (w.0, listed_other w.0 c_other ∙ w.1, same_waits k w.0 ∙ w.2);
          }

          -- their waits are over
          pub taken_woken : AreWoken reads nets r number
          taken_woken = record {
            numbered = let le = old.numbered cell in let size = ap length waits in let is = number_is in omega (arith, le, size, is);
            each = λ k h. let w = sym (same_woken k) ∙ h in (woken_within k w, ap (λ xs. get_or xs k false) flags ∙ woken_unlisted k w);
            queue = taken_queue;
          }

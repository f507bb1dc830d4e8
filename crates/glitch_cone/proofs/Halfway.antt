-- The lists after the first cells of the order.
use Rattle.std.proofs.Common.{◌≡◌, ◌<◌, ◌≤◌, ◌⊎◌, ℕ, zero, suc, ◌+◌, ◌==◌, not, Bool, true, false, List, [], ◌∷◌, ◌++◌, length, take, set, get_or, All, Option, None, Some, refl, sym, ap, ◌∙◌, subst, inl, inr, arith, true≢false, ⊎_elim, length-set, get_or-set_same, get_or-set_other}
use Rattle.std.specs.List.{list_all}
use Rattle.std.proofs.lemmas.Bool.{eq-eqb, or_cases, or_left, or_right, or_parts, or_from, and_parts, not-true, not-false, not_from_false, not_from_true, false_from_ne_true}
use Rattle.std.proofs.lemmas.List.{take_more, take_all}
use Rattle.std.proofs.lemmas.List.Folds.{list_any_at}
use Rattle.std.proofs.lemmas.List.Elements.{All-head, All-tail, All-set}
use Rattle.std.proofs.lemmas.List.Sums.{sum_by-set}
use Rattle.cell_kinds.specs.declared.kind.CellKind.{CellKind}
use Rattle.cell_kinds.specs.declared.kind.CellKind.TheVariants.{Gate, Flop}
use Rattle.cell_kinds.specs.declared.kind.Flop.{Flop as AnyFlop}
use Rattle.cell_kinds.specs.declared.kind.GateKind.{GateKind}
use Rattle.circuit_types.specs.declared.circuit.Circuit.{Circuit}
use Rattle.circuit_types.specs.declared.circuit.Timing.{Timing}
use Rattle.circuit_types.specs.declared.circuit.Timing.TheVariants.{Settled, Cycles}
use Rattle.circuit_types.specs.declared.nets.NetCell.{NetCell}
use Rattle.circuit_types.specs.declared.nets.Nets.{Nets}
use Rattle.circuit_types.specs.declared.nets.Source.{Source}
use Rattle.circuit_types.specs.declared.nets.Source.TheVariants as source
use Rattle.circuit_types.specs.declared.probes.Model.TheVariants as model
use Rattle.circuit_types.specs.declared.roles.Roles.{Roles}
use Rattle.circuit_types.specs.DataSources.{cell_at, pin_sources, data_sources, IsWithin, IsWired}
use Rattle.circuit_types.specs.Order.{has, is_ready, order_of, IsLevelled}
use Rattle.circuit_types.specs.Stable.{stable_sources}
use Rattle.circuit_types.proofs.ByCells.{gate_reads, settled_gate_reads}
use Rattle.circuit_types.proofs.Cells.{pins_within}
use Rattle.circuit_types.proofs.Listing.{order_is_order}
use Rattle.circuit_types.proofs.Ranges.{has-push_cases, has-push_left, has-push_same}
use Rattle.glitch_cone.specs.declared.cones.Cones.{Cones}
use Rattle.glitch_cone.specs.declared.places.Places.{Places}
use Rattle.glitch_cone.specs.Cones.{is_gate_kind, is_gate, list_at, kept_cone, entries_of, AreLists, AreOwn, IsBehind, Puts, Follows, is_made, AreProbed, AreMade}
use Rattle.glitch_cone.specs.Numbers.{AscendsFrom, IsCone, source_at}
use Rattle.glitch_cone.specs.Places.{kept_place, ShowsPlaces}
use Rattle.glitch_cone.proofs.Listed.{cell_stands}
use Rattle.glitch_cone.proofs.Numbered.{not_same}
use Rattle.glitch_cone.proofs.Behind.{place_is, no_place, cone_at, first_made, first_late, gate_made}

-- sources that are ready are made
ready_made : (nets : Nets) (done : ℕ → Bool) (ss : List Source) → list_all (is_ready done) ss ≡ true → list_all (is_made nets done) ss ≡ true
ready_made nets done [] h = refl
ready_made nets done (s ∷ ss) h =
    let p = and_parts (is_ready done s) (list_all (is_ready done) ss) h in
    let a : is_made nets done s ≡ true = or_right (not (is_gate nets s)) (is_ready done s) p.0 in
    let b = ready_made nets done ss p.1 in
    cc

all_made : (nets : Nets) (done : ℕ → Bool) (P : Source → Type 0) → ((s : Source) → IsWithin nets s → is_made nets done s ≡ true → P s) → (ss : List Source) → All (IsWithin nets) ss → list_all (is_made nets done) ss ≡ true → All P ss
all_made nets done P made [] within h k d lt = absurd (omega arith)
all_made nets done P made (s ∷ ss) within h zero d lt = made s (All-head (IsWithin nets) s ss within) (and_parts (is_made nets done s) (list_all (is_made nets done) ss) h).0
all_made nets done P made (s ∷ ss) within h (suc k) d lt =
    all_made nets done P made ss (All-tail (IsWithin nets) s ss within) (and_parts (is_made nets done s) (list_all (is_made nets done) ss) h).1 k d (omega arith)

data_reads : (timing : Timing) (cell : NetCell) (g : GateKind) → cell.kind ≡ Gate g → data_sources timing cell ≡ pin_sources cell
data_reads Settled cell g is = settled_gate_reads cell g is
data_reads (Cycles n) cell g is = gate_reads cell g is

-- what holds after the first cells of the order
pub record IsHalfway (circuit : Circuit) (sources : List Source) (places : Places) (i : ℕ) (cones : Cones) : Type 0 where
  pub lists : AreLists (length sources) cones
  pub made : AreMade circuit.nets sources places (has (take i circuit.order)) cones.lists.items

module _ (circuit : Circuit) (sources : List Source) (places : Places) (shows : ShowsPlaces circuit.nets sources (length sources) places) (levelled : IsLevelled circuit) where
  abbrev reads : NetCell → List Source
  reads = data_sources circuit.timing

  -- the cells of the order
  pub order_within : (i : ℕ) → i < length circuit.order → get_or circuit.order i 0 < length circuit.nets.cells
  order_within i lt =
      subst (λ xs. i < length xs → get_or xs i 0 < length circuit.nets.cells) (sym levelled.order)
      (λ l. (order_is_order reads circuit.nets).within (get_or (order_of reads circuit.nets) i 0)
      (list_any_at (λ m. m == get_or (order_of reads circuit.nets) i 0) (order_of reads circuit.nets) i 0 l (eq-eqb (get_or (order_of reads circuit.nets) i 0) (get_or (order_of reads circuit.nets) i 0) refl))) lt

  order_once : (i : ℕ) → i < length circuit.order → has (take i circuit.order) (get_or circuit.order i 0) ≡ false
  order_once i lt =
      subst (λ xs. i < length xs → has (take i xs) (get_or xs i 0) ≡ false) (sym levelled.order)
      (λ l. not-true (has (take i (order_of reads circuit.nets)) (get_or (order_of reads circuit.nets) i 0)) ((order_is_order reads circuit.nets).once i l)) lt

  order_after : (i : ℕ) → i < length circuit.order → list_all (is_ready (has (take i circuit.order))) (reads (cell_at circuit.nets (get_or circuit.order i 0))) ≡ true
  order_after i lt =
      subst (λ xs. i < length xs → list_all (is_ready (has (take i xs))) (reads (cell_at circuit.nets (get_or xs i 0))) ≡ true) (sym levelled.order)
      (λ l. (order_is_order reads circuit.nets).after i l) lt

  pub all_done : (i : ℕ) → length circuit.order ≤ i → (s : Source) → IsWithin circuit.nets s → is_made circuit.nets (has (take i circuit.order)) s ≡ true
  all_done i le (source.Cell k) w =
      or_right (not (is_gate circuit.nets (source.Cell k))) (has (take i circuit.order) k)
      (subst (λ xs. has xs k ≡ true) (sym (take_all i circuit.order le ∙ levelled.order)) (levelled.each_settled k w))
  all_done i le (source.Input b) w = refl
  all_done i le source.Zero w = refl
  all_done i le source.One w = refl
  all_done i le source.Unknown w = refl
  all_done i le source.Missing w = refl

  pub first_halfway : (cones : Cones) → AreOwn model.Glitch circuit.nets sources (length sources) cones → IsHalfway circuit sources places 0 cones
  first_halfway cones own = record {
    lists = own.lists;
    made = record {
      made = λ roles probed s w is. first_made circuit.nets sources places shows roles probed cones.lists.items own.each s w (no_gate s is);
      late = λ s is. first_late circuit.nets sources places shows cones.lists.items own.each s (not-false (is_gate circuit.nets s) (or_parts (not (is_gate circuit.nets s)) (is_ready (has []) s) is).0);
    };
  }
    where
      no_gate : (s : Source) → is_made circuit.nets (has []) s ≡ true → is_gate circuit.nets s ≡ false
      no_gate (source.Cell k) h =
          ⊎_elim (λ a. not-true (is_gate circuit.nets (source.Cell k)) a) (λ b. absurd (true≢false (sym b))) (or_cases (not (is_gate circuit.nets (source.Cell k))) false h)
      no_gate (source.Input b) h = refl
      no_gate source.Zero h = refl
      no_gate source.One h = refl
      no_gate source.Unknown h = refl
      no_gate source.Missing h = refl

  module _ (wired : IsWired circuit.nets) (i next : ℕ) (is : next ≡ i + 1) (lt : i < length circuit.order) where
    abbrev here : ℕ
    here = get_or circuit.order i 0

    abbrev was_done : ℕ → Bool
    was_done = has (take i circuit.order)

    abbrev is_done : ℕ → Bool
    is_done = has (take next circuit.order)

    more : take next circuit.order ≡ take i circuit.order ++ here ∷ []
    more = ap (λ n. take n circuit.order) is ∙ take_more circuit.order i 0 lt

    done_cases : (j : ℕ) → is_done j ≡ true → (was_done j ≡ true) ⊎ (here ≡ j)
    done_cases j h = has-push_cases (take i circuit.order) here j (sym (ap (λ (xs : List ℕ). has xs j) more) ∙ h)

    done_more : (j : ℕ) → was_done j ≡ true → is_done j ≡ true
    done_more j h = ap (λ (xs : List ℕ). has xs j) more ∙ has-push_left (take i circuit.order) here j h

    done_here : is_done here ≡ true
    done_here = ap (λ (xs : List ℕ). has xs here) more ∙ has-push_same (take i circuit.order) here

    ready_less : (s : Source) → is_ready is_done s ≡ false → is_ready was_done s ≡ false
    ready_less (source.Cell j) f = false_from_ne_true (was_done j) (λ t. true≢false (sym (done_more j t) ∙ f))
    ready_less (source.Input b) f = f
    ready_less source.Zero f = f
    ready_less source.One f = f
    ready_less source.Unknown f = f
    ready_less source.Missing f = f

    made_less : (s : Source) → is_made circuit.nets is_done s ≡ false → is_made circuit.nets was_done s ≡ false
    made_less s f =
        let p = or_parts (not (is_gate circuit.nets s)) (is_ready is_done s) f in
        or_from (not (is_gate circuit.nets s)) (is_ready was_done s) p.0 (ready_less s p.1)

    made_here : is_made circuit.nets is_done (source.Cell here) ≡ true
    made_here = or_right (not (is_gate circuit.nets (source.Cell here))) (is_done here) done_here

    ready_cases : (s : Source) → is_ready is_done s ≡ true → (is_ready was_done s ≡ true) ⊎ (s ≡ source.Cell here)
    ready_cases (source.Cell j) h = ⊎_elim (λ l. inl l) (λ e. inr (ap (λ n. source.Cell n) (sym e))) (done_cases j h)
    ready_cases (source.Input b) h = inl h
    ready_cases source.Zero h = inl h
    ready_cases source.One h = inl h
    ready_cases source.Unknown h = inl h
    ready_cases source.Missing h = inl h

    made_cases : (s : Source) → is_made circuit.nets is_done s ≡ true → (is_made circuit.nets was_done s ≡ true) ⊎ (s ≡ source.Cell here)
    made_cases s h =
        ⊎_elim
        (λ a. inl (or_left (not (is_gate circuit.nets s)) (is_ready was_done s) a))
        (λ b. ⊎_elim (λ l. inl (or_right (not (is_gate circuit.nets s)) (is_ready was_done s) l)) (λ e. inr e) (ready_cases s b))
        (or_cases (not (is_gate circuit.nets s)) (is_ready is_done s) h)

    -- a register changes nothing
    flop_halfway : (f : AnyFlop) (cones : Cones) → (cell_at circuit.nets here).kind ≡ Flop f → IsHalfway circuit sources places i cones → IsHalfway circuit sources places next cones
    flop_halfway f cones kind old = record {
      lists = old.lists;
      made = record {
        made = λ roles probed s w h. old.made.made roles probed s w (⊎_elim (λ l. l) (λ e. own s e) (made_cases s h));
        late = λ s h. old.made.late s (made_less s h);
      };
    }
      where
        own : (s : Source) → s ≡ source.Cell here → is_made circuit.nets was_done s ≡ true
        own s e =
            or_left (not (is_gate circuit.nets s)) (is_ready was_done s)
            (not_from_false (is_gate circuit.nets s) (ap (is_gate circuit.nets) e ∙ ap is_gate_kind kind))

    module _ (g : GateKind) (kind : (cell_at circuit.nets here).kind ≡ Gate g) (old : Cones) (was : IsHalfway circuit sources places i old) where
      gated : is_gate circuit.nets (source.Cell here) ≡ true
      gated = ap is_gate_kind kind

      late_here : is_made circuit.nets was_done (source.Cell here) ≡ false
      late_here = or_from (not (is_gate circuit.nets (source.Cell here))) (was_done here) (not_from_true (is_gate circuit.nets (source.Cell here)) gated) (order_once i lt)

      -- no gate is without a number
      unnumbered : kept_place places (source.Cell here) ≡ None → IsHalfway circuit sources places next old
      unnumbered none = record {
        lists = was.lists;
        made = record {
          made = λ roles probed s w h. absurd (missing roles probed);
          late = λ s h. was.made.late s (made_less s h);
        };
      }
        where
          missing : (roles : Roles) → AreProbed roles circuit.nets sources → ⊥
          missing roles probed =
              let stands = cell_stands roles circuit.nets here (order_within i lt) in
              let list = probed.list in
              let l : stands.0 < length sources = subst (λ ss. stands.0 < length ss) (sym list) stands.1 in
              let at : source_at sources stands.0 ≡ source.Cell here = ap (λ ss. source_at ss stands.0) list ∙ stands.2 in
              not_same (source_at sources stands.0) (source.Cell here) (no_place circuit.nets sources places shows (source.Cell here) none stands.0 l) at

      module _ (n : ℕ) (numbers : List ℕ) (new : Cones) (place : kept_place places (source.Cell here) ≡ Some n)
          (lists : new.lists.items ≡ set old.lists.items n numbers) (entries : new.entries ≡ old.entries + length numbers)
          (behind_it : IsBehind places old.lists.items (pin_sources (cell_at circuit.nets here)) numbers) where
        here_is : (n < length sources) × (source_at sources n ≡ source.Cell here)
        here_is = place_is circuit.nets sources places shows (source.Cell here) n place

        in_lists : n < length old.lists.items
        in_lists = let l = here_is.0 in let e = was.lists.one_each in omega arith

        empty_here : list_at old.lists.items n ≡ []
        empty_here = sym (cone_at circuit.nets sources places shows old.lists.items (source.Cell here) (Some n) place) ∙ was.made.late (source.Cell here) late_here

        kept_other : (s : Source) → (s ≡ source.Cell here → ⊥) → kept_cone places new.lists.items s ≡ kept_cone places old.lists.items s
        kept_other s other = go (kept_place places s) refl
          where
            go : (o : Option ℕ) → kept_place places s ≡ o → kept_cone places new.lists.items s ≡ kept_cone places old.lists.items s
            go None p = cone_at circuit.nets sources places shows new.lists.items s None p ∙ sym (cone_at circuit.nets sources places shows old.lists.items s None p)
            go (Some m) p =
                let apart : m ≡ n → ⊥ = λ e.
                other (sym (place_is circuit.nets sources places shows s m p).1 ∙ ap (source_at sources) e ∙ here_is.1) in
                cone_at circuit.nets sources places shows new.lists.items s (Some m) p
                ∙ ap (λ ls. list_at ls m) lists ∙ get_or-set_other old.lists.items n m numbers [] apart
                ∙ sym (cone_at circuit.nets sources places shows old.lists.items s (Some m) p)

        kept_here : kept_cone places new.lists.items (source.Cell here) ≡ numbers
        kept_here =
            cone_at circuit.nets sources places shows new.lists.items (source.Cell here) (Some n) place
            ∙ ap (λ ls. list_at ls n) lists ∙ get_or-set_same old.lists.items n numbers [] in_lists

        counted : new.entries ≡ entries_of new.lists.items
        counted =
            let total = sum_by-set (λ (xs : List ℕ). length xs) old.lists.items n numbers [] in_lists in
            let none : length (list_at old.lists.items n) ≡ 0 = ap length empty_here in
            let was_counted = was.lists.counted in
            let sum : entries_of (set old.lists.items n numbers) ≡ entries_of old.lists.items + length numbers = omega (arith, total, none) in
            entries ∙ ap (λ e. e + length numbers) was_counted ∙ sym sum ∙ sym (ap entries_of lists)

        gate_halfway : IsHalfway circuit sources places next new
        gate_halfway = record {
          lists = record {
            one_each = ap length lists ∙ length-set old.lists.items n numbers ∙ was.lists.one_each;
            counted = counted;
            ascend = subst (All (AscendsFrom 0)) (sym lists) (All-set (AscendsFrom 0) old.lists.items n numbers behind_it.ascends was.lists.ascend);
          };
          made = record {
            made = λ roles probed s w h. ⊎_elim (λ l. stays roles probed s w l) (λ e. comes roles probed s e) (made_cases s h);
            late = λ s h. kept_other s (λ e. true≢false (sym made_here ∙ sym (ap (is_made circuit.nets is_done) e) ∙ h)) ∙ was.made.late s (made_less s h);
          };
        }
          where
            stays : (roles : Roles) → AreProbed roles circuit.nets sources → (s : Source) → IsWithin circuit.nets s → is_made circuit.nets was_done s ≡ true → IsCone sources (stable_sources roles circuit.nets s) (kept_cone places new.lists.items s)
            stays roles probed s w h =
                subst (λ xs. IsCone sources (stable_sources roles circuit.nets s) xs)
                (sym (kept_other s (λ e. true≢false (sym h ∙ ap (is_made circuit.nets was_done) e ∙ late_here))))
                (was.made.made roles probed s w h)

            comes : (roles : Roles) → AreProbed roles circuit.nets sources → (s : Source) → s ≡ source.Cell here → IsCone sources (stable_sources roles circuit.nets s) (kept_cone places new.lists.items s)
            comes roles probed s e =
                let within = order_within i lt in
                let ready : list_all (is_ready was_done) (pin_sources (cell_at circuit.nets here)) ≡ true =
                subst (λ ss. list_all (is_ready was_done) ss ≡ true) (data_reads circuit.timing (cell_at circuit.nets here) g kind) (order_after i lt) in
                let pins = all_made circuit.nets was_done (λ t. IsCone sources (stable_sources roles circuit.nets t) (kept_cone places old.lists.items t)) (λ t w h. was.made.made roles probed t w h)
                (pin_sources (cell_at circuit.nets here)) (pins_within circuit.nets here wired within) (ready_made circuit.nets was_done (pin_sources (cell_at circuit.nets here)) ready) in
                let cone = gate_made circuit.nets sources places shows roles probed old.lists.items here g numbers within kind pins behind_it in
                subst (λ t. IsCone sources (stable_sources roles circuit.nets t) (kept_cone places new.lists.items t)) (sym e)
                (subst (λ xs. IsCone sources (stable_sources roles circuit.nets (source.Cell here)) xs) (sym kept_here) cone)

    -- one cell more
    pub halfway_more : (k : ℕ) (old new : Cones) → k ≡ here → Follows (cell_at circuit.nets k).kind circuit.nets places k old new → IsHalfway circuit sources places i old → IsHalfway circuit sources places next new
    halfway_more k old new at follows was =
        go (cell_at circuit.nets here).kind refl (subst (λ m. Follows (cell_at circuit.nets m).kind circuit.nets places m old new) at follows)
      where
        puts : (g : GateKind) → (cell_at circuit.nets here).kind ≡ Gate g → (numbers : List ℕ) → IsBehind places old.lists.items (pin_sources (cell_at circuit.nets here)) numbers
            → (o : Option ℕ) → kept_place places (source.Cell here) ≡ o → Puts o numbers old new → IsHalfway circuit sources places next new
        puts g kind numbers b None place p = subst (IsHalfway circuit sources places next) (sym p) (unnumbered g kind old was place)
        puts g kind numbers b (Some n) place p = gate_halfway g kind old was n numbers new place p.0 p.1 b

        go : (kind : CellKind) → (cell_at circuit.nets here).kind ≡ kind → Follows kind circuit.nets places here old new → IsHalfway circuit sources places next new
        go (Flop f) kind same = subst (IsHalfway circuit sources places next) (sym same) (flop_halfway f old kind was)
        go (Gate g) kind f = puts g kind f.0 f.1 (kept_place places (source.Cell here)) refl f.2

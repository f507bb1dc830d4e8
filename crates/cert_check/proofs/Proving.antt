-- Entries that close families prove each of their tuples.
use Rattle.std.proofs.Common.{◌≡◌, ℕ, zero, suc, ◌+◌, ◌<◌, ◌≤◌, Bool, true, false, cond, ⊎_elim, List, [], ◌∷◌, ◌++◌, length, reverse, sym, ap, ◌∙◌, subst, arith, eqb, eq-eqb}
use Rattle.std.specs.Prelude.{All, IsTrue, IsFalse, count_by, nat_lt}
use Rattle.std.specs.List.{list_all, AllByRecursion}
use Rattle.std.proofs.lemmas.Bool.{cases_Bool, cases_lt, eqb-true, or_cases, or_left}
use Rattle.std.proofs.lemmas.List.Elements.{All-from_recursion, recursion_from_All, All-head, All-tail, All-append}
use Rattle.std.proofs.lemmas.List.Sums.{sum_by-cons, sum_by-append}
use Rattle.bit_rows.specs.Sets.{is_in, members, members_below}
use Rattle.bit_rows.proofs.Facts.{is_in-below, members_below-in}
use Rattle.expr_table.specs.declared.instance.Instance.{Instance}
use Rattle.expr_table.specs.Table.{has}
use Rattle.once_random.specs.Live.{AreAmong}
use Rattle.once_random.specs.Provable.{IsProvable}
use Rattle.once_random.specs.Tuples.{roots_of}
use Rattle.once_random.proofs.Facts.{has-append_left, has-append_right}
use Rattle.probe_family.specs.declared.family.Family.{Family}
use Rattle.probe_family.specs.Families.{IsFamily, is_tuple_of}
use Rattle.family_split.specs.Children.{children_of}
use Rattle.certificate.specs.declared.entries.Entry.{Entry}
use Rattle.cert_check.specs.Closing.{Closes, IsProof, hull_set, is_chain}
use Rattle.cert_check.proofs.Chains.{chain_is}
use Rattle.cert_check.proofs.Questions.{first, second}

-- ---- a tuple inside a set is among its members

has_below : (flags : List Bool) (n q : ℕ) → q < n → is_in flags q ≡ true → has (members_below flags n) q ≡ true
has_below flags zero q lt h = absurd (omega arith)
has_below flags (suc n) q lt h =
    ⊎_elim
    (λ (before : q < n). has-append_left (members_below flags n) (cond (is_in flags n) (n ∷ []) []) q (has_below flags n q before h))
    (λ (past : n ≤ q).
    let here : n ≡ q = omega arith in
    ap (λ (ns : List ℕ). has ns q) (members_below-in flags n (ap (is_in flags) here ∙ h))
    ∙ has-append_right (members_below flags n) (n ∷ []) q (or_left (eqb n q) (has [] q) (eq-eqb n q here)))
    (cases_lt q n)

pub has_members : (flags : List Bool) (q : ℕ) → is_in flags q ≡ true → has (members flags) q ≡ true
has_members flags q h = has_below flags (length flags) q (is_in-below flags q h) h

all_among : (flags : List Bool) (ns : List ℕ) → list_all (is_in flags) ns ≡ true → AreAmong ns (members flags)
all_among flags [] all q h = let e : false ≡ true = h in cc
all_among flags (n ∷ ns) all q h =
    ⊎_elim
    (λ (here : eqb n q ≡ true). has_members flags q (ap (is_in flags) (sym (eqb-true n q here)) ∙ first (is_in flags n) (list_all (is_in flags) ns) all))
    (λ (later : has ns q ≡ true). all_among flags ns (second (is_in flags n) (list_all (is_in flags) ns) all) q later)
    (or_cases (eqb n q) (has ns q) h)

-- ---- what the lower laws say

abbrev pub Outside : Type 0
Outside = (n : ℕ) (family : Family) (hull : List Bool) (tuple : List ℕ) → IsFamily n family → IsTrue (is_tuple_of family tuple) → IsFalse (list_all (is_in hull) tuple)
    → count_by (λ child. is_tuple_of child tuple) (children_of family hull) ≡ 1

abbrev pub NoOther : Type 0
NoOther = (n : ℕ) (family : Family) (hull : List Bool) (tuple : List ℕ) → IsFamily n family
    → All (λ child. IsTrue (is_tuple_of child tuple) → IsTrue (is_tuple_of family tuple)) (children_of family hull)

abbrev pub AreFamilies : Type 0
AreFamilies = (n : ℕ) (family : Family) (hull : List Bool) → IsFamily n family → All (IsFamily n) (children_of family hull)

abbrev pub HaveBound : Type 0
HaveBound = (family : Family) (hull : List Bool) → All (λ (child : Family). child.bound ≡ family.bound) (children_of family hull)

abbrev pub SomeProvable : Type 0
SomeProvable = (x : Instance) (roots some : List ℕ) (m : ℕ) → AreAmong some roots → IsProvable x roots m → IsProvable x some m

abbrev pub RootsAmong : Type 0
RootsAmong = (x : Instance) (tuple some : List ℕ) → AreAmong some tuple → AreAmong (roots_of x some) (roots_of x tuple)

-- ---- the tuple is provable

pub record Laws : Type 0 where
  pub outside : Outside
  pub no_other : NoOther
  pub families : AreFamilies
  pub bounds : HaveBound
  pub provable : SomeProvable
  pub among : RootsAmong

module _ (laws : Laws) (x : Instance) (tuple : List ℕ) (m : ℕ) where
  abbrev has_it : Family → Bool
  has_it f = is_tuple_of f tuple

  abbrev HasBound : Family → Type 0
  HasBound f = IsTrue (is_tuple_of f tuple) → f.bound ≡ m

  merge : (f : Family) → HasBound f → (cs : List Family) → AllByRecursion (λ (c : Family). IsTrue (is_tuple_of c tuple) → IsTrue (is_tuple_of f tuple)) cs
      → AllByRecursion (λ (c : Family). c.bound ≡ f.bound) cs → AllByRecursion HasBound cs
  merge f b [] h g = tt
  merge f b (c ∷ cs) h g = ((λ t. g.0 ∙ b (h.0 t)), merge f b cs h.1 g.1)

  children_bound : (f : Family) (hull : List Bool) → IsFamily (length x.probes) f → HasBound f → All HasBound (children_of f hull)
  children_bound f hull is b =
      All-from_recursion HasBound (children_of f hull)
      (merge f b (children_of f hull) (recursion_from_All (λ (c : Family). IsTrue (is_tuple_of c tuple) → IsTrue (is_tuple_of f tuple)) (children_of f hull) (laws.no_other (length x.probes) f hull tuple is)) (recursion_from_All (λ (c : Family). c.bound ≡ f.bound) (children_of f hull) (laws.bounds f hull)))

  -- the entry proves it, where it lies inside the hull
  inside_proved : (f : Family) (e : Entry) → IsProof x f e → list_all (is_in (hull_set (length x.probes) e.hull)) tuple ≡ true → IsProvable x (roots_of x tuple) f.bound
  inside_proved f e p inside =
      let whole : IsProvable x (roots_of x (members (hull_set (length x.probes) e.hull))) f.bound = record {
        cuts = reverse e.cuts;
        chain = chain_is x.table.nodes (roots_of x (members (hull_set (length x.probes) e.hull))) (reverse e.cuts)
            (second (list_all (λ row. nat_lt row (length x.table.nodes)) e.cuts) (is_chain x.table.nodes (roots_of x (members (hull_set (length x.probes) e.hull))) (reverse e.cuts)) p.chain);
        within = p.bounded;
      } in
      laws.provable x (roots_of x (members (hull_set (length x.probes) e.hull))) (roots_of x tuple) f.bound
      (laws.among x (members (hull_set (length x.probes) e.hull)) tuple (all_among (hull_set (length x.probes) e.hull) tuple inside)) whole

  counted_more : (cs ws : List Family) → count_by has_it (cs ++ ws) ≡ count_by has_it cs + count_by has_it ws
  counted_more cs ws = sum_by-append (λ (f : Family). cond (has_it f) 1 0) cs ws

  counted_first : (f : Family) (ws : List Family) → count_by has_it (f ∷ ws) ≡ cond (has_it f) 1 0 + count_by has_it ws
  counted_first f ws = sum_by-cons (λ (f : Family). cond (has_it f) 1 0) f ws

  none_counted : (ws : List Family) → ws ≡ [] → count_by has_it ws ≡ 0
  none_counted ws e = ap (count_by has_it) e

  one_or_more : (cs ws : List Family) → count_by has_it cs ≡ 1 → 1 ≤ count_by has_it (cs ++ ws)
  one_or_more cs ws one = omega (arith, counted_more cs ws, one)

  pub proved : (entries : List Entry) (waiting : List Family) → All (IsFamily (length x.probes)) waiting → All HasBound waiting → 1 ≤ count_by has_it waiting
      → Closes x waiting entries [] → IsProvable x (roots_of x tuple) m
  proved [] waiting families bounds some h = absurd (omega (arith, some, none_counted waiting h))
  proved (e ∷ es) [] families bounds some h = absurd h
  proved (e ∷ es) (f ∷ ws) families bounds some h =
      let fam : IsFamily (length x.probes) f = All-head (IsFamily (length x.probes)) f ws families in
      let bnd : HasBound f = All-head HasBound f ws bounds in
      let kids : All (IsFamily (length x.probes)) (children_of f (hull_set (length x.probes) e.hull) ++ ws) =
      All-append (IsFamily (length x.probes)) (children_of f (hull_set (length x.probes) e.hull)) ws (laws.families (length x.probes) f (hull_set (length x.probes) e.hull) fam) (All-tail (IsFamily (length x.probes)) f ws families) in
      let kept : All HasBound (children_of f (hull_set (length x.probes) e.hull) ++ ws) =
      All-append HasBound (children_of f (hull_set (length x.probes) e.hull)) ws (children_bound f (hull_set (length x.probes) e.hull) fam bnd) (All-tail HasBound f ws bounds) in
      ⊎_elim
      (λ (t : has_it f ≡ true).
      ⊎_elim
      (λ (i : list_all (is_in (hull_set (length x.probes) e.hull)) tuple ≡ true). subst (λ (b : ℕ). IsProvable x (roots_of x tuple) b) (bnd t) (inside_proved f e h.0 i))
      (λ (o : list_all (is_in (hull_set (length x.probes) e.hull)) tuple ≡ false).
      proved es (children_of f (hull_set (length x.probes) e.hull) ++ ws) kids kept
      (one_or_more (children_of f (hull_set (length x.probes) e.hull)) ws (laws.outside (length x.probes) f (hull_set (length x.probes) e.hull) tuple fam t o)) h.1)
      (cases_Bool (list_all (is_in (hull_set (length x.probes) e.hull)) tuple)))
      (λ (n : has_it f ≡ false).
      proved es (children_of f (hull_set (length x.probes) e.hull) ++ ws) kids kept
      (omega (arith, some, counted_more (children_of f (hull_set (length x.probes) e.hull)) ws, counted_first f ws, ap {B = ℕ} (λ (b : Bool). cond b 1 0) n)) h.1)
      (cases_Bool (has_it f))

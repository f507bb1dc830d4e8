-- Names in slots, and those in full slots, as one table.
use Rattle.std.proofs.Common.{◌≡◌, ℕ, Bool, true, false, cond, List, [], ◌∷◌, ◌++◌, map, reverse, Option, Some, None, Bor, refl, sym, ap, ◌∙◌, subst, ⊎_elim}
use Rattle.std.proofs.lemmas.Bool.{cases_Bool}
use Rattle.std.proofs.lemmas.List.{reverse-append}
use Rattle.std.proofs.lemmas.Slice.Eq.{bytes_eq-Decides}
use Rattle.std.proofs.lemmas.Map.Text.{is_eq-slice_cmp, btree_map_updates_str}
use Rattle.std.specs.BTreeMap as tree
use Rattle.std.specs.BTreeMap.{BTreeMap, get_by}
use Rattle.std.specs.Cmp.Lexicographic.{slice_cmp}
use Rattle.std.specs.Map.{lookup}
use Rattle.std.specs.Option.{option_or}
use Rattle.std.specs.Ordering.{nat_cmp}
use Rattle.std.specs.Str.{bytes_eq}
use Rattle.name_table.specs.Names.{value_of, HasAlso}
use Rattle.name_table.specs.Chains.{pairs}
use Rattle.name_table.specs.declared.slots.Entry.{Entry}

pub same_names : (a b : List ℕ) → bytes_eq a b ≡ true → a ≡ b
same_names a b h = (bytes_eq-Decides a b).0 h

eq_true : (a b : List ℕ) → a ≡ b → bytes_eq a b ≡ true
eq_true a b h = (bytes_eq-Decides a b).1 h

eq_sym : (a b : List ℕ) → bytes_eq a b ≡ bytes_eq b a
eq_sym a b =
    ⊎_elim (λ t. t ∙ sym (eq_true b a (sym (same_names a b t))))
    (λ f. ⊎_elim (λ t. let e : a ≡ b = sym (same_names b a t) in let y = eq_true a b e in absurd cc) (λ g. f ∙ sym g) (cases_Bool (bytes_eq b a)))
    (cases_Bool (bytes_eq a b))

module _ {V : Type 0} where
  abbrev pub texts : List (Bor (List ℕ) × V) → List (List ℕ × V)
  texts es = map (λ p. (p.0.now, p.1)) es

  -- names in an ordered map
  pub value_in_map : (name : List ℕ) (es : List (Bor (List ℕ) × V))
      → value_of name (texts es) ≡ lookup (tree.is_at (λ (k : Bor (List ℕ)). slice_cmp nat_cmp name k.now)) es
  value_in_map name [] = refl
  value_in_map name (e ∷ es) =
      ap (λ b. cond b (Some e.1) (value_of name (texts es))) (sym (is_eq-slice_cmp name e.0.now)) ∙ ap (cond (tree.is_at (λ (k : Bor (List ℕ)). slice_cmp nat_cmp name k.now) e.0) (Some e.1)) (value_in_map name es)

  or_cond : (b : Bool) (v : V) (o p : Option V) → option_or (cond b (Some v) o) p ≡ cond b (Some v) (option_or o p)
  or_cond true v o p = refl
  or_cond false v o p = refl

  -- names in two tables
  pub value_in_both : (name : List ℕ) (xs ys : List (List ℕ × V)) → value_of name (xs ++ ys) ≡ option_or (value_of name xs) (value_of name ys)
  value_in_both name [] ys = refl
  value_in_both name (x ∷ xs) ys =
      ap (cond (bytes_eq name x.0) (Some x.1)) (value_in_both name xs ys) ∙ sym (or_cond (bytes_eq name x.0) x.1 (value_of name xs) (value_of name ys))

  or_none : (o : Option V) → o ≡ option_or o None
  or_none None = refl
  or_none (Some v) = refl

  -- a name in front of a table that lacks it
  front_also : (b : Bool) (v : V) (o : Option V) → (b ≡ true → o ≡ None) → cond b (Some v) o ≡ option_or o (cond b (Some v) None)
  front_also true v o h = ap (λ p. option_or p (Some v)) (sym (h refl))
  front_also false v o h = or_none o

  lacks : (name other : List ℕ) (table : List (List ℕ × V)) → value_of name table ≡ None → bytes_eq other name ≡ true → value_of other table ≡ None
  lacks name other table h e = ap (λ n. value_of n table) (same_names other name e) ∙ h

  pub also_in_front : (table : List (List ℕ × V)) (name : List ℕ) (v : V) → value_of name table ≡ None → HasAlso table ((name, v) ∷ table) name v
  also_in_front table name v h = λ other. front_also (bytes_eq other name) v (value_of other table) (lacks name other table h)

  back_also : (b : Bool) (v : V) (o p : Option V) → (b ≡ true → option_or o p ≡ None) → option_or o (cond b (Some v) p) ≡ option_or (option_or o p) (cond b (Some v) None)
  back_also true v None p h = ap (λ q. option_or q (Some v)) (sym (h refl))
  back_also true v (Some x) p h = refl
  back_also false v o p h = or_none (option_or o p)

  -- a name more in the map
  pub also_in_map : (xs : List (List ℕ × V)) (m n : BTreeMap (Bor (List ℕ)) V) (name : List ℕ) (v : V) → value_of name (xs ++ texts m.entries) ≡ None
      → tree.UpdatesBy (λ x y. slice_cmp nat_cmp x.now y.now) (λ k. slice_cmp nat_cmp name k.now) m n (Some v)
      → HasAlso (xs ++ texts m.entries) (xs ++ texts n.entries) name v
  also_in_map xs m n name v h u = λ other.
      let old : value_of other (xs ++ texts m.entries) ≡ option_or (value_of other xs) (get_by (λ k. slice_cmp nat_cmp other k.now) m)
      = value_in_both other xs (texts m.entries) ∙ ap (option_or (value_of other xs)) (value_in_map other m.entries) in
      let after : get_by (λ k. slice_cmp nat_cmp other k.now) n ≡ cond (bytes_eq other name) (Some v) (get_by (λ k. slice_cmp nat_cmp other k.now) m)
      = btree_map_updates_str name m n (Some v) u other ∙ ap (λ b. cond b (Some v) (get_by (λ k. slice_cmp nat_cmp other k.now) m)) (eq_sym name other) in
      value_in_both other xs (texts n.entries)
      ∙ (ap (option_or (value_of other xs)) (value_in_map other n.entries ∙ after)
      ∙ (back_also (bytes_eq other name) v (value_of other xs) (get_by (λ k. slice_cmp nat_cmp other k.now) m) (λ e. sym old ∙ lacks name other (xs ++ texts m.entries) h e)
      ∙ ap (λ o. option_or o (cond (bytes_eq other name) (Some v) None)) (sym old)))

  there : (b : Bool) (v w : V) (o : Option V) → (b ≡ true → o ≡ Some w) → o ≡ option_or o (cond b (Some v) None)
  there true v w o h = h refl ∙ ap (λ p. option_or p (Some v)) (sym (h refl))
  there false v w o h = or_none o

  -- a name that is there is added no more
  pub also_there : (table : List (List ℕ × V)) (name : List ℕ) (v w : V) → value_of name table ≡ Some w → HasAlso table table name v
  also_there table name v w h = λ other. there (bytes_eq other name) v w (value_of other table) (λ e. ap (λ n. value_of n table) (same_names other name e) ∙ h)

  pairs_join : (xs ys : List (Entry V)) → pairs (xs ++ ys) ≡ pairs xs ++ pairs ys
  pairs_join [] ys = refl
  pairs_join (x ∷ xs) ys = ap (λ v. (x.name.now, x.value) ∷ v) (pairs_join xs ys)

  pub pairs_reverse : (es : List (Entry V)) → pairs (reverse es) ≡ reverse (pairs es)
  pairs_reverse [] = refl
  pairs_reverse (e ∷ es) =
      ap pairs (reverse-append (e ∷ []) es)
      ∙ (pairs_join (reverse es) (e ∷ [])
      ∙ (ap (λ v. v ++ (e.name.now, e.value) ∷ []) (pairs_reverse es) ∙ sym (reverse-append ((e.name.now, e.value) ∷ []) (pairs es))))

  pub found_first : (name : List ℕ) (xs ys table : List (List ℕ × V)) (v : V) → Some v ≡ value_of name xs → xs ++ ys ≡ table → Some v ≡ value_of name table
  found_first name xs ys table v h e =
      sym (ap (value_of name) (sym e) ∙ (value_in_both name xs ys ∙ ap (λ o. option_or o (value_of name ys)) (sym h)))

  pub found_second : (name : List ℕ) (xs : List (List ℕ × V)) (es : List (Bor (List ℕ) × V)) (table : List (List ℕ × V)) (o : Option V) → None ≡ value_of name xs → xs ++ texts es ≡ table
      → o ≡ lookup (tree.is_at (λ (k : Bor (List ℕ)). slice_cmp nat_cmp name k.now)) es → o ≡ value_of name table
  found_second name xs es table o h e is =
      sym (ap (value_of name) (sym e) ∙ (value_in_both name xs (texts es) ∙ (ap (λ p. option_or p (value_of name (texts es))) (sym h) ∙ (value_in_map name es ∙ sym is))))

  also_from : (old new table : List (List ℕ × V)) (name : List ℕ) (v : V) → old ≡ table → HasAlso old new name v → HasAlso table new name v
  also_from old new table name v e h = subst (λ t. HasAlso t new name v) e h

  pub also_in_slots : (ps after ys table : List (List ℕ × V)) (name : List ℕ) (v : V) → after ≡ ps ++ (name, v) ∷ [] → reverse ps ++ ys ≡ table → value_of name table ≡ None
      → HasAlso table (reverse after ++ ys) name v
  also_in_slots ps after ys table name v e is h =
      let front : reverse after ≡ (name, v) ∷ reverse ps = ap reverse e ∙ reverse-append ps ((name, v) ∷ []) in
      subst (λ t. HasAlso table (t ++ ys) name v) (sym front)
      (also_from (reverse ps ++ ys) ((name, v) ∷ (reverse ps ++ ys)) table name v is (also_in_front (reverse ps ++ ys) name v (ap (value_of name) is ∙ h)))

  pub also_in_others : (xs : List (List ℕ × V)) (m n : BTreeMap (Bor (List ℕ)) V) (table : List (List ℕ × V)) (name : List ℕ) (v : V) → xs ++ texts m.entries ≡ table → value_of name table ≡ None
      → tree.UpdatesBy (λ x y. slice_cmp nat_cmp x.now y.now) (λ k. slice_cmp nat_cmp name k.now) m n (Some v)
      → HasAlso table (xs ++ texts n.entries) name v
  also_in_others xs m n table name v is h u =
      also_from (xs ++ texts m.entries) (xs ++ texts n.entries) table name v is (also_in_map xs m n name v (ap (value_of name) is ∙ h) u)

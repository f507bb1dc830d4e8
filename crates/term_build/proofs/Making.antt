-- Tables that grow by the terms that are made.
use Rattle.std.proofs.Common.{◌≡◌, ℕ, zero, suc, ◌<◌, ◌≤◌, List, [], ◌∷◌, ◌++◌, length, get_or, Result, refl, sym, ap, ◌∙◌, subst, arith, ⊎_elim, length-append}
use Rattle.std.proofs.lemmas.Bool.{cases_Bool}
use Rattle.std.proofs.lemmas.List.{append-nil}
use Rattle.circuit_types.specs.declared.refusal.Stop.{Stop}
use Rattle.circuit_types.specs.declared.refusal.Stop.TheVariants.{Refused, NoMemory}
use Rattle.expr_table.specs.declared.node.Node.{Node}
use Rattle.expr_table.specs.declared.node.Row.{Row}
use Rattle.expr_table.specs.Table.{Table, IsTable, Extends, IsRowOf, IsNew, IsFull, most_rows, terms, has_term, with_term}
use Rattle.expr_table.specs.Term.{Term, Zero}
use Rattle.expr_table.proofs.Facts.{length-terms, with_term-there, with_term-absent, Extends-self, Extends-row, Extends-trans, Extends-length}
use Rattle.term_build.specs.Building.{Grows, IsShort, StopsAt, Makes, AreRows, ShowRows, ShowBits, row_at}
use Rattle.term_build.specs.TermInstance.{with_terms}

pub with_terms-append : (ts xs ys : List Term) → with_terms ts (xs ++ ys) ≡ with_terms (with_terms ts xs) ys
with_terms-append ts [] ys = refl
with_terms-append ts (x ∷ xs) ys = with_terms-append (with_term ts x) xs ys

with_term-longer : (ts : List Term) (t : Term) → length ts ≤ length (with_term ts t)
with_term-longer ts t =
    ⊎_elim (λ h. let e = ap length (with_term-there ts t h) in omega arith)
    (λ h. let e = ap length (with_term-absent ts t h) in omega (arith, length-append ts (t ∷ []))) (cases_Bool (has_term ts t))

pub with_terms-longer : (ts xs : List Term) → length ts ≤ length (with_terms ts xs)
with_terms-longer ts [] = omega arith
with_terms-longer ts (x ∷ xs) = omega (arith, with_term-longer ts x, with_terms-longer (with_term ts x) xs)

pub Grows-none : (t : Table) → Grows t t []
Grows-none t = record { rows = refl; kept = Extends-self t }

pub Grows-more : (a b c : Table) (xs ys : List Term) → Grows a b xs → Grows b c ys → Grows a c (xs ++ ys)
Grows-more a b c xs ys first second = record {
  rows = second.rows ∙ ap (λ ts. with_terms ts ys) first.rows ∙ sym (with_terms-append (terms a.nodes) xs ys);
  kept = Extends-trans a b c first.kept second.kept;
}

-- what stops after some terms are made, stops all
pub StopsAt-more : (a b : Table) (xs ys zs all : List Term) (stop : Stop) → Grows a b xs → all ≡ (xs ++ ys) ++ zs → StopsAt b ys stop → StopsAt a all stop
StopsAt-more a b xs ys zs all NoMemory grows is stops = tt
StopsAt-more a b xs ys zs all (Refused r) grows is stops = (stops.0, record { too_many = subst (λ m. most_rows < length (with_terms (terms a.nodes) m)) (sym is) more })
  where
    same : with_terms (terms a.nodes) ((xs ++ ys) ++ zs) ≡ with_terms (with_terms (terms b.nodes) ys) zs
    same =
        with_terms-append (terms a.nodes) (xs ++ ys) zs ∙ ap (λ ts. with_terms ts zs) (with_terms-append (terms a.nodes) xs ys)
        ∙ ap (λ ts. with_terms (with_terms ts ys) zs) (sym grows.rows)

    more : most_rows < length (with_terms (terms a.nodes) ((xs ++ ys) ++ zs))
    more = omega (arith, stops.1.too_many, with_terms-longer (with_terms (terms b.nodes) ys) zs, ap length same)

-- where the last of the terms stop
pub StopsAt-last : (a b : Table) (xs ys : List Term) (stop : Stop) → Grows a b xs → StopsAt b ys stop → StopsAt a (xs ++ ys) stop
StopsAt-last a b xs ys stop grows stops = StopsAt-more a b xs ys [] (xs ++ ys) stop grows (sym (append-nil (xs ++ ys))) stops

-- where the first of the terms stop
pub StopsAt-first : (a : Table) (ys zs : List Term) (stop : Stop) → StopsAt a ys stop → StopsAt a (ys ++ zs) stop
StopsAt-first a ys zs stop stops = StopsAt-more a a [] ys zs (ys ++ zs) stop (Grows-none a) refl stops

pub StopsAt-same : (a : Table) (ys zs : List Term) (stop : Stop) → ys ≡ zs → StopsAt a ys stop → StopsAt a zs stop
StopsAt-same a ys zs NoMemory e stops = tt
StopsAt-same a ys zs (Refused r) e stops = (stops.0, subst (IsShort a) e stops.1)

-- a table that is full has no room for a term that is new
pub IsShort-full : (old : Table) (t : Term) → IsNew old t → IsFull old → IsShort old (t ∷ [])
IsShort-full old t new full = record {
  too_many =
      let e = ap length (with_term-absent (terms old.nodes) t new) in
      omega (arith, length-append (terms old.nodes) (t ∷ []), length-terms old.nodes, full);
}

-- what a table has, is not short
pub Grows-fits : (old new : Table) (made : List Term) → IsTable new → Grows old new made → IsShort old made → ⊥
Grows-fits old new made table grows short = let few = table.few in let long = short.too_many in omega (arith, ap length grows.rows, length-terms new.nodes, few, long)

-- rows stay rows
module _ (old new : Table) (kept : Extends old new) where
  pub AreRows-kept : (rows : List Row) → AreRows old.nodes rows → AreRows new.nodes rows
  AreRows-kept rows are = record { each = λ i. omega (arith, are.each i, Extends-length old new kept) }

  pub ShowRows-kept : (rows : List Row) (ts : List Term) → ShowRows old.nodes rows ts → ShowRows new.nodes rows ts
  ShowRows-kept rows ts show = record { one_each = show.one_each; each = λ i. Extends-row old new kept (row_at rows i) (get_or ts i Zero) (show.each i) }

  pub ShowBits-kept : (rows : List Row) (term : ℕ → Term) → ShowBits old.nodes rows term → ShowBits new.nodes rows term
  ShowBits-kept rows term show = record { each = λ b. Extends-row old new kept (row_at rows b) (term b) (show.each b) }

pub ShowRows-rows : (nodes : List Node) (rows : List Row) (ts : List Term) → ShowRows nodes rows ts → AreRows nodes rows
ShowRows-rows nodes rows ts show = record { each = λ i. (show.each i).within }

pub ShowBits-rows : (nodes : List Node) (rows : List Row) (term : ℕ → Term) → ShowBits nodes rows term → AreRows nodes rows
ShowBits-rows nodes rows term show = record { each = λ i. (show.each i).within }

-- one more row with its term
module _ (nodes : List Node) (r : Row) where
  push-each : (t : Term) → IsRowOf nodes r.0 t → (rows : List Row) (ts : List Term) → length rows ≡ length ts → ((i : ℕ) → IsRowOf nodes (row_at rows i) (get_or ts i Zero))
      → (i : ℕ) → IsRowOf nodes (row_at (rows ++ r ∷ []) i) (get_or (ts ++ t ∷ []) i Zero)
  push-each t is [] [] same each zero = is
  push-each t is [] [] same each (suc i) = each i
  push-each t is (x ∷ rows) (u ∷ ts) same each zero = each 0
  push-each t is (x ∷ rows) (u ∷ ts) same each (suc i) = push-each t is rows ts (omega arith) (λ j. each (suc j)) i
  push-each t is [] (u ∷ ts) same each i = absurd (omega arith)
  push-each t is (x ∷ rows) [] same each i = absurd (omega arith)

  pub ShowRows-push : (t : Term) (rows : List Row) (ts : List Term) → ShowRows nodes rows ts → IsRowOf nodes r.0 t → ShowRows nodes (rows ++ r ∷ []) (ts ++ t ∷ [])
  ShowRows-push t rows ts show is = record {
    one_each = omega (arith, length-append rows (r ∷ []), length-append ts (t ∷ []), show.one_each);
    each = push-each t is rows ts show.one_each show.each;
  }

  rows-each : r.0 < length nodes → (rows : List Row) → ((i : ℕ) → row_at rows i < length nodes) → (i : ℕ) → row_at (rows ++ r ∷ []) i < length nodes
  rows-each lt [] each zero = lt
  rows-each lt [] each (suc i) = each i
  rows-each lt (x ∷ rows) each zero = each 0
  rows-each lt (x ∷ rows) each (suc i) = rows-each lt rows (λ j. each (suc j)) i

  pub AreRows-push : (rows : List Row) → AreRows nodes rows → r.0 < length nodes → AreRows nodes (rows ++ r ∷ [])
  AreRows-push rows are lt = record { each = rows-each lt rows are.each }

-- making one term, by two words for it
pub Makes-same : (old new : Table) (s t : Term) (result : Result Row Stop) → s ≡ t → Makes old new (s ∷ []) s result → Makes old new (t ∷ []) t result
Makes-same old new s t result e makes = subst (λ u. Makes old new (u ∷ []) u result) e makes

-- no rows
pub AreRows-none : (nodes : List Node) (rows : List Row) → AreRows nodes rows → AreRows nodes []
AreRows-none nodes rows are = record { each = λ i. omega (arith, are.each 0, none i) }
  where
    none : (i : ℕ) → row_at [] i ≡ 0
    none zero = refl
    none (suc i) = refl

none-each : (nodes : List Node) (rows : List Row) (ts : List Term) → length rows ≡ length ts → ((i : ℕ) → IsRowOf nodes (row_at rows i) (get_or ts i Zero)) → (i : ℕ) → IsRowOf nodes (row_at [] i) (get_or [] i Zero)
none-each nodes [] [] same each i = each i
none-each nodes (x ∷ rows) (t ∷ ts) same each i = none-each nodes rows ts (omega arith) (λ j. each (suc j)) i
none-each nodes [] (t ∷ ts) same each i = absurd (omega arith)
none-each nodes (x ∷ rows) [] same each i = absurd (omega arith)

pub ShowRows-none : (nodes : List Node) (rows : List Row) (ts : List Term) → ShowRows nodes rows ts → ShowRows nodes [] []
ShowRows-none nodes rows ts show = record { one_each = refl; each = none-each nodes rows ts show.one_each show.each }

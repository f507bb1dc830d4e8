-- Rows and their terms.
use Rattle.std.proofs.Common.{◌≡◌, ℕ, zero, suc, Bool, true, false, IsTrue, ◌<◌, ◌≤◌, ◌+◌, ◌||◌, List, [], ◌∷◌, ◌++◌, length, slice_get, Some, refl, sym, ap, ◌∙◌, subst, arith, ⊎_elim}
use Rattle.std.proofs.lemmas.Bool.{cases_Bool, cond-true, cond-false}
use Rattle.std.proofs.lemmas.Bool.Decides.{nat_tests}
use Rattle.std.proofs.lemmas.List.{append-nil, get_or_append_left, get_or_push, length_push}
use Rattle.std.proofs.lemmas.Option.{get_or_from_slice_get, slice_get_within}
use Rattle.expr_table.specs.declared.node.Node.{Node}
use Rattle.expr_table.specs.declared.node.Node.TheVariants as node
use Rattle.expr_table.specs.Term.{Term, Zero, is_same}
use Rattle.expr_table.specs.Table.{Table, IsTable, IsRowOf, Extends, node_at, sides, has, has_term, with_term, terms, terms_after, term_of, term_at}
use Rattle.expr_table.proofs.Order.{is_same-exact, is_same-equal}

-- the sides of a node are before this row
abbrev pub SidesBelow : ℕ → Node → Type 0
SidesBelow row (node.And a b) = (a.0 < row) × (b.0 < row)
SidesBelow row (node.Xor a b) = (a.0 < row) × (b.0 < row)
SidesBelow row n = Unit {0}

pub SidesBelow-weaker : (a b : ℕ) (n : Node) → a ≤ b → SidesBelow a n → SidesBelow b n
SidesBelow-weaker a b node.Zero le below = tt
SidesBelow-weaker a b node.One le below = tt
SidesBelow-weaker a b (node.Input i) le below = tt
SidesBelow-weaker a b (node.Random i) le below = tt
SidesBelow-weaker a b (node.And x y) le below = (omega arith, omega arith)
SidesBelow-weaker a b (node.Xor x y) le below = (omega arith, omega arith)

pub SidesBelow-from_sides : (row : ℕ) (n : Node) → ((side : ℕ) → IsTrue (has (sides n) side) → side < row) → SidesBelow row n
SidesBelow-from_sides row node.Zero h = tt
SidesBelow-from_sides row node.One h = tt
SidesBelow-from_sides row (node.Input i) h = tt
SidesBelow-from_sides row (node.Random i) h = tt
SidesBelow-from_sides row (node.And a b) h = (h a.0 (grind (arith, nat_tests)), h b.0 (grind (arith, nat_tests)))
SidesBelow-from_sides row (node.Xor a b) h = (h a.0 (grind (arith, nat_tests)), h b.0 (grind (arith, nat_tests)))

either_side : (a b side row : ℕ) → a < row → b < row → IsTrue (has (a ∷ b ∷ []) side) → side < row
either_side a b side row al bl h = grind (arith, nat_tests)

pub sides-from_below : (row : ℕ) (n : Node) → SidesBelow row n → (side : ℕ) → IsTrue (has (sides n) side) → side < row
sides-from_below row node.Zero below side h = cc
sides-from_below row node.One below side h = cc
sides-from_below row (node.Input i) below side h = cc
sides-from_below row (node.Random i) below side h = cc
sides-from_below row (node.And a b) below side h = either_side a.0 b.0 side row below.0 below.1 h
sides-from_below row (node.Xor a b) below side h = either_side a.0 b.0 side row below.0 below.1 h

-- what is done stays in front
pub terms_after-append : (done : List Term) (ns ms : List Node) → terms_after done (ns ++ ms) ≡ terms_after (terms_after done ns) ms
terms_after-append done [] ms = refl
terms_after-append done (n ∷ ns) ms = terms_after-append (done ++ term_of done n ∷ []) ns ms

pub length-terms_after : (done : List Term) (ns : List Node) → length (terms_after done ns) ≡ length done + length ns
length-terms_after done [] = omega arith
length-terms_after done (n ∷ ns) = omega (arith, length-terms_after (done ++ term_of done n ∷ []) ns, length_push done (term_of done n))

pub term_at-terms_after : (done : List Term) (ns : List Node) (i : ℕ) → i < length done → term_at (terms_after done ns) i ≡ term_at done i
term_at-terms_after done [] i lt = refl
term_at-terms_after done (n ∷ ns) i lt =
    term_at-terms_after (done ++ term_of done n ∷ []) ns i (omega (arith, length_push done (term_of done n))) ∙ get_or_append_left done (term_of done n ∷ []) Zero i lt

pub length-terms : (ns : List Node) → length (terms ns) ≡ length ns
length-terms ns = omega (arith, length-terms_after [] ns)

pub terms-push : (ns : List Node) (n : Node) → terms (ns ++ n ∷ []) ≡ terms ns ++ term_of (terms ns) n ∷ []
terms-push ns n = terms_after-append [] ns (n ∷ [])

-- the terms of old rows stay
pub term_at-append : (ns more : List Node) (i : ℕ) → i < length ns → term_at (terms (ns ++ more)) i ≡ term_at (terms ns) i
term_at-append ns more i lt =
    ap (λ ts. term_at ts i) (terms_after-append [] ns more) ∙ term_at-terms_after (terms ns) more i (omega (arith, length-terms ns))

-- a node's term needs only the terms before it
pub term_of-same : (some more : List Term) (row : ℕ) (n : Node) → SidesBelow row n → ((i : ℕ) → i < row → term_at more i ≡ term_at some i) → term_of more n ≡ term_of some n
term_of-same some more row node.Zero below same = refl
term_of-same some more row node.One below same = refl
term_of-same some more row (node.Input i) below same = refl
term_of-same some more row (node.Random i) below same = refl
term_of-same some more row (node.And a b) below same = let x = same a.0 below.0 in let y = same b.0 below.1 in cc
term_of-same some more row (node.Xor a b) below same = let x = same a.0 below.0 in let y = same b.0 below.1 in cc

-- each row's sides are before it, from a first row on
abbrev pub AreRows : ℕ → List Node → Type 0
AreRows first ns = (i : ℕ) → SidesBelow (first + i) (node_at ns i)

AreRows-tail : (first : ℕ) (n : Node) (ns : List Node) → AreRows first (n ∷ ns) → AreRows (first + 1) ns
AreRows-tail first n ns rows i = let same : first + suc i ≡ first + 1 + i = omega arith in subst (λ k. SidesBelow k (node_at ns i)) same (rows (suc i))

-- the term of a row is that of its node
row_term : (done : List Term) (ns : List Node) (i : ℕ) → AreRows (length done) ns → i < length ns → term_at (terms_after done ns) (length done + i) ≡ term_of (terms_after done ns) (node_at ns i)
row_term done [] i rows lt = absurd (omega arith)
row_term done (n ∷ ns) zero rows lt =
    let more = done ++ term_of done n ∷ [] in
    let here : length done + 0 ≡ length done = omega arith in
    let below : SidesBelow (length done) n = subst (λ k. SidesBelow k n) here (rows 0) in
    ap (term_at (terms_after more ns)) here ∙ term_at-terms_after more ns (length done) (omega (arith, length_push done (term_of done n)))
    ∙ get_or_push done (term_of done n) Zero (length done) refl
    ∙ sym (term_of-same done (terms_after more ns) (length done) n below (λ k l. term_at-terms_after done (n ∷ ns) k l))
row_term done (n ∷ ns) (suc i) rows lt =
    let more = done ++ term_of done n ∷ [] in
    let shift : length done + suc i ≡ length more + i = omega (arith, length_push done (term_of done n)) in
    let len : length done + 1 ≡ length more = omega (arith, length_push done (term_of done n)) in
    let rows' : AreRows (length more) ns = subst (λ k. AreRows k ns) len (AreRows-tail (length done) n ns rows) in
    ap (term_at (terms_after more ns)) shift ∙ row_term more ns i rows' (omega arith)

pub term_at-node : (ns : List Node) → ((row : ℕ) → SidesBelow row (node_at ns row)) → (row : ℕ) → row < length ns → term_at (terms ns) row ≡ term_of (terms ns) (node_at ns row)
term_at-node ns below row lt =
    let shift : (i : ℕ) → i ≡ 0 + i = λ i. omega arith in
    ap (term_at (terms ns)) (shift row) ∙ row_term [] ns row (λ i. subst (λ k. SidesBelow k (node_at ns i)) (shift i) (below i)) lt

-- no term stands in two rows
abbrev pub AreDistinct : List Term → Type 0
AreDistinct ts = (i j : ℕ) → i < length ts → j < length ts → term_at ts i ≡ term_at ts j → i ≡ j

-- nodes over distinct terms that have one term are one
pub node_from_term : (ts : List Term) → AreDistinct ts → (m n : Node) → SidesBelow (length ts) m → SidesBelow (length ts) n → term_of ts m ≡ term_of ts n → m ≡ n
node_from_term ts apart node.Zero node.Zero below below' e = refl
node_from_term ts apart node.One node.One below below' e = refl
node_from_term ts apart (node.Input i) (node.Input j) below below' e = cc
node_from_term ts apart (node.Random i) (node.Random j) below below' e = cc
node_from_term ts apart (node.And a b) (node.And c d) below below' e =
    let x : term_at ts a.0 ≡ term_at ts c.0 = cc in let y : term_at ts b.0 ≡ term_at ts d.0 = cc in
    let p = apart a.0 c.0 below.0 below'.0 x in let q = apart b.0 d.0 below.1 below'.1 y in
    ap (λ (k : ℕ × ℕ). node.And (record { 0 = k.0 }) (record { 0 = k.1 })) (λ i. (p i, q i))
node_from_term ts apart (node.Xor a b) (node.Xor c d) below below' e =
    let x : term_at ts a.0 ≡ term_at ts c.0 = cc in let y : term_at ts b.0 ≡ term_at ts d.0 = cc in
    let p = apart a.0 c.0 below.0 below'.0 x in let q = apart b.0 d.0 below.1 below'.1 y in
    ap (λ (k : ℕ × ℕ). node.Xor (record { 0 = k.0 }) (record { 0 = k.1 })) (λ i. (p i, q i))
node_from_term ts apart _ _ below below' e = cc

-- whether a list has a term
or_left : (a b : Bool) → a ≡ true → (a || b) ≡ true
or_left true b h = refl
or_left false b h = cc

or_right : (a b : Bool) → b ≡ true → (a || b) ≡ true
or_right true b h = refl
or_right false b h = h

neither : (a b : Bool) → a ≡ false → b ≡ false → (a || b) ≡ false
neither false b h k = k
neither true b h k = cc

pub has_term-at : (ts : List Term) (t : Term) (i : ℕ) → i < length ts → term_at ts i ≡ t → has_term ts t ≡ true
has_term-at [] t i lt e = absurd (omega arith)
has_term-at (s ∷ ss) t zero lt e = or_left (is_same s t) (has_term ss t) (is_same-equal s t e)
has_term-at (s ∷ ss) t (suc i) lt e = or_right (is_same s t) (has_term ss t) (has_term-at ss t i (omega arith) e)

pub has_term-absent : (ts : List Term) (t : Term) → ((i : ℕ) → i < length ts → term_at ts i ≡ t → ⊥) → has_term ts t ≡ false
has_term-absent [] t h = refl
has_term-absent (s ∷ ss) t h =
    neither (is_same s t) (has_term ss t)
    (⊎_elim (λ e. absurd (h 0 (omega arith) (is_same-exact s t e))) (λ e. e) (cases_Bool (is_same s t)))
    (has_term-absent ss t (λ i lt e. h (suc i) (omega arith) e))

pub with_term-there : (ts : List Term) (t : Term) → has_term ts t ≡ true → with_term ts t ≡ ts
with_term-there ts t h = cond-true (has_term ts t) ts (ts ++ t ∷ []) h

pub with_term-absent : (ts : List Term) (t : Term) → has_term ts t ≡ false → with_term ts t ≡ ts ++ t ∷ []
with_term-absent ts t h = cond-false (has_term ts t) ts (ts ++ t ∷ []) h

-- what a row of a list of terms has, is there
pub has_term-row : (ns : List Node) (row : ℕ) (t : Term) → IsRowOf ns row t → has_term (terms ns) t ≡ true
has_term-row ns row t is = has_term-at (terms ns) t row (omega (arith, is.within, length-terms ns)) is.term

-- a table is the beginning of itself
pub Extends-self : (t : Table) → Extends t t
Extends-self t = record { same_inputs = refl; same_randoms = refl; more = []; nodes = sym (append-nil t.nodes) }

-- a table's facts, as the lemmas above take them
module _ (t : Table) (table : IsTable t) where
  pub row-below : (row : ℕ) → SidesBelow row (node_at t.nodes row)
  row-below row = SidesBelow-from_sides row (node_at t.nodes row) (table.earlier row)

  pub row-term : (row : ℕ) → row < length t.nodes → term_at (terms t.nodes) row ≡ term_of (terms t.nodes) (node_at t.nodes row)
  row-term = term_at-node t.nodes row-below

  pub row-distinct : AreDistinct (terms t.nodes)
  row-distinct i j il jl e = table.distinct i j (omega (arith, length-terms t.nodes)) (omega (arith, length-terms t.nodes)) e

  pub IsRowOf-node : (row : ℕ) (n : Node) → slice_get t.nodes row ≡ Some n → IsRowOf t.nodes row (term_of (terms t.nodes) n)
  IsRowOf-node row n at =
      let lt = slice_get_within t.nodes row n at in
      record { within = lt; term = row-term row lt ∙ ap (term_of (terms t.nodes)) (get_or_from_slice_get t.nodes row n node.Zero at) }

  pub IsRowOf-at : (row : ℕ) (n : Node) → row < length t.nodes → node_at t.nodes row ≡ n → IsRowOf t.nodes row (term_of (terms t.nodes) n)
  IsRowOf-at row n lt at = record { within = lt; term = row-term row lt ∙ ap (term_of (terms t.nodes)) at }

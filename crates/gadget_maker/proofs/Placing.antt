-- Items put one after another.
use Rattle.std.proofs.Common.{◌≡◌, ℕ, zero, suc, ◌+◌, ◌*◌, ◌<◌, ◌≤◌, ◌^◌, List, [], ◌∷◌, ◌++◌, length, take, get_or, sum_by, refl, sym, ap, subst, ◌∙◌, append_assoc, add_assoc, arith}
use Rattle.std.specs.List.{flat_map}
use Rattle.std.proofs.lemmas.List.{append-nil, take_more, take_all}
use Rattle.std.proofs.lemmas.List.Sums.{sum_by-append, sum_by-cons}
use Rattle.std.proofs.lemmas.Grind.{flat_map-append}
use Rattle.circuit_types.specs.Items.{cells}
use Rattle.circuit_types.specs.declared.tree.Attribute.{Attribute}
use Rattle.circuit_types.specs.declared.tree.Item.{Item}
use Rattle.circuit_types.specs.declared.tree.Item.TheVariants as item
use Rattle.rtlil_print.specs.PrintedLines.{item_at, item_height, items_at}
use Rattle.gadget_maker.specs.Gadget.{cell_name, named_from}
use Rattle.gadget_maker.specs.Listed.{placed, Puts, HasRoom}
use Rattle.gadget_maker.specs.declared.listing.Listing.{Listing}

items_at-append : (n : ℕ) (xs ys : List Item) → items_at n (xs ++ ys) ≡ items_at n xs ++ items_at (n + sum_by item_height xs) ys
items_at-append n [] ys = let e : n ≡ n + 0 = omega arith in ap (λ k. items_at k ys) e
items_at-append n (x ∷ xs) ys =
    ap (λ v. item_at n x ∷ v)
    (items_at-append (n + item_height x) xs ys
    ∙ ap (λ k. items_at (n + item_height x) xs ++ items_at k ys) (add_assoc n (item_height x) (sum_by item_height xs) ∙ ap (λ s. n + s) (sym (sum_by-cons item_height x xs))))

cells_count : (xs ys : List Item) → length (cells (xs ++ ys)) ≡ length (cells xs) + length (cells ys)
cells_count [] ys = let e : length (cells ys) ≡ 0 + length (cells ys) = omega arith in e
cells_count (item.Cell c ∷ xs) ys = let e = cells_count xs ys in omega (arith, e)
cells_count (item.Wire w ∷ xs) ys = cells_count xs ys
cells_count (item.Parameter p ∷ xs) ys = cells_count xs ys
cells_count (item.Connect c ∷ xs) ys = cells_count xs ys

named-append : (n : ℕ) (xs ys : List Item) → named_from n (xs ++ ys) ≡ named_from n xs ++ named_from (n + length (cells xs)) ys
named-append n [] ys = let e : n ≡ n + 0 = omega arith in ap (λ k. named_from k ys) e
named-append n (item.Cell c ∷ xs) ys =
    let e : n + 1 + length (cells xs) ≡ n + suc (length (cells xs)) = omega arith in
    ap (λ v. item.Cell (record c { name = cell_name n }) ∷ v)
    (named-append (n + 1) xs ys ∙ ap (λ k. named_from (n + 1) xs ++ named_from k ys) e)
named-append n (item.Wire w ∷ xs) ys = ap (λ v. item.Wire w ∷ v) (named-append n xs ys)
named-append n (item.Parameter p ∷ xs) ys = ap (λ v. item.Parameter p ∷ v) (named-append n xs ys)
named-append n (item.Connect c ∷ xs) ys = ap (λ v. item.Connect c ∷ v) (named-append n xs ys)

more_height : (x y : Item) (xs ys : List Item) → item_height x ≡ item_height y → sum_by item_height xs ≡ sum_by item_height ys
    → sum_by item_height (x ∷ xs) ≡ sum_by item_height (y ∷ ys)
more_height x y xs ys e h =
    sum_by-cons item_height x xs
    ∙ (ap (λ k. k + sum_by item_height xs) e ∙ (ap (λ k. item_height y + k) h ∙ sym (sum_by-cons item_height y ys)))

named_height : (n : ℕ) (xs : List Item) → sum_by item_height (named_from n xs) ≡ sum_by item_height xs
named_height n [] = refl
named_height n (item.Cell c ∷ xs) = more_height (item.Cell (record c { name = cell_name n })) (item.Cell c) (named_from (n + 1) xs) xs refl (named_height (n + 1) xs)
named_height n (item.Wire w ∷ xs) = more_height (item.Wire w) (item.Wire w) (named_from n xs) xs refl (named_height n xs)
named_height n (item.Parameter p ∷ xs) = more_height (item.Parameter p) (item.Parameter p) (named_from n xs) xs refl (named_height n xs)
named_height n (item.Connect c ∷ xs) = more_height (item.Connect c) (item.Connect c) (named_from n xs) xs refl (named_height n xs)

placed-append : (l n : ℕ) (xs ys : List Item) → placed l n (xs ++ ys) ≡ placed l n xs ++ placed (l + sum_by item_height xs) (n + length (cells xs)) ys
placed-append l n xs ys =
    ap (items_at l) (named-append n xs ys)
    ∙ (items_at-append l (named_from n xs) (named_from (n + length (cells xs)) ys)
    ∙ ap (λ h. items_at l (named_from n xs) ++ items_at (l + h) (named_from (n + length (cells xs)) ys)) (named_height n xs))

listed-append : (olds bs cs : List Item) (l l2 n n2 : ℕ) (xs ys : List Item) → bs ≡ olds ++ placed l n xs → cs ≡ bs ++ placed l2 n2 ys
    → l2 ≡ l + sum_by item_height xs → n2 ≡ n + length (cells xs) → cs ≡ olds ++ placed l n (xs ++ ys)
listed-append olds bs cs l l2 n n2 xs ys p q e f =
    q ∙ (ap (λ v. v ++ placed l2 n2 ys) p
    ∙ (append_assoc olds (placed l n xs) (placed l2 n2 ys)
    ∙ (ap (λ v. olds ++ (placed l n xs ++ placed v n2 ys)) e
    ∙ (ap (λ v. olds ++ (placed l n xs ++ placed (l + sum_by item_height xs) v ys)) f
    ∙ ap (λ v. olds ++ v) (sym (placed-append l n xs ys))))))

-- first the ones, then the others
pub then_put : (a b c : Listing) (m n : ℕ) (xs ys : List Item) → Puts a b m xs → Puts b c n ys → Puts a c (m + n) (xs ++ ys)
then_put a b c m n xs ys p q = record {
  listed = listed-append a.items.items b.items.items c.items.items a.line b.line a.cells b.cells xs ys p.listed q.listed p.next_line p.next_cell;
  next_line = omega (arith, sum_by-append item_height xs ys);
  next_cell = omega (arith, cells_count xs ys);
  low_line = omega arith;
  low_cell = omega arith;
}

pub none_put : (a : Listing) → Puts a a 0 []
none_put a = record {
  listed = sym (append-nil a.items.items);
  next_line = omega arith;
  next_cell = omega arith;
  low_line = omega arith;
  low_cell = omega arith;
}

pub put_at_most : (a b : Listing) (m n : ℕ) (xs : List Item) → m ≤ n → Puts a b m xs → Puts a b n xs
put_at_most a b m n xs le p = record {
  listed = p.listed;
  next_line = p.next_line;
  next_cell = p.next_cell;
  low_line = omega arith;
  low_cell = omega arith;
}

pub put_same : (a b : Listing) (n : ℕ) (xs ys : List Item) → xs ≡ ys → Puts a b n xs → Puts a b n ys
put_same a b n xs ys e p = subst (λ v. Puts a b n v) e p

pub room_at_most : (a : Listing) (m n : ℕ) → m ≤ n → HasRoom a n → HasRoom a m
room_at_most a m n le r = record { line_room = omega arith; cell_room = omega arith }

-- what room is left behind those that were put
pub room_left : (a b : Listing) (k m n : ℕ) (xs : List Item) → k + m ≤ n → HasRoom a n → Puts a b k xs → HasRoom b m
room_left a b k m n xs le r p = record { line_room = omega arith; cell_room = omega arith }

-- ---- loops

pub loop_room : {X : Type 0} (f : X → List Item) (a b : Listing) (all : List X) (k : ℕ) → k < length all → HasRoom a (length all)
    → Puts a b k (flat_map f (take k all)) → HasRoom b 1
loop_room f a b all k lt r p = room_left a b k 1 (length all) (flat_map f (take k all)) (omega arith) r p

pub loop_next : {X : Type 0} (f : X → List Item) (a b c : Listing) (all : List X) (k : ℕ) (x : X) → k < length all → x ≡ get_or all k x
    → Puts a b k (flat_map f (take k all)) → Puts b c 1 (f x) → Puts a c (k + 1) (flat_map f (take (k + 1) all))
loop_next f a b c all k x lt e p q =
    put_same a c (k + 1) (flat_map f (take k all) ++ f x) (flat_map f (take (k + 1) all))
    (sym (ap (flat_map f) (take_more all k x lt ∙ ap (λ y. take k all ++ y ∷ []) (sym e))
    ∙ (flat_map-append f (take k all) (x ∷ []) ∙ ap (λ v. flat_map f (take k all) ++ v) (append-nil (f x)))))
    (then_put a b c k 1 (flat_map f (take k all)) (f x) p q)

pub loop_done : {X : Type 0} (f : X → List Item) (a b : Listing) (all : List X) (k : ℕ) → k ≤ length all → take k all ≡ all
    → Puts a b k (flat_map f (take k all)) → Puts a b (length all) (flat_map f all)
loop_done f a b all k le e p =
    put_at_most a b k (length all) (flat_map f all) (omega arith) (put_same a b k (flat_map f (take k all)) (flat_map f all) (ap (flat_map f) e) p)

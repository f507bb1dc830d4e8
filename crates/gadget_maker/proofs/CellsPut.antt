-- A cell on its lines.
use Rattle.std.proofs.Common.{◌≡◌, ℕ, ◌+◌, List, [], ◌∷◌, ◌++◌, Result, Ok, Err, OnOk, codes, refl, sym, ap, subst, ◌∙◌, arith}
use Rattle.circuit_types.specs.declared.signal.Signal.{Signal}
use Rattle.circuit_types.specs.declared.signal.Signal.TheVariants as signal
use Rattle.circuit_types.specs.declared.tree.Item.{Item}
use Rattle.circuit_types.specs.declared.tree.Item.TheVariants as item
use Rattle.gadget_maker.proofs.Placing.{then_put, put_same}
use Rattle.gadget_maker.specs.Gadget.{connect_on, cell_on, cell_name, gate, register}
use Rattle.gadget_maker.specs.Listed.{placed, Puts, HasRoom}
use Rattle.gadget_maker.specs.declared.listing.Listing.{Listing}

-- a cell of three ports, its connects on these lines
abbrev pub three_ports : List ℕ → ℕ → ℕ → ℕ → Signal → Signal → Signal → ℕ → List ℕ → ℕ → ℕ → ℕ → Item
three_ports kind k m n a b y line name l0 l1 l2 = item.Cell (cell_on line kind name (connect_on l0 k a ∷ connect_on l1 m b ∷ connect_on l2 n y ∷ []))

lined : (kind : List ℕ) (k m n : ℕ) (a b y : Signal) (name : List ℕ) (l l0 l1 l2 l_new l0_new l1_new l2_new : ℕ) → l ≡ l_new → l0 ≡ l0_new → l1 ≡ l1_new → l2 ≡ l2_new
    → three_ports kind k m n a b y l name l0 l1 l2 ≡ three_ports kind k m n a b y l_new name l0_new l1_new l2_new
lined kind k m n a b y name l l0 l1 l2 l_new l0_new l1_new l2_new e e0 e1 e2 =
    ap (λ v. three_ports kind k m n a b y v name l0 l1 l2) e
    ∙ (ap (λ v. three_ports kind k m n a b y l_new name v l1 l2) e0
    ∙ (ap (λ v. three_ports kind k m n a b y l_new name l0_new v l2) e1
    ∙ ap (λ v. three_ports kind k m n a b y l_new name l0_new l1_new v) e2))

pub cell_put : (before after : Listing) (kind : List ℕ) (k m n : ℕ) (a b y : Signal)
    → after.items.items ≡ before.items.items
    ++ three_ports kind k m n a b y before.line (cell_name before.cells) (before.line + 1) (before.line + 1 + 1) (before.line + 1 + 2) ∷ []
    → after.line ≡ before.line + 5 → after.cells ≡ before.cells + 1
    → Puts before after 1 (three_ports kind k m n a b y 0 [] 0 0 0 ∷ [])
cell_put before after kind k m n a b y e line cells =
    let l : before.line ≡ before.line + 0 = omega arith in
    let l0 : before.line + 1 ≡ before.line + 0 + 1 + 0 = omega arith in
    let l1 : before.line + 1 + 1 ≡ before.line + 0 + 1 + 0 + 1 = omega arith in
    let l2 : before.line + 1 + 2 ≡ before.line + 0 + 1 + 0 + 1 + 1 = omega arith in
    record {
      listed = e ∙ ap (λ v. before.items.items ++ v ∷ []) (lined kind k m n a b y (cell_name before.cells) _ _ _ _ _ _ _ _ l l0 l1 l2);
      next_line = omega arith;
      next_cell = omega arith;
      low_line = omega arith;
      low_cell = omega arith;
    }

pub on_ok_three : {A E : Type 0} {P Q R S : Type 0} (r : Result A E) → (P → Q → R → S) → OnOk r P → OnOk r Q → OnOk r R → OnOk r S
on_ok_three (Ok x) f p q r = f p q r
on_ok_three (Err e) f p q r = tt

-- the same gate
pub gate_put : (x y : Listing) (kind kind_new : List ℕ) (a a_new b b_new o o_new : Signal) → kind ≡ kind_new → a ≡ a_new → b ≡ b_new → o ≡ o_new
    → Puts x y 1 (gate kind a b o ∷ []) → Puts x y 1 (gate kind_new a_new b_new o_new ∷ [])
gate_put x y kind kind_new a a_new b b_new o o_new k e f g p =
    put_same x y 1 (gate kind a b o ∷ []) (gate kind_new a_new b_new o_new ∷ [])
    (ap (λ v. gate v a b o ∷ []) k
    ∙ (ap (λ v. gate kind_new v b o ∷ []) e
    ∙ (ap (λ v. gate kind_new a_new v o ∷ []) f
    ∙ ap (λ v. gate kind_new a_new b_new v ∷ []) g)))
    p

pub register_put : (x y : Listing) (d d_new q q_new : Signal) → d ≡ d_new → q ≡ q_new → Puts x y 1 (register d q ∷ []) → Puts x y 1 (register d_new q_new ∷ [])
register_put x y d d_new q q_new e f p =
    put_same x y 1 (register d q ∷ []) (register d_new q_new ∷ []) (ap (λ v. register v q ∷ []) e ∙ ap (λ v. register d_new v ∷ []) f) p

pub five_put : (l0 l1 l2 l3 l4 l5 : Listing) (a b c d e : Item) → Puts l0 l1 1 (a ∷ []) → Puts l1 l2 1 (b ∷ []) → Puts l2 l3 1 (c ∷ [])
    → Puts l3 l4 1 (d ∷ []) → Puts l4 l5 1 (e ∷ []) → Puts l0 l5 5 (a ∷ b ∷ c ∷ d ∷ e ∷ [])
five_put l0 l1 l2 l3 l4 l5 a b c d e p q r s t =
    then_put l0 l1 l5 1 4 (a ∷ []) (b ∷ c ∷ d ∷ e ∷ []) p
    (then_put l1 l2 l5 1 3 (b ∷ []) (c ∷ d ∷ e ∷ []) q
    (then_put l2 l3 l5 1 2 (c ∷ []) (d ∷ e ∷ []) r (then_put l3 l4 l5 1 1 (d ∷ []) (e ∷ []) s t)))

-- all items, from the third line on
pub all_put : (l0 l1 l2 l3 : Listing) (k m n : ℕ) (xs ys zs : List Item) → l0.items.items ≡ [] → l0.line ≡ 3 → l0.cells ≡ 0
    → Puts l0 l1 k xs → Puts l1 l2 m ys → Puts l2 l3 n zs → l3.items.items ≡ placed 3 0 (xs ++ (ys ++ zs))
all_put l0 l1 l2 l3 k m n xs ys zs none line cells p q r =
    let whole = then_put l0 l1 l3 k (m + n) xs (ys ++ zs) p (then_put l1 l2 l3 m n ys zs q r) in
    whole.listed
    ∙ (ap (λ v. v ++ placed l0.line l0.cells (xs ++ (ys ++ zs))) none
    ∙ (ap (λ v. placed v l0.cells (xs ++ (ys ++ zs))) line ∙ ap (λ v. placed 3 v (xs ++ (ys ++ zs))) cells))

pub register_cell_put : (before after : Listing) (clock d q : Signal) → clock ≡ signal.Wire (codes "\\clk")
    → after.items.items ≡ before.items.items
    ++ three_ports (codes "$_DFF_P_") 67 68 81 clock d q before.line (cell_name before.cells) (before.line + 1) (before.line + 1 + 1) (before.line + 1 + 2) ∷ []
    → after.line ≡ before.line + 5 → after.cells ≡ before.cells + 1 → Puts before after 1 (register d q ∷ [])
register_cell_put before after clock d q clocked e line cells =
    put_same before after 1 (three_ports (codes "$_DFF_P_") 67 68 81 clock d q 0 [] 0 0 0 ∷ []) (register d q ∷ [])
    (ap (λ v. three_ports (codes "$_DFF_P_") 67 68 81 v d q 0 [] 0 0 0 ∷ []) clocked)
    (cell_put before after (codes "$_DFF_P_") 67 68 81 clock d q e line cells)

-- The rows of leaves.
use Rattle.std.proofs.Common.{◌≡◌, ◌≢◌, ℕ, zero, suc, ◌+◌, ◌<◌, ◌≤◌, true, false, ◌==◌, ◌&&◌, cond, List, [], ◌∷◌, ◌++◌, length, take, drop, length-append, get_or, set, replicate, All, Some, None, refl, sym, ap, ◌∙◌, subst, arith, ⊎_elim}
use Rattle.std.specs.Option.{option_map_or}
use Rattle.std.proofs.lemmas.Bool.{cases_eq, eq-eqb, ne_eqb}
use Rattle.std.proofs.lemmas.List.{append_assoc, take_all, take_more, take-append-drop}
use Rattle.std.proofs.lemmas.List.Concat.{flat_map-append}
use Rattle.circuit_types.specs.declared.roles.InputRole.{InputRole}
use Rattle.circuit_types.specs.declared.roles.Roles.{Roles}
use Rattle.circuit_types.specs.Worlds.{input}
use Rattle.expr_table.specs.declared.instance.Notion.{Notion}
use Rattle.expr_table.specs.declared.node.Node.{Node}
use Rattle.expr_table.specs.declared.node.Row.{Row}
use Rattle.expr_table.specs.Table.{IsRowOf}
use Rattle.expr_table.specs.Term.{Term, Zero}
use Rattle.term_build.specs.declared.leaves.Sort.{Sort}
use Rattle.term_build.specs.Building.{IsForInputs, ShowBits, row_at}
use Rattle.term_build.specs.Leaves.{leaf_number, leaf_term}
use Rattle.term_build.specs.Numbering.{is_leaf, leaves_among, leaves_before, leaves_up_to, numbered_term}
use Rattle.term_build.proofs.InputRoles.{apart, row-set_same, row-set_other}
use Rattle.term_build.proofs.Numbers.{among-yes, among-no, before-next, number-here, number-other, up_to-none}

pub row-replicate : (n b : ℕ) (z : Row) → z.0 ≡ 0 → row_at (replicate n z) b ≡ 0
row-replicate zero zero z is = refl
row-replicate zero (suc b) z is = refl
row-replicate (suc n) zero z is = is
row-replicate (suc n) (suc b) z is = row-replicate n b z is

module _ (sort : Sort) (notion : Notion) (roles : Roles) (c : ℕ) (nodes : List Node) where
  abbrev term : List InputRole → ℕ → Term
  term xs b = leaf_term (numbered_term sort) (leaves_up_to sort notion roles c xs) (input b c)

  pub leaves-init : (n : ℕ) (z : Row) → z.0 ≡ 0 → IsRowOf nodes 0 Zero → ShowBits nodes (replicate n z) (term [])
  leaves-init n z is zero_row = record {
    each = λ b.
        let none : leaf_number (leaves_up_to sort notion roles c []) (input b c) ≡ None = up_to-none b c sort notion roles [] (λ j x lt. absurd (omega arith)) in
        subst (λ o. IsRowOf nodes (row_at (replicate n z) b) (option_map_or (numbered_term sort) o Zero)) (sym none)
        (subst (λ k. IsRowOf nodes k Zero) (sym (row-replicate n b z is)) zero_row);
  }

  pub up_to-yes : (xs : List InputRole) (x : InputRole) → is_leaf sort notion roles c x.role ≡ true → leaves_up_to sort notion roles c (xs ++ x ∷ []) ≡ leaves_up_to sort notion roles c xs ++ input x.bit c ∷ []
  up_to-yes xs x h =
      ap (λ l. leaves_before sort notion roles c ++ l) (among-yes (is_leaf sort notion roles c) c xs x h)
      ∙ sym (append_assoc (leaves_before sort notion roles c) (leaves_among (is_leaf sort notion roles c) c xs) (input x.bit c ∷ []))

  up_to-no : (xs : List InputRole) (x : InputRole) → is_leaf sort notion roles c x.role ≡ false → leaves_up_to sort notion roles c (xs ++ x ∷ []) ≡ leaves_up_to sort notion roles c xs
  up_to-no xs x h = ap (λ l. leaves_before sort notion roles c ++ l) (among-no (is_leaf sort notion roles c) c xs x h)

  module _ (inputs : List InputRole) (i : ℕ) (d : InputRole) (lt : i < length inputs) where
    abbrev x : InputRole
    x = get_or inputs i d

    pub leaves-no : (rows : List Row) → is_leaf sort notion roles c x.role ≡ false → ShowBits nodes rows (term (take i inputs)) → ShowBits nodes rows (term (take (i + 1) inputs))
    leaves-no rows h show = subst (λ ls. ShowBits nodes rows (λ b. leaf_term (numbered_term sort) ls (input b c))) (sym (ap (leaves_up_to sort notion roles c) (take_more inputs i d lt) ∙ up_to-no (take i inputs) x h)) show

    pub leaves-yes : (count : ℕ) (rows : List Row) (r : Row) → IsForInputs count roles → inputs ≡ roles.inputs → length rows ≡ count → is_leaf sort notion roles c x.role ≡ true
        → IsRowOf nodes r.0 (numbered_term sort (length (leaves_up_to sort notion roles c (take i inputs)))) → ShowBits nodes rows (term (take i inputs))
        → ShowBits nodes (set rows x.bit r) (term (take (i + 1) inputs))
    leaves-yes count rows r for_inputs same long h is show =
        subst (λ ls. ShowBits nodes (set rows x.bit r) (λ b. leaf_term (numbered_term sort) ls (input b c))) (sym (ap (leaves_up_to sort notion roles c) (take_more inputs i d lt) ∙ up_to-yes (take i inputs) x h))
        (record { each = each })
      where
        within : x.bit < length rows
        within = let all = subst (λ (xs : List InputRole). All (λ (y : InputRole). y.bit < count) xs) (sym same) for_inputs.within in omega (arith, all i d lt)

        others : (j : ℕ) (e : InputRole) → j < length (take i inputs) → (get_or (take i inputs) j e).bit ≢ x.bit
        others = apart inputs (λ a b e l m. subst (λ (xs : List InputRole). (get_or xs a e).bit ≢ (get_or xs b e).bit) (sym same) (for_inputs.one_role a b e l (subst (λ (xs : List InputRole). b < length xs) same m))) i d lt

        each : (b : ℕ) → IsRowOf nodes (row_at (set rows x.bit r) b) (leaf_term (numbered_term sort) (leaves_up_to sort notion roles c (take i inputs) ++ input x.bit c ∷ []) (input b c))
        each b = ⊎_elim
            (λ e.
            let here : leaf_number (leaves_up_to sort notion roles c (take i inputs) ++ input x.bit c ∷ []) (input b c) ≡ Some (length (leaves_up_to sort notion roles c (take i inputs))) =
            number-here (leaves_up_to sort notion roles c (take i inputs)) (input x.bit c) (input b c)
            (up_to-none b c sort notion roles (take i inputs) (λ j y l f. others j y l (f ∙ e)))
            ((λ k. eq-eqb x.bit b (sym e) k && (c == c)) ∙ eq-eqb c c refl) in
            subst (λ o. IsRowOf nodes (row_at (set rows x.bit r) b) (option_map_or (numbered_term sort) o Zero)) (sym here)
            (subst (λ k. IsRowOf nodes k (numbered_term sort (length (leaves_up_to sort notion roles c (take i inputs))))) (sym (ap (row_at (set rows x.bit r)) e ∙ row-set_same rows x.bit r within)) is))
            (λ ne.
            let there = number-other (leaves_up_to sort notion roles c (take i inputs)) (input x.bit c) (input b c) (ap (λ e. e && (c == c)) (ne_eqb x.bit b (λ f. ne (sym f)))) in
            subst (λ o. IsRowOf nodes (row_at (set rows x.bit r) b) (option_map_or (numbered_term sort) o Zero)) (sym there)
            (subst (λ k. IsRowOf nodes k (term (take i inputs) b)) (sym (row-set_other rows x.bit b r ne)) (show.each b)))
            (cases_eq b x.bit)

-- there is room for a leaf among all that stand before the next cycle
pub leaves-room : (sort : Sort) (notion : Notion) (roles : Roles) (c next : ℕ) (inputs : List InputRole) (i : ℕ) (d : InputRole) → next ≡ c + 1 → inputs ≡ roles.inputs → i < length inputs
    → is_leaf sort notion roles c (get_or inputs i d).role ≡ true → length (leaves_up_to sort notion roles c (take i inputs)) < length (leaves_before sort notion roles next)
leaves-room sort notion roles c next inputs i d is same lt h =
    let x = get_or inputs i d in
    let test = is_leaf sort notion roles c in
    let before = leaves_before sort notion roles c in
    let one : length (leaves_among test c (take (i + 1) inputs)) ≡ length (leaves_among test c (take i inputs)) + 1 =
    ap (λ xs. length (leaves_among test c xs)) (take_more inputs i d lt) ∙ ap length (among-yes test c (take i inputs) x h) ∙ length-append (leaves_among test c (take i inputs)) (input x.bit c ∷ []) in
    let split : length (leaves_among test c inputs) ≡ length (leaves_among test c (take (i + 1) inputs)) + length (leaves_among test c (drop (i + 1) inputs)) =
    ap (λ xs. length (leaves_among test c xs)) (sym (take-append-drop (i + 1) inputs))
    ∙ ap length (flat_map-append (λ (y : InputRole). cond (test y.role) (input y.bit c ∷ []) []) (take (i + 1) inputs) (drop (i + 1) inputs))
    ∙ length-append (leaves_among test c (take (i + 1) inputs)) (leaves_among test c (drop (i + 1) inputs)) in
    let all : length (leaves_before sort notion roles next) ≡ length before + length (leaves_among test c inputs) =
    ap length (before-next sort notion roles c next is) ∙ length-append before (leaves_among test c roles.inputs) ∙ ap (λ xs. length before + length (leaves_among test c xs)) (sym same) in
    let here = length-append before (leaves_among test c (take i inputs)) in
    omega arith

-- once all inputs are gone through
pub leaves-all : (sort : Sort) (notion : Notion) (roles : Roles) (c next : ℕ) (inputs : List InputRole) (i : ℕ) → next ≡ c + 1 → inputs ≡ roles.inputs → length inputs ≤ i
    → leaves_up_to sort notion roles c (take i inputs) ≡ leaves_before sort notion roles next
leaves-all sort notion roles c next inputs i is same le = ap (leaves_up_to sort notion roles c) (take_all i inputs le ∙ same) ∙ sym (before-next sort notion roles c next is)

-- the number of leaves up to an input that is one
pub leaves-count : (sort : Sort) (notion : Notion) (roles : Roles) (c : ℕ) (inputs : List InputRole) (i : ℕ) (d : InputRole) → i < length inputs → is_leaf sort notion roles c (get_or inputs i d).role ≡ true
    → length (leaves_up_to sort notion roles c (take (i + 1) inputs)) ≡ length (leaves_up_to sort notion roles c (take i inputs)) + 1
leaves-count sort notion roles c inputs i d lt h =
    ap (λ xs. length (leaves_up_to sort notion roles c xs)) (take_more inputs i d lt) ∙ ap length (up_to-yes sort notion roles c [] (take i inputs) (get_or inputs i d) h)
    ∙ length-append (leaves_up_to sort notion roles c (take i inputs)) (input (get_or inputs i d).bit c ∷ [])

pub leaves-same : (sort : Sort) (notion : Notion) (roles : Roles) (c : ℕ) (inputs : List InputRole) (i : ℕ) (d : InputRole) → i < length inputs → is_leaf sort notion roles c (get_or inputs i d).role ≡ false
    → leaves_up_to sort notion roles c (take (i + 1) inputs) ≡ leaves_up_to sort notion roles c (take i inputs)
leaves-same sort notion roles c inputs i d lt h = ap (leaves_up_to sort notion roles c) (take_more inputs i d lt) ∙ up_to-no sort notion roles c [] (take i inputs) (get_or inputs i d) h

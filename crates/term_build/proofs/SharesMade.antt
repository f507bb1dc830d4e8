-- The shares are made one after another, and each has its row.
use Rattle.std.proofs.Common.{◌≡◌, ◌≢◌, ℕ, zero, suc, ◌+◌, ◌<◌, ◌≤◌, List, [], ◌∷◌, ◌++◌, length, take, drop, get_or, set, All, refl, sym, ap, ◌∙◌, subst, arith}
use Rattle.std.specs.List.{flat_map}
use Rattle.std.proofs.lemmas.List.{append-nil, take_all, take_more, take-append-drop}
use Rattle.std.proofs.lemmas.List.Concat.{flat_map-append}
use Rattle.circuit_types.specs.declared.circuit.Timing.{Timing}
use Rattle.circuit_types.specs.declared.refusal.Stop.{Stop}
use Rattle.circuit_types.specs.declared.roles.InputRole.{InputRole}
use Rattle.circuit_types.specs.declared.roles.Role.{Role}
use Rattle.circuit_types.specs.declared.roles.Role.TheVariants.{Share, Random, Public, Clock, Held}
use Rattle.circuit_types.specs.declared.roles.Roles.{Roles}
use Rattle.circuit_types.specs.Worlds.{secrets}
use Rattle.expr_table.specs.declared.node.Node.{Node}
use Rattle.expr_table.specs.declared.node.Row.{Row}
use Rattle.expr_table.specs.Table.{Table, Extends, IsRowOf}
use Rattle.expr_table.specs.Term.{Term}
use Rattle.expr_table.proofs.Facts.{Extends-row}
use Rattle.term_build.specs.Building.{Grows, IsForInputs, IsShownShare, MadeShares, StopsAt, row_at}
use Rattle.term_build.specs.InputTerms.{made_for_inputs, role_joins, share_term}
use Rattle.term_build.specs.Leaves.{drawn_term, given_term}
use Rattle.term_build.proofs.InputRoles.{apart, row-set_same, row-set_other}
use Rattle.term_build.proofs.Making.{Grows-more, StopsAt-more}

all-push : (P : InputRole → Type 0) (xs : List InputRole) (x : InputRole) → All P xs → P x → All P (xs ++ x ∷ [])
all-push P [] x all here zero d lt = here
all-push P [] x all here (suc k) d lt = absurd (omega arith)
all-push P (y ∷ ys) x all here zero d lt = all 0 y (omega arith)
all-push P (y ∷ ys) x all here (suc k) d lt = all-push P ys x (λ j e l. all (suc j) e (omega arith)) here k d (omega arith)

module _ (roles : Roles) (timing : Timing) where
  -- what is made for an input
  abbrev joins_for : Role → List Term
  joins_for role = role_joins roles (given_term secrets roles timing) (drawn_term secrets roles timing) role

  abbrev made : List InputRole → List Term
  made xs = flat_map (λ (x : InputRole). joins_for x.role) xs

  abbrev Shows : List Node → List Row → InputRole → Type 0
  Shows nodes rows x = IsShownShare secrets roles timing nodes rows x x.role

  -- nothing for an input that is no share
  no-joins : (role : Role) → ((s k : ℕ) → role ≡ Share s k → ⊥) → joins_for role ≡ []
  no-joins (Share s k) none = absurd (none s k refl)
  no-joins Random none = refl
  no-joins Public none = refl
  no-joins Clock none = refl
  no-joins (Held v) none = refl

  no-share : (nodes : List Node) (rows : List Row) (x : InputRole) (role : Role) → ((s k : ℕ) → role ≡ Share s k → ⊥) → IsShownShare secrets roles timing nodes rows x role
  no-share nodes rows x (Share s k) none = absurd (none s k refl)
  no-share nodes rows x Random none = tt
  no-share nodes rows x Public none = tt
  no-share nodes rows x Clock none = tt
  no-share nodes rows x (Held v) none = tt

  -- a share whose row stays
  shown-kept : (old new : List Node) (rows more : List Row) (x : InputRole) (role : Role) → ((t : Term) → IsRowOf old (row_at rows x.bit) t → IsRowOf new (row_at more x.bit) t)
      → IsShownShare secrets roles timing old rows x role → IsShownShare secrets roles timing new more x role
  shown-kept old new rows more x (Share s k) keep shown = keep _ shown
  shown-kept old new rows more x Random keep shown = tt
  shown-kept old new rows more x Public keep shown = tt
  shown-kept old new rows more x Clock keep shown = tt
  shown-kept old new rows more x (Held v) keep shown = tt

  module _ (old mid : Table) (inputs : List InputRole) (i : ℕ) (d : InputRole) (rows : List Row) (lt : i < length inputs) (grows : Grows old mid (made (take i inputs)))
      (shows : All (Shows mid.nodes rows) (take i inputs)) where
    abbrev x : InputRole
    x = get_or inputs i d

    made-next : made (take (i + 1) inputs) ≡ made (take i inputs) ++ joins_for x.role
    made-next =
        ap made (take_more inputs i d lt) ∙ flat_map-append (λ (y : InputRole). joins_for y.role) (take i inputs) (x ∷ [])
        ∙ ap (λ l. made (take i inputs) ++ l) (append-nil (joins_for x.role))

    module _ (s k : ℕ) (is : x.role ≡ Share s k) where
      made-share : made (take (i + 1) inputs) ≡ made (take i inputs) ++ joins_for (Share s k)
      made-share = made-next ∙ ap (λ role. made (take i inputs) ++ joins_for role) is

      -- one more share
      pub share-grows : (new : Table) → Grows mid new (joins_for (Share s k)) → Grows old new (made (take (i + 1) inputs))
      share-grows new one = subst (Grows old new) (sym made-share) (Grows-more old mid new (made (take i inputs)) (joins_for (Share s k)) grows one)

      pub share-shows : (new : Table) (count : ℕ) (row : Row) → IsForInputs count roles → inputs ≡ roles.inputs → length rows ≡ count → Extends mid new
          → IsRowOf new.nodes row.0 (share_term secrets roles (given_term secrets roles timing) (drawn_term secrets roles timing) x.bit s k)
          → All (Shows new.nodes (set rows x.bit row)) (take (i + 1) inputs)
      share-shows new count row for_inputs same long kept made_row =
          subst (All (Shows new.nodes (set rows x.bit row))) (sym (take_more inputs i d lt)) (all-push (Shows new.nodes (set rows x.bit row)) (take i inputs) x before here)
        where
          within : x.bit < length rows
          within = let all = subst (λ (xs : List InputRole). All (λ (y : InputRole). y.bit < count) xs) (sym same) for_inputs.within in omega (arith, all i d lt)

          others : (j : ℕ) (e : InputRole) → j < length (take i inputs) → (get_or (take i inputs) j e).bit ≢ x.bit
          others = apart inputs (λ a b e l m. subst (λ (xs : List InputRole). (get_or xs a e).bit ≢ (get_or xs b e).bit) (sym same) (for_inputs.one_role a b e l (subst (λ (xs : List InputRole). b < length xs) same m))) i d lt

          before : All (Shows new.nodes (set rows x.bit row)) (take i inputs)
          before j e l =
              let y = get_or (take i inputs) j e in
              shown-kept mid.nodes new.nodes rows (set rows x.bit row) y y.role
              (λ t at. subst (λ n. IsRowOf new.nodes n t) (sym (row-set_other rows x.bit y.bit row (others j e l))) (Extends-row mid new kept (row_at rows y.bit) t at))
              (shows j e l)

          here : Shows new.nodes (set rows x.bit row) x
          here =
              let t = share_term secrets roles (given_term secrets roles timing) (drawn_term secrets roles timing) x.bit s k in
              subst (IsShownShare secrets roles timing new.nodes (set rows x.bit row) x) (sym is) (subst (λ n. IsRowOf new.nodes n t) (sym (row-set_same rows x.bit row within)) made_row)

      -- a share that stops, stops all
      pub share-stops : (stop : Stop) → inputs ≡ roles.inputs → StopsAt mid (joins_for (Share s k)) stop → StopsAt old (made_for_inputs secrets roles timing) stop
      unfolding made_for_inputs
      share-stops stop same stops =
          StopsAt-more old mid (made (take i inputs)) (joins_for (Share s k)) (made (drop (i + 1) inputs)) (made roles.inputs) stop grows
          (ap made (sym same ∙ sym (take-append-drop (i + 1) inputs)) ∙ flat_map-append (λ (y : InputRole). joins_for y.role) (take (i + 1) inputs) (drop (i + 1) inputs)
          ∙ ap (λ l. l ++ made (drop (i + 1) inputs)) made-share)
          stops

    -- one more input that is no share
    module _ (none : (s k : ℕ) → x.role ≡ Share s k → ⊥) where
      pub other-grows : Grows old mid (made (take (i + 1) inputs))
      other-grows = subst (Grows old mid) (sym (made-next ∙ ap (λ l. made (take i inputs) ++ l) (no-joins x.role none) ∙ append-nil (made (take i inputs)))) grows

      pub other-shows : All (Shows mid.nodes rows) (take (i + 1) inputs)
      other-shows = subst (All (Shows mid.nodes rows)) (sym (take_more inputs i d lt)) (all-push (Shows mid.nodes rows) (take i inputs) x shows (no-share mid.nodes rows x x.role none))

  -- once all inputs are gone through
  pub shares-made : (old new : Table) (inputs : List InputRole) (i : ℕ) (rows : List Row) → inputs ≡ roles.inputs → length inputs ≤ i → Grows old new (made (take i inputs))
      → All (Shows new.nodes rows) (take i inputs) → MadeShares secrets roles timing old new rows
  unfolding made_for_inputs
  shares-made old new inputs i rows same le grows shows =
      let all = take_all i inputs le ∙ same in
      record { grows = subst (λ (xs : List InputRole). Grows old new (made xs)) all grows; shows = record { each = subst (λ (xs : List InputRole). All (Shows new.nodes rows) xs) all shows } }

-- The last share of a secret bit is joined from its leaf and the shares that are drawn.
use Rattle.std.proofs.Common.{◌≡◌, ℕ, ◌+◌, ◌-◌, ◌*◌, ◌<◌, List, [], ◌∷◌, ◌++◌, map, fold, get_or, length, refl, sym, ap, ◌∙◌, subst, arith}
use Rattle.std.specs.List.{flat_map, range_with_len}
use Rattle.std.specs.Option.{option_map_or}
use Rattle.std.proofs.lemmas.List.{append-nil, map-append}
use Rattle.std.proofs.lemmas.List.Concat.{flat_map-append}
use Rattle.std.proofs.lemmas.List.Sums.{fold-append}
use Rattle.circuit_types.specs.declared.circuit.Timing.{Timing}
use Rattle.circuit_types.specs.declared.refusal.Stop.{Stop}
use Rattle.circuit_types.specs.declared.roles.Roles.{Roles}
use Rattle.circuit_types.specs.Worlds.{secrets, secret}
use Rattle.expr_table.specs.declared.node.Row.{Row}
use Rattle.expr_table.specs.Table.{Table, IsRowOf, xor_at}
use Rattle.expr_table.specs.Term.{Term, Zero, Input, xor_of}
use Rattle.term_build.specs.Building.{AreShareBits, Grows, MadeRow, StopsAt}
use Rattle.term_build.specs.InputTerms.{joins, share_bits}
use Rattle.term_build.specs.Leaves.{given_term}
use Rattle.term_build.proofs.Making.{Grows-more, StopsAt-more}
use Rattle.term_build.proofs.Numbers.{number-secret, range-split}

-- the leaf of a secret bit has its number
pub secret-term : (roles : Roles) (timing : Timing) (s : ℕ) → s < length roles.secrets → given_term secrets roles timing (secret s) ≡ Input s
secret-term roles timing s lt = ap (λ o. option_map_or (λ i. Input i) o Zero) (number-secret roles timing s lt)

joins-append : (t : Term) (us vs : List Term) → joins t (us ++ vs) ≡ joins t us ++ joins (fold xor_of t us) vs
joins-append t [] vs = refl
joins-append t (u ∷ us) vs = ap (λ l. xor_of t u ∷ l) (joins-append (xor_of t u) us vs)

xor-same : (mid : Table) (row r : Row) (t u : Term) → IsRowOf mid.nodes row.0 t → IsRowOf mid.nodes r.0 u → xor_at mid.nodes row r ≡ xor_of t u
xor-same mid row r t u a b = λ k. xor_of (a.term k) (b.term k)

module _ (roles : Roles) (term : ℕ → Term) (leaf : Term) (s : ℕ) (bits : List ℕ) (are : AreShareBits roles bits) (within : s < length roles.secrets) where
  -- the terms of the first shares
  abbrev others : ℕ → List Term
  others n = map term (flat_map (share_bits roles s) (range_with_len 0 n))

  others-split : (n k : ℕ) → others (n + k) ≡ others n ++ map term (flat_map (share_bits roles s) (range_with_len (0 + n) k))
  others-split n k =
      ap (λ r. map term (flat_map (share_bits roles s) r)) (range-split 0 n k)
      ∙ ap (map term) (flat_map-append (share_bits roles s) (range_with_len 0 n) (range_with_len (0 + n) k))
      ∙ map-append term (flat_map (share_bits roles s) (range_with_len 0 n)) (flat_map (share_bits roles s) (range_with_len (0 + n) k))

  abbrev bit : ℕ → ℕ
  bit i = get_or bits (s * roles.shares + i) 0

  others-next : (i : ℕ) → i < roles.shares → others (i + 1) ≡ others i ++ term (bit i) ∷ []
  others-next i lt =
      let e : 0 + i ≡ i = omega arith in
      others-split i 1
      ∙ ap (λ l. others i ++ map term l) (append-nil (share_bits roles s (0 + i)) ∙ ap (share_bits roles s) e ∙ are.each s i within lt)

  module _ (old mid : Table) (i : ℕ) (row r : Row) (lt : i < roles.shares - 1) (so_far : MadeRow old mid (joins leaf (others i)) (fold xor_of leaf (others i)) row.0)
      (is : IsRowOf mid.nodes r.0 (term (bit i))) where
    next-joins : joins leaf (others (i + 1)) ≡ joins leaf (others i) ++ xor_at mid.nodes row r ∷ []
    next-joins =
        ap (joins leaf) (others-next i (omega arith)) ∙ joins-append leaf (others i) (term (bit i) ∷ [])
        ∙ ap (λ t. joins leaf (others i) ++ t ∷ []) (sym (xor-same mid row r (fold xor_of leaf (others i)) (term (bit i)) so_far.row_is is))

    next-fold : fold xor_of leaf (others (i + 1)) ≡ xor_at mid.nodes row r
    next-fold =
        ap (fold xor_of leaf) (others-next i (omega arith)) ∙ fold-append xor_of leaf (others i) (term (bit i) ∷ [])
        ∙ sym (xor-same mid row r (fold xor_of leaf (others i)) (term (bit i)) so_far.row_is is)

    -- one more share is joined
    pub join-more : (new : Table) (next : Row) → MadeRow mid new (xor_at mid.nodes row r ∷ []) (xor_at mid.nodes row r) next.0
        → MadeRow old new (joins leaf (others (i + 1))) (fold xor_of leaf (others (i + 1))) next.0
    join-more new next one = record {
      grows = subst (λ ts. Grows old new ts) (sym next-joins) (Grows-more old mid new (joins leaf (others i)) (xor_at mid.nodes row r ∷ []) so_far.grows one.grows);
      row_is = subst (IsRowOf new.nodes next.0) (sym next-fold) one.row_is;
    }

    -- where that stops, all stops
    pub join-stop : (stop : Stop) → StopsAt mid (xor_at mid.nodes row r ∷ []) stop → StopsAt old (joins leaf (others (roles.shares - 1))) stop
    join-stop stop stops =
        let more = roles.shares - 1 - (i + 1) in
        let rest = map term (flat_map (share_bits roles s) (range_with_len (0 + (i + 1)) more)) in
        let e : roles.shares - 1 ≡ i + 1 + more = omega arith in
        StopsAt-more old mid (joins leaf (others i)) (xor_at mid.nodes row r ∷ []) (joins (fold xor_of leaf (others (i + 1))) rest) (joins leaf (others (roles.shares - 1))) stop so_far.grows
        (ap (λ n. joins leaf (others n)) e ∙ ap (joins leaf) (others-split (i + 1) more) ∙ joins-append leaf (others (i + 1)) rest
        ∙ ap (λ l. l ++ joins (fold xor_of leaf (others (i + 1))) rest) next-joins)
        stops

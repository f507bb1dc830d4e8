-- The entries of a search close the families that it closed.
use Rattle.std.proofs.Common.{◌≡◌, ℕ, zero, suc, ◌+◌, ◌<◌, ◌≤◌, Bool, true, false, ◌&&◌, cond, ⊎_elim, List, [], ◌∷◌, ◌++◌, length, reverse, eqb, refl, sym, ap, ◌∙◌, subst, arith}
use Rattle.std.specs.Prelude.{All, count_by, nat_le, nat_lt}
use Rattle.std.specs.List.{list_all, AllByRecursion}
use Rattle.std.proofs.lemmas.Bool.{cases_Bool, cases_lt, eqb-true, or_cases, true≢false, false≢true}
use Rattle.std.proofs.lemmas.Bool.Decides.{nat_tests}
use Rattle.std.proofs.lemmas.List.{reverse-append, reverse-reverse, get_or_past}
use Rattle.std.proofs.lemmas.List.Elements.{recursion_from_All, All-head, All-tail, All-append}
use Rattle.std.proofs.lemmas.List.Folds.{list_all-append}
use Rattle.std.proofs.lemmas.List.Sums.{sum_by-cons, sum_by-append}
use Rattle.bit_rows.specs.Sets.{is_in, meet, members, members_below}
use Rattle.bit_rows.proofs.Facts.{is_in-meet, length-members_in, length-members_out, length-set_of, members-are_in, members_below-in, members_below-out, set_of_is}
use Rattle.expr_table.specs.declared.instance.Instance.{Instance}
use Rattle.expr_table.specs.declared.node.Node.{Node}
use Rattle.expr_table.specs.declared.node.Node.TheVariants as node
use Rattle.expr_table.specs.Table.{has, node_at}
use Rattle.once_random.specs.Cuts.{IsChain, is_allowed, is_masked, least_chain}
use Rattle.once_random.specs.Groups.{is_within}
use Rattle.once_random.specs.Provable.{is_provable}
use Rattle.once_random.specs.Tuples.{roots_of}
use Rattle.probe_family.specs.declared.ending.Closed.{Closed}
use Rattle.probe_family.specs.declared.family.Family.{Family}
use Rattle.probe_family.specs.declared.part.Part.{Part}
use Rattle.probe_family.specs.Families.{IsFamily, IsPart, count_in, is_in_part}
use Rattle.family_split.specs.Children.{children_of}
use Rattle.cert_check.specs.Closing.{Closes, IsProof, has_take, hull_set, is_chain}
use Rattle.cert_check.specs.Entries.{IsHullOf, IsPreorder, entries_of, entry_of}
use Rattle.cert_check.proofs.Chains.{chain_passes}
use Rattle.cert_check.proofs.Proving.{AreFamilies, has_members}
use Rattle.cert_check.proofs.Questions.{both, second}

-- ---- the members of a set as its list

has_all : (P : ℕ → Type 0) (xs : List ℕ) → AllByRecursion P xs → (q : ℕ) → has xs q ≡ true → P q
has_all P [] h q e = absurd (false≢true e)
has_all P (x ∷ xs) h q e =
    ⊎_elim (λ (here : eqb x q ≡ true). subst P (eqb-true x q here) h.0) (λ (later : has xs q ≡ true). has_all P xs h.1 q later) (or_cases (eqb x q) (has xs q) e)

is_member : (flags : List Bool) (q : ℕ) → has (members flags) q ≡ true → is_in flags q ≡ true
is_member flags q e = has_all (λ (m : ℕ). is_in flags m ≡ true) (members flags) (recursion_from_All (λ (m : ℕ). is_in flags m ≡ true) (members flags) (members-are_in flags)) q e

same_test : (flags : List Bool) (q : ℕ) → is_in flags q ≡ has (members flags) q
same_test flags q =
    ⊎_elim
    (λ (t : is_in flags q ≡ true). t ∙ sym (has_members flags q t))
    (λ (f : is_in flags q ≡ false).
    ⊎_elim
    (λ (t : has (members flags) q ≡ true). absurd (true≢false (sym (is_member flags q t) ∙ f)))
    (λ (g : has (members flags) q ≡ false). f ∙ sym g)
    (cases_Bool (has (members flags) q)))
    (cases_Bool (is_in flags q))

same_set : (n : ℕ) (flags : List Bool) → length flags ≡ n → hull_set n (members flags) ≡ flags
same_set n flags long = sym (set_of_is flags n (has (members flags)) long (λ q lt. same_test flags q))

-- ---- as many of a part

count_one : (p : ℕ → Bool) (xs : List ℕ) (x : ℕ) → count_by p (xs ++ x ∷ []) ≡ count_by p xs + cond (p x) 1 0
count_one p xs x = sum_by-append (λ (y : ℕ). cond (p y) 1 0) xs (x ∷ []) ∙ ap (λ (n : ℕ). count_by p xs + n) (sum_by-cons (λ (y : ℕ). cond (p y) 1 0) x [] ∙ omega arith)

count_meet : (set hull : List Bool) (n : ℕ) → length (members_below (meet set hull) n) ≡ count_by (is_in set) (members_below hull n)
count_meet set hull zero = refl
count_meet set hull (suc n) =
    ⊎_elim
    (λ (h : is_in hull n ≡ true).
    let more : count_by (is_in set) (members_below hull (suc n)) ≡ count_by (is_in set) (members_below hull n) + cond (is_in set n) 1 0 =
    ap (count_by (is_in set)) (members_below-in hull n h) ∙ count_one (is_in set) (members_below hull n) n in
    ⊎_elim
    (λ (s : is_in set n ≡ true).
    let m : is_in (meet set hull) n ≡ true = is_in-meet set hull n ∙ both (is_in set n) (is_in hull n) s h in
    omega (arith, length-members_in (meet set hull) n m, count_meet set hull n, more, ap {B = ℕ} (λ (b : Bool). cond b 1 0) s))
    (λ (s : is_in set n ≡ false).
    let m : is_in (meet set hull) n ≡ false = is_in-meet set hull n ∙ ap (λ (b : Bool). b && is_in hull n) s in
    omega (arith, length-members_out (meet set hull) n m, count_meet set hull n, more, ap {B = ℕ} (λ (b : Bool). cond b 1 0) s))
    (cases_Bool (is_in set n)))
    (λ (h : is_in hull n ≡ false).
    let m : is_in (meet set hull) n ≡ false = is_in-meet set hull n ∙ neither (is_in set n) (is_in hull n) h in
    omega (arith, length-members_out (meet set hull) n m, count_meet set hull n, ap (count_by (is_in set)) (members_below-out hull n h)))
    (cases_Bool (is_in hull n))
  where
    neither : (a b : Bool) → b ≡ false → (a && b) ≡ false
    neither true b e = e
    neither false b e = refl

le_passes : (a b : ℕ) → a ≤ b → nat_le a b ≡ true
le_passes a b h = grind (arith, nat_tests)

lt_passes : (a b : ℕ) → a < b → nat_lt a b ≡ true
lt_passes a b h = grind (arith, nat_tests)

takes_pass : (n : ℕ) (hull : List Bool) → length hull ≡ n → (parts : List Part) → AllByRecursion (IsPart n) parts
    → AllByRecursion (λ (part : Part). part.take ≤ length (members (meet part.set hull))) parts → list_all (has_take (members hull)) parts ≡ true
takes_pass n hull long [] are enough = refl
takes_pass n hull long (part ∷ parts) are enough =
    let size : length (meet part.set hull) ≡ length hull = length-set_of (length part.set) (λ i. is_in part.set i && is_in hull i) ∙ are.0.below ∙ sym long in
    let counted : length (members (meet part.set hull)) ≡ count_in part.set (members hull) =
    ap (λ (k : ℕ). length (members_below (meet part.set hull) k)) size ∙ count_meet part.set hull (length hull) in
    both (nat_le part.take (count_in part.set (members hull))) (list_all (has_take (members hull)) parts)
    (le_passes part.take (count_in part.set (members hull)) (subst (λ (k : ℕ). part.take ≤ k) counted enough.0)) (takes_pass n hull long parts are.1 enough.1)

all_pass : (p : ℕ → Bool) (xs : List ℕ) → AllByRecursion (λ (m : ℕ). p m ≡ true) xs → list_all p xs ≡ true
all_pass p [] h = refl
all_pass p (x ∷ xs) h = both (p x) (list_all p xs) h.0 (all_pass p xs h.1)

-- ---- the least chain

module _ (nodes : List Node) (roots : List ℕ) where
  cut_row : (cuts : List ℕ) (e : ℕ) → is_allowed nodes roots cuts e ≡ true → e < length nodes
  cut_row cuts e h =
      ⊎_elim
      (λ (lt : e < length nodes). lt)
      (λ (past : length nodes ≤ e).
      absurd (false≢true (sym (ap (is_masked nodes roots cuts e) (get_or_past nodes e node.Zero past)) ∙ second _ (is_masked nodes roots cuts e (node_at nodes e)) h)))
      (cases_lt e (length nodes))

  rows_pass : (cuts : List ℕ) → IsChain nodes roots cuts → list_all (λ row. nat_lt row (length nodes)) (reverse cuts) ≡ true
  rows_pass [] h = refl
  rows_pass (e ∷ cuts) h =
      ap (list_all (λ row. nat_lt row (length nodes))) (reverse-append (e ∷ []) cuts)
      ∙ list_all-append (λ row. nat_lt row (length nodes)) (reverse cuts) (e ∷ [])
      ∙ both (list_all (λ row. nat_lt row (length nodes)) (reverse cuts)) (nat_lt e (length nodes) && true) (rows_pass cuts h.1)
      (both (nat_lt e (length nodes)) true (lt_passes e (length nodes) (cut_row cuts e h.0)) refl)

abbrev pub LeastIsChain : Type 0
LeastIsChain = (nodes : List Node) (roots : List ℕ) → IsChain nodes roots (least_chain nodes roots)

module _ (least : LeastIsChain) (families : AreFamilies) (x : Instance) where
  within_least : (roots : List ℕ) (m : ℕ) → is_provable x roots m ≡ true → is_within x roots (least_chain x.table.nodes roots) m ≡ true
  unfolding is_provable
  within_least roots m h = h

  one_proof : (family : Family) (hull : List Bool) (c : Closed) → c.hull ≡ hull → IsFamily (length x.probes) family → IsHullOf x family hull → IsProof x family (entry_of x c)
  one_proof family hull c e fam is =
      subst (λ (h : List Bool). IsProof x family record { hull = members h; cuts = reverse (least_chain x.table.nodes (roots_of x (members h))) }) (sym e)
      (let roots : List ℕ = roots_of x (members hull) in
      let set : hull_set (length x.probes) (members hull) ≡ hull = same_set (length x.probes) hull is.probes in
      let back : reverse (reverse (least_chain x.table.nodes (roots_of x (members hull)))) ≡ least_chain x.table.nodes (roots_of x (members hull)) =
      reverse-reverse (least_chain x.table.nodes (roots_of x (members hull))) in
      let chain = least x.table.nodes (roots_of x (members hull)) in
      record {
        hull = both (list_all (is_in_part family.parts) (members hull)) (list_all (has_take (members hull)) family.parts)
            (all_pass (is_in_part family.parts) (members hull) (in_parts (members hull) (recursion_from_All (λ (m : ℕ). is_in hull m ≡ true) (members hull) (members-are_in hull))))
            (takes_pass (length x.probes) hull is.probes family.parts (recursion_from_All (IsPart (length x.probes)) family.parts fam.parts)
            (recursion_from_All (λ (part : Part). part.take ≤ length (members (meet part.set hull))) family.parts is.enough));
        chain = both (list_all (λ row. nat_lt row (length x.table.nodes)) (reverse (least_chain x.table.nodes (roots_of x (members hull)))))
            (is_chain x.table.nodes (roots_of x (members (hull_set (length x.probes) (members hull)))) (reverse (reverse (least_chain x.table.nodes (roots_of x (members hull))))))
            (rows_pass x.table.nodes (roots_of x (members hull)) (least_chain x.table.nodes (roots_of x (members hull))) chain)
            (ap (λ (s : List Bool). is_chain x.table.nodes (roots_of x (members s)) (reverse (reverse (least_chain x.table.nodes (roots_of x (members hull)))))) set
            ∙ ap (is_chain x.table.nodes (roots_of x (members hull))) back
            ∙ chain_passes x.table.nodes (roots_of x (members hull)) (least_chain x.table.nodes (roots_of x (members hull))) chain);
        bounded = ap (λ (s : List Bool). is_within x (roots_of x (members s)) (reverse (reverse (least_chain x.table.nodes (roots_of x (members hull))))) family.bound) set
            ∙ ap (λ (l : List ℕ). is_within x (roots_of x (members hull)) l family.bound) back
            ∙ within_least (roots_of x (members hull)) family.bound is.provable;
      })
    where
      in_parts : (ms : List ℕ) → AllByRecursion (λ (m : ℕ). is_in hull m ≡ true) ms → AllByRecursion (λ (m : ℕ). is_in_part family.parts m ≡ true) ms
      in_parts [] h = tt
      in_parts (m ∷ ms) h = (is.parts m h.0, in_parts ms h.1)

  pub preorder_closes : (closed : List Closed) (waiting : List Family) → All (IsFamily (length x.probes)) waiting → IsPreorder x waiting closed → Closes x waiting (entries_of x closed) []
  preorder_closes [] waiting fams h = h
  preorder_closes (c ∷ closed) [] fams h = absurd h
  preorder_closes (c ∷ closed) (family ∷ waiting) fams h =
      let fam : IsFamily (length x.probes) family = All-head (IsFamily (length x.probes)) family waiting fams in
      let rest : Closes x (children_of family c.hull ++ waiting) (entries_of x closed) [] =
      preorder_closes closed (children_of family c.hull ++ waiting)
      (All-append (IsFamily (length x.probes)) (children_of family c.hull) waiting (families (length x.probes) family c.hull fam) (All-tail (IsFamily (length x.probes)) family waiting fams)) h.2 in (
        one_proof family c.hull c refl fam h.1,
        subst (λ (s : List Bool). Closes x (children_of family s ++ waiting) (entries_of x closed) []) (sym (same_set (length x.probes) c.hull h.1.probes)) rest,
      )

-- One more cycle.
use Rattle.std.proofs.Common.{◌≡◌, ℕ, zero, suc, ◌+◌, ◌-◌, ◌<◌, ◌≤◌, ◌==◌, Bool, true, false, List, [], ◌∷◌, ◌++◌, length, get_or, All, Option, Some, None, refl, sym, ap, ◌∙◌, subst, arith, ⊎_elim, ◌⊎◌}
use Rattle.std.specs.List.{flat_map, range_with_len}
use Rattle.std.specs.Option.{option_map_or}
use Rattle.std.proofs.lemmas.Bool.{eqb-true}
use Rattle.std.proofs.lemmas.List.{append-nil, append_assoc, length-map}
use Rattle.std.proofs.lemmas.List.Concat.{flat_map-append}
use Rattle.std.proofs.lemmas.Option.{same_Some}
use Rattle.circuit_types.specs.declared.circuit.Circuit.{Circuit}
use Rattle.circuit_types.specs.declared.circuit.Timing.{Timing}
use Rattle.circuit_types.specs.declared.circuit.Timing.TheVariants.{Settled, Cycles}
use Rattle.circuit_types.specs.declared.nets.Nets.{Nets}
use Rattle.circuit_types.specs.declared.nets.Source.{Source}
use Rattle.circuit_types.specs.declared.refusal.Stop.{Stop}
use Rattle.circuit_types.specs.declared.roles.InputRole.{InputRole}
use Rattle.circuit_types.specs.declared.roles.Role.{Role}
use Rattle.circuit_types.specs.declared.roles.Role.TheVariants as role
use Rattle.circuit_types.specs.declared.roles.Roles.{Roles}
use Rattle.circuit_types.specs.InputBits.{FitsNets, role_in, role_of}
use Rattle.circuit_types.specs.Order.{IsTiming}
use Rattle.circuit_types.specs.Probes.{cycles}
use Rattle.circuit_types.specs.Worlds.{Inputs, shares, secret, input, secret_leaves}
use Rattle.expr_table.specs.declared.instance.Notion.{Notion}
use Rattle.expr_table.specs.declared.instance.Notion.TheVariants.{Probing, Ni, Sni}
use Rattle.expr_table.specs.declared.node.Node.{Node}
use Rattle.expr_table.specs.declared.node.Row.{Row}
use Rattle.expr_table.specs.Table.{Table, Extends, IsRowOf, most_rows}
use Rattle.expr_table.specs.Term.{Term, Zero}
use Rattle.expr_table.proofs.Facts.{Extends-row}
use Rattle.term_build.specs.declared.cycle_rows.CycleRows.{CycleRows}
use Rattle.term_build.specs.declared.leaves.Sort.{Sort}
use Rattle.term_build.specs.declared.leaves.Sort.TheVariants.{Input, Random}
use Rattle.term_build.specs.Building.{AreCycleRows, AreCycles, Grows, HasConstants, HasLeaves, IsForInputs, IsShownShare, MadeCells, MadeShares, ShowBits, ShowCycles, ShowShares, ShowsCycle, StopsAt, role_row, row_at}
use Rattle.term_build.specs.InputTerms.{bit_term, made_for_inputs, role_term, share_term}
use Rattle.term_build.specs.Leaves.{inputs_of, leaf_term, given_term, drawn_term}
use Rattle.term_build.specs.Numbering.{all_leaves, leaf_count, leaves_before, leaves_of_secrets, numbered_term}
use Rattle.term_build.specs.SourceTerms.{source_term}
use Rattle.term_build.specs.TermInstance.{made_in_cycle, made_terms}
use Rattle.term_build.proofs.CellStep.{AreCycles-kept, ShowCycles-kept}
use Rattle.term_build.proofs.Counted.{length-range}
use Rattle.term_build.proofs.InputRoles.{role-step}
use Rattle.term_build.proofs.Making.{Grows-more, Grows-none, StopsAt-more}
use Rattle.term_build.proofs.Numbers.{before-all, before-fewer, number-all, range-next, range-split}
use Rattle.term_build.proofs.Shown.{HasConstants-kept, constant-shown}

-- the leaves of a cycle among all leaves
pub timing-some : (timing : Timing) → IsTiming timing → 0 < cycles timing
timing-some Settled is = omega arith
timing-some (Cycles n) is = omega (arith, is.0)

pub before-room : (sort : Sort) (notion : Notion) (roles : Roles) (timing : Timing) (next : ℕ) → next ≤ cycles timing → length (leaves_before sort notion roles next) ≤ length (all_leaves sort notion roles timing)
before-room sort notion roles timing next le =
    subst (λ n. length (leaves_before sort notion roles next) ≤ n) (ap length (before-all sort notion roles timing)) (before-fewer sort notion roles next (cycles timing) le)

pub ShowBits-all : (sort : Sort) (notion : Notion) (roles : Roles) (timing : Timing) (c next : ℕ) → next ≡ c + 1 → c < cycles timing → (nodes : List Node) (rows : List Row)
    → ShowBits nodes rows (λ b. leaf_term (numbered_term sort) (leaves_before sort notion roles next) (input b c)) → ShowBits nodes rows (λ b. leaf_term (numbered_term sort) (all_leaves sort notion roles timing) (input b c))
ShowBits-all sort notion roles timing c next is lt nodes rows shows = record {
  each = λ b. subst (λ o. IsRowOf nodes (row_at rows b) (option_map_or (numbered_term sort) o Zero)) (number-all b c sort notion roles timing next is lt) (shows.each b);
}

module _ (notion : Notion) (roles : Roles) (circuit : Circuit) where
  count-is : (sort : Sort) (table : Table) → HasLeaves notion roles circuit table → leaf_count sort table ≡ length (all_leaves sort notion roles circuit.timing)
  count-is Input table has = has.inputs
  count-is Random table has = has.randoms

  pub known-leaves : (sort : Sort) (table : Table) (next : ℕ) → HasLeaves notion roles circuit table → next ≤ cycles circuit.timing → length (leaves_before sort notion roles next) ≤ leaf_count sort table
  known-leaves sort table next has le = subst (λ n. length (leaves_before sort notion roles next) ≤ n) (sym (count-is sort table has)) (before-room sort notion roles circuit.timing next le)

  pub HasLeaves-kept : (old new : Table) → Extends old new → HasLeaves notion roles circuit old → HasLeaves notion roles circuit new
  HasLeaves-kept old new kept has = record {
    inputs = kept.same_inputs ∙ has.inputs;
    randoms = kept.same_randoms ∙ has.randoms;
    few_inputs = subst (λ n. n ≤ most_rows) (sym kept.same_inputs) has.few_inputs;
    few_randoms = subst (λ n. n ≤ most_rows) (sym kept.same_randoms) has.few_randoms;
    constants = HasConstants-kept old new kept has.constants;
  }

  pub few-secrets : (table : Table) → HasLeaves notion roles circuit table → length (leaves_of_secrets Input notion roles) ≤ most_rows
  few-secrets table has =
      let among : length (leaves_of_secrets Input notion roles ++ []) ≤ table.inputs = known-leaves Input table 0 has (omega arith) in
      let same = ap length (append-nil (leaves_of_secrets Input notion roles)) in
      let few = has.few_inputs in
      omega (arith, among, same, few)

  pub few-given : (table : Table) → notion ≡ Probing → HasLeaves notion roles circuit table → length roles.secrets ≤ most_rows
  few-given table is has =
      let same : length (leaves_of_secrets Input notion roles) ≡ length roles.secrets =
      ap (λ n. length (leaves_of_secrets Input n roles)) is ∙ length-map (range_with_len 0 (length roles.secrets)) (λ s. secret s) ∙ length-range 0 (length roles.secrets) in
      subst (λ n. n ≤ most_rows) same (few-secrets table has)

pub for-inputs : (count : ℕ) (roles : Roles) (nets : Nets) → FitsNets roles nets → count ≡ length nets.sources → IsForInputs count roles
for-inputs count roles nets fits is = record { within = λ j x lt. subst (λ n. (get_or roles.inputs j x).bit < n) (sym is) (fits.inputs j x lt); one_role = fits.one_role }

-- where the shares are given
pub inputs-shares : (notion : Notion) → (notion ≡ Ni) ⊎ (notion ≡ Sni) → inputs_of notion ≡ shares
inputs-shares notion is = ⊎_elim (λ e. ap inputs_of e) (λ e. ap inputs_of e) is

pub no-secrets : (notion : Notion) (roles : Roles) → inputs_of notion ≡ shares → 0 ≡ length (leaves_before Input notion roles 0)
no-secrets notion roles is = ap (λ inputs. length (secret_leaves inputs roles ++ [])) (sym is)

none-made : (roles : Roles) (timing : Timing) → made_for_inputs shares roles timing ≡ []
unfolding made_for_inputs
none-made roles timing = refl

pub made-given : (inputs : Inputs) (roles : Roles) (timing : Timing) (t : Table) (rows : List Row) → inputs ≡ shares → ShowBits t.nodes rows (λ b. given_term inputs roles timing (input b 0)) → MadeShares inputs roles timing t t rows
made-given inputs roles timing t rows is show = record {
  grows = subst (Grows t t) (sym (ap (λ x. made_for_inputs x roles timing) is ∙ none-made roles timing)) (Grows-none t);
  shows = record { each = λ j x lt. by (get_or roles.inputs j x) (get_or roles.inputs j x).role };
}
  where
    by : (x : InputRole) (r : Role) → IsShownShare inputs roles timing t.nodes rows x r
    by x (role.Share s i) =
        subst (λ u. IsRowOf t.nodes (row_at rows x.bit) u) (sym (ap (λ y. share_term y roles (given_term inputs roles timing) (drawn_term inputs roles timing) x.bit s i) is)) (show.each x.bit)
    by x role.Random = tt
    by x role.Public = tt
    by x role.Clock = tt
    by x (role.Held v) = tt

-- an input with a role
pub role-found : (P : InputRole → Type 0) (b : ℕ) (r : Role) (xs : List InputRole) → role_in xs b ≡ Some r → All P xs → (x : InputRole) × (x.bit ≡ b) × (x.role ≡ r) × P x
role-found P b r [] is all = absurd cc
role-found P b r (x ∷ xs) is all = by (x.bit == b) refl (λ e. role-found P b r xs e (λ j d lt. all (suc j) d (omega arith)))
  where
    by : (s : Bool) → (x.bit == b) ≡ s → (role_in xs b ≡ Some r → (y : InputRole) × (y.bit ≡ b) × (y.role ≡ r) × P y) → (y : InputRole) × (y.bit ≡ b) × (y.role ≡ r) × P y
    by true e rest = (x, eqb-true x.bit b e, same_Some x.role r (sym (role-step b x xs true e) ∙ is), all 0 x (omega arith))
    by false e rest = rest (sym (role-step b x xs false e) ∙ is)

-- shares keep their rows
pub ShowShares-kept : (old new : Table) → Extends old new → (inputs : Inputs) (roles : Roles) (timing : Timing) (rows : List Row) → ShowShares inputs roles timing old.nodes rows → ShowShares inputs roles timing new.nodes rows
ShowShares-kept old new kept inputs roles timing rows shows = record { each = λ j x lt. by (get_or roles.inputs j x) (get_or roles.inputs j x).role (shows.each j x lt) }
  where
    by : (x : InputRole) (r : Role) → IsShownShare inputs roles timing old.nodes rows x r → IsShownShare inputs roles timing new.nodes rows x r
    by x (role.Share s i) is = Extends-row old new kept (row_at rows x.bit) _ is
    by x role.Random is = tt
    by x role.Public is = tt
    by x role.Clock is = tt
    by x (role.Held v) is = tt

-- each bit has the row of its term
module _ (inputs : Inputs) (roles : Roles) (timing : Timing) (nodes : List Node) (constants : HasConstants nodes) (given drawn shared : List Row) (c : ℕ)
    (show_given : ShowBits nodes given (λ b. given_term inputs roles timing (input b c))) (show_drawn : ShowBits nodes drawn (λ b. drawn_term inputs roles timing (input b c))) (show_shares : ShowShares inputs roles timing nodes shared) where
  abbrev by_role : ℕ → Role → Term
  by_role b = role_term inputs roles (given_term inputs roles timing) (drawn_term inputs roles timing) b c

  role-shown : (b : ℕ) (r : Role) → role_of roles b ≡ Some r → IsRowOf nodes (role_row given drawn shared b r) (by_role b r)
  role-shown b (role.Share s i) is =
      let x = role-found (λ x. IsShownShare inputs roles timing nodes shared x x.role) b (role.Share s i) roles.inputs is show_shares.each in
      subst (λ k. IsRowOf nodes (row_at shared k) (share_term inputs roles (given_term inputs roles timing) (drawn_term inputs roles timing) k s i)) x.1
      (subst (IsShownShare inputs roles timing nodes shared x.0) x.2 x.3)
  role-shown b role.Random is = show_drawn.each b
  role-shown b role.Public is = show_given.each b
  role-shown b role.Clock is = constants.zero_row
  role-shown b (role.Held v) is = constant-shown nodes constants v

  bit-shown : (b : ℕ) (o : Option Role) → role_of roles b ≡ o → IsRowOf nodes (option_map_or (role_row given drawn shared b) o 0) (option_map_or (by_role b) o Zero)
  bit-shown b None is = constants.zero_row
  bit-shown b (Some r) is = role-shown b r is

  bits-shown : (bits : List Row) → ((b : ℕ) → row_at bits b ≡ option_map_or (role_row given drawn shared b) (role_of roles b) 0) → ShowBits nodes bits (λ b. bit_term inputs roles timing b c)
  unfolding bit_term
  bits-shown bits rows = record { each = λ b. subst (λ n. IsRowOf nodes n (option_map_or (by_role b) (role_of roles b) Zero)) (sym (rows b)) (bit-shown b (role_of roles b) refl) }

module _ (notion : Notion) (roles : Roles) (circuit : Circuit) where
  pub bits-made : (nodes : List Node) → HasConstants nodes → (given drawn shared given_read drawn_read shared_read bits : List Row) (c next : ℕ) → next ≡ c + 1 → c < cycles circuit.timing
      → given_read ≡ given → drawn_read ≡ drawn → shared_read ≡ shared
      → ShowBits nodes given (λ b. leaf_term (numbered_term Input) (leaves_before Input notion roles next) (input b c))
      → ShowBits nodes drawn (λ b. leaf_term (numbered_term Random) (leaves_before Random notion roles next) (input b c))
      → ShowShares (inputs_of notion) roles circuit.timing nodes shared
      → ((b : ℕ) → row_at bits b ≡ option_map_or (role_row given_read drawn_read shared_read b) (role_of roles b) 0)
      → ShowBits nodes bits (λ b. bit_term (inputs_of notion) roles circuit.timing b c)
  bits-made nodes constants given drawn shared given_read drawn_read shared_read bits c next is lt a b d show_given show_drawn show_shares rows =
      bits-shown (inputs_of notion) roles circuit.timing nodes constants given drawn shared c
      (ShowBits-all Input notion roles circuit.timing c next is lt nodes given show_given)
      (ShowBits-all Random notion roles circuit.timing c next is lt nodes drawn show_drawn)
      show_shares bits (λ k. rows k ∙ (λ i. option_map_or (role_row (a i) (b i) (d i) k) (role_of roles k) 0))

-- what is made, cycle by cycle
module _ (front : List Term) (f : ℕ → List Term) where
  abbrev made_before : ℕ → List Term
  made_before n = front ++ flat_map f (range_with_len 0 n)

  pub cycles-more : (c : ℕ) → made_before (c + 1) ≡ made_before c ++ f c
  cycles-more c =
      ap (λ r. front ++ flat_map f r) (range-next c (c + 1) refl)
      ∙ ap (λ l. front ++ l) (flat_map-append f (range_with_len 0 c) (c ∷ []) ∙ ap (λ l. flat_map f (range_with_len 0 c) ++ l) (append-nil (f c)))
      ∙ sym (append_assoc front (flat_map f (range_with_len 0 c)) (f c))

  cycles-split : (c k : ℕ) → made_before ((c + 1) + k) ≡ (made_before c ++ f c) ++ flat_map f (range_with_len (c + 1) k)
  cycles-split c k =
      let z : 0 + (c + 1) ≡ c + 1 = omega arith in
      ap (λ r. front ++ flat_map f r) (range-split 0 (c + 1) k ∙ ap (λ b. range_with_len 0 (c + 1) ++ range_with_len b k) z)
      ∙ ap (λ l. front ++ l) (flat_map-append f (range_with_len 0 (c + 1)) (range_with_len (c + 1) k))
      ∙ sym (append_assoc front (flat_map f (range_with_len 0 (c + 1))) (flat_map f (range_with_len (c + 1) k)))
      ∙ ap (λ l. l ++ flat_map f (range_with_len (c + 1) k)) (cycles-more c)

  pub cycles-rest : (c n : ℕ) → c < n → made_before n ≡ (made_before c ++ f c) ++ flat_map f (range_with_len (c + 1) (n - (c + 1)))
  cycles-rest c n lt = let e : n ≡ (c + 1) + (n - (c + 1)) = omega arith in ap made_before e ∙ cycles-split c (n - (c + 1))

-- one more element
each-push : {X : Type 0} (P : ℕ → X → Type 0) (xs : List X) (x : X) → ((c : ℕ) (d : X) → c < length xs → P c (get_or xs c d)) → P (length xs) x → (c : ℕ) (d : X) → c < length (xs ++ x ∷ []) → P c (get_or (xs ++ x ∷ []) c d)
each-push P [] x all here zero d lt = here
each-push P [] x all here (suc c) d lt = absurd (omega arith)
each-push P (y ∷ ys) x all here zero d lt = all 0 d (omega arith)
each-push P (y ∷ ys) x all here (suc c) d lt = each-push (λ k. P (suc k)) ys x (λ k e l. all (suc k) e (omega arith)) here c d (omega arith)

module _ (notion : Notion) (roles : Roles) (circuit : Circuit) (old mid : Table) (done read : List CycleRows) (c : ℕ) (same : read ≡ done) (count : length done ≡ c) where
  abbrev term : ℕ → Source → Term
  term = source_term notion roles circuit

  abbrev so_far : ℕ → List Term
  so_far n = made_for_inputs (inputs_of notion) roles circuit.timing ++ flat_map (made_in_cycle notion roles circuit) (range_with_len 0 n)

  read-count : length read ≡ c
  read-count = ap length same ∙ count

  pub bits-read : (bits : List Row) → ShowBits mid.nodes bits (λ b. bit_term (inputs_of notion) roles circuit.timing b c) → ShowBits mid.nodes bits (λ b. bit_term (inputs_of notion) roles circuit.timing b (length read))
  bits-read bits show = subst (λ n. ShowBits mid.nodes bits (λ b. bit_term (inputs_of notion) roles circuit.timing b n)) (sym read-count) show

  pub cycles-read : ShowCycles circuit.nets mid.nodes term done → ShowCycles circuit.nets mid.nodes term read
  cycles-read shows = subst (ShowCycles circuit.nets mid.nodes term) (sym same) shows

  pub grows-more : (new : Table) (rows : CycleRows) → Grows old mid (so_far c) → MadeCells circuit mid new (term (length read)) rows → Grows old new (so_far (c + 1))
  grows-more new rows grows made =
      let it : Grows mid new (made_in_cycle notion roles circuit c) = subst (λ n. Grows mid new (made_in_cycle notion roles circuit n)) read-count made.grows in
      subst (Grows old new) (sym (cycles-more (made_for_inputs (inputs_of notion) roles circuit.timing) (made_in_cycle notion roles circuit) c))
      (Grows-more old mid new (so_far c) (made_in_cycle notion roles circuit c) grows it)

  pub cycle-stop : (stop : Stop) → c < cycles circuit.timing → Grows old mid (so_far c) → StopsAt mid (made_in_cycle notion roles circuit (length read)) stop → StopsAt old (made_terms notion roles circuit) stop
  cycle-stop stop lt grows stops =
      StopsAt-more old mid (so_far c) (made_in_cycle notion roles circuit c) (flat_map (made_in_cycle notion roles circuit) (range_with_len (c + 1) (cycles circuit.timing - (c + 1)))) (made_terms notion roles circuit) stop grows
      (cycles-rest (made_for_inputs (inputs_of notion) roles circuit.timing) (made_in_cycle notion roles circuit) c (cycles circuit.timing) lt)
      (subst (λ n. StopsAt mid (made_in_cycle notion roles circuit n) stop) read-count stops)

  pub shows-more : (new : Table) (rows : CycleRows) (all : List CycleRows) → all ≡ done ++ rows ∷ [] → ShowCycles circuit.nets mid.nodes term done → MadeCells circuit mid new (term (length read)) rows
      → ShowCycles circuit.nets new.nodes term all
  shows-more new rows all is shows made =
      subst (ShowCycles circuit.nets new.nodes term) (sym is)
      (record {
        each = each-push (λ k d. ShowsCycle circuit.nets new.nodes (term k) d) done rows (ShowCycles-kept mid new made.grows.kept circuit.nets term done shows).each
            (subst (λ n. ShowsCycle circuit.nets new.nodes (term n) rows) (ap length same) made.shows);
      })

pub cycles-are-more : (mid new : Table) (done : List CycleRows) (rows : CycleRows) (all : List CycleRows) → all ≡ done ++ rows ∷ [] → Extends mid new → AreCycles mid.nodes done → AreCycleRows new.nodes rows → AreCycles new.nodes all
cycles-are-more mid new done rows all is kept are here =
    subst (AreCycles new.nodes) (sym is) (record { each = each-push (λ k d. AreCycleRows new.nodes d) done rows (AreCycles-kept mid new kept done are).each here })

-- What an instance has: its rows, roots and groups.
use Rattle.std.proofs.Common.{◌≡◌, ℕ, zero, suc, ◌+◌, ◌<◌, ◌≤◌, Bool, true, false, cond, List, [], ◌∷◌, ◌++◌, length, map, get_or, All, Option, Some, None, refl, sym, ap, ◌∙◌, subst, arith, inl}
use Rattle.std.specs.Prelude.{IfSome}
use Rattle.std.specs.List.{AllZip, flat_map, range_with_len}
use Rattle.circuit_types.specs.declared.circuit.Circuit.{Circuit}
use Rattle.circuit_types.specs.declared.nets.Nets.{Nets}
use Rattle.circuit_types.specs.declared.nets.Source.{Source}
use Rattle.circuit_types.specs.declared.probes.Probe.{Probe}
use Rattle.circuit_types.specs.declared.refusal.Stop.{Stop}
use Rattle.circuit_types.specs.declared.refusal.Stop.TheVariants.{Refused, NoMemory}
use Rattle.circuit_types.specs.declared.roles.InputRole.{InputRole}
use Rattle.circuit_types.specs.declared.roles.Role.{Role}
use Rattle.circuit_types.specs.declared.roles.Role.TheVariants.{Share, Random, Public, Clock, Held}
use Rattle.circuit_types.specs.declared.roles.Roles.{Roles}
use Rattle.circuit_types.specs.Causes.{IsRefusal}
use Rattle.circuit_types.specs.DataSources.{IsWithin}
use Rattle.circuit_types.specs.Due.{IsClear, IsDue}
use Rattle.circuit_types.specs.InputBits.{role_of}
use Rattle.circuit_types.specs.Probes.{cycles}
use Rattle.circuit_types.specs.Worlds.{Inputs, secrets, shares, Leaf, secret, input, group_of, is_input_leaf, secret_leaves, leaves_in, input_leaves}
use Rattle.expr_table.specs.declared.instance.Notion.{Notion}
use Rattle.expr_table.specs.declared.instance.ProbeRoots.{ProbeRoots}
use Rattle.expr_table.specs.declared.node.Node.{Node}
use Rattle.expr_table.specs.Instance.{rows_of}
use Rattle.expr_table.specs.Table.{Table, IsTable, IsRowOf, most_rows, new_table, numbers, terms}
use Rattle.expr_table.specs.Term.{Term}
use Rattle.expr_table.proofs.Facts.{length-terms}
use Rattle.term_build.specs.declared.cycle_rows.CycleRows.{CycleRows}
use Rattle.term_build.specs.Building.{AreRootsIn, ShowCycles, ShowsCycle, StopsAt, row_kept, secret_of}
use Rattle.term_build.specs.Numbering.{leaves_among}
use Rattle.term_build.specs.TermInstance.{HasEachShare, HasRoots, IsKnownShare, IsProbeOf, input_count, made_terms, random_count, row_terms, term_causes, with_terms}
use Rattle.term_build.proofs.CycleStep.{role-found}
use Rattle.term_build.proofs.Grouped.{group-by}

-- the rows of the instance, and when they are too many
module _ (notion : Notion) (roles : Roles) (circuit : Circuit) where
  abbrev first_table : Table
  first_table = new_table (input_count notion roles circuit) (random_count notion roles circuit)

  pub rows-are : (old new : Table) → old ≡ first_table → terms new.nodes ≡ with_terms (terms old.nodes) (made_terms notion roles circuit) → terms new.nodes ≡ row_terms notion roles circuit
  unfolding row_terms
  rows-are old new is rows = rows ∙ ap (λ (t : Table). with_terms (terms t.nodes) (made_terms notion roles circuit)) is

  pub short-due : (old : Table) (stop : Stop) → old ≡ first_table → StopsAt old (made_terms notion roles circuit) stop → IsRefusal (IsDue (term_causes notion roles circuit)) stop
  unfolding term_causes row_terms
  short-due old NoMemory is stops = tt
  short-due old (Refused r) is stops =
      inl (subst (λ (t : Table). most_rows < length (with_terms (terms t.nodes) (made_terms notion roles circuit))) is stops.1.too_many, stops.0)

  pub all-fit : (new : Table) → IsTable new → terms new.nodes ≡ row_terms notion roles circuit → IsClear (term_causes notion roles circuit)
  unfolding term_causes
  all-fit new table rows = (λ many. let few = table.few in omega (arith, few, many, ap length rows, length-terms new.nodes), tt)

-- the roots of probes
module _ (nets : Nets) (nodes : List Node) where
  seen-shown : (term : Source → Term) (rows : CycleRows) → ShowsCycle nets nodes term rows → (ss : List Source) → All (IsWithin nets) ss → AllZip (λ row s. IsRowOf nodes row (term s)) (numbers (map (row_kept rows) ss)) ss
  seen-shown term rows shows [] all = tt
  seen-shown term rows shows (s ∷ ss) all = (shows.each s (all 0 s (omega arith)), seen-shown term rows shows ss (λ k d lt. all (suc k) d (omega arith)))

  root-shown : (term : ℕ → Source → Term) (rows : List CycleRows) → ShowCycles nets nodes term rows → (r : ProbeRoots) (p : Probe) → p.cycle < length rows → All (IsWithin nets) p.seen → AreRootsIn rows r p → HasRoots nodes term r p
  root-shown term [] shows r p lt seen are = absurd (omega arith)
  root-shown term (x ∷ xs) shows r p lt seen are = record {
    rows = subst (λ ks. AllZip (λ row s. IsRowOf nodes row (term p.cycle s)) (numbers ks) p.seen) (sym (are.rows_are x))
        (seen-shown (term p.cycle) (get_or (x ∷ xs) p.cycle x) (shows.each p.cycle x lt) p.seen seen);
    output = are.output;
  }

pub roots-shown : (circuit : Circuit) (nodes : List Node) (term : ℕ → Source → Term) (rows : List CycleRows) → length rows ≡ cycles circuit.timing → ShowCycles circuit.nets nodes term rows
    → (xs : List ProbeRoots) (ps : List Probe) → AllZip (AreRootsIn rows) xs ps → All (IsProbeOf circuit) ps → AllZip (HasRoots nodes term) xs ps
roots-shown circuit nodes term rows count shows [] [] are all = tt
roots-shown circuit nodes term rows count shows (x ∷ xs) (p ∷ ps) are all =
    let probe = all 0 p (omega arith) in
    let lt = probe.cycle in (
      root-shown circuit.nets nodes term rows shows x p (omega (arith, lt, count)) probe.seen are.0,
      roots-shown circuit nodes term rows count shows xs ps are.1 (λ k d l. all (suc k) d (omega arith)),
    )
roots-shown circuit nodes term rows count shows [] (p ∷ ps) are all = absurd are
roots-shown circuit nodes term rows count shows (x ∷ xs) [] are all = absurd are

rows-within : (nodes : List Node) (term : Source → Term) (rows : List ℕ) (ss : List Source) → AllZip (λ row s. IsRowOf nodes row (term s)) rows ss → All (λ row. row < length nodes) rows
rows-within nodes term [] ss all k d lt = absurd (omega arith)
rows-within nodes term (r ∷ rows) [] all k d lt = absurd all
rows-within nodes term (r ∷ rows) (s ∷ ss) all zero d lt = all.0.within
rows-within nodes term (r ∷ rows) (s ∷ ss) all (suc k) d lt = rows-within nodes term rows ss all.1 k d (omega arith)

pub roots-within : (nodes : List Node) (term : ℕ → Source → Term) (xs : List ProbeRoots) (ps : List Probe) → AllZip (HasRoots nodes term) xs ps → All (λ (x : ProbeRoots). All (λ row. row < length nodes) (rows_of x)) xs
roots-within nodes term [] ps all k d lt = absurd (omega arith)
roots-within nodes term (x ∷ xs) [] all k d lt = absurd all
roots-within nodes term (x ∷ xs) (p ∷ ps) all zero d lt = rows-within nodes (term p.cycle) (rows_of x) p.seen all.0.rows
roots-within nodes term (x ∷ xs) (p ∷ ps) all (suc k) d lt = roots-within nodes term xs ps all.1 k d (omega arith)

pub one-root_each : (nodes : List Node) (term : ℕ → Source → Term) (xs : List ProbeRoots) (ps : List Probe) → AllZip (HasRoots nodes term) xs ps → length xs ≡ length ps
one-root_each nodes term [] [] all = refl
one-root_each nodes term (x ∷ xs) (p ∷ ps) all = ap suc (one-root_each nodes term xs ps all.1)
one-root_each nodes term [] (p ∷ ps) all = absurd all
one-root_each nodes term (x ∷ xs) [] all = absurd all

-- the groups of leaves are secret bits
module _ (roles : Roles) (has : HasEachShare roles) where
  abbrev IsSecret : Option ℕ → Type 0
  IsSecret group = IfSome group (λ s. s < length roles.secrets)

  abbrev AreSecrets : List Leaf → Type 0
  AreSecrets [] = Unit {0}
  AreSecrets (l ∷ ls) = IsSecret (group_of roles l) × AreSecrets ls

  input-secret : (b c : ℕ) → IsSecret (group_of roles (input b c))
  input-secret b c = by (role_of roles b) refl
    where
      known : (r : Role) → role_of roles b ≡ Some r → IsKnownShare roles r
      known r is = let x = role-found (λ (x : InputRole). IsKnownShare roles x.role) b r roles.inputs is has.known in subst (IsKnownShare roles) x.2 x.3

      by_role : (r : Role) → IsKnownShare roles r → IsSecret (secret_of r)
      by_role (Share s i) known = known.0
      by_role Random known = tt
      by_role Public known = tt
      by_role Clock known = tt
      by_role (Held v) known = tt

      by : (o : Option Role) → role_of roles b ≡ o → IsSecret (group_of roles (input b c))
      by None is = subst IsSecret (sym (group-by roles b c None is)) tt
      by (Some r) is = subst IsSecret (sym (group-by roles b c (Some r) is)) (by_role r (known r is))

  secrets-append : (ls ms : List Leaf) → AreSecrets ls → AreSecrets ms → AreSecrets (ls ++ ms)
  secrets-append [] ms a b = b
  secrets-append (l ∷ ls) ms a b = (a.0, secrets-append ls ms a.1 b)

  secrets-among : (test : Role → Bool) (c : ℕ) (xs : List InputRole) → AreSecrets (leaves_among test c xs)
  secrets-among test c [] = tt
  secrets-among test c (x ∷ xs) = secrets-append (cond (test x.role) (input x.bit c ∷ []) []) (leaves_among test c xs) (by (test x.role)) (secrets-among test c xs)
    where
      by : (s : Bool) → AreSecrets (cond s (input x.bit c ∷ []) [])
      by true = (input-secret x.bit c, tt)
      by false = tt

  secrets-cycles : (test : ℕ → Role → Bool) (a n : ℕ) → AreSecrets (flat_map (λ c. leaves_in (test c) roles c) (range_with_len a n))
  secrets-cycles test a zero = tt
  secrets-cycles test a (suc n) =
      secrets-append (leaves_in (test a) roles a) (flat_map (λ c. leaves_in (test c) roles c) (range_with_len (a + 1) n)) (secrets-among (test a) a roles.inputs) (secrets-cycles test (a + 1) n)

  secrets-range : (a n : ℕ) → a + n ≤ length roles.secrets → AreSecrets (map (λ s. secret s) (range_with_len a n))
  secrets-range a zero le = tt
  secrets-range a (suc n) le = (omega arith, secrets-range (a + 1) n (omega arith))

  secrets-given : (inputs : Inputs) → AreSecrets (secret_leaves inputs roles)
  secrets-given secrets = secrets-range 0 (length roles.secrets) (omega arith)
  secrets-given shares = tt

  groups-at : (n : ℕ) → length roles.secrets ≤ n → (ls : List Leaf) → AreSecrets ls → All (λ group. IfSome group (λ s. s < n)) (map (group_of roles) ls)
  groups-at n le [] are k d lt = absurd (omega arith)
  groups-at n le (l ∷ ls) are zero d lt = by (group_of roles l) are.0
    where
      by : (o : Option ℕ) → IsSecret o → IfSome o (λ s. s < n)
      by None is = tt
      by (Some s) is = omega (arith, is)
  groups-at n le (l ∷ ls) are (suc k) d lt = groups-at n le ls are.1 k d (omega arith)

  pub groups-within : (inputs : Inputs) (circuit : Circuit) (n : ℕ) → length roles.secrets ≤ n → All (λ group. IfSome group (λ s. s < n)) (map (group_of roles) (input_leaves inputs roles circuit.timing))
  unfolding input_leaves
  groups-within inputs circuit n le =
      groups-at n le (input_leaves inputs roles circuit.timing)
      (secrets-append (secret_leaves inputs roles) (flat_map (λ c. leaves_in (is_input_leaf inputs c) roles c) (range_with_len 0 (cycles circuit.timing))) (secrets-given inputs) (secrets-cycles (is_input_leaf inputs) 0 (cycles circuit.timing)))

-- The groups of leaves.
use Rattle.std.proofs.Common.{◌≡◌, ◌≢◌, ◌+◌, ◌<◌, ℕ, zero, true, false, suc, List, [], ◌∷◌, ◌++◌, Some, None, Option, map, length, get_or, take, refl, sym, ap, ◌∙◌, arith}
use Rattle.std.specs.List.{range_with_len, AllPairs}
use Rattle.std.specs.Option.{option_map_or}
use Rattle.std.proofs.lemmas.List.{map-append, take_more}
use Rattle.circuit_types.specs.declared.roles.InputRole.{InputRole}
use Rattle.circuit_types.specs.declared.roles.Role.{Role}
use Rattle.circuit_types.specs.declared.roles.Role.TheVariants.{Share, Random, Public, Clock, Held}
use Rattle.circuit_types.specs.declared.roles.Roles.{Roles}
use Rattle.circuit_types.specs.InputBits.{role_of}
use Rattle.circuit_types.specs.Worlds.{secret, input, group_of}
use Rattle.term_build.specs.Building.{secret_of}
use Rattle.expr_table.specs.declared.instance.Notion.{Notion}
use Rattle.term_build.specs.declared.leaves.Sort.TheVariants.{Input}
use Rattle.term_build.specs.Numbering.{is_leaf, leaves_up_to}
use Rattle.term_build.proofs.InputRoles.{role-at}
use Rattle.term_build.proofs.LeafRows.{leaves-same, up_to-yes}
use Rattle.term_build.proofs.Numbers.{range-next}

pub groups-next : (n : ℕ) → map (λ s. Some s) (range_with_len 0 (n + 1)) ≡ map (λ s. Some s) (range_with_len 0 n) ++ Some n ∷ []
groups-next n = ap (map (λ s. Some s)) (range-next n (n + 1) refl) ∙ map-append (λ s. Some s) (range_with_len 0 n) (n ∷ [])

pub secret-groups : (roles : Roles) (a n : ℕ) → map (group_of roles) (map (λ s. secret s) (range_with_len a n)) ≡ map (λ s. Some s) (range_with_len a n)
secret-groups roles a zero = refl
secret-groups roles a (suc n) = ap (λ l. Some a ∷ l) (secret-groups roles (a + 1) n)

-- the group of an input bit goes by its role
pub group-by : (roles : Roles) (b c : ℕ) (o : Option Role) → role_of roles b ≡ o → group_of roles (input b c) ≡ option_map_or secret_of o None
group-by roles b c None e = rw e refl
group-by roles b c (Some (Share s i)) e = rw e refl
group-by roles b c (Some Random) e = rw e refl
group-by roles b c (Some Public) e = rw e refl
group-by roles b c (Some Clock) e = rw e refl
group-by roles b c (Some (Held v)) e = rw e refl

pub group-at : (roles : Roles) (c : ℕ) → AllPairs (λ (x y : InputRole). x.bit ≢ y.bit) roles.inputs → (k : ℕ) (d : InputRole) → k < length roles.inputs
    → group_of roles (input (get_or roles.inputs k d).bit c) ≡ secret_of (get_or roles.inputs k d).role
group-at roles c one k d lt = group-by roles (get_or roles.inputs k d).bit c (Some (get_or roles.inputs k d).role) (role-at roles.inputs one k d lt)

-- one more input
module _ (notion : Notion) (roles : Roles) (c : ℕ) (inputs : List InputRole) (i : ℕ) (d : InputRole) (groups : List (Option ℕ)) (same : inputs ≡ roles.inputs) (lt : i < length inputs)
    (are : groups ≡ map (group_of roles) (leaves_up_to Input notion roles c (take i inputs))) where
  pub groups-yes : AllPairs (λ (x y : InputRole). x.bit ≢ y.bit) roles.inputs → is_leaf Input notion roles c (get_or inputs i d).role ≡ true
      → groups ++ secret_of (get_or inputs i d).role ∷ [] ≡ map (group_of roles) (leaves_up_to Input notion roles c (take (i + 1) inputs))
  groups-yes one h =
      let x = get_or inputs i d in
      let group : group_of roles (input x.bit c) ≡ secret_of x.role =
      ap (λ (xs : List InputRole). group_of roles (input (get_or xs i d).bit c)) same ∙ group-at roles c one i d (omega (arith, ap length same)) ∙ ap (λ (xs : List InputRole). secret_of (get_or xs i d).role) (sym same) in
      (λ k. are k ++ sym group k ∷ [])
      ∙ sym (map-append (group_of roles) (leaves_up_to Input notion roles c (take i inputs)) (input x.bit c ∷ []))
      ∙ ap (map (group_of roles)) (sym (ap (leaves_up_to Input notion roles c) (take_more inputs i d lt) ∙ up_to-yes Input notion roles c [] (take i inputs) x h))

  pub groups-no : is_leaf Input notion roles c (get_or inputs i d).role ≡ false → groups ≡ map (group_of roles) (leaves_up_to Input notion roles c (take (i + 1) inputs))
  groups-no h = are ∙ ap (map (group_of roles)) (sym (leaves-same Input notion roles c inputs i d lt h))

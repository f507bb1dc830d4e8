-- How many leaves there are.
use Rattle.std.proofs.Common.{◌≡◌, ℕ, zero, suc, ◌+◌, ◌<◌, ◌≤◌, Bool, true, false, List, [], ◌∷◌, ◌++◌, length, take, get_or, refl, sym, ap, ◌∙◌, arith, length-append}
use Rattle.std.specs.List.{range_with_len}
use Rattle.std.proofs.lemmas.List.{length-map, take_more}
use Rattle.circuit_types.specs.declared.roles.InputRole.{InputRole}
use Rattle.circuit_types.specs.declared.roles.Role.{Role}
use Rattle.circuit_types.specs.declared.circuit.Timing.{Timing}
use Rattle.circuit_types.specs.declared.roles.Roles.{Roles}
use Rattle.circuit_types.specs.Worlds.{secrets, secret, input, input_leaves, is_input_leaf, leaves_of, secret_leaves}
use Rattle.term_build.specs.Numbering.{leaves_among}
use Rattle.term_build.proofs.Numbers.{among-yes, among-no}

pub length-range : (a n : ℕ) → length (range_with_len a n) ≡ n
length-range a zero = refl
length-range a (suc n) = ap suc (length-range (a + 1) n)

-- the first of a list, and one more
pub front-more : {X : Type 0} (xs : List X) (i : ℕ) (x : X) → i < length xs → x ≡ get_or xs i x → take (i + 1) xs ≡ take i xs ++ x ∷ []
front-more xs i x lt is = take_more xs i x lt ∙ ap (λ y. take i xs ++ y ∷ []) (sym is)

pub count-yes : (test : Role → Bool) (c : ℕ) (xs : List InputRole) (i : ℕ) (x : InputRole) → i < length xs → x ≡ get_or xs i x → test x.role ≡ true
    → length (leaves_among test c (take (i + 1) xs)) ≡ length (leaves_among test c (take i xs)) + 1
count-yes test c xs i x lt is passes =
    ap (λ l. length (leaves_among test c l)) (front-more xs i x lt is) ∙ ap length (among-yes test c (take i xs) x passes) ∙ length-append (leaves_among test c (take i xs)) (input x.bit c ∷ [])

pub count-no : (test : Role → Bool) (c : ℕ) (xs : List InputRole) (i : ℕ) (x : InputRole) → i < length xs → x ≡ get_or xs i x → test x.role ≡ false
    → length (leaves_among test c (take (i + 1) xs)) ≡ length (leaves_among test c (take i xs))
count-no test c xs i x lt is fails = ap (λ l. length (leaves_among test c l)) (front-more xs i x lt is) ∙ ap length (among-no test c (take i xs) x fails)

-- where the secrets are given, each is an input leaf
pub secrets-first : (roles : Roles) (timing : Timing) → length roles.secrets ≤ length (input_leaves secrets roles timing)
unfolding input_leaves
secrets-first roles timing =
    omega (
      arith,
      length-append (secret_leaves secrets roles) (leaves_of (is_input_leaf secrets) roles timing),
      length-map (range_with_len 0 (length roles.secrets)) (λ s. secret s),
      length-range 0 (length roles.secrets),
    )

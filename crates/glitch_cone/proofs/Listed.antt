-- The list of probed sources: which sources stand there, and that each stands there once.
use Rattle.std.proofs.Common.{◌≡◌, ◌≢◌, ◌<◌, ◌≤◌, ℕ, zero, suc, ◌+◌, ◌-◌, ◌==◌, Bool, true, false, cond, List, [], ◌∷◌, ◌++◌, length, map, take, get_or, All, Option, None, Some, refl, sym, ap, ◌∙◌, subst, arith, ⊎_elim}
use Rattle.std.specs.List.{filter, find, range_with_len, AllPairs}
use Rattle.std.specs.Option.{option_map_or}
use Rattle.std.proofs.lemmas.Bool.{cases_lt, cond-true, cond-false, eq-eqb, ne_eqb}
use Rattle.std.proofs.lemmas.List.{append-nil, map-append, length-map, length-append, get_or-map, get_or_append_left, get_or-append_right}
use Rattle.std.proofs.lemmas.List.Elements.{filter_more, filter_passes, All-append, All-map, All-filter, All-weaker}
use Rattle.std.proofs.lemmas.List.FromFn.{length-range_with_len, get_or-range_with_len, get_or-map-range_with_len}
use Rattle.std.proofs.lemmas.List.Kept.{AllPairs-filter}
use Rattle.circuit_types.specs.declared.nets.Nets.{Nets}
use Rattle.circuit_types.specs.declared.nets.Source.{Source}
use Rattle.circuit_types.specs.declared.nets.Source.TheVariants as source
use Rattle.circuit_types.specs.declared.roles.InputRole.{InputRole}
use Rattle.circuit_types.specs.declared.roles.Role.{Role}
use Rattle.circuit_types.specs.declared.roles.Role.TheVariants.{Public}
use Rattle.circuit_types.specs.declared.roles.Roles.{Roles}
use Rattle.circuit_types.specs.DataSources.{IsWithin}
use Rattle.circuit_types.specs.InputBits.{is_probed, role_in, role_of, FitsNets}
use Rattle.circuit_types.specs.Probes.{probed_inputs, probed_sources}
use Rattle.circuit_types.specs.Stable.{is_same_source}
use Rattle.glitch_cone.specs.Numbers.{source_at}
use Rattle.glitch_cone.specs.Places.{IsBitOrCell, AreDistinct}

abbrev passes : InputRole → Bool
passes i = is_probed i.role

abbrev to_source : InputRole → Source
to_source i = source.Input i.bit

-- one input more
pub inputs_yes : (inputs : List InputRole) (i next : ℕ) (d : InputRole) → next ≡ i + 1 → i < length inputs → is_probed (get_or inputs i d).role ≡ true
    → probed_inputs (take next inputs) ≡ probed_inputs (take i inputs) ++ source.Input (get_or inputs i d).bit ∷ []
inputs_yes inputs i next d is lt pass =
    ap (λ n. probed_inputs (take n inputs)) is
    ∙ ap (map to_source) (filter_more passes inputs i d lt ∙ ap (λ rest. filter passes (take i inputs) ++ rest) (cond-true (passes (get_or inputs i d)) (get_or inputs i d ∷ []) [] pass))
    ∙ map-append to_source (filter passes (take i inputs)) (get_or inputs i d ∷ [])

pub inputs_no : (inputs : List InputRole) (i next : ℕ) (d : InputRole) → next ≡ i + 1 → i < length inputs → is_probed (get_or inputs i d).role ≡ false
    → probed_inputs (take next inputs) ≡ probed_inputs (take i inputs)
inputs_no inputs i next d is lt fail =
    ap (λ n. probed_inputs (take n inputs)) is
    ∙ ap (map to_source) (filter_more passes inputs i d lt ∙ ap (λ rest. filter passes (take i inputs) ++ rest) (cond-false (passes (get_or inputs i d)) (get_or inputs i d ∷ []) [] fail)
    ∙ append-nil (filter passes (take i inputs)))

pub none_input : InputRole
none_input = record { bit = 0; role = Public }

-- what a filter keeps stands in the list
from_filter : (p : InputRole → Bool) (d : InputRole) (xs : List InputRole) (i : ℕ) → i < length (filter p xs) → (k : ℕ) × (k < length xs) × (get_or xs k d ≡ get_or (filter p xs) i d)
from_filter p d [] i lt = absurd (omega arith)
from_filter p d (x ∷ xs) i lt = go (λ j l. from_filter p d xs j l) (p x) i lt
  where
    go : ((j : ℕ) → j < length (filter p xs) → (k : ℕ) × (k < length xs) × (get_or xs k d ≡ get_or (filter p xs) j d)) → (b : Bool) (i : ℕ) → i < length (cond b (x ∷ filter p xs) (filter p xs))
        → (k : ℕ) × (k < length (x ∷ xs)) × (get_or (x ∷ xs) k d ≡ get_or (cond b (x ∷ filter p xs) (filter p xs)) i d)
    go rest true zero l = (0, omega arith, refl)
    go rest true (suc j) l = let r = rest j (omega arith) in (suc r.0, omega (arith, r.1), r.2)
    go rest false j l = let r = rest j l in (suc r.0, omega (arith, r.1), r.2)

-- the first that passes
find_at : (test : InputRole → Bool) (d : InputRole) (xs : List InputRole) (k : ℕ) → k < length xs → test (get_or xs k d) ≡ true → ((j : ℕ) → j < k → test (get_or xs j d) ≡ false) → find test xs ≡ Some (get_or xs k d)
find_at test d [] k lt pass before = absurd (omega arith)
find_at test d (x ∷ xs) zero lt pass before = cond-true (test x) (Some x) (find test xs) pass
find_at test d (x ∷ xs) (suc k) lt pass before =
    cond-false (test x) (Some x) (find test xs) (before 0 (omega arith))
    ∙ find_at test d xs k (omega arith) pass (λ j l. before (suc j) (omega arith))

same_input : (a b : ℕ) → source.Input a ≡ source.Input b → a ≡ b
same_input a b e = cc

module _ (inputs : List InputRole) (one : AllPairs (λ (i j : InputRole). i.bit ≢ j.bit) inputs) where
  input_at : (i : ℕ) → i < length (probed_inputs inputs) → (i < length (filter passes inputs)) × (source_at (probed_inputs inputs) i ≡ source.Input (get_or (filter passes inputs) i none_input).bit)
  input_at i lt =
      let len = length-map (filter passes inputs) to_source in
      let l : i < length (filter passes inputs) = omega arith in
      (l, get_or-map to_source (filter passes inputs) i none_input source.Missing l)

  -- an input bit that stands among the probed ones has a role that is probed
  stands_probed : (i bit : ℕ) → i < length (probed_inputs inputs) → source_at (probed_inputs inputs) i ≡ source.Input bit → option_map_or is_probed (role_in inputs bit) false ≡ true
  stands_probed i bit lt is =
      let here = input_at i lt in
      let from = from_filter passes none_input inputs i here.0 in
      let at_bit : (get_or (filter passes inputs) i none_input).bit ≡ bit = same_input _ _ (sym here.1 ∙ is) in
      let bit_is : (get_or inputs from.0 none_input).bit ≡ bit = ap (λ (r : InputRole). r.bit) from.2 ∙ at_bit in
      let probed : is_probed (get_or inputs from.0 none_input).role ≡ true = ap (λ (r : InputRole). is_probed r.role) from.2 ∙ filter_passes passes inputs i none_input here.0 in
      let found : find (λ (r : InputRole). r.bit == bit) inputs ≡ Some (get_or inputs from.0 none_input) =
      find_at (λ (r : InputRole). r.bit == bit) none_input inputs from.0 from.1 (eq-eqb _ _ bit_is)
      (λ j l. ne_eqb _ _ (λ e. one j from.0 none_input l from.1 (e ∙ sym bit_is))) in
      ap (λ (o : Option InputRole). option_map_or is_probed (role_of_found o) false) found ∙ probed
    where
      role_of_found : Option InputRole → Option Role
      role_of_found None = None
      role_of_found (Some r) = Some r.role

  inputs_distinct : AreDistinct (probed_inputs inputs)
  inputs_distinct i j lt l =
      let a = input_at i (omega arith) in
      let b = input_at j l in
      let pairs = AllPairs-filter (λ (i j : InputRole). i.bit ≢ j.bit) passes inputs one in
      ap (λ s. is_same_source s (source_at (probed_inputs inputs) j)) a.1
      ∙ ap (is_same_source (source.Input (get_or (filter passes inputs) i none_input).bit)) b.1
      ∙ ne_eqb _ _ (pairs i j none_input lt b.0)

module _ (roles : Roles) (nets : Nets) where
  abbrev inputs_of : List Source
  inputs_of = probed_inputs roles.inputs

  abbrev cells_of : List Source
  cells_of = map (λ k. source.Cell k) (range_with_len 0 (length nets.cells))

  list_is : probed_sources roles nets ≡ inputs_of ++ cells_of
  unfolding probed_sources
  list_is = refl

  list_length : length (probed_sources roles nets) ≡ length inputs_of + length nets.cells
  list_length =
      ap length list_is ∙ length-append inputs_of cells_of
      ∙ ap (λ n. length inputs_of + n) (length-map (range_with_len 0 (length nets.cells)) (λ k. source.Cell k) ∙ length-range_with_len 0 (length nets.cells))

  at_input : (i : ℕ) → i < length inputs_of → source_at (probed_sources roles nets) i ≡ source_at inputs_of i
  at_input i lt = ap (λ ss. source_at ss i) list_is ∙ get_or_append_left inputs_of cells_of source.Missing i lt

  at_cell : (i : ℕ) → length inputs_of ≤ i → i < length (probed_sources roles nets) → source_at (probed_sources roles nets) i ≡ source.Cell (i - length inputs_of)
  at_cell i le lt =
      ap (λ ss. source_at ss i) list_is
      ∙ get_or-append_right inputs_of cells_of (length inputs_of) i source.Missing refl le
      ∙ get_or-map-range_with_len (λ k. source.Cell k) 0 (length nets.cells) (i - length inputs_of) (i - length inputs_of) source.Missing (omega (arith, list_length)) (omega arith)

  -- each cell stands there
  pub cell_stands : (k : ℕ) → k < length nets.cells → (n : ℕ) × (n < length (probed_sources roles nets)) × (source_at (probed_sources roles nets) n ≡ source.Cell k)
  cell_stands k lt =
      let within : length inputs_of + k < length (probed_sources roles nets) = omega (arith, list_length) in
      let place : (length inputs_of + k) - length inputs_of ≡ k = omega arith in
      (length inputs_of + k, within, at_cell (length inputs_of + k) (omega arith) within ∙ ap (λ n. source.Cell n) place)

  pub all_bits_or_cells : FitsNets roles nets → All (IsBitOrCell nets) (probed_sources roles nets)
  all_bits_or_cells fits =
      subst (All (IsBitOrCell nets)) (sym list_is)
      (All-append (IsBitOrCell nets) inputs_of cells_of
      (All-map (IsBitOrCell nets) to_source (filter passes roles.inputs) (All-filter passes (λ (i : InputRole). i.bit < length nets.sources) roles.inputs fits.inputs))
      (All-map (IsBitOrCell nets) (λ k. source.Cell k) (range_with_len 0 (length nets.cells)) numbers))
    where
      numbers : All (λ k. k < length nets.cells) (range_with_len 0 (length nets.cells))
      numbers k d lt =
          let l : k < length nets.cells = omega (arith, length-range_with_len 0 (length nets.cells)) in
          let e = get_or-range_with_len 0 (length nets.cells) k d l in
          omega arith

  -- an input bit that stands there has a role that is probed
  pub input_probed : FitsNets roles nets → (n bit : ℕ) → n < length (probed_sources roles nets) → source_at (probed_sources roles nets) n ≡ source.Input bit → option_map_or is_probed (role_of roles bit) false ≡ true
  input_probed fits n bit lt is =
      ⊎_elim
      (λ l. stands_probed roles.inputs fits.one_role n bit l (sym (at_input n l) ∙ is))
      (λ ge. let e : source.Cell (n - length inputs_of) ≡ source.Input bit = sym (at_cell n ge lt) ∙ is in absurd (cc))
      (cases_lt n (length inputs_of))

  pub all_distinct : FitsNets roles nets → AreDistinct (probed_sources roles nets)
  all_distinct fits i j lt l =
      ⊎_elim
      (λ jl. ap (λ s. is_same_source s (source_at (probed_sources roles nets) j)) (at_input i (omega arith))
      ∙ ap (is_same_source (source_at inputs_of i)) (at_input j jl)
      ∙ inputs_distinct roles.inputs fits.one_role i j lt jl)
      (λ jg.
      ap (is_same_source (source_at (probed_sources roles nets) i)) (at_cell j jg l)
      ∙ ⊎_elim
      (λ il. ap (λ s. is_same_source s (source.Cell (j - length inputs_of))) (at_input i il ∙ (input_at roles.inputs fits.one_role i il).1))
      (λ ig. ap (λ s. is_same_source s (source.Cell (j - length inputs_of))) (at_cell i ig (omega arith)) ∙ ne_eqb (i - length inputs_of) (j - length inputs_of) (λ e. absurd (omega arith)))
      (cases_lt i (length inputs_of)))
      (cases_lt j (length inputs_of))

pub bit_or_cell_within : (nets : Nets) (s : Source) → IsBitOrCell nets s → IsWithin nets s
bit_or_cell_within nets (source.Input b) w = w
bit_or_cell_within nets (source.Cell k) w = w
bit_or_cell_within nets source.Zero w = tt
bit_or_cell_within nets source.One w = tt
bit_or_cell_within nets source.Unknown w = tt
bit_or_cell_within nets source.Missing w = tt

pub all_within : (nets : Nets) (ss : List Source) → All (IsBitOrCell nets) ss → All (IsWithin nets) ss
all_within nets ss all = All-weaker (IsBitOrCell nets) (IsWithin nets) (bit_or_cell_within nets) ss all

-- Words that are a bit of a wire.
use Rattle.std.proofs.Common.{◌≡◌, ℕ, ℤ, pos, negsuc, List, [], ◌∷◌, refl, ap, ◌∙◌, sym, subst, arith, Option, Some, option_map, Result}
use Rattle.std.proofs.lemmas.Option.{same_Some}
use Rattle.circuit_types.specs.declared.signal.Signal.{Signal}
use Rattle.circuit_types.specs.declared.signal.Signal.TheVariants as signal
use Rattle.circuit_types.specs.declared.signal.Value.TheVariants as value
use Rattle.rtlil_tree.specs.declared.misfit.Misfit.{Misfit}
use Rattle.rtlil_tree.specs.Lexemes.{Lexeme, id, constant, open_slice, close_slice}
use Rattle.rtlil_tree.specs.Said.{◌>>=◌, Gives}
use Rattle.rtlil_tree.specs.Forms.{with_inner, sliced, signals_from, one_of, place_of, wire_bit, only_signal, one_bit}
use Rattle.rtlil_tree.proofs.Joins.{sliced_at}
use Rattle.rtlil_tree.proofs.Signalling.{wire_nesting}

sliced_wire : (name : List ℕ) (place : ℕ) → sliced 0 (signal.Wire name ∷ []) place place ≡ Some (one_bit name place ∷ [])
sliced_wire name place =
    let flat = wire_nesting name in
    sliced_at (signal.Wire name ∷ []) [] (signal.Wire name) 0 place place refl (omega (arith, flat))

bit_read : (name : List ℕ) (place : ℕ) → only_signal (id name ∷ open_slice ∷ constant (value.Number (pos place)) ∷ close_slice ∷ []) ≡ Some (one_bit name place)
unfolding signals_from
bit_read name place =
    ap (λ (o : Option (List Signal)). (option_map (with_inner []) o >>= λ t. signals_from t 2 (constant (value.Number (pos place)) ∷ close_slice ∷ [])) >>= one_of)
    (sliced_wire name place)

-- the wire and the place
abbrev placed : List ℕ → ℤ → Option (List ℕ × ℕ)
placed n z = place_of z >>= λ k. Some (n, k)

place_read : (n : List ℕ) (z : ℤ) (name : List ℕ) (place : ℕ) → Some (name, place) ≡ placed n z
    → only_signal (id n ∷ open_slice ∷ constant (value.Number z) ∷ close_slice ∷ []) ≡ Some (one_bit name place)
place_read n (pos k) name place e =
    let asked : List ℕ × ℕ = (name, place) in
    let read : List ℕ × ℕ = (n, k) in
    let same : asked ≡ read = same_Some asked read e in
    bit_read n k ∙ ap (λ (p : List ℕ × ℕ). Some (one_bit p.0 p.1)) (sym same)
place_read n (negsuc k) name place e = cc

wire_bit_read : (xs : List Lexeme) (name : List ℕ) (place : ℕ) → Some (name, place) ≡ wire_bit xs → only_signal xs ≡ Some (one_bit name place)
wire_bit_read (id n ∷ open_slice ∷ constant (value.Number z) ∷ close_slice ∷ []) name place e = place_read n z name place e
wire_bit_read xs name place e = cc

pub bit_gives : (result : Result Signal Misfit) (xs : List Lexeme) (name : List ℕ) (place : ℕ) → Some (name, place) ≡ wire_bit xs → Gives (λ s. s) result (Some (one_bit name place)) → Gives (λ s. s) result (only_signal xs)
bit_gives result xs name place e h = subst (λ (o : Option Signal). Gives (λ s. s) result o) (sym (wire_bit_read xs name place e)) h

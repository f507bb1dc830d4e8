-- What terms mean: their values, where the leaves have bits.
use Rattle.std.specs.Prelude.{ℕ, Bool, true, false, not, ◌&&◌, List, slice_index_or}
use Rattle.expr_table.specs.Term.{Term, Zero, One, Input, Random, And, Xor}

-- the exclusive or of two bits
abbrev pub xor : Bool → Bool → Bool
xor true b = not b
xor false b = b

-- the bit of this number
abbrev pub bit : List Bool → ℕ → Bool
bit bits i = slice_index_or bits i false

-- the value of a term, where the input leaves and the random leaves have these bits
abbrev pub eval : List Bool → List Bool → Term → Bool
eval inputs randoms Zero = false
eval inputs randoms One = true
eval inputs randoms (Input i) = bit inputs i
eval inputs randoms (Random i) = bit randoms i
eval inputs randoms (And a b) = eval inputs randoms a && eval inputs randoms b
eval inputs randoms (Xor a b) = xor (eval inputs randoms a) (eval inputs randoms b)

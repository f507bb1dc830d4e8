-- In which slot a name stands.
use Rattle.std.specs.Prelude.{ℕ, ◌*◌, ◌/◌, ◌^◌, List}
use Rattle.std.specs.Hash.FoldHasher.{initial, write, finish}

-- a number below 2^32 that depends on all bytes of the name
unfoldable pub digest_of : List ℕ → ℕ
digest_of name = finish (write initial name) / 2 ^ 32

-- the slot, of so many, of the names with this digest
unfoldable pub slot_of : ℕ → ℕ → ℕ
slot_of slots digest = digest * slots / 2 ^ 32

-- Terms as plain trees, their structural order, and the simplified gates.
use Rattle.std.specs.Prelude.{ℕ, Bool, if◌then◌else◌, Option, Some, None, unwrap_or}
use Rattle.std.specs.declared.cmp.Ordering.{Ordering}
use Rattle.std.specs.Ordering.{nat_cmp, is_eq, is_gt, ordering_then}

pub data Term : Type 0 where
  Zero : Term
  One : Term
  Input : (i : ℕ) → Term
  Random : (i : ℕ) → Term
  And : (a b : Term) → Term
  Xor : (a b : Term) → Term

-- how a term's kind ranks in the structural order
abbrev pub kind : Term → ℕ
kind Zero = 0
kind One = 1
kind (Input i) = 2
kind (Random i) = 3
kind (And a b) = 4
kind (Xor a b) = 5

-- The structural order: by kind; two leaves of one kind by number; two Ands and two Xors by their
-- first sides, which are the lesser ones, and then by the others.
abbrev pub term_cmp : Term → Term → Ordering
term_cmp (Input i) (Input j) = nat_cmp i j
term_cmp (Random i) (Random j) = nat_cmp i j
term_cmp (And a b) (And c d) = ordering_then (term_cmp a c) (term_cmp b d)
term_cmp (Xor a b) (Xor c d) = ordering_then (term_cmp a c) (term_cmp b d)
term_cmp s t = nat_cmp (kind s) (kind t)

-- the terms are equal in the structural order
abbrev pub is_same : Term → Term → Bool
is_same s t = is_eq (term_cmp s t)

-- the Xor of two terms, the lesser one first
abbrev pub ordered_xor : Term → Term → Term
ordered_xor a b = if is_gt (term_cmp a b) then Xor b a else Xor a b

-- the And of two terms, the lesser one first
abbrev pub ordered_and : Term → Term → Term
ordered_and a b = if is_gt (term_cmp a b) then And b a else And a b

-- c, where the first is One and the other is the Xor of One and c
abbrev pub without_one : Term → Term → Option Term
without_one One (Xor One c) = Some c
without_one s t = None

-- The simplified exclusive or: Zero where the two are equal; the other where one is Zero; c where one is
-- One and the other is the Xor of One and c; else the Xor of the two, the lesser first.
unfoldable pub xor_of : Term → Term → Term
xor_of a b =
    if is_same a b then Zero
    else (if is_same a Zero then b
    else (if is_same b Zero then a
    else unwrap_or (without_one a b) (unwrap_or (without_one b a) (ordered_xor a b))))

-- The simplified conjunction: Zero where one is Zero; the other where one is One; a where the two are
-- equal; else the And of the two, the lesser first.
unfoldable pub and_of : Term → Term → Term
and_of a b =
    if is_same a Zero then Zero
    else (if is_same b Zero then Zero
    else (if is_same a One then b
    else (if is_same b One then a
    else (if is_same a b then a else ordered_and a b))))

-- the simplified negation: the exclusive or with One
abbrev pub not_of : Term → Term
not_of a = xor_of One a

-- the simplified disjunction: what is not in neither
abbrev pub or_of : Term → Term → Term
or_of a b = not_of (and_of (not_of a) (not_of b))

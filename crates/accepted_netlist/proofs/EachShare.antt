-- Where no refusal of the notes is due, each secret bit has each of its shares once, and there are no other shares.
use Rattle.std.proofs.Common.{◌≡◌, ℕ, zero, suc, ◌+◌, ◌<◌, ◌≤◌, Bool, true, false, cond, eqb, ltb, not, ◌&&◌, ◌||◌, List, [], ◌∷◌, ◌++◌, length, map, filter, get_or, Option, Some, None, refl, sym, ap, ◌∙◌, subst, arith, ⊎_elim, append_assoc}
use Rattle.std.specs.Prelude.{◌==◌, max, fold, Contains}
use Rattle.std.specs.List.{AllPairs, count_by, flat_map, filter_map, list_any, position_from, range_with_len}
use Rattle.std.specs.Option.{option_map_or}
use Rattle.std.specs.Str.{bytes_eq}
use Rattle.std.proofs.lemmas.Slice.Eq.{bytes_eq-Decides}
use Rattle.std.proofs.lemmas.Bool.{cases_Bool, eqb-true, eq-eqb, ltb-false, and_parts, and_from, or_cases, or_left, or_right, not-false, not-true}
use Rattle.std.proofs.lemmas.List.Elements.{All-from_recursion, recursion_from_All, Contains-append_left, Contains-append_right}
use Rattle.std.proofs.lemmas.List.Folds.{list_any_at}
use Rattle.std.proofs.lemmas.List.Sums.{sum_by-cons, sum_by-append}
use Rattle.circuit_types.specs.declared.nets.Nets.{Nets}
use Rattle.circuit_types.specs.declared.roles.InputRole.{InputRole}
use Rattle.circuit_types.specs.declared.roles.OutputShare.{OutputShare}
use Rattle.circuit_types.specs.declared.roles.Role.{Role}
use Rattle.circuit_types.specs.declared.roles.Role.TheVariants as role
use Rattle.circuit_types.specs.declared.roles.Roles.{Roles}
use Rattle.circuit_types.specs.declared.roles.Secret.{Secret}
use Rattle.circuit_types.specs.declared.tree.Item.{Item}
use Rattle.circuit_types.specs.Due.{IsClear, Never}
use Rattle.circuit_types.specs.InputBits.{FitsNets}
use Rattle.net_build.proofs.EachLemmas.{Each, each-append, each_both, each_filter, each_flat, each_flat_parts, each_weaker}
use Rattle.net_build.proofs.GoodLemmas.{none_pass}
use Rattle.share_notes.specs.declared.direction.Direction.TheVariants.{Input, Output}
use Rattle.share_notes.specs.declared.note.Note.{Note}
use Rattle.share_notes.specs.declared.note.Note.TheVariants as note
use Rattle.share_notes.specs.declared.mark.Mark.{Mark}
use Rattle.share_notes.specs.declared.mark.Mark.TheVariants.{Absent, Wrong, Noted}
use Rattle.share_notes.specs.declared.mark.MarkedWire.{MarkedWire}
use Rattle.share_notes.specs.declared.shares.NumberedShare.{NumberedShare}
use Rattle.share_notes.specs.Causes.{role_causes, gap_lines, double_lines}
use Rattle.share_notes.specs.Marks.{marked_wires}
use Rattle.share_notes.specs.PortOrder.{port_number, numbers_end, numbered_wires, in_port_order}
use Rattle.share_notes.specs.Roles.{role_at, noted_roles, wire_roles, input_roles, output_share, roles_of}
use Rattle.share_notes.specs.Shares.{GivenBit, given_at, wire_shares, given_by, given, has_direction, secret_of, is_same_secret, distinct, secrets, place_of, numbered_share, numbered_shares, is_share, lacks_share, is_repeated, share_lines, single_lines, share_count, top_share}
use Rattle.share_notes.proofs.Places.{same_is}
use Rattle.term_build.specs.InputTerms as term
use Rattle.term_build.specs.TermInstance.{HasEachShare, IsKnownShare}

-- ---- how many pass a test

abbrev weight : Bool → ℕ
weight b = cond b 1 0

module _ {X : Type 0} (p : X → Bool) where
  count-pass : (x : X) (xs : List X) → p x ≡ true → count_by p (x ∷ xs) ≡ 1 + count_by p xs
  count-pass x xs h = let e = sum_by-cons (λ y. cond (p y) 1 0) x xs in let f = ap weight h in omega (arith, e, f)

  count-fail : (x : X) (xs : List X) → p x ≡ false → count_by p (x ∷ xs) ≡ count_by p xs
  count-fail x xs h = let e = sum_by-cons (λ y. cond (p y) 1 0) x xs in let f = ap weight h in omega (arith, e, f)

  count-none : (xs : List X) → Each (λ x. p x ≡ false) xs → count_by p xs ≡ 0
  count-none [] h = refl
  count-none (x ∷ xs) h = count-fail x xs h.0 ∙ count-none xs h.1

  -- no two elements pass
  abbrev NoTwo : List X → Type 0
  NoTwo [] = Unit {0}
  NoTwo (x ∷ xs) = (p x ≡ true → Each (λ y. p y ≡ false) xs) × NoTwo xs

  count-once : (xs : List X) → NoTwo xs → list_any p xs ≡ true → count_by p xs ≡ 1
  count-once [] n s = absurd cc
  count-once (x ∷ xs) n s =
      ⊎_elim
      (λ (t : p x ≡ true). let e = count-pass x xs t in let z = count-none xs (n.0 t) in omega (arith, e, z))
      (λ (f : p x ≡ false). let rest : list_any p xs ≡ true = subst (λ b. (b || list_any p xs) ≡ true) f s in count-fail x xs f ∙ count-once xs n.1 rest)
      (cases_Bool (p x))

  -- what holds of each element holds of one that passes
  from-any : (A : X → Type 0) (B : Type 0) → ((x : X) → A x → p x ≡ true → B) → (xs : List X) → Each A xs → list_any p xs ≡ true → B
  from-any A B f [] h s = absurd cc
  from-any A B f (x ∷ xs) h s = ⊎_elim (λ t. f x h.0 t) (λ r. from-any A B f xs h.1 r) (or_cases (p x) (list_any p xs) s)

  both-fail : (x : X) (xs : List X) (a b : Bool) → p x ≡ a → list_any p xs ≡ b → (a || b) ≡ false → (list_any p xs ≡ false → Each (λ y. p y ≡ false) xs)
      → (p x ≡ false) × Each (λ y. p y ≡ false) xs
  both-fail x xs true b pa pb h rest = absurd cc
  both-fail x xs false true pa pb h rest = absurd cc
  both-fail x xs false false pa pb h rest = (pa, rest pb)

  none-passes : (xs : List X) → list_any p xs ≡ false → Each (λ x. p x ≡ false) xs
  none-passes [] e = tt
  none-passes (x ∷ xs) e = both-fail x xs (p x) (list_any p xs) refl refl e (none-passes xs)

-- the same list of tests, over what a function makes of the elements
any-map : {X Y : Type 0} (f : X → Y) (p : Y → Bool) (xs : List X) → list_any p (map f xs) ≡ list_any (λ x. p (f x)) xs
any-map f p [] = refl
any-map f p (x ∷ xs) = ap (λ b. p (f x) || b) (any-map f p xs)

count-map : {X Y : Type 0} (f : X → Y) (p : Y → Bool) (xs : List X) → count_by p (map f xs) ≡ count_by (λ x. p (f x)) xs
count-map f p [] = refl
count-map f p (x ∷ xs) =
    sum_by-cons (λ y. cond (p y) 1 0) (f x) (map f xs)
    ∙ (ap (λ n. cond (p (f x)) 1 0 + n) (count-map f p xs) ∙ sym (sum_by-cons (λ y. cond (p (f y)) 1 0) x xs))

-- each number of a range
each-in : (P : ℕ → Type 0) (a n : ℕ) → Each P (range_with_len a n) → (k : ℕ) → a ≤ k → k < a + n → P k
each-in P a zero h k le lt = absurd (omega arith)
each-in P a (suc n) h k le lt =
    ⊎_elim
    (λ (t : eqb a k ≡ true). subst P (eqb-true a k t) h.0)
    (λ (f : eqb a k ≡ false).
    let ne : a ≡ k → ⊥ = λ e. let t = eq-eqb a k e in let wrong : true ≡ false = sym t ∙ f in cc in
    each-in P (a + 1) n h.1 k (omega (arith, ne)) (omega arith))
    (cases_Bool (eqb a k))

-- ---- the shares among roles

abbrev part : ℕ → Role → List OutputShare
part bit (role.Share s i) = record { bit = bit; secret = s; share = i } ∷ []
part bit other = []

abbrev share-part : InputRole → List OutputShare
share-part x = part x.bit x.role

abbrev shares-in : List InputRole → List OutputShare
shares-in inputs = flat_map share-part inputs

flat-append : (xs ys : List InputRole) → shares-in (xs ++ ys) ≡ shares-in xs ++ shares-in ys
flat-append [] ys = refl
flat-append (x ∷ xs) ys = ap (λ l. share-part x ++ l) (flat-append xs ys) ∙ sym (append_assoc (share-part x) (shares-in xs) (shares-in ys))

abbrev shown : List Secret → List GivenBit → List OutputShare
shown ss gs = map output_share (map (numbered_share ss) gs)

shown-append : (ss : List Secret) (gs hs : List GivenBit) → shown ss (gs ++ hs) ≡ shown ss gs ++ shown ss hs
shown-append ss [] hs = refl
shown-append ss (g ∷ gs) hs = ap (λ l. output_share (numbered_share ss g) ∷ l) (shown-append ss gs hs)

-- the shares of one wire
abbrev bit-with : MarkedWire → Mark → ℕ → Option GivenBit
bit-with w m place = option_map_or (λ g. Some (record { line = w.line; bit = w.first + place; given = g })) (given_at m place) None

module _ (ss : List Secret) (w : MarkedWire) where
  places-shown : (n : Note) (count a : ℕ)
      → shares-in (map (λ place. record { bit = w.first + place; role = role_at ss n place }) (range_with_len a count)) ≡ shown ss (filter_map (bit-with w (Noted n)) (range_with_len a count))
  places-shown n zero a = refl
  places-shown (note.Share name index) (suc count) a =
      ap (λ l. (record { bit = w.first + a; secret = place_of ss (record { name = name; bit = a }); share = index }) ∷ l) (places-shown (note.Share name index) count (a + 1))
  places-shown (note.Shares name) (suc count) a =
      ap (λ l. (record { bit = w.first + a; secret = place_of ss (record { name = name; bit = 0 }); share = a }) ∷ l) (places-shown (note.Shares name) count (a + 1))
  places-shown note.Random (suc count) a = places-shown note.Random count (a + 1)
  places-shown note.Public (suc count) a = places-shown note.Public count (a + 1)
  places-shown note.Clock (suc count) a = places-shown note.Clock count (a + 1)
  places-shown (note.Held v) (suc count) a = places-shown (note.Held v) count (a + 1)

  none-absent : (count a : ℕ) → [] ≡ shown ss (filter_map (bit-with w Absent) (range_with_len a count))
  none-absent zero a = refl
  none-absent (suc count) a = none-absent count (a + 1)

  none-wrong : (count a : ℕ) → [] ≡ shown ss (filter_map (bit-with w Wrong) (range_with_len a count))
  none-wrong zero a = refl
  none-wrong (suc count) a = none-wrong count (a + 1)

  mark-shown : (m : Mark) → shares-in (noted_roles ss w m) ≡ shown ss (filter_map (bit-with w m) (range_with_len 0 w.width))
  mark-shown (Noted n) = places-shown n w.width 0
  mark-shown Absent = none-absent w.width 0
  mark-shown Wrong = none-wrong w.width 0

  wire-shown : (b : Bool) → shares-in (cond b (noted_roles ss w w.mark) []) ≡ shown ss (cond b (wire_shares w) [])
  wire-shown true = mark-shown w.mark
  wire-shown false = refl

all-shown : (ss : List Secret) (ws : List MarkedWire) → shares-in (input_roles ss ws) ≡ shown ss (flat_map (given_by Input) ws)
all-shown ss [] = refl
all-shown ss (w ∷ ws) =
    flat-append (wire_roles ss w) (input_roles ss ws)
    ∙ (λ i. wire-shown ss w (has_direction Input w.port) i ++ all-shown ss ws i)
    ∙ sym (shown-append ss (given_by Input w) (flat_map (given_by Input) ws))

-- ---- counts of roles and of shares

module _ (s i : ℕ) where
  abbrev is-this : OutputShare → Bool
  is-this o = o.secret == s && o.share == i

  count-part : (bit : ℕ) (r : Role) → cond (term.is_share s i r) 1 0 ≡ count_by is-this (part bit r)
  count-part bit (role.Share t j) =
      let o : OutputShare = record { bit = bit; secret = t; share = j } in
      let e = sum_by-cons (λ (y : OutputShare). cond (is-this y) 1 0) o [] in
      omega (arith, e)
  count-part bit role.Random = refl
  count-part bit role.Public = refl
  count-part bit role.Clock = refl
  count-part bit (role.Held v) = refl

  count-roles : (inputs : List InputRole) → count_by (λ (x : InputRole). term.is_share s i x.role) inputs ≡ count_by is-this (shares-in inputs)
  count-roles [] = refl
  count-roles (x ∷ xs) =
      let a = sum_by-cons (λ (y : InputRole). cond (term.is_share s i y.role) 1 0) x xs in
      let b = sum_by-append (λ (o : OutputShare). cond (is-this o) 1 0) (share-part x) (shares-in xs) in
      omega (arith, a, b, count-part x.bit x.role, count-roles xs)

-- ---- no two shares have one bit

abbrev ApartBits : List NumberedShare → Type 0
ApartBits [] = Unit {0}
ApartBits (t ∷ ts) = Each (λ (u : NumberedShare). t.bit ≡ u.bit → ⊥) ts × ApartBits ts

abbrev ApartShares : List OutputShare → Type 0
ApartShares [] = Unit {0}
ApartShares (t ∷ ts) = Each (λ (u : OutputShare). t.bit ≡ u.bit → ⊥) ts × ApartShares ts

later-part : (bit own : ℕ) (r : Role) (os : List OutputShare) → (bit ≡ own → ⊥) → Each (λ (u : OutputShare). bit ≡ u.bit → ⊥) os → Each (λ (u : OutputShare). bit ≡ u.bit → ⊥) (part own r ++ os)
later-part bit own (role.Share t j) os h k = (h, k)
later-part bit own role.Random os h k = k
later-part bit own role.Public os h k = k
later-part bit own role.Clock os h k = k
later-part bit own (role.Held v) os h k = k

later-shares : (bit : ℕ) (xs : List InputRole) → Each (λ (y : InputRole). bit ≡ y.bit → ⊥) xs → Each (λ (u : OutputShare). bit ≡ u.bit → ⊥) (shares-in xs)
later-shares bit [] h = tt
later-shares bit (y ∷ xs) h = later-part bit y.bit y.role (shares-in xs) h.0 (later-shares bit xs h.1)

abbrev ApartRoles : List InputRole → Type 0
ApartRoles [] = Unit {0}
ApartRoles (x ∷ xs) = Each (λ (y : InputRole). x.bit ≡ y.bit → ⊥) xs × ApartRoles xs

apart-part : (own : ℕ) (r : Role) (os : List OutputShare) → Each (λ (u : OutputShare). own ≡ u.bit → ⊥) os → ApartShares os → ApartShares (part own r ++ os)
apart-part own (role.Share t j) os h k = (h, k)
apart-part own role.Random os h k = k
apart-part own role.Public os h k = k
apart-part own role.Clock os h k = k
apart-part own (role.Held v) os h k = k

apart-shares : (xs : List InputRole) → ApartRoles xs → ApartShares (shares-in xs)
apart-shares [] h = tt
apart-shares (x ∷ xs) h = apart-part x.bit x.role (shares-in xs) (later-shares x.bit xs h.0) (apart-shares xs h.1)

apart-roles : (xs : List InputRole) → AllPairs (λ (i j : InputRole). i.bit ≡ j.bit → ⊥) xs → ApartRoles xs
apart-roles [] h = tt
apart-roles (x ∷ xs) h = (
  recursion_from_All (λ (y : InputRole). x.bit ≡ y.bit → ⊥) xs (λ k d lt. h 0 (suc k) d (omega arith) (omega arith)),
  apart-roles xs (λ i j d lt le. h (suc i) (suc j) d (omega arith) (omega arith)),
)

apart-each : (bit : ℕ) (ts : List NumberedShare) → Each (λ (u : OutputShare). bit ≡ u.bit → ⊥) (map output_share ts) → Each (λ (u : NumberedShare). bit ≡ u.bit → ⊥) ts
apart-each bit [] h = tt
apart-each bit (t ∷ ts) h = (h.0, apart-each bit ts h.1)

apart-numbered : (ts : List NumberedShare) → ApartShares (map output_share ts) → ApartBits ts
apart-numbered [] h = tt
apart-numbered (t ∷ ts) h = (apart-each t.bit ts h.0, apart-numbered ts h.1)

-- ---- no share is given twice

abbrev Quiet : NumberedShare → NumberedShare → Type 0
Quiet t u = (is_share t.secret t.share u && ltb u.bit t.bit) ≡ false

quiet-each : (ns ts : List NumberedShare) → Each (λ t. is_repeated ns t ≡ false) ts → Each (λ t. Each (Quiet t) ns) ts
quiet-each ns [] h = tt
quiet-each ns (t ∷ ts) h = (none-passes (λ u. is_share t.secret t.share u && ltb u.bit t.bit) ns h.0, quiet-each ns ts h.1)

one-bit : (s i : ℕ) (t u : NumberedShare) → is_share s i t ≡ true → is_share s i u ≡ true → Quiet t u → u.bit < t.bit → ⊥
one-bit s i t u pt pu q lt =
    let a = and_parts (t.secret == s) (t.share == i) pt in
    let b = and_parts (u.secret == s) (u.share == i) pu in
    let secret : u.secret ≡ t.secret = eqb-true u.secret s b.0 ∙ sym (eqb-true t.secret s a.0) in
    let share : u.share ≡ t.share = eqb-true u.share i b.1 ∙ sym (eqb-true t.share i a.1) in
    let same = and_from (u.secret == t.secret) (u.share == t.share) (eq-eqb u.secret t.secret secret) (eq-eqb u.share t.share share) in
    let below : ltb u.bit t.bit ≡ false = subst (λ b. (b && ltb u.bit t.bit) ≡ false) same q in
    let le = ltb-false u.bit t.bit below in
    omega arith

-- what is known of two shares
abbrev Facts : NumberedShare → NumberedShare → Type 0
Facts t u = (Quiet t u × Quiet u t) × (t.bit ≡ u.bit → ⊥)

not-apart : (m n : ℕ) → (n < m → ⊥) → (m < n → ⊥) → m ≡ n
not-apart m n low high = omega (arith, low, high)

other : (s i : ℕ) (t : NumberedShare) → is_share s i t ≡ true → (u : NumberedShare) → Facts t u → is_share s i u ≡ false
other s i t pt u f =
    ⊎_elim
    (λ (pu : is_share s i u ≡ true). absurd (f.1 (not-apart t.bit u.bit (one-bit s i t u pt pu f.0.0) (one-bit s i u t pu pt f.0.1))))
    (λ (pu : is_share s i u ≡ false). pu)
    (cases_Bool (is_share s i u))

no-two : (s i : ℕ) (ns : List NumberedShare) → Each (λ t. Each (Quiet t) ns) ns → ApartBits ns → NoTwo (is_share s i) ns
no-two s i [] q b = tt
no-two s i (t ∷ ns) q b =
    let back = each_weaker (λ u. Each (Quiet u) (t ∷ ns)) (λ u. Quiet u t) (λ u h. h.0) ns q.1 in
    let facts = each_both (λ u. Quiet t u × Quiet u t) (λ u. t.bit ≡ u.bit → ⊥) ns (each_both (Quiet t) (λ u. Quiet u t) ns q.0.1 back) b.0 in (
      λ pt. each_weaker (Facts t) (λ u. is_share s i u ≡ false) (other s i t pt) ns facts,
      no-two s i ns (each_weaker (λ u. Each (Quiet u) (t ∷ ns)) (λ u. Each (Quiet u) ns) (λ u h. h.1) ns q.1) b.1,
    )

-- ---- each secret bit has each share

has-share : (d : ℕ) (ns : List NumberedShare) → Each (λ t. lacks_share d ns t ≡ false) ns → (s i : ℕ) → i < d → list_any (λ (t : NumberedShare). t.secret == s) ns ≡ true → list_any (is_share s i) ns ≡ true
has-share d ns h s i lt some = from-any (λ (t : NumberedShare). t.secret == s) (λ t. lacks_share d ns t ≡ false) (list_any (is_share s i) ns ≡ true) found ns h some
  where
    found : (t : NumberedShare) → lacks_share d ns t ≡ false → (t.secret == s) ≡ true → list_any (is_share s i) ns ≡ true
    found t lacks is =
        let each = none-passes (λ k. not (list_any (is_share t.secret k) ns)) (range_with_len 0 d) lacks in
        let there = each-in (λ k. not (list_any (is_share t.secret k) ns) ≡ false) 0 d each i (omega arith) (omega arith) in
        subst (λ k. list_any (is_share k i) ns ≡ true) (eqb-true t.secret s is) (not-false (list_any (is_share t.secret i) ns) there)

-- secret bits that differ
abbrev Differing : List Secret → Type 0
Differing [] = Unit {0}
Differing (s ∷ ss) = Each (λ t. is_same_secret s t ≡ false) ss × Differing ss

differing-filter : (p : Secret → Bool) (ss : List Secret) → Differing ss → Differing (filter p ss)
differing-filter p [] h = tt
differing-filter p (s ∷ ss) h =
    ⊎_elim
    (λ (t : p s ≡ true). rw t (each_filter (λ u. is_same_secret s u ≡ false) p ss h.0, differing-filter p ss h.1))
    (λ (f : p s ≡ false). rw f (differing-filter p ss h.1))
    (cases_Bool (p s))

filtered : (p : Secret → Bool) (ss : List Secret) → Each (λ t. p t ≡ true) (filter p ss)
filtered p [] = tt
filtered p (s ∷ ss) = ⊎_elim (λ (t : p s ≡ true). rw t (t, filtered p ss)) (λ (f : p s ≡ false). rw f (filtered p ss)) (cases_Bool (p s))

differing : (ss : List Secret) → Differing (distinct ss)
unfolding distinct
differing [] = tt
differing (s ∷ ss) = (
  each_weaker (λ t. not (is_same_secret s t) ≡ true) (λ t. is_same_secret s t ≡ false) (λ t h. not-true (is_same_secret s t) h)
      (filter (λ t. not (is_same_secret s t)) (distinct ss)) (filtered (λ t. not (is_same_secret s t)) (distinct ss)),
  differing-filter (λ t. not (is_same_secret s t)) (distinct ss) (differing ss),
)

-- what passes a test among the distinct ones passes among all
any-filter : (q p : Secret → Bool) (ss : List Secret) → list_any q (filter p ss) ≡ true → list_any q ss ≡ true
any-filter q p [] h = h
any-filter q p (s ∷ ss) h =
    ⊎_elim
    (λ (t : p s ≡ true).
    let there : list_any q (s ∷ filter p ss) ≡ true = subst (λ b. list_any q (cond b (s ∷ filter p ss) (filter p ss)) ≡ true) t h in
    ⊎_elim (λ x. or_left (q s) (list_any q ss) x) (λ x. or_right (q s) (list_any q ss) (any-filter q p ss x)) (or_cases (q s) (list_any q (filter p ss)) there))
    (λ (f : p s ≡ false).
    let there : list_any q (filter p ss) ≡ true = subst (λ b. list_any q (cond b (s ∷ filter p ss) (filter p ss)) ≡ true) f h in
    or_right (q s) (list_any q ss) (any-filter q p ss there))
    (cases_Bool (p s))

any-distinct : (q : Secret → Bool) (ss : List Secret) → list_any q (distinct ss) ≡ true → list_any q ss ≡ true
unfolding distinct
any-distinct q [] h = h
any-distinct q (s ∷ ss) h =
    ⊎_elim (λ x. or_left (q s) (list_any q ss) x)
    (λ x. or_right (q s) (list_any q ss) (any-distinct q ss (any-filter q (λ t. not (is_same_secret s t)) (distinct ss) x)))
    (or_cases (q s) (list_any q (filter (λ t. not (is_same_secret s t)) (distinct ss))) h)

-- the place of each secret bit among distinct ones is its own
same-itself : (s : Secret) → is_same_secret s s ≡ true
same-itself s = and_from (bytes_eq s.name s.name) (s.bit == s.bit) ((bytes_eq-Decides s.name s.name).1 refl) (eq-eqb s.bit s.bit refl)

other-way : (s t : Secret) → is_same_secret s t ≡ false → is_same_secret t s ≡ false
other-way s t f =
    ⊎_elim
    (λ (e : is_same_secret t s ≡ true). let wrong : true ≡ false = sym (same-itself s) ∙ ap (λ u. is_same_secret s u) (sym (same_is t s e)) ∙ f in absurd cc)
    (λ (g : is_same_secret t s ≡ false). g)
    (cases_Bool (is_same_secret t s))

own-place : (ss : List Secret) → Differing ss → (k base : ℕ) (d : Secret) → k < length ss → position_from (is_same_secret (get_or ss k d)) base ss ≡ Some (base + k)
own-place [] h k base d lt = absurd (omega arith)
own-place (s ∷ ss) h zero base d lt = let e : base ≡ base + 0 = omega arith in rw (same-itself s) (ap (λ (n : ℕ). Some n) e)
own-place (s ∷ ss) h (suc k) base d lt =
    let not_here = other-way s (get_or ss k d) (All-from_recursion (λ t. is_same_secret s t ≡ false) ss h.0 k d (omega arith)) in
    let e : base + 1 + k ≡ base + suc k = omega arith in
    rw not_here (own-place ss h.1 k (base + 1) d (omega arith) ∙ ap (λ (n : ℕ). Some n) e)

placed : (ss : List Secret) (s : Secret) (k : ℕ) → position_from (is_same_secret s) 0 ss ≡ Some k → place_of ss s ≡ k
unfolding place_of
placed ss s k e = ap (λ o. option_map_or (λ place. place) o 0) e

has-secret : (gs : List GivenBit) (s : ℕ) → s < length (secrets gs) → list_any (λ (t : NumberedShare). t.secret == s) (map (numbered_share (secrets gs)) gs) ≡ true
unfolding secrets
has-secret gs s lt =
    let all : List Secret = map (λ (g : GivenBit). secret_of g.given) gs in
    let ss = distinct all in
    let d : Secret = record { name = []; bit = 0 } in
    let here = placed ss (get_or ss s d) s (own-place ss (differing all) s 0 d lt ∙ ap (λ (n : ℕ). Some n) (omega arith)) in
    let there = any-distinct (λ e. place_of ss e == s) all (list_any_at (λ e. place_of ss e == s) ss s d lt (eq-eqb (place_of ss (get_or ss s d)) s here)) in
    any-map (numbered_share ss) (λ (t : NumberedShare). t.secret == s) gs ∙ sym (any-map (λ (g : GivenBit). secret_of g.given) (λ e. place_of ss e == s) gs) ∙ there

-- ---- there are no other shares

position-within : (p : Secret → Bool) (ss : List Secret) (base k : ℕ) → position_from p base ss ≡ Some k → k < base + length ss
position-within p [] base k e = absurd cc
position-within p (s ∷ ss) base k e =
    ⊎_elim
    (λ (t : p s ≡ true). let here : Some base ≡ Some k = subst (λ b. cond b (Some base) (position_from p (base + 1) ss) ≡ Some k) t e in let same : base ≡ k = cc in omega arith)
    (λ (f : p s ≡ false). let there = subst (λ b. cond b (Some base) (position_from p (base + 1) ss) ≡ Some k) f e in omega (arith, position-within p ss (base + 1) k there))
    (cases_Bool (p s))

place-within : (ss : List Secret) (s : Secret) → 0 < length ss → place_of ss s < length ss
unfolding place_of
place-within ss s some = by (position_from (is_same_secret s) 0 ss) refl
  where
    by : (o : Option ℕ) → position_from (is_same_secret s) 0 ss ≡ o → option_map_or (λ place. place) o 0 < length ss
    by None e = some
    by (Some k) e = omega (arith, position-within (is_same_secret s) ss 0 k e)

some-secret : (g : GivenBit) (gs : List GivenBit) → 0 < length (secrets (g ∷ gs))
unfolding secrets distinct
some-secret g gs = omega arith

known-secrets : (ss : List Secret) (gs : List GivenBit) → 0 < length ss → Each (λ (t : NumberedShare). t.secret < length ss) (map (numbered_share ss) gs)
known-secrets ss [] some = tt
known-secrets ss (g ∷ gs) some = (place-within ss (secret_of g.given) some, known-secrets ss gs some)

all-known : (gs : List GivenBit) → Each (λ (t : NumberedShare). t.secret < length (secrets gs)) (map (numbered_share (secrets gs)) gs)
all-known [] = tt
all-known (g ∷ gs) = known-secrets (secrets (g ∷ gs)) (g ∷ gs) (some-secret g gs)

-- no share has an index past the number of shares
top-below : (ws : List MarkedWire) (a : ℕ)
    → (a ≤ fold (λ n (w : MarkedWire). max n (top_share w.width w.mark)) a ws) × Each (λ (w : MarkedWire). top_share w.width w.mark ≤ fold (λ n (v : MarkedWire). max n (top_share v.width v.mark)) a ws) ws
top-below [] a = (omega arith, tt)
top-below (w ∷ ws) a = let r = top-below ws (max a (top_share w.width w.mark)) in (omega (arith, r.0), (omega (arith, r.0), r.1))

abbrev IsBelow : ℕ → MarkedWire → Type 0
IsBelow d w = top_share w.width w.mark ≤ d

counted : (ws : List MarkedWire) → Each (IsBelow (share_count ws)) ws
unfolding share_count
counted ws = (top-below ws 0).1

ordered : (d : ℕ) (ws : List MarkedWire) → Each (IsBelow d) ws → Each (IsBelow d) (in_port_order ws)
unfolding in_port_order
ordered d ws h =
    each_flat (IsBelow d) (numbered_wires ws) (range_with_len 0 (numbers_end ws)) (λ n. each_filter (IsBelow d) (λ (w : MarkedWire). port_number w.port == n) ws h)

abbrev IsFew : ℕ → GivenBit → Type 0
IsFew d g = g.given.share < d

few-places : (d : ℕ) (w : MarkedWire) (m : Mark) → top_share w.width m ≤ d → (count a : ℕ) → a + count ≤ w.width → Each (IsFew d) (filter_map (bit-with w m) (range_with_len a count))
few-places d w m le zero a within = tt
few-places d w (Noted (note.Share name index)) le (suc count) a within = (omega arith, few-places d w (Noted (note.Share name index)) le count (a + 1) (omega arith))
few-places d w (Noted (note.Shares name)) le (suc count) a within = (omega arith, few-places d w (Noted (note.Shares name)) le count (a + 1) (omega arith))
few-places d w (Noted note.Random) le (suc count) a within = few-places d w (Noted note.Random) le count (a + 1) (omega arith)
few-places d w (Noted note.Public) le (suc count) a within = few-places d w (Noted note.Public) le count (a + 1) (omega arith)
few-places d w (Noted note.Clock) le (suc count) a within = few-places d w (Noted note.Clock) le count (a + 1) (omega arith)
few-places d w (Noted (note.Held v)) le (suc count) a within = few-places d w (Noted (note.Held v)) le count (a + 1) (omega arith)
few-places d w Absent le (suc count) a within = few-places d w Absent le count (a + 1) (omega arith)
few-places d w Wrong le (suc count) a within = few-places d w Wrong le count (a + 1) (omega arith)

few-given : (d : ℕ) (ws : List MarkedWire) → Each (IsBelow d) ws → Each (IsFew d) (given Input ws)
unfolding given
few-given d [] h = tt
few-given d (w ∷ ws) h = each-append (IsFew d) (given_by Input w) (flat_map (given_by Input) ws) (by (has_direction Input w.port)) (few-given d ws h.1)
  where
    by : (b : Bool) → Each (IsFew d) (cond b (wire_shares w) [])
    by true = few-places d w w.mark h.0 w.width 0 (omega arith)
    by false = tt

few-numbered : (d : ℕ) (ss : List Secret) (gs : List GivenBit) → Each (IsFew d) gs → Each (λ (t : NumberedShare). t.share < d) (map (numbered_share ss) gs)
few-numbered d ss [] h = tt
few-numbered d ss (g ∷ gs) h = (h.0, few-numbered d ss gs h.1)

-- ---- all together

to-shares : (k d : ℕ) (ns : List NumberedShare) → Each (λ (t : NumberedShare). t.secret < k) ns → Each (λ (t : NumberedShare). t.share < d) ns
    → Each (λ (o : OutputShare). (o.secret < k) × (o.share < d)) (map output_share ns)
to-shares k d [] a b = tt
to-shares k d (t ∷ ns) a b = ((a.0, b.0), to-shares k d ns a.1 b.1)

known-role : (roles : Roles) (bit : ℕ) (r : Role) → Each (λ (o : OutputShare). (o.secret < length roles.secrets) × (o.share < roles.shares)) (part bit r) → IsKnownShare roles r
known-role roles bit (role.Share s i) h = h.0
known-role roles bit role.Random h = tt
known-role roles bit role.Public h = tt
known-role roles bit role.Clock h = tt
known-role roles bit (role.Held v) h = tt

not-lacking : (d : ℕ) (single : List ℕ) (ins outs : List NumberedShare) → Never (Contains (gap_lines d single ins outs)) → Each (λ t. lacks_share d ins t ≡ false) ins
not-lacking d single ins outs n =
    none_pass (λ (s : NumberedShare). s.line) (lacks_share d ins) ins
    (λ l c. n l (Contains-append_left (single ++ share_lines (lacks_share d ins) ins) (share_lines (lacks_share d outs) outs) l (Contains-append_right single (share_lines (lacks_share d ins) ins) l c)))

not-repeated : (ins outs : List NumberedShare) → Never (Contains (double_lines ins outs)) → Each (λ t. is_repeated ins t ≡ false) ins
not-repeated ins outs n =
    none_pass (λ (s : NumberedShare). s.line) (is_repeated ins) ins (λ l c. n l (Contains-append_left (share_lines (is_repeated ins) ins) (share_lines (is_repeated outs) outs) l c))

module _ (items : List Item) (nets : Nets) (fits : FitsNets (roles_of items) nets) (clear : IsClear (role_causes items nets)) where
  abbrev marked : List MarkedWire
  marked = marked_wires items

  abbrev ws : List MarkedWire
  ws = in_port_order marked

  abbrev d : ℕ
  d = share_count marked

  abbrev gs : List GivenBit
  gs = given Input ws

  abbrev ns : List NumberedShare
  ns = map (numbered_share (secrets gs)) gs

  lacking : Each (λ t. lacks_share d ns t ≡ false) ns
  unfolding role_causes numbered_shares
  lacking = not-lacking d (single_lines d marked) ns (numbered_shares Output ws) clear.1.1.0

  repeated : Each (λ t. is_repeated ns t ≡ false) ns
  unfolding role_causes numbered_shares
  repeated = not-repeated ns (numbered_shares Output ws) clear.1.1.1.0

  shares-are : shares-in (input_roles (secrets gs) ws) ≡ map output_share ns
  unfolding given
  shares-are = all-shown (secrets gs) ws

  apart : ApartBits ns
  unfolding roles_of
  apart = apart-numbered ns (subst ApartShares shares-are (apart-shares (input_roles (secrets gs) ws) (apart-roles (input_roles (secrets gs) ws) fits.one_role)))

  once-of : (s i : ℕ) → s < length (secrets gs) → i < d → count_by (λ (x : InputRole). term.is_share s i x.role) (input_roles (secrets gs) ws) ≡ 1
  once-of s i ls li =
      count-roles s i (input_roles (secrets gs) ws)
      ∙ (ap (count_by (is-this s i)) shares-are
      ∙ (count-map output_share (is-this s i) ns
      ∙ count-once (is_share s i) ns (no-two s i ns (quiet-each ns ns repeated) apart) (has-share d ns lacking s i li (has-secret gs s ls))))

  few : Each (λ (t : NumberedShare). t.share < d) ns
  few = few-numbered d (secrets gs) gs (few-given d ws (ordered d marked (counted marked)))

  known-of : Each (λ (o : OutputShare). (o.secret < length (secrets gs)) × (o.share < d)) (shares-in (input_roles (secrets gs) ws))
  known-of = subst (Each (λ (o : OutputShare). (o.secret < length (secrets gs)) × (o.share < d))) (sym shares-are) (to-shares (length (secrets gs)) d ns (all-known gs) few)

  some-of : (s : ℕ) → s < length (secrets gs) → 0 < d
  some-of s lt = from-any (λ (t : NumberedShare). t.secret == s) (λ (t : NumberedShare). t.share < d) (0 < d) (λ t le is. omega arith) ns few (has-secret gs s lt)

  pub each-share : HasEachShare (roles_of items)
  unfolding roles_of
  each-share = record {
    known = All-from_recursion (λ (x : InputRole). IsKnownShare (roles_of items) x.role) (input_roles (secrets gs) ws)
        (each_weaker (λ (x : InputRole). Each (λ (o : OutputShare). (o.secret < length (secrets gs)) × (o.share < d)) (share-part x)) (λ (x : InputRole). IsKnownShare (roles_of items) x.role)
        (λ x h. known-role (roles_of items) x.bit x.role h) (input_roles (secrets gs) ws)
        (each_flat_parts (λ (o : OutputShare). (o.secret < length (secrets gs)) × (o.share < d)) share-part (input_roles (secrets gs) ws) known-of));
    once = once-of;
    some = some-of;
  }

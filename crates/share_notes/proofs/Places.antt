-- The places of secret bits while they are numbered.
use Rattle.std.proofs.Common.{◌≡◌, ℕ, suc, ◌+◌, ◌<◌, Bool, true, false, cond, eqb, ltb, not, ◌&&◌, ◌||◌, List, [], ◌∷◌, ◌++◌, length, map, get_or, take, Option, Some, None, is_some, refl, sym, ap, ◌∙◌, subst, arith, ⊎_elim, append-nil, append_assoc}
use Rattle.std.specs.Prelude.{filter}
use Rattle.std.specs.List.{list_any, position_from, filter_map, cons_option, range_with_len}
use Rattle.std.specs.Option.{option_map_or}
use Rattle.std.specs.Borrow.{Bor}
use Rattle.std.specs.BTreeMap as tree
use Rattle.std.specs.BTreeMap.{BTreeMap, get_by, is_at}
use Rattle.std.specs.Map.{lookup}
use Rattle.std.specs.Ordering.{nat_cmp, ordering_then, is_eq}
use Rattle.std.specs.declared.cmp.Ordering.{Ordering}
use Rattle.std.specs.declared.cmp.Ordering.TheVariants.{Less, Equal, Greater}
use Rattle.std.specs.Cmp.Lexicographic.{slice_cmp}
use Rattle.std.specs.Str.{bytes_eq}
use Rattle.std.proofs.lemmas.Bool.{cases_Bool, eq-eqb, ne_eqb, eqb-true, and_parts, and_from, or_left, cond-true, cond-false, ltb-true, false_from_ne_true}
use Rattle.std.proofs.lemmas.List.{map_push}
use Rattle.std.proofs.lemmas.List.Elements.{filter-append}
use Rattle.std.proofs.lemmas.Map.Text.{is_eq-slice_cmp}
use Rattle.std.proofs.lemmas.Slice.Eq.{bytes_eq-Decides}
use Rattle.circuit_types.specs.declared.roles.Secret.{Secret}
use Rattle.share_notes.specs.declared.mark.MarkedWire.{MarkedWire}
use Rattle.share_notes.specs.declared.direction.Direction.{Direction}
use Rattle.share_notes.specs.Known.{KnowsPlaces}
use Rattle.share_notes.proofs.Lists.{filter_map_more, flat_map_next}
use Rattle.share_notes.specs.Shares.{Given, GivenBit, given_at, given_bit, given_by, given, secret_of, is_same_secret, distinct, secrets, place_of}

-- ---- the order of keys

eq_then : (a b : Ordering) → is_eq (ordering_then a b) ≡ (is_eq a && is_eq b)
eq_then Less b = refl
eq_then Equal b = refl
eq_then Greater b = refl

pub eq_nat : (a b : ℕ) → is_eq (nat_cmp a b) ≡ eqb a b
eq_nat a b =
    ⊎_elim
    (λ (t : ltb a b ≡ true). let lt : a < b = ltb-true a b t in let ne : a ≡ b → ⊥ = λ e. omega arith in rw (t, ne_eqb a b ne) refl)
    (λ (f : ltb a b ≡ false). rw f (inner (eqb a b)))
    (cases_Bool (ltb a b))
  where
    inner : (e : Bool) → is_eq (cond e Equal Greater) ≡ e
    inner true = refl
    inner false = refl

pub key_eq : (s t : Secret) → is_eq (ordering_then (slice_cmp nat_cmp s.name t.name) (nat_cmp s.bit t.bit)) ≡ is_same_secret s t
key_eq s t =
    eq_then (slice_cmp nat_cmp s.name t.name) (nat_cmp s.bit t.bit)
    ∙ (ap (λ (b : Bool). b && is_eq (nat_cmp s.bit t.bit)) (is_eq-slice_cmp s.name t.name)
    ∙ ap (λ (b : Bool). bytes_eq s.name t.name && b) (eq_nat s.bit t.bit))

-- ---- equal secret bits

pub same_is : (s t : Secret) → is_same_secret s t ≡ true → s ≡ t
same_is s t h =
    let p = and_parts (bytes_eq s.name t.name) (eqb s.bit t.bit) h in
    let named : Secret = record { name = t.name; bit = s.bit } in
    let one : s ≡ named = ap (λ (n : List ℕ). record { name = n; bit = s.bit }) ((bytes_eq-Decides s.name t.name).0 p.0) in
    let two : named ≡ t = ap (λ (b : ℕ). record { name = t.name; bit = b }) (eqb-true s.bit t.bit p.1) in
    one ∙ two

pub same_itself : (s : Secret) → is_same_secret s s ≡ true
same_itself s = and_from (bytes_eq s.name s.name) (eqb s.bit s.bit) ((bytes_eq-Decides s.name s.name).1 refl) (eq-eqb s.bit s.bit refl)

same_back : (s t : Secret) → is_same_secret s t ≡ true → is_same_secret t s ≡ true
same_back s t h = subst (λ (u : Secret). is_same_secret u s ≡ true) (same_is s t h) (same_itself s)

-- ---- positions

pub position_some : {X : Type 0} (p : X → Bool) (i : ℕ) (xs : List X) → is_some (position_from p i xs) ≡ list_any p xs
position_some p i [] = refl
position_some p i (x ∷ xs) = ⊎_elim (λ (t : p x ≡ true). rw t refl) (λ (f : p x ≡ false). rw f (position_some p (i + 1) xs)) (cases_Bool (p x))

position_other : {X : Type 0} (p : X → Bool) (i : ℕ) (xs : List X) (y : X) → p y ≡ false → position_from p i (xs ++ y ∷ []) ≡ position_from p i xs
position_other p i [] y f = rw f refl
position_other p i (x ∷ xs) y f = ap (λ o. cond (p x) (Some i) o) (position_other p (i + 1) xs y f)

position_new : {X : Type 0} (p : X → Bool) (i : ℕ) (xs : List X) (y : X) → list_any p xs ≡ false → p y ≡ true → position_from p i (xs ++ y ∷ []) ≡ Some (i + length xs)
position_new p i [] y none t = let same : i ≡ i + 0 = omega arith in rw t (ap (λ (k : ℕ). Some k) same)
position_new p i (x ∷ xs) y none t =
    ⊎_elim
    (λ (h : p x ≡ true). let no : true ≡ false = sym (or_left (p x) (list_any p xs) h) ∙ none in absurd cc)
    (λ (h : p x ≡ false).
    let rest : list_any p xs ≡ false = rw h at none in
    let same : i + 1 + length xs ≡ i + suc (length xs) = omega arith in
    rw h (position_new p (i + 1) xs y rest t ∙ ap (λ (k : ℕ). Some k) same))
    (cases_Bool (p x))

-- ---- lists without repeats

any_filter : (p q : Secret → Bool) → ((s : Secret) → p s ≡ true → q s ≡ true) → (ss : List Secret) → list_any p (filter q ss) ≡ list_any p ss
any_filter p q keeps [] = refl
any_filter p q keeps (s ∷ ss) =
    ⊎_elim
    (λ (t : q s ≡ true). rw t (ap (λ (b : Bool). p s || b) (any_filter p q keeps ss)))
    (λ (f : q s ≡ false).
    let out : p s ≡ false = false_from_ne_true (p s) (λ t. let no : true ≡ false = sym (keeps s t) ∙ f in cc) in
    rw (f, out) (any_filter p q keeps ss))
    (cases_Bool (q s))

abbrev differs : Secret → Secret → Bool
differs x t = not (is_same_secret x t)

-- a secret bit that is x is dropped, any other one is kept
drops_same : (x s : Secret) (b : Bool) (ts : List Secret) → is_same_secret x s ≡ true → x ∷ filter (differs x) (cond b ts (ts ++ s ∷ [])) ≡ x ∷ filter (differs x) ts
drops_same x s true ts t = refl
drops_same x s false ts t =
    let out : filter (differs x) (s ∷ []) ≡ [] = rw t refl in
    ap (λ (us : List Secret). x ∷ us) (filter-append (differs x) ts (s ∷ []) ∙ (ap (λ (us : List Secret). filter (differs x) ts ++ us) out ∙ append-nil (filter (differs x) ts)))

keeps_other : (x s : Secret) (b : Bool) (ts : List Secret) → is_same_secret x s ≡ false
    → x ∷ filter (differs x) (cond b ts (ts ++ s ∷ [])) ≡ cond b (x ∷ filter (differs x) ts) ((x ∷ filter (differs x) ts) ++ s ∷ [])
keeps_other x s true ts f = refl
keeps_other x s false ts f =
    let kept : filter (differs x) (s ∷ []) ≡ s ∷ [] = rw f refl in
    ap (λ (us : List Secret). x ∷ us) (filter-append (differs x) ts (s ∷ []) ∙ ap (λ (us : List Secret). filter (differs x) ts ++ us) kept)

-- one more stands at the end, unless it is there
pub distinct_push : (ss : List Secret) (s : Secret) → distinct (ss ++ s ∷ []) ≡ cond (list_any (is_same_secret s) (distinct ss)) (distinct ss) (distinct ss ++ s ∷ [])
unfolding distinct
distinct_push [] s = refl
distinct_push (x ∷ xs) s =
    ap (λ (ts : List Secret). x ∷ filter (differs x) ts) (distinct_push xs s)
    ∙ ⊎_elim
    (λ (t : is_same_secret s x ≡ true).
    drops_same x s (list_any (is_same_secret s) (distinct xs)) (distinct xs) (same_back s x t)
    ∙ sym (cond-true (is_same_secret s x || list_any (is_same_secret s) (filter (differs x) (distinct xs))) (x ∷ filter (differs x) (distinct xs)) ((x ∷ filter (differs x) (distinct xs)) ++ s ∷ [])
    (or_left (is_same_secret s x) (list_any (is_same_secret s) (filter (differs x) (distinct xs))) t)))
    (λ (f : is_same_secret s x ≡ false).
    let other : is_same_secret x s ≡ false = false_from_ne_true (is_same_secret x s) (λ h. let no : true ≡ false = sym (same_back x s h) ∙ f in cc) in
    let same : list_any (is_same_secret s) (filter (differs x) (distinct xs)) ≡ list_any (is_same_secret s) (distinct xs) =
    any_filter (is_same_secret s) (differs x) (λ u h. ap not (subst (λ (v : Secret). is_same_secret x v ≡ false) (same_is s u h) other)) (distinct xs) in
    let whole : (is_same_secret s x || list_any (is_same_secret s) (filter (differs x) (distinct xs))) ≡ list_any (is_same_secret s) (distinct xs) =
    ap (λ (b : Bool). b || list_any (is_same_secret s) (filter (differs x) (distinct xs))) f ∙ same in
    keeps_other x s (list_any (is_same_secret s) (distinct xs)) (distinct xs) other
    ∙ ap (λ (b : Bool). cond b (x ∷ filter (differs x) (distinct xs)) ((x ∷ filter (differs x) (distinct xs)) ++ s ∷ [])) (sym whole))
    (cases_Bool (is_same_secret s x))

-- ---- the map

abbrev key : List ℕ → ℕ → Bor (List ℕ) × ℕ
key name bit = (record { ref_ptr = (0, 0); now = name }, bit)

-- the map finds the secret bit exactly where the list has it
pub found_is : (ss : List Secret) (m : BTreeMap (Bor (List ℕ) × ℕ) ℕ) (s : Secret) (b : Bool) → KnowsPlaces ss m
    → b ≡ is_some (get_by (λ k. ordering_then (slice_cmp nat_cmp s.name k.0.now) (nat_cmp s.bit k.1)) m) → b ≡ list_any (is_same_secret s) ss
found_is ss m s b known e = e ∙ (ap is_some (known s) ∙ position_some (is_same_secret s) 0 ss)

pub stays : (before ss : List Secret) (s : Secret) → list_any (is_same_secret s) ss ≡ true → ss ≡ distinct before → ss ≡ distinct (before ++ s ∷ [])
stays before ss s t e =
    e ∙ sym (distinct_push before s ∙ cond-true (list_any (is_same_secret s) (distinct before)) (distinct before) (distinct before ++ s ∷ []) (subst (λ (ts : List Secret). list_any (is_same_secret s) ts ≡ true) e t))

pub grows : (before ss : List Secret) (s : Secret) → list_any (is_same_secret s) ss ≡ false → ss ≡ distinct before → ss ++ s ∷ [] ≡ distinct (before ++ s ∷ [])
grows before ss s f e =
    ap (λ (ts : List Secret). ts ++ s ∷ []) e
    ∙ sym (distinct_push before s ∙ cond-false (list_any (is_same_secret s) (distinct before)) (distinct before) (distinct before ++ s ∷ []) (subst (λ (ts : List Secret). list_any (is_same_secret s) ts ≡ false) e f))

pub none_known : (m : BTreeMap (Bor (List ℕ) × ℕ) ℕ) → tree.IsEmpty m → KnowsPlaces [] m
none_known m e s = ap (λ es. lookup (is_at (λ (k : Bor (List ℕ) × ℕ). ordering_then (slice_cmp nat_cmp s.name k.0.now) (nat_cmp s.bit k.1))) es) e

place_same : (ss : List Secret) (s t : Secret) → list_any (is_same_secret t) ss ≡ false → is_same_secret t s ≡ true → position_from (is_same_secret s) 0 (ss ++ t ∷ []) ≡ Some (length ss)
place_same ss s t none h =
    let e = same_is t s h in
    let zero_sum : 0 + length ss ≡ length ss = omega arith in
    position_new (is_same_secret s) 0 ss t (subst (λ (u : Secret). list_any (is_same_secret u) ss ≡ false) e none) (same_back t s h)
    ∙ ap (λ (k : ℕ). Some k) zero_sum

-- a new secret bit is known by the place at the end
pub one_known : (ss : List Secret) (t : Secret) (m n : BTreeMap (Bor (List ℕ) × ℕ) ℕ)
    → tree.UpdatesBy (λ x y. ordering_then (slice_cmp nat_cmp x.0.now y.0.now) (nat_cmp x.1 y.1)) (λ k. ordering_then (slice_cmp nat_cmp t.name k.0.now) (nat_cmp t.bit k.1)) m n (Some (length ss))
    → list_any (is_same_secret t) ss ≡ false → KnowsPlaces ss m → KnowsPlaces (ss ++ t ∷ []) n
one_known ss t m n u none known s =
    let at : is_eq (ordering_then (slice_cmp nat_cmp t.name s.name) (nat_cmp t.bit s.bit)) ≡ is_same_secret t s = key_eq t s in
    u.0 (key s.name s.bit)
    ∙ ⊎_elim
    (λ (h : is_same_secret t s ≡ true).
    cond-true (is_eq (ordering_then (slice_cmp nat_cmp t.name s.name) (nat_cmp t.bit s.bit))) (Some (length ss)) _ (at ∙ h) ∙ sym (place_same ss s t none h))
    (λ (h : is_same_secret t s ≡ false).
    let back : is_same_secret s t ≡ false = false_from_ne_true (is_same_secret s t) (λ k. let no : true ≡ false = sym (same_back s t k) ∙ h in cc) in
    cond-false (is_eq (ordering_then (slice_cmp nat_cmp t.name s.name) (nat_cmp t.bit s.bit))) (Some (length ss)) _ (at ∙ h) ∙ (known s ∙ sym (position_other (is_same_secret s) 0 ss t back)))
    (cases_Bool (is_same_secret t s))

-- ---- shares one after another

pub secrets_push : (gs : List GivenBit) (g : GivenBit) → secrets (gs ++ g ∷ []) ≡ distinct (map (λ (x : GivenBit). secret_of x.given) gs ++ secret_of g.given ∷ [])
unfolding secrets
secrets_push gs g = ap distinct (map_push (λ (x : GivenBit). secret_of x.given) gs g)

pub secrets_are : (gs : List GivenBit) → secrets gs ≡ distinct (map (λ (x : GivenBit). secret_of x.given) gs)
unfolding secrets
secrets_are gs = refl

-- the map's answer is the place
pub place_some : (ss : List Secret) (s : Secret) (p : ℕ) → position_from (is_same_secret s) 0 ss ≡ Some p → p ≡ place_of ss s
unfolding place_of
place_some ss s p e = sym (ap (λ (o : Option ℕ). option_map_or (λ place. place) o 0) e)

pub place_none : (ss : List Secret) (s : Secret) → position_from (is_same_secret s) 0 ss ≡ None → 0 ≡ place_of ss s
unfolding place_of
place_none ss s e = sym (ap (λ (o : Option ℕ). option_map_or (λ place. place) o 0) e)

pub given_bit_is : (w : MarkedWire) (place : ℕ) (g : Given) → Some g ≡ given_at w.mark place → given_bit w place ≡ Some (record { line = w.line; bit = w.first + place; given = g })
given_bit_is w place g e = ap (λ (o : Option Given). option_map_or (λ (x : Given). Some (record { line = w.line; bit = w.first + place; given = x })) o None) (sym e)

-- the secret bit of one place more
pub place_pushed : (gs : List GivenBit) (w : MarkedWire) (place : ℕ) (g : Given) (old new : List Secret) → Some g ≡ given_at w.mark place → old ≡ secrets gs
    → ((before : List Secret) → old ≡ distinct before → new ≡ distinct (before ++ secret_of g ∷ [])) → new ≡ secrets (gs ++ cons_option (given_bit w place) [])
place_pushed gs w place g old new at e step =
    step (map (λ (x : GivenBit). secret_of x.given) gs) (e ∙ secrets_are gs)
    ∙ sym (ap (λ (o : Option GivenBit). secrets (gs ++ cons_option o [])) (given_bit_is w place g at) ∙ secrets_push gs (record { line = w.line; bit = w.first + place; given = g }))

-- the shares of one place more
pub wire_step : (gs : List GivenBit) (w : MarkedWire) (place : ℕ) → secrets ((gs ++ filter_map (given_bit w) (range_with_len 0 place)) ++ cons_option (given_bit w place) [])
    ≡ secrets (gs ++ filter_map (given_bit w) (range_with_len 0 (place + 1)))
wire_step gs w place =
    ap secrets (append_assoc gs (filter_map (given_bit w) (range_with_len 0 place)) (cons_option (given_bit w place) [])
    ∙ ap (λ (hs : List GivenBit). gs ++ hs) (sym (filter_map_more (given_bit w) place)))

pub none_given : (d : Direction) → [] ≡ secrets (given d [])
unfolding secrets given distinct
none_given d = refl

-- the shares of one wire more
pub given_next : (d : Direction) (ws : List MarkedWire) (i : ℕ) (w : MarkedWire) → i < length ws → w ≡ get_or ws i w → given d (take (i + 1) ws) ≡ given d (take i ws) ++ given_by d w
unfolding given
given_next d ws i w lt is = flat_map_next (given_by d) ws i w lt is

-- The reading of names gives back the cell whose name it is, and nothing else.
use Rattle.std.proofs.Common.{◌≡◌, ℕ, Bool, true, false, ◌==◌, ◌&&◌, cond, List, [], ◌∷◌, ◌++◌, Option, Some, None, refl, sym, ap, ◌∙◌, subst, arith, drop, take, length, get_or, codes, option_map, is_some, eqb-true, IfSome, IfNone, ◌⊎◌, inl, inr, ⊎_elim}
use Rattle.std.specs.Option.{option_and_then}
use Rattle.std.specs.List.{find}
use Rattle.std.proofs.lemmas.List.{take-append-drop}
use Rattle.cell_kinds.specs.Cells.{gate, family, level_letter, bit_letter, reset_letters, enable_letters, resets_at_edge, flop_letters, flop_name, cell_name}
use Rattle.cell_kinds.specs.Names.{level_of, bit_of, letters_of, reset_of, enable_of, flop_of, flop_lettered, flop_in, flop_named, gates, gate_named, gate_or, is_same, kind_named}
use Rattle.cell_kinds.specs.declared.kind.CellKind.{CellKind}
use Rattle.cell_kinds.specs.declared.kind.CellKind.TheVariants as cell
use Rattle.cell_kinds.specs.declared.kind.GateKind.{GateKind}
use Rattle.cell_kinds.specs.declared.kind.GateKind.TheVariants.{Buf, Not, And, Nand, Or, Nor, Xor, Xnor, Andnot, Ornot, Mux, Nmux, Aoi3, Oai3, Aoi4, Oai4}
use Rattle.cell_kinds.specs.declared.kind.Flop.{Flop}
use Rattle.cell_kinds.specs.declared.kind.Reset.{Reset}
use Rattle.cell_kinds.specs.declared.names.Letters.{Letters}

-- what a chain of options gives comes from what its first gives
then_some : {T U : Type 0} (f : T → Option U) (o : Option T) (y : U) → option_and_then f o ≡ Some y
    → (x : T) × (o ≡ Some x) × (f x ≡ Some y)
then_some f None y h = cc
then_some f (Some x) y h = (x, refl, h)

map_some : {T U : Type 0} (f : T → U) (o : Option T) (y : U) → option_map f o ≡ Some y
    → (x : T) × (o ≡ Some x) × (f x ≡ y)
map_some f None y h = cc
map_some f (Some x) y h = (x, refl, cc)

some_once : {T : Type 0} (x y : T) → Some x ≡ Some y → x ≡ y
some_once x y h = cc

cond_some : {T : Type 0} (b : Bool) (o : Option T) (y : T) → cond b o None ≡ Some y → (b ≡ true) × (o ≡ Some y)
cond_some true o y h = (refl, h)
cond_some false o y h = cc

either_some : {T : Type 0} (b : Bool) (o p : Option T) (y : T) → cond b o p ≡ Some y → ((b ≡ true) × (o ≡ Some y)) ⊎ (p ≡ Some y)
either_some true o p y h = inl (refl, h)
either_some false o p y h = inr h

two_some : (x : ℕ) (b c : ℕ) (v : Bool)
    → cond (x == b) (Some true) (cond (x == c) (Some false) None) ≡ Some v → x ≡ cond v b c
two_some x b c v h =
    ⊎_elim (λ p. let e : true ≡ v = cc in subst (λ w. x ≡ cond w b c) e (eqb-true x b p.0))
    (λ p. let q = cond_some (x == c) (Some false) v p in let e : false ≡ v = cc in subst (λ w. x ≡ cond w b c) e (eqb-true x c q.0))
    (either_some (x == b) (Some true) (cond (x == c) (Some false) None) v h)

cond-level : (b : Bool) → cond b 80 78 ≡ level_letter b
cond-level true = refl
cond-level false = refl

cond-bit : (b : Bool) → cond b 49 48 ≡ bit_letter b
cond-bit true = refl
cond-bit false = refl

level_only : (letter : ℕ) (high : Bool) → level_of letter ≡ Some high → letter ≡ level_letter high
level_only letter high h = two_some letter 80 78 high h ∙ cond-level high

bit_only : (letter : ℕ) (value : Bool) → bit_of letter ≡ Some value → letter ≡ bit_letter value
bit_only letter value h = two_some letter 49 48 value h ∙ cond-bit value

-- two families with the same name are one, and what follows is the same
family_once : (s e s' e' : Bool) (a b : List ℕ) → family s e ++ a ≡ family s' e' ++ b → (s ≡ s') × (e ≡ e') × (a ≡ b)
family_once false false false false a b h = (refl, refl, ap (λ xs. drop 6 xs) h)
family_once false true false true a b h = (refl, refl, ap (λ xs. drop 7 xs) h)
family_once true false true false a b h = (refl, refl, ap (λ xs. drop 7 xs) h)
family_once true true true true a b h = (refl, refl, ap (λ xs. drop 8 xs) h)
family_once false false false true a b h = absurd (omega (arith, ap (λ xs. get_or xs 5 0) h))
family_once false true false false a b h = absurd (omega (arith, ap (λ xs. get_or xs 5 0) h))
family_once true false true true a b h = absurd (omega (arith, ap (λ xs. get_or xs 6 0) h))
family_once true true true false a b h = absurd (omega (arith, ap (λ xs. get_or xs 6 0) h))
family_once false false true false a b h = absurd (omega (arith, ap (λ xs. get_or xs 2 0) h))
family_once false false true true a b h = absurd (omega (arith, ap (λ xs. get_or xs 2 0) h))
family_once false true true false a b h = absurd (omega (arith, ap (λ xs. get_or xs 2 0) h))
family_once false true true true a b h = absurd (omega (arith, ap (λ xs. get_or xs 2 0) h))
family_once true false false false a b h = absurd (omega (arith, ap (λ xs. get_or xs 2 0) h))
family_once true false false true a b h = absurd (omega (arith, ap (λ xs. get_or xs 2 0) h))
family_once true true false false a b h = absurd (omega (arith, ap (λ xs. get_or xs 2 0) h))
family_once true true false true a b h = absurd (omega (arith, ap (λ xs. get_or xs 2 0) h))

-- the letters at their places, one after another
abbrev reset_part : Option (ℕ × ℕ) → List ℕ
reset_part None = []
reset_part (Some p) = p.0 ∷ p.1 ∷ []

abbrev enable_part : Option ℕ → List ℕ
enable_part None = []
enable_part (Some e) = e ∷ []

abbrev parts : Letters → List ℕ
parts l = l.clock ∷ (reset_part l.reset ++ (enable_part l.enable ++ l.last ∷ []))

letters_only : (e : Bool) (bs : List ℕ) (l : Letters) → letters_of e bs ≡ Some l → (bs ≡ parts l) × (e ≡ is_some l.enable)
letters_only false (c ∷ u ∷ []) l h = subst (λ m. (c ∷ u ∷ [] ≡ parts m) × (false ≡ is_some m.enable)) (some_once _ l h) (refl, refl)
letters_only false (c ∷ p ∷ v ∷ u ∷ []) l h =
    subst (λ m. (c ∷ p ∷ v ∷ u ∷ [] ≡ parts m) × (false ≡ is_some m.enable)) (some_once _ l h) (refl, refl)
letters_only true (c ∷ e ∷ u ∷ []) l h =
    subst (λ m. (c ∷ e ∷ u ∷ [] ≡ parts m) × (true ≡ is_some m.enable)) (some_once _ l h) (refl, refl)
letters_only true (c ∷ p ∷ v ∷ e ∷ u ∷ []) l h =
    subst (λ m. (c ∷ p ∷ v ∷ e ∷ u ∷ [] ≡ parts m) × (true ≡ is_some m.enable)) (some_once _ l h) (refl, refl)
letters_only e bs l h = cc

two_letters : (x x' y y' : ℕ) → x ≡ x' → y ≡ y' → x ∷ y ∷ [] ≡ x' ∷ y' ∷ []
two_letters x x' y y' p q = cc

reset_only : (s : Bool) (o : Option (ℕ × ℕ)) (r : Option Reset) → reset_of s o ≡ Some r
    → (reset_part o ≡ reset_letters r) × (s ≡ resets_at_edge r)
reset_only false None r h = subst (λ m. ([] ≡ reset_letters m) × (false ≡ resets_at_edge m)) (some_once None r h) (refl, refl)
reset_only true None r h = cc
reset_only s (Some p) r h =
    let a = then_some (λ (x : Bool). option_map (λ (v : Bool). Some (let m : Reset = record { high = x; value = v; synchronous = s } in m)) (bit_of p.1)) (level_of p.0) r h in
    let b = map_some (λ (v : Bool). Some (let m : Reset = record { high = a.0; value = v; synchronous = s } in m)) (bit_of p.1) r a.2 in
    subst (λ m. (reset_part (Some p) ≡ reset_letters m) × (s ≡ resets_at_edge m)) b.2
    (two_letters p.0 (level_letter a.0) p.1 (bit_letter b.0) (level_only p.0 a.0 a.1) (bit_only p.1 b.0 b.1), refl)

pub enable_only : (o : Option ℕ) (e : Option Bool) → enable_of o ≡ Some e → (enable_part o ≡ enable_letters e) × (is_some o ≡ is_some e)
enable_only None e h = subst (λ m. ([] ≡ enable_letters m) × (false ≡ is_some m)) (some_once None e h) (refl, refl)
enable_only (Some x) e h =
    let a = map_some (λ (v : Bool). Some v) (level_of x) e h in
    subst (λ m. (x ∷ [] ≡ enable_letters m) × (true ≡ is_some m)) a.2 (ap (λ y. y ∷ []) (level_only x a.0 a.1), refl)

three_parts : (c c' : ℕ) (r r' e e' : List ℕ) (u : ℕ) → c ≡ c' → r ≡ r' → e ≡ e' → u ≡ 95
    → c ∷ (r ++ (e ++ u ∷ [])) ≡ c' ∷ (r' ++ (e' ++ codes "_"))
three_parts c c' r r' e e' u h k l m = cc

-- the letters of a flip-flop that was read are those that were read
flop_only : (s : Bool) (l : Letters) (f : Flop) → flop_of s l ≡ Some f
    → (parts l ≡ flop_letters f) × (s ≡ resets_at_edge f.reset) × (is_some l.enable ≡ is_some f.enable)
flop_only s l f h =
    let z = cond_some (l.last == 95) (option_and_then (λ (c : Bool). option_and_then (λ (r : Option Reset). option_map (λ (e : Option Bool). let m : Flop = record { rising = c; reset = r; enable = e } in m) (enable_of l.enable)) (reset_of s l.reset)) (level_of l.clock)) f h in
    let a = then_some (λ (c : Bool). option_and_then (λ (r : Option Reset). option_map (λ (e : Option Bool). let m : Flop = record { rising = c; reset = r; enable = e } in m) (enable_of l.enable)) (reset_of s l.reset)) (level_of l.clock) f z.1 in
    let b = then_some (λ (r : Option Reset). option_map (λ (e : Option Bool). let m : Flop = record { rising = a.0; reset = r; enable = e } in m) (enable_of l.enable)) (reset_of s l.reset) f a.2 in
    let d = map_some (λ (e : Option Bool). let m : Flop = record { rising = a.0; reset = b.0; enable = e } in m) (enable_of l.enable) f b.2 in
    let p = reset_only s l.reset b.0 b.1 in
    let q = enable_only l.enable d.0 d.1 in
    subst (λ g. (parts l ≡ flop_letters g) × (s ≡ resets_at_edge g.reset) × (is_some l.enable ≡ is_some g.enable)) d.2 (
      three_parts l.clock (level_letter a.0) (reset_part l.reset) (reset_letters b.0) (enable_part l.enable) (enable_letters d.0) l.last
          (level_only l.clock a.0 a.1) p.0 q.0 (eqb-true l.last 95 z.0),
      p.1,
      q.1,
    )

joined : (a a' b b' : List ℕ) → a ≡ a' → b ≡ b' → a ++ b ≡ a' ++ b'
joined a a' b b' p q = cc

-- what is read has the name that it was read from
pub lettered_only : (s e : Bool) (ls : List ℕ) (f : Flop) → flop_lettered s e ls ≡ Some f → flop_name f ≡ family s e ++ ls
lettered_only s e ls f h =
    let a = then_some (flop_of s) (letters_of e ls) f h in
    let b = letters_only e ls a.0 a.1 in
    let d = flop_only s a.0 f a.2 in
    let p : family (resets_at_edge f.reset) (is_some f.enable) ≡ family s e = cc in
    let q : flop_letters f ≡ ls = cc in
    joined (family (resets_at_edge f.reset) (is_some f.enable)) (family s e) (flop_letters f) ls p q

-- each flip-flop is read from its letters
level_back : (b : Bool) → level_of (level_letter b) ≡ Some b
level_back true = refl
level_back false = refl

bit_back : (b : Bool) → bit_of (bit_letter b) ≡ Some b
bit_back true = refl
bit_back false = refl

flop_back : (c : Bool) (r : Option Reset) (e : Option Bool)
    → flop_lettered (resets_at_edge r) (is_some e) (flop_letters (record { rising = c; reset = r; enable = e })) ≡ Some (record { rising = c; reset = r; enable = e })
flop_back c None None = rw (level_back c)
flop_back c None (Some e) = rw (level_back c, level_back e)
flop_back c (Some r) None = rw (level_back c, level_back r.high, bit_back r.value)
flop_back c (Some r) (Some e) = rw (level_back c, level_back r.high, bit_back r.value, level_back e)

pub lettered_back : (f : Flop) → flop_lettered (resets_at_edge f.reset) (is_some f.enable) (flop_letters f) ≡ Some f
lettered_back f = flop_back f.rising f.reset f.enable

relettered : (s s' e e' : Bool) (a b : List ℕ) (f : Flop) → s ≡ s' → e ≡ e' → a ≡ b → flop_lettered s e a ≡ Some f → flop_lettered s' e' b ≡ Some f
relettered s s' e e' a b f h k l m = subst (λ x. flop_lettered x e' b ≡ Some f) h (subst (λ x. flop_lettered s x b ≡ Some f) k (subst (λ x. flop_lettered s e x ≡ Some f) l m))

-- a name in a family is that of a flip-flop with these letters alone
pub lettered_name : (s e : Bool) (ls : List ℕ) (f : Flop) → flop_name f ≡ family s e ++ ls → flop_lettered s e ls ≡ Some f
lettered_name s e ls f h =
    let a = family_once (resets_at_edge f.reset) (is_some f.enable) s e (flop_letters f) ls h in
    let b = lettered_back f in
    relettered (resets_at_edge f.reset) s (is_some f.enable) e (flop_letters f) ls f a.0 a.1 a.2 b

both_true : (a b : Bool) → a && b ≡ true → (a ≡ true) × (b ≡ true)
both_true true b h = (refl, h)
both_true false b h = cc

two_cells : (x y : ℕ) (a b : List ℕ) → x ≡ y → a ≡ b → x ∷ a ≡ y ∷ b
two_cells x y a b p q = cc

-- the gates by their names
same_only : (a b : List ℕ) → is_same a b ≡ true → a ≡ b
same_only [] [] h = refl
same_only [] (y ∷ b) h = cc
same_only (x ∷ a) [] h = cc
same_only (x ∷ a) (y ∷ b) h =
    let p = both_true (x == y) (is_same a b) h in
    two_cells x y a b (eqb-true x y p.0) (same_only a b p.1)

find_passes : {X : Type 0} (test : X → Bool) (xs : List X) (y : X) → find test xs ≡ Some y → test y ≡ true
find_passes test [] y h = cc
find_passes test (x ∷ xs) y h =
    ⊎_elim (λ p. let e : x ≡ y = cc in subst (λ z. test z ≡ true) e p.0) (λ p. find_passes test xs y p)
    (either_some (test x) (Some x) (find test xs) y h)

gate_only : (name : List ℕ) (kind : GateKind) → gate_named name ≡ Some kind → (gate kind).name ≡ name
gate_only name kind h = same_only (gate kind).name name (find_passes (λ k. is_same (gate k).name name) gates kind h)

gate_back : (kind : GateKind) → gate_named (gate kind).name ≡ Some kind
gate_back Buf = refl
gate_back Not = refl
gate_back And = refl
gate_back Nand = refl
gate_back Or = refl
gate_back Nor = refl
gate_back Xor = refl
gate_back Xnor = refl
gate_back Andnot = refl
gate_back Ornot = refl
gate_back Mux = refl
gate_back Nmux = refl
gate_back Aoi3 = refl
gate_back Oai3 = refl
gate_back Aoi4 = refl
gate_back Oai4 = refl

-- no gate has a name in a family
gate_none : (s e : Bool) (ls : List ℕ) → gate_named (family s e ++ ls) ≡ None
gate_none false false ls = refl
gate_none false true ls = refl
gate_none true false ls = refl
gate_none true true ls = refl

family_named : (s e : Bool) (ls : List ℕ) → flop_named (family s e ++ ls) ≡ flop_lettered s e ls
family_named false false ls = refl
family_named false true ls = refl
family_named true false ls = refl
family_named true true ls = refl

in_only : (s e : Bool) (name : List ℕ) (other : Option Flop) (f : Flop) → flop_in s e name other ≡ Some f
    → (flop_name f ≡ name) ⊎ (other ≡ Some f)
in_only s e name other f h =
    ⊎_elim
    (λ p. inl (lettered_only s e (drop (length (family s e)) name) f p.1
    ∙ (ap (λ x. x ++ drop (length (family s e)) name) (same_only (family s e) (take (length (family s e)) name) p.0)
    ∙ take-append-drop (length (family s e)) name)))
    (λ p. inr p)
    (either_some (is_same (family s e) (take (length (family s e)) name)) (flop_lettered s e (drop (length (family s e)) name)) other f h)

pub flop_named_only : (name : List ℕ) (f : Flop) → flop_named name ≡ Some f → flop_name f ≡ name
flop_named_only name f h =
    ⊎_elim (λ p. p) (λ a.
    ⊎_elim (λ p. p) (λ b.
    ⊎_elim (λ p. p) (λ d.
    ⊎_elim (λ p. p) (λ e. let x : ⊥ = cc in absurd x)
    (in_only true true name None f d))
    (in_only true false name (flop_in true true name None) f b))
    (in_only false true name (flop_in true false name (flop_in true true name None)) f a))
    (in_only false false name (flop_in false true name (flop_in true false name (flop_in true true name None))) f h)

or_only : (name : List ℕ) (kind : CellKind) (g : Option GateKind) (f : Option Flop)
    → ((k : GateKind) → g ≡ Some k → (gate k).name ≡ name) → ((k : Flop) → f ≡ Some k → flop_name k ≡ name)
    → gate_or g f ≡ Some kind → cell_name kind ≡ name
unfolding cell_name
or_only name kind (Some k) f p q h = subst (λ x. cell_name x ≡ name) (some_once (cell.Gate k) kind h) (p k refl)
or_only name kind None (Some k) p q h = subst (λ x. cell_name x ≡ name) (some_once (cell.Flop k) kind h) (q k refl)
or_only name kind None None p q h = cc

pub kind_only : (name : List ℕ) (kind : CellKind) → kind_named name ≡ Some kind → cell_name kind ≡ name
unfolding kind_named cell_name
kind_only name kind h = or_only name kind (gate_named name) (flop_named name) (gate_only name) (flop_named_only name) h

pub kind_back : (kind : CellKind) → kind_named (cell_name kind) ≡ Some kind
unfolding kind_named cell_name
kind_back (cell.Gate k) = ap (λ g. gate_or g (flop_named (gate k).name)) (gate_back k)
kind_back (cell.Flop f) =
    let s = resets_at_edge f.reset in let e = is_some f.enable in
    ap (λ g. gate_or g (flop_named (flop_name f))) (gate_none s e (flop_letters f))
    ∙ ap (λ g. gate_or None g) (family_named s e (flop_letters f) ∙ lettered_back f)

pub kind_by_name : (name : List ℕ) (kind : CellKind) → (kind_named name ≡ Some kind → cell_name kind ≡ name) × (cell_name kind ≡ name → kind_named name ≡ Some kind)
kind_by_name name kind = (kind_only name kind, λ h. subst (λ n. kind_named n ≡ Some kind) h (kind_back kind))

-- how the two private readers give the table's answer
pub answers_named : (name : List ℕ) (s e : Bool) (ls : List ℕ) (l : Letters) (r : Option Flop) → name ≡ family s e ++ ls
    → letters_of e ls ≡ Some l → r ≡ flop_of s l → IfSome r (λ f. flop_name f ≡ name)
answers_named name s e ls l None h k m = tt
answers_named name s e ls l (Some f) h k m =
    lettered_only s e ls f (ap (λ o. option_and_then (flop_of s) o) k ∙ sym m) ∙ sym h

pub answers_unnamed : (name : List ℕ) (s e : Bool) (ls : List ℕ) (l : Letters) (r : Option Flop) → name ≡ family s e ++ ls
    → letters_of e ls ≡ Some l → r ≡ flop_of s l → IfNone r ((f : Flop) → flop_name f ≡ name → ⊥)
answers_unnamed name s e ls l None h k m = λ f n.
    let a = lettered_name s e ls f (n ∙ h) in
    let b = ap (λ o. option_and_then (flop_of s) o) k in
    cc
answers_unnamed name s e ls l (Some f) h k m = tt

none_named : (name : List ℕ) (o : Option Flop) → ((k : Flop) → o ≡ Some k → flop_name k ≡ name)
    → ((k : Flop) → flop_name k ≡ name → ⊥) → gate_or None o ≡ None
none_named name None p q = refl
none_named name (Some k) p q = absurd (q k (p k refl))

pub gate_answer : (name : List ℕ) (k : GateKind) → Some k ≡ gate_named name → Some (cell.Gate k) ≡ kind_named name
unfolding kind_named
gate_answer name k h = ap (λ x. gate_or x (flop_named name)) h

pub flop_answer : (name : List ℕ) (f : Flop) → flop_name f ≡ name → Some (cell.Flop f) ≡ kind_named name
flop_answer name f h = sym ((kind_by_name name (cell.Flop f)).1 (unfold cell_name in h))

pub none_answer : (name : List ℕ) (g : Option GateKind) → g ≡ gate_named name → ((k : GateKind) → g ≡ Some k → ⊥)
    → ((k : Flop) → flop_name k ≡ name → ⊥) → None ≡ kind_named name
unfolding kind_named
none_answer name None h n q = sym (ap (λ x. gate_or x (flop_named name)) (sym h) ∙ none_named name (flop_named name) (flop_named_only name) q)
none_answer name (Some k) h n q = absurd (n k refl)

-- a result that is the definition's says what the table says
pub table_of : (name : List ℕ) (r : Option CellKind) → r ≡ kind_named name
    → (kind : CellKind) → (r ≡ Some kind → cell_name kind ≡ name) × (cell_name kind ≡ name → r ≡ Some kind)
table_of name r h kind = ((λ e. kind_only name kind (sym h ∙ e)), λ e. h ∙ (kind_by_name name kind).1 e)

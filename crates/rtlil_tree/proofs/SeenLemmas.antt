-- Sets of names, and the ports of a cell.
use Rattle.std.proofs.Common.{◌≡◌, ℕ, zero, suc, ◌<◌, ◌≤◌, Bool, true, false, cond, ◌||◌, not, List, [], ◌∷◌, ◌++◌, length, take, drop, map, Option, Some, None, refl, ap, ◌∙◌, sym, arith}
use Rattle.std.specs.Prelude.{is_some, is_none, IsTrue, Result, Ok, Err, IfOk, OnOk}
use Rattle.std.specs.List.{list_any}
use Rattle.std.specs.Option.{option_or}
use Rattle.std.specs.Str.{bytes_eq}
use Rattle.std.proofs.lemmas.List.{drop-append-le, drop_all, take_all, take-append-drop, length-append}
use Rattle.name_table.specs.Names.{value_of, HasAlso}
use Rattle.circuit_types.specs.declared.tree.PortConnect.{PortConnect}
use Rattle.rtlil_tree.specs.Names.{is_among, port_names}
use Rattle.rtlil_tree.specs.Inner.Seen.{HasOneMore, HaveSameNames}
use Rattle.rtlil_tree.specs.Inner.Reading.{late}

abbrev pub Table : Type 0
Table = List (List ℕ × Unit {0})

abbrev pub texts : Table → List (List ℕ)
texts table = map (λ p. p.0) table

some_cond : (b : Bool) (u : Unit {0}) (o : Option (Unit {0})) → is_some (cond b (Some u) o) ≡ (b || is_some o)
some_cond true u o = refl
some_cond false u o = refl

among_texts : (name : List ℕ) (table : Table) → is_some (value_of name table) ≡ is_among name (texts table)
among_texts name [] = refl
among_texts name (p ∷ ps) = some_cond (bytes_eq name p.0) p.1 (value_of name ps) ∙ ap (λ b. bytes_eq name p.0 || b) (among_texts name ps)

none_not_some : (o : Option (Unit {0})) → is_none o ≡ not (is_some o)
none_not_some None = refl
none_not_some (Some u) = refl

some_or : (b : Bool) (u : Unit {0}) (o : Option (Unit {0})) → is_some (option_or o (cond b (Some u) None)) ≡ (b || is_some o)
some_or true u None = refl
some_or false u None = refl
some_or true u (Some v) = refl
some_or false u (Some v) = refl

pub names_new : (name : List ℕ) (table : Table) (names : List (List ℕ)) (added : Bool) → texts table ≡ names → added ≡ is_none (value_of name table) → added ≡ not (is_among name names)
names_new name table names added is e = e ∙ (none_not_some (value_of name table) ∙ ap not (among_texts name table ∙ ap (is_among name) is))

pub names_more : (name : List ℕ) (table after : Table) (names : List (List ℕ)) → texts table ≡ names → HasAlso table after name tt → HasOneMore names (texts after) name
names_more name table after names is h = λ x.
    sym (among_texts x after)
    ∙ (ap is_some (h x) ∙ (some_or (bytes_eq x name) tt (value_of x table) ∙ ap (λ b. bytes_eq x name || b) (among_texts x table ∙ ap (is_among x) is)))

-- the ports of a cell

pub any_port : (port : List ℕ) (connects : List PortConnect) → list_any (λ (c : PortConnect). bytes_eq port c.port) connects ≡ is_among port (port_names connects)
any_port port [] = refl
any_port port (c ∷ cs) = ap (λ b. bytes_eq port c.port || b) (any_port port cs)

or_three : (a b c : Bool) → (a || (b || c)) ≡ ((a || b) || c)
or_three true b c = refl
or_three false b c = refl

among_both : (name : List ℕ) (xs ys : List (List ℕ)) → is_among name (xs ++ ys) ≡ (is_among name xs || is_among name ys)
among_both name [] ys = refl
among_both name (x ∷ xs) ys = ap (λ b. bytes_eq name x || b) (among_both name xs ys) ∙ or_three (bytes_eq name x) (is_among name xs) (is_among name ys)

or_none : (a b : Bool) → a ≡ false → (a || b) ≡ b
or_none true b h = cc
or_none false b h = refl

or_some : (a b : Bool) → a ≡ true → (a || b) ≡ true
or_some true b h = refl
or_some false b h = cc

swap : (a b : Bool) → (a || b) ≡ (b || a)
swap true true = refl
swap true false = refl
swap false true = refl
swap false false = refl

names_of_first : (n : ℕ) (connects : List PortConnect) → port_names (take n connects) ≡ take n (port_names connects)
names_of_first zero cs = refl
names_of_first (suc n) [] = refl
names_of_first (suc n) (c ∷ cs) = ap (λ v. c.port ∷ v) (names_of_first n cs)

-- the port is one of the first
pub port_seen : (port : List ℕ) (n : ℕ) (connects : List PortConnect) → is_among port (port_names (take n connects)) ≡ true → is_among port (port_names connects) ≡ true
port_seen port n cs h =
    ap (is_among port) (sym (take-append-drop n (port_names cs)))
    ∙ (among_both port (take n (port_names cs)) (drop n (port_names cs))
    ∙ or_some (is_among port (take n (port_names cs))) (is_among port (drop n (port_names cs))) (ap (is_among port) (sym (names_of_first n cs)) ∙ h))

-- the port is none of the first, and there are no others
pub port_unseen : (port : List ℕ) (n : ℕ) (connects : List PortConnect) → length connects ≤ n → is_among port (port_names (take n connects)) ≡ false → is_among port (port_names connects) ≡ false
port_unseen port n cs l h = ap (λ v. is_among port (port_names v)) (sym (take_all n cs l)) ∙ h

-- the port is none of the first, and one of the others if it is in the set
pub port_in_set : (port : List ℕ) (connects : List PortConnect) (ports : List (List ℕ)) → HaveSameNames ports (late (port_names connects)) → is_among port (port_names (take 8 connects)) ≡ false
    → is_among port ports ≡ is_among port (port_names connects)
port_in_set port cs ports same h =
    same port
    ∙ sym (ap (is_among port) (sym (take-append-drop 8 (port_names cs)))
    ∙ (among_both port (take 8 (port_names cs)) (drop 8 (port_names cs))
    ∙ or_none (is_among port (take 8 (port_names cs))) (is_among port (drop 8 (port_names cs))) (ap (is_among port) (sym (names_of_first 8 cs)) ∙ h)))

or_last : (b : Bool) → (b || false) ≡ b
or_last true = refl
or_last false = refl

-- one more port among the first, or behind them
pub early_port : (port : List ℕ) (names ports : List (List ℕ)) → length names < 8 → HaveSameNames ports (late names) → HaveSameNames ports (late (names ++ port ∷ []))
early_port port names ports l same = λ x.
    same x
    ∙ ap (is_among x) (drop_all 8 names (omega arith) ∙ sym (drop_all 8 (names ++ port ∷ []) (let more = length-append names (port ∷ []) in omega (arith, more))))

pub late_port : (port : List ℕ) (names ports after : List (List ℕ)) → 8 ≤ length names → HaveSameNames ports (late names) → HasOneMore ports after port → HaveSameNames after (late (names ++ port ∷ []))
late_port port names ports after l same more = λ x.
    more x
    ∙ (ap (λ b. bytes_eq x port || b) (same x)
    ∙ (swap (bytes_eq x port) (is_among x (late names))
    ∙ (ap (λ b. is_among x (late names) || b) (sym (or_last (bytes_eq x port)))
    ∙ (sym (among_both x (late names) (port ∷ [])) ∙ ap (is_among x) (sym (drop-append-le 8 names (port ∷ []) l))))))

pub port_count : (connects : List PortConnect) → length (port_names connects) ≡ length connects
port_count [] = refl
port_count (c ∷ cs) = ap (λ n. suc n) (port_count cs)

pub late_ports : {E : Type 0} (result : Result Bool E) (port : List ℕ) (names ports after : List (List ℕ)) → 8 ≤ length names → HaveSameNames ports (late names) → OnOk result (HasOneMore ports after port)
    → IfOk result (λ added. IsTrue added → HaveSameNames after (late (names ++ port ∷ [])))
late_ports (Ok added) port names ports after l same more = λ h. late_port port names ports after l same more
late_ports (Err e) port names ports after l same more = tt

-- What is read, by the cells and output wires, and what is wrong with it.
use Rattle.std.proofs.Common.{◌≡◌, ℕ, zero, suc, ◌+◌, ◌-◌, ◌<◌, ◌≤◌, Bool, true, false, cond, ◌⊎◌, inl, inr, ⊎_elim, List, [], ◌∷◌, ◌++◌, length, take, map, filter, get_or, Option, Some, None, refl, sym, ap, ◌∙◌, subst, arith, append_assoc}
use Rattle.std.specs.Prelude.{Contains}
use Rattle.std.specs.List.{flat_map, Any}
use Rattle.std.proofs.lemmas.List.{append-nil, map-append, take_more, take_all}
use Rattle.std.proofs.lemmas.List.Elements.{filter-append}
use Rattle.cell_kinds.specs.declared.kind.CellKind.{CellKind}
use Rattle.cell_kinds.specs.Names.{kind_named}
use Rattle.circuit_types.specs.Bits.{numbers}
use Rattle.circuit_types.specs.Due.{Cause, at_lines}
use Rattle.circuit_types.specs.Items.{kept_cells}
use Rattle.circuit_types.specs.Drives.{connect_of}
use Rattle.circuit_types.specs.Nets.{end_in, pin_of, net_cell, net_cell_of}
use Rattle.circuit_types.specs.Reads.{Read, letters, connect_reads, cell_reads, is_output, wire_reads, reads}
use Rattle.circuit_types.specs.declared.nets.NetCell.{NetCell}
use Rattle.circuit_types.specs.declared.nets.NetWire.{NetWire}
use Rattle.circuit_types.specs.declared.nets.Pin.{Pin}
use Rattle.circuit_types.specs.declared.nets.SignalBit.TheVariants.{Net}
use Rattle.circuit_types.specs.declared.nets.Source.{Source}
use Rattle.circuit_types.specs.declared.nets.Source.TheVariants as source
use Rattle.circuit_types.specs.declared.refusal.Refusal.{Refusal}
use Rattle.circuit_types.specs.declared.tree.Cell.{Cell}
use Rattle.circuit_types.specs.declared.tree.Item.{Item}
use Rattle.net_build.specs.Faults.{earlier_of, least_of, else_line}
use Rattle.net_build.specs.Form.{Decides}
use Rattle.net_build.specs.Reading.{is_missing, is_unknown, pin_lines, AreReadFaults}
use Rattle.net_build.specs.declared.reads.ReadFaults.{ReadFaults}
use Rattle.net_build.proofs.DueLemmas.{least_none, least_some, contains_first, contains_later, contains_cases}
use Rattle.net_build.proofs.EachLemmas.{Each, any_cases, any_none, any_first, any_later}
use Rattle.net_build.proofs.FaultLemmas.{least-append}

filter_both : {X : Type 0} (p : X → Bool) (xs ys : List X) → filter p (xs ++ ys) ≡ filter p xs ++ filter p ys
filter_both p xs ys = filter-append p xs ys

lines-append : (test : Source → Bool) (xs ys : List Pin) → pin_lines test (xs ++ ys) ≡ pin_lines test xs ++ pin_lines test ys
lines-append test xs ys =
    ap (map (λ (p : Pin). p.line)) (filter_both (λ (p : Pin). test p.source) xs ys) ∙ map-append (λ (p : Pin). p.line) (filter (λ p. test p.source) xs) (filter (λ p. test p.source) ys)

one_line : (b : Bool) (p : Pin) (o : Option ℕ) → cond b (earlier_of o (Some p.line)) o ≡ earlier_of o (least_of (map (λ (q : Pin). q.line) (cond b (p ∷ []) [])))
unfolding least_of
one_line true p o = refl
one_line false p None = refl
one_line false p (Some x) = refl

least_more : (test : Source → Bool) (pins : List Pin) (p : Pin) (b : Bool) (o r : Option ℕ) → test p.source ≡ b → o ≡ least_of (pin_lines test pins) → r ≡ cond b (earlier_of o (Some p.line)) o
    → r ≡ least_of (pin_lines test (pins ++ p ∷ []))
least_more test pins p b o r t e h =
    h ∙ (ap (λ v. cond v (earlier_of o (Some p.line)) o) (sym t)
    ∙ (one_line (test p.source) p o
    ∙ (ap (λ v. earlier_of v (least_of (pin_lines test (p ∷ [])))) e
    ∙ (sym (least-append (pin_lines test pins) (pin_lines test (p ∷ []))) ∙ ap least_of (sym (lines-append test pins (p ∷ [])))))))

-- one pin more
pub pin_more : (pins : List Pin) (p : Pin) (f r : ReadFaults) (m u : Bool) → is_missing p.source ≡ m → is_unknown p.source ≡ u
    → r.undriven ≡ cond m (earlier_of f.undriven (Some p.line)) f.undriven → r.unknown ≡ cond u (earlier_of f.unknown (Some p.line)) f.unknown
    → AreReadFaults pins f → AreReadFaults (pins ++ p ∷ []) r
pin_more pins p f r m u s t e h a = record {
  undriven = least_more is_missing pins p m f.undriven r.undriven s a.undriven e;
  unknown = least_more is_unknown pins p u f.unknown r.unknown t a.unknown h;
}

pub other_pin : (s : Source) → (s ≡ source.Missing → ⊥) → (s ≡ source.Unknown → ⊥) → (is_missing s ≡ false) × (is_unknown s ≡ false)
other_pin (source.Input k) n m = (refl, refl)
other_pin (source.Cell k) n m = (refl, refl)
other_pin source.Zero n m = (refl, refl)
other_pin source.One n m = (refl, refl)
other_pin source.Unknown n m = absurd (m refl)
other_pin source.Missing n m = absurd (n refl)

pub no_pins : (f : ReadFaults) → f.undriven ≡ None → f.unknown ≡ None → AreReadFaults [] f
unfolding least_of
no_pins f e h = record { undriven = e; unknown = h }

pub none_added : (pins : List Pin) (f : ReadFaults) → AreReadFaults pins f → AreReadFaults (pins ++ []) f
none_added pins f h = subst (λ v. AreReadFaults v f) (sym (append-nil pins)) h

-- one more of a list of pins
pub pins_more : (before pins : List Pin) (i : ℕ) (p : Pin) (f : ReadFaults) → i < length pins → p ≡ get_or pins i p → AreReadFaults ((before ++ take i pins) ++ p ∷ []) f
    → AreReadFaults (before ++ take (i + 1) pins) f
pins_more before pins i p f lt e h =
    subst (λ v. AreReadFaults v f)
    (append_assoc before (take i pins) (p ∷ []) ∙ ap (λ v. before ++ v) (sym (take_more pins i p lt ∙ ap (λ x. take i pins ++ x ∷ []) (sym e)))) h

pub flat-append : {X Y : Type 0} (f : X → List Y) (xs ys : List X) → flat_map f (xs ++ ys) ≡ flat_map f xs ++ flat_map f ys
flat-append f [] ys = refl
flat-append f (x ∷ xs) ys = ap (λ v. f x ++ v) (flat-append f xs ys) ∙ sym (append_assoc (f x) (flat_map f xs) (flat_map f ys))

pub flat_more : {X Y : Type 0} (f : X → List Y) (xs : List X) (i : ℕ) (x : X) → i < length xs → x ≡ get_or xs i x → flat_map f (take (i + 1) xs) ≡ flat_map f (take i xs) ++ f x
flat_more f xs i x lt e =
    ap (flat_map f) (take_more xs i x lt ∙ ap (λ y. take i xs ++ y ∷ []) (sym e)) ∙ (flat-append f (take i xs) (x ∷ []) ∙ ap (λ v. flat_map f (take i xs) ++ v) (append-nil (f x)))

-- the output wires so far, and one wire more
out_case : (sources : List Source) (w : NetWire) (b : Bool) → map (pin_of sources) (flat_map wire_reads (cond b (w ∷ []) [])) ≡ cond b (map (pin_of sources) (wire_reads w)) []
out_case sources w true = ap (map (pin_of sources)) (append-nil (wire_reads w))
out_case sources w false = refl

pub outputs_more : (sources : List Source) (ws : List NetWire) (i : ℕ) (w : NetWire) (b : Bool) → i < length ws → w ≡ get_or ws i w → is_output w.port ≡ b
    → map (pin_of sources) (flat_map wire_reads (filter (λ v. is_output v.port) (take (i + 1) ws)))
    ≡ map (pin_of sources) (flat_map wire_reads (filter (λ v. is_output v.port) (take i ws))) ++ cond b (map (pin_of sources) (wire_reads w)) []
outputs_more sources ws i w b lt e h =
    let f = λ (vs : List NetWire). map (pin_of sources) (flat_map wire_reads vs) in
    let out = λ (v : NetWire). is_output v.port in
    let one : f (cond (is_output w.port) (w ∷ []) []) ≡ cond b (map (pin_of sources) (wire_reads w)) [] = ap (λ v. f (cond v (w ∷ []) [])) h ∙ out_case sources w b in
    ap (λ vs. f (filter out vs)) (take_more ws i w lt ∙ ap (λ y. take i ws ++ y ∷ []) (sym e))
    ∙ (ap f (filter_both out (take i ws) (w ∷ []))
    ∙ (ap (map (pin_of sources)) (flat-append wire_reads (filter out (take i ws)) (filter out (w ∷ [])))
    ∙ (map-append (pin_of sources) (flat_map wire_reads (filter out (take i ws))) (flat_map wire_reads (filter out (w ∷ [])))
    ∙ ap (λ v. map (pin_of sources) (flat_map wire_reads (filter out (take i ws))) ++ v) one)))

-- the pins of the cells are what the cells read
no_reads : (ws : List NetWire) (sources : List Source) (c : Cell) (o : Option CellKind) → kind_named c.kind ≡ o
    → flat_map (λ (of : NetCell). of.pins) (net_cell_of ws sources c o) ≡ map (pin_of sources) (cell_reads ws c)
unfolding cell_reads
no_reads ws sources c None e = ap (λ v. map (pin_of sources) (flat_map (λ letter. connect_reads ws (connect_of c letter)) (letters v))) (sym e)
no_reads ws sources c (Some kind) e = append-nil (map (pin_of sources) (cell_reads ws c))

cell_pins : (ws : List NetWire) (sources : List Source) (c : Cell) → flat_map (λ (of : NetCell). of.pins) (net_cell ws sources c) ≡ map (pin_of sources) (cell_reads ws c)
unfolding net_cell
cell_pins ws sources c = no_reads ws sources c (kind_named c.kind) refl

all_pins : (ws : List NetWire) (sources : List Source) (cs : List Cell)
    → flat_map (λ (of : NetCell). of.pins) (flat_map (net_cell ws sources) cs) ≡ map (pin_of sources) (flat_map (cell_reads ws) cs)
all_pins ws sources [] = refl
all_pins ws sources (c ∷ cs) =
    flat-append (λ (of : NetCell). of.pins) (net_cell ws sources c) (flat_map (net_cell ws sources) cs)
    ∙ (ap (λ v. v ++ flat_map (λ (of : NetCell). of.pins) (flat_map (net_cell ws sources) cs)) (cell_pins ws sources c)
    ∙ (ap (λ v. map (pin_of sources) (cell_reads ws c) ++ v) (all_pins ws sources cs)
    ∙ sym (map-append (pin_of sources) (cell_reads ws c) (flat_map (cell_reads ws) cs))))

pub pins_are_reads : (ws : List NetWire) (sources : List Source) (items : List Item) (cells : List NetCell) → cells ≡ flat_map (net_cell ws sources) (kept_cells items)
    → flat_map (λ (of : NetCell). of.pins) cells ++ map (pin_of sources) (flat_map wire_reads (filter (λ w. is_output w.port) ws)) ≡ map (pin_of sources) (reads ws items)
unfolding reads
pins_are_reads ws sources items cells e =
    let outs = flat_map wire_reads (filter (λ w. is_output w.port) ws) in
    ap (λ v. flat_map (λ (of : NetCell). of.pins) v ++ map (pin_of sources) outs) e
    ∙ (ap (λ v. v ++ map (pin_of sources) outs) (all_pins ws sources (kept_cells items))
    ∙ sym (map-append (pin_of sources) (flat_map (cell_reads ws) (kept_cells items)) outs))

-- lines of reads by their ends
line_here : (b : Bool) (at line : ℕ) (p : Pin) (ps : List Pin) → b ≡ true → p.line ≡ at → at ≡ line → Contains (map (λ (q : Pin). q.line) (cond b (p ∷ ps) ps)) line
line_here true at line p ps e f g = subst (λ v. Contains (p.line ∷ map (λ (q : Pin). q.line) ps) v) (f ∙ g) (contains_first p.line (map (λ (q : Pin). q.line) ps))
line_here false at line p ps e f g = cc

line_later : (b : Bool) (line : ℕ) (p : Pin) (ps : List Pin) → Contains (map (λ (q : Pin). q.line) ps) line → Contains (map (λ (q : Pin). q.line) (cond b (p ∷ ps) ps)) line
line_later true line p ps c = contains_later p.line line (map (λ (q : Pin). q.line) ps) c
line_later false line p ps c = c

to_line : (sources : List Source) (test : Source → Bool) (P : Read → Type 0) (rs : List Read) (line : ℕ) → Each (λ r. P r → test (end_in sources r.bit) ≡ true) rs
    → Any (λ r. (r.line ≡ line) × P r) rs → Contains (pin_lines test (map (pin_of sources) rs)) line
to_line sources test P [] line h a = absurd (any_none (λ (r : Read). (r.line ≡ line) × P r) a)
to_line sources test P (r ∷ rs) line h a =
    ⊎_elim
    (λ p. line_here (test (end_in sources r.bit)) r.line line (pin_of sources r) (filter (λ q. test q.source) (map (pin_of sources) rs)) (h.0 p.1) refl p.0)
    (λ b. line_later (test (end_in sources r.bit)) line (pin_of sources r) (filter (λ q. test q.source) (map (pin_of sources) rs)) (to_line sources test P rs line h.1 b))
    (any_cases (λ (r : Read). (r.line ≡ line) × P r) r rs a)

from_case : (b : Bool) (line : ℕ) (p : Pin) (ps : List Pin) → Contains (map (λ (q : Pin). q.line) (cond b (p ∷ ps) ps)) line
    → ((b ≡ true) × (p.line ≡ line)) ⊎ Contains (map (λ (q : Pin). q.line) ps) line
from_case true line p ps c = ⊎_elim (λ e. inl (refl, e)) (λ d. inr d) (contains_cases p.line line (map (λ (q : Pin). q.line) ps) c.0 c.1 c.2)
from_case false line p ps c = inr c

from_line : (sources : List Source) (test : Source → Bool) (P : Read → Type 0) (rs : List Read) (line : ℕ) → Each (λ r. test (end_in sources r.bit) ≡ true → P r) rs
    → Contains (pin_lines test (map (pin_of sources) rs)) line → Any (λ r. (r.line ≡ line) × P r) rs
from_line sources test P [] line h c = absurd (omega (arith, c.1))
from_line sources test P (r ∷ rs) line h c =
    ⊎_elim
    (λ e. any_first (λ (r : Read). (r.line ≡ line) × P r) r rs (e.1, h.0 e.0))
    (λ d. any_later (λ (r : Read). (r.line ≡ line) × P r) r rs (from_line sources test P rs line h.1 d))
    (from_case (test (end_in sources r.bit)) line (pin_of sources r) (filter (λ q. test q.source) (map (pin_of sources) rs)) c)

-- a cause that holds at these lines and at no others
lines_decide : (refusal : ℕ → Refusal) (holds : ℕ → Type 0) (xs : List ℕ) (o : Option ℕ) → ((line : ℕ) → holds line → Contains xs line) → ((line : ℕ) → Contains xs line → holds line)
    → o ≡ least_of xs → (rest : Option Refusal) (causes : List Cause) → Decides rest causes → Decides (else_line refusal o rest) (at_lines refusal holds ∷ causes)
lines_decide refusal holds xs None to from e None causes d = ((λ line h. least_none xs (sym e) line (to line h)), d)
lines_decide refusal holds xs None to from e (Some r) causes d = inr ((λ line h. least_none xs (sym e) line (to line h)), d)
lines_decide refusal holds xs (Some l) to from e rest causes d =
    let s = least_some xs l (sym e) in inl (l, record { here = from l s.here; least = λ other h. s.least other (to other h) }, refl)

pub reads_decide : (refusal : ℕ → Refusal) (sources : List Source) (test : Source → Bool) (P : Read → Type 0) (rs : List Read) (o : Option ℕ)
    → Each (λ r. P r → test (end_in sources r.bit) ≡ true) rs → Each (λ r. test (end_in sources r.bit) ≡ true → P r) rs
    → o ≡ least_of (pin_lines test (map (pin_of sources) rs)) → (rest : Option Refusal) (causes : List Cause) → Decides rest causes
    → Decides (else_line refusal o rest) (at_lines refusal (λ l. Any (λ r. (r.line ≡ l) × P r) rs) ∷ causes)
reads_decide refusal sources test P rs o to from e rest causes d =
    lines_decide refusal (λ l. Any (λ r. (r.line ≡ l) × P r) rs) (pin_lines test (map (pin_of sources) rs)) o
    (λ line h. to_line sources test P rs line to h) (λ line c. from_line sources test P rs line from c) e rest causes d

-- which ends are missing, and which unknown
pub missing_is : (s : Source) → is_missing s ≡ true → s ≡ source.Missing
missing_is (source.Input k) e = cc
missing_is (source.Cell k) e = cc
missing_is source.Zero e = cc
missing_is source.One e = cc
missing_is source.Unknown e = cc
missing_is source.Missing e = refl

pub unknown_is : (s : Source) → is_unknown s ≡ true → s ≡ source.Unknown
unknown_is (source.Input k) e = cc
unknown_is (source.Cell k) e = cc
unknown_is source.Zero e = cc
unknown_is source.One e = cc
unknown_is source.Unknown e = refl
unknown_is source.Missing e = cc

-- an output wire's pins are added, another's are not
pub output_added : (earlier pins : List Pin) (b : Bool) (f : ReadFaults) → b ≡ true → AreReadFaults (earlier ++ pins) f → AreReadFaults (earlier ++ cond b pins []) f
output_added earlier pins true f e h = h
output_added earlier pins false f e h = cc

pub none_output_added : (earlier pins : List Pin) (b : Bool) (f : ReadFaults) → b ≡ false → AreReadFaults earlier f → AreReadFaults (earlier ++ cond b pins []) f
none_output_added earlier pins true f e h = cc
none_output_added earlier pins false f e h = none_added earlier f h

-- what is read of the first bits of a wire
abbrev pub wire_pins : List Source → NetWire → ℕ → List Pin
wire_pins sources w n = map (pin_of sources) (map (λ k. let r : Read = record { line = w.line; bit = Net k } in r) (numbers w.first n))

numbers_push : (a n : ℕ) → numbers a (n + 1) ≡ numbers a n ++ (a + n) ∷ []
numbers_push a zero = (let z : a ≡ a + 0 = omega arith in ap (λ v. v ∷ []) z)
numbers_push a (suc n) =
    ap (numbers a) (let z : suc n + 1 ≡ suc (n + 1) = omega arith in z) ∙ ap (λ v. a ∷ v) (numbers_push (a + 1) n) ∙ ap (λ v. a ∷ (numbers (a + 1) n ++ v ∷ [])) (let z : a + 1 + n ≡ a + suc n = omega arith in z)

pub wire_pins_none : (sources : List Source) (w : NetWire) (bit : ℕ) (earlier : List Pin) (f : ReadFaults) → bit ≡ w.first → AreReadFaults earlier f
    → AreReadFaults (earlier ++ wire_pins sources w (bit - w.first)) f
wire_pins_none sources w bit earlier f e h =
    subst (λ n. AreReadFaults (earlier ++ wire_pins sources w n) f) (let z : 0 ≡ bit - w.first = omega (arith, e) in z) (none_added earlier f h)

pub wire_pins_more : (sources : List Source) (w : NetWire) (bit : ℕ) (earlier : List Pin) (s : Source) (f : ReadFaults) → w.first ≤ bit → s ≡ end_in sources (Net bit)
    → AreReadFaults ((earlier ++ wire_pins sources w (bit - w.first)) ++ record { line = w.line; source = s } ∷ []) f
    → AreReadFaults (earlier ++ wire_pins sources w (bit + 1 - w.first)) f
wire_pins_more sources w bit earlier s f h e a =
    let n = bit - w.first in
    let read : ℕ → Read = λ k. record { line = w.line; bit = Net k } in
    let pin : ℕ → Pin = λ k. pin_of sources (read k) in
    let same : w.first + n ≡ bit = omega (arith, h) in
    let size : n + 1 ≡ bit + 1 - w.first = omega (arith, h) in
    let last : pin (w.first + n) ≡ record { line = w.line; source = s } = ap pin same ∙ ap (λ v. let p : Pin = record { line = w.line; source = v } in p) (sym e) in
    let more : wire_pins sources w (n + 1) ≡ wire_pins sources w n ++ record { line = w.line; source = s } ∷ []
    = ap (λ v. map (pin_of sources) (map read v)) (numbers_push w.first n)
    ∙ (ap (map (pin_of sources)) (map-append read (numbers w.first n) ((w.first + n) ∷ []))
    ∙ (map-append (pin_of sources) (map read (numbers w.first n)) (read (w.first + n) ∷ []) ∙ ap (λ v. wire_pins sources w n ++ v ∷ []) last)) in
    subst (λ m. AreReadFaults (earlier ++ wire_pins sources w m) f) size
    (subst (λ v. AreReadFaults v f) (append_assoc earlier (wire_pins sources w n) (record { line = w.line; source = s } ∷ []) ∙ ap (λ v. earlier ++ v) (sym more)) a)

pub wire_pins_all : (sources : List Source) (w : NetWire) (bit : ℕ) (earlier : List Pin) (f : ReadFaults) → bit ≡ w.first + w.width
    → AreReadFaults (earlier ++ wire_pins sources w (bit - w.first)) f → AreReadFaults (earlier ++ map (pin_of sources) (wire_reads w)) f
wire_pins_all sources w bit earlier f e h =
    subst (λ n. AreReadFaults (earlier ++ wire_pins sources w n) f) (let z : bit - w.first ≡ w.width = omega (arith, e) in z) h

-- the pins of cells so far, and one cell more
pub cell_pins_more : (cells : List NetCell) (i : ℕ) (c : NetCell) (ps : List Pin) (f : ReadFaults) → i < length cells → c ≡ get_or cells i c → ps ≡ c.pins
    → AreReadFaults (flat_map (λ (of : NetCell). of.pins) (take i cells) ++ ps) f → AreReadFaults (flat_map (λ (of : NetCell). of.pins) (take (i + 1) cells)) f
cell_pins_more cells i c ps f lt e p h =
    subst (λ v. AreReadFaults v f)
    (ap (λ v. flat_map (λ (of : NetCell). of.pins) (take i cells) ++ v) p ∙ sym (flat_more (λ (of : NetCell). of.pins) cells i c lt e)) h

pub cell_pins_all : (cells : List NetCell) (i : ℕ) (ps : List Pin) (f : ReadFaults) → length cells ≤ i
    → AreReadFaults (flat_map (λ (of : NetCell). of.pins) (take i cells) ++ ps) f → AreReadFaults (flat_map (λ (of : NetCell). of.pins) cells ++ ps) f
cell_pins_all cells i ps f h a = subst (λ v. AreReadFaults (flat_map (λ (of : NetCell). of.pins) v ++ ps) f) (take_all i cells h) a

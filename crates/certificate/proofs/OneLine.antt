-- At most one line comes first, and one begins at a place.
use Rattle.std.proofs.Common.{◌≡◌, ℕ, ◌+◌, ◌-◌, ◌<◌, ◌≤◌, ◌^◌, List, [], ◌∷◌, ◌++◌, length, drop, take, get_or, codes, refl, sym, ap, ◌∙◌, subst, arith, append_assoc, append-nil, length-append, length-drop, Option, Some, None}
use Rattle.std.specs.Borrow.{Bor}
use Rattle.std.specs.Option.{MatchOption}
use Rattle.std.proofs.lemmas.List.{drop_at, drop-drop}
use Rattle.expr_table.specs.declared.instance.Notion.{Notion}
use Rattle.circuit_types.specs.declared.probes.Model.{Model}
use Rattle.certificate.specs.declared.line.Line.{Line}
use Rattle.certificate.specs.declared.line.Line.TheVariants.{Title, Run, Counts, Hull, Cuts, End}
use Rattle.certificate.specs.Lines.{line_text, StandsAt, HasNoLineAt}
use Rattle.certificate.specs.Parts.{LineFirst}
use Rattle.certificate.proofs.Numerals.{same_number, SameNumber}
use Rattle.certificate.proofs.NumberLists.{same_list, SameList}
use Rattle.certificate.proofs.LineForms.{title_parts, end_parts, hull_parts, cuts_parts, same_run, SameRun, same_counts, SameCounts}

-- the first byte of a line tells its form
abbrev head_of : Line → ℕ
head_of (Title version) = 109
head_of (Run notion order model) = 110
head_of (Counts probes rows tuples) = 112
head_of (Hull members) = 104
head_of (Cuts rows) = 99
head_of (End number) = 101

head_is : (line : Line) (rest : List ℕ) → get_or (line_text line ++ rest) 0 0 ≡ head_of line
unfolding line_text
head_is (Title version) rest = refl
head_is (Run notion order model) rest = refl
head_is (Counts probes rows tuples) rest = refl
head_is (Hull members) rest = refl
head_is (Cuts rows) rest = refl
head_is (End number) rest = refl

same_head : (bytes : List ℕ) (line other : Line) (rest more : List ℕ) → LineFirst bytes line rest → LineFirst bytes other more → head_of line ≡ head_of other
same_head bytes line other rest more h g =
    sym (head_is line rest) ∙ ap (λ s. get_or s 0 0) (sym h.text ∙ g.text) ∙ head_is other more

-- a line has at least one byte
pub some_text : (line : Line) → 0 < length (line_text line)
unfolding line_text
some_text (Title version) = omega arith
some_text (Run notion order model) = omega arith
some_text (Counts probes rows tuples) = omega arith
some_text (Hull members) = omega arith
some_text (Cuts rows) = omega arith
some_text (End number) = omega arith

pub record SameLine (l k : Line) (rest more : List ℕ) : Type 0 where
  pub line : l ≡ k
  pub left : rest ≡ more

tails : (rest more : List ℕ) → codes "\n" ++ rest ≡ codes "\n" ++ more → rest ≡ more
tails rest more e = cc

pub same_line : (bytes : List ℕ) (line other : Line) (rest more : List ℕ) → LineFirst bytes line rest → LineFirst bytes other more → SameLine line other rest more
same_line bytes (Title n) (Title m) rest more h g =
    let same : SameNumber n m (codes "\n" ++ rest) (codes "\n" ++ more) =
    same_number (2 ^ 32) (2 ^ 32) (codes "maskverif certificate ") bytes n m _ _ (omega arith) (omega arith) (title_parts bytes n rest h) (title_parts bytes m more g) in
    record { line = ap Title same.number; left = tails rest more same.left }
same_line bytes (Title n) other rest more h g = absurd (omega (arith, same_head bytes (Title n) other rest more h g))
same_line bytes (Run n p m) (Run o q l) rest more h g =
    let same : SameRun n o p q m l rest more = same_run bytes n o p q m l rest more h g in
    let notion : n ≡ o = same.notion in
    let order : p ≡ q = same.order in
    let model : m ≡ l = same.model in
    record { line = cc; left = tails rest more same.left }
same_line bytes (Run n p m) other rest more h g = absurd (omega (arith, same_head bytes (Run n p m) other rest more h g))
same_line bytes (Counts p r t) (Counts q s u) rest more h g =
    let same : SameCounts p q r s t u rest more = same_counts bytes p q r s t u rest more h g in
    let probes : p ≡ q = same.probes in
    let rows : r ≡ s = same.rows in
    let tuples : t ≡ u = same.tuples in
    record { line = cc; left = tails rest more same.left }
same_line bytes (Counts p r t) other rest more h g = absurd (omega (arith, same_head bytes (Counts p r t) other rest more h g))
same_line bytes (Hull ms) (Hull ns) rest more h g =
    let same : SameList ms ns rest more = same_list (codes "hull") bytes ms rest ns more (hull_parts bytes ms rest h) (hull_parts bytes ns more g) in
    record { line = ap Hull same.numbers; left = same.left }
same_line bytes (Hull ms) other rest more h g = absurd (omega (arith, same_head bytes (Hull ms) other rest more h g))
same_line bytes (Cuts ms) (Cuts ns) rest more h g =
    let same : SameList ms ns rest more = same_list (codes "cuts") bytes ms rest ns more (cuts_parts bytes ms rest h) (cuts_parts bytes ns more g) in
    record { line = ap Cuts same.numbers; left = same.left }
same_line bytes (Cuts ms) other rest more h g = absurd (omega (arith, same_head bytes (Cuts ms) other rest more h g))
same_line bytes (End n) (End m) rest more h g =
    let same : SameNumber n m (codes "\n" ++ rest) (codes "\n" ++ more) =
    same_number (2 ^ 64) (2 ^ 64) (codes "end ") bytes n m _ _ (omega arith) (omega arith) (end_parts bytes n rest h) (end_parts bytes m more g) in
    record { line = ap End same.number; left = tails rest more same.left }
same_line bytes (End n) other rest more h g = absurd (omega (arith, same_head bytes (End n) other rest more h g))

-- ---- at a place

pub first_at : (bytes : List ℕ) (place : ℕ) (line : Line) (after : ℕ) → StandsAt bytes place line after → LineFirst (drop place bytes) line (drop after bytes)
first_at bytes place line after h = record { form = h.form; text = h.text }

pub same_at : (bytes : List ℕ) (place : ℕ) (line other : Line) (after behind : ℕ) → StandsAt bytes place line after → StandsAt bytes place other behind → (line ≡ other) × (after ≡ behind)
same_at bytes place line other after behind h g =
    let same : SameLine line other (drop after bytes) (drop behind bytes) =
    same_line (drop place bytes) line other _ _ (first_at bytes place line after h) (first_at bytes place other behind g) in
    (same.line, h.size ∙ ap (λ l. place + length (line_text l)) same.line ∙ sym g.size)

-- what comes first behind a place begins there, and ends where as much is left
sizes : (bytes : List ℕ) (place : ℕ) (line : Line) (rest : List ℕ) → LineFirst (drop place bytes) line rest → length bytes - place ≡ length (line_text line) + length rest
sizes bytes place line rest h = sym (length-drop place bytes) ∙ ap length h.text ∙ length-append (line_text line) rest

pub rest_within : (bytes : List ℕ) (place : ℕ) (line : Line) (rest : List ℕ) → LineFirst (drop place bytes) line rest → length rest ≤ length bytes
rest_within bytes place line rest h = omega (arith, sizes bytes place line rest h)

pub stands_at : (bytes : List ℕ) (place : ℕ) (line : Line) (rest : List ℕ) (after : ℕ) → place ≤ length bytes → LineFirst (drop place bytes) line rest → after + length rest ≡ length bytes
    → StandsAt bytes place line after
stands_at bytes place line rest after within h ends =
    let size : after ≡ place + length (line_text line) = omega (arith, sizes bytes place line rest h) in
    let left : drop after bytes ≡ rest =
    ap (λ n. drop n bytes) size ∙ sym (drop-drop (length (line_text line)) place bytes) ∙ ap (drop (length (line_text line))) h.text
    ∙ drop_at (line_text line) rest (length (line_text line)) refl in
    record {
      form = h.form;
      text = h.text ∙ ap (λ s. line_text line ++ s) (sym left);
      size = size;
    }

pub no_line_at : (bytes : List ℕ) (place : ℕ) → ((line : Line) (rest : List ℕ) → LineFirst (drop place bytes) line rest → ⊥) → HasNoLineAt bytes place
no_line_at bytes place none = λ line after h. none line _ (first_at bytes place line after h)

-- no line comes first where none of any form does
pub no_line : (bytes : List ℕ)
    → ((version : ℕ) (rest : List ℕ) → LineFirst bytes (Title version) rest → ⊥)
    → ((notion : Notion) (order : ℕ) (model : Model) (rest : List ℕ) → LineFirst bytes (Run notion order model) rest → ⊥)
    → ((probes rows tuples : ℕ) (rest : List ℕ) → LineFirst bytes (Counts probes rows tuples) rest → ⊥)
    → ((members rest : List ℕ) → LineFirst bytes (Hull members) rest → ⊥)
    → ((rows rest : List ℕ) → LineFirst bytes (Cuts rows) rest → ⊥)
    → ((number : ℕ) (rest : List ℕ) → LineFirst bytes (End number) rest → ⊥)
    → (line : Line) (rest : List ℕ) → LineFirst bytes line rest → ⊥
no_line bytes title run counts hull cuts end = λ line rest h. by_form line rest h
  where
    by_form : (line : Line) (rest : List ℕ) → LineFirst bytes line rest → ⊥
    by_form (Title version) rest h = title version rest h
    by_form (Run notion order model) rest h = run notion order model rest h
    by_form (Counts probes rows tuples) rest h = counts probes rows tuples rest h
    by_form (Hull members) rest h = hull members rest h
    by_form (Cuts rows) rest h = cuts rows rest h
    by_form (End number) rest h = end number rest h

-- the last form that is tried
pub last_form : (bytes : List ℕ) (r : Option (Line × Bor (List ℕ)))
    → ((version : ℕ) (rest : List ℕ) → LineFirst bytes (Title version) rest → ⊥)
    → ((notion : Notion) (order : ℕ) (model : Model) (rest : List ℕ) → LineFirst bytes (Run notion order model) rest → ⊥)
    → ((members rest : List ℕ) → LineFirst bytes (Hull members) rest → ⊥)
    → ((rows rest : List ℕ) → LineFirst bytes (Cuts rows) rest → ⊥)
    → ((number : ℕ) (rest : List ℕ) → LineFirst bytes (End number) rest → ⊥)
    → MatchOption r ((probes rows tuples : ℕ) (rest : List ℕ) → LineFirst bytes (Counts probes rows tuples) rest → ⊥)
    (λ (found : Line × Bor (List ℕ)). LineFirst bytes found.0 found.1.now)
    → MatchOption r ((line : Line) (rest : List ℕ) → LineFirst bytes line rest → ⊥) (λ (found : Line × Bor (List ℕ)). LineFirst bytes found.0 found.1.now)
last_form bytes None title run hull cuts end counts = no_line bytes title run counts hull cuts end
last_form bytes (Some found) title run hull cuts end counts = counts

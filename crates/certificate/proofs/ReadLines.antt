-- Lines that were read, and the fault of a line that does not fit.
use Rattle.std.proofs.Common.{◌≡◌, ◌≢◌, ℕ, zero, suc, ◌+◌, ◌-◌, ◌<◌, ◌≤◌, Bool, true, false, List, [], ◌∷◌, ◌++◌, length, drop, Option, Some, None, Result, Ok, Err, MatchResult, refl, sym, ap, ◌∙◌, subst, arith, append_assoc, append-nil, length-append, length-drop}
use Rattle.std.specs.Prelude.{IsTrue}
use Rattle.std.specs.List.{flat_map, AllByRecursion}
use Rattle.std.proofs.lemmas.Bool.{false≢true, eqb-true}
use Rattle.std.proofs.lemmas.List.Concat.{flat_map-append}
use Rattle.std.proofs.lemmas.List.{drop_all}
use Rattle.expr_table.specs.declared.instance.Notion.{Notion}
use Rattle.circuit_types.specs.declared.probes.Model.{Model}
use Rattle.certificate.specs.declared.entries.Header.{Header}
use Rattle.certificate.specs.declared.entries.Entry.{Entry}
use Rattle.certificate.specs.declared.line.Line.{Line}
use Rattle.certificate.specs.declared.line.Line.TheVariants.{Title, Run, Counts, Hull, Cuts, End}
use Rattle.certificate.specs.declared.fault.Why.{Why}
use Rattle.certificate.specs.declared.fault.Why.TheVariants as why
use Rattle.certificate.specs.declared.fault.ReadBad.{ReadBad}
use Rattle.certificate.specs.declared.fault.ReadBad.TheVariants.{Bad, NoMemory}
use Rattle.certificate.specs.Lines.{line_text, IsLine, StandsAt, HasNoLineAt}
use Rattle.certificate.specs.Certificates.{header_lines, entry_lines, lines_saying, lines_of, text_of, BeginsWith, IsCertificate, MayFollow, IsOutOfForm, IsFault, HasFault}
use Rattle.certificate.specs.Reading.{HasRead, ReadsOne, HasNoDue, IsMisfit, SaysOther, IsWrongEnd, hull_or_end, is_any, is_title, is_run, is_counts, is_hull_or_end, is_cuts}
use Rattle.certificate.specs.Parts.{LineFirst}
use Rattle.certificate.proofs.OneLine.{same_at, some_text, stands_at, rest_within}
use Rattle.certificate.proofs.Following.{entry_of, lines_are, follow_nothing, follow_title, follow_run, follow_entries, follow_hull, due_nothing, due_title, due_run, due_entries, due_hull}

-- ---- reading on

forms_more : (lines : List Line) (line : Line) → AllByRecursion IsLine lines → IsLine line → AllByRecursion IsLine (lines ++ line ∷ [])
forms_more [] line h one = (one, tt)
forms_more (l ∷ ls) line h one = (h.0, forms_more ls line h.1 one)

text_more : (lines : List Line) (line : Line) → text_of (lines ++ line ∷ []) ≡ text_of lines ++ line_text line
text_more lines line = flat_map-append line_text lines (line ∷ []) ∙ ap (λ s. text_of lines ++ s) (append-nil (line_text line))

begins_more : (bytes : List ℕ) (place : ℕ) (lines : List Line) (line : Line) (after : ℕ) → BeginsWith bytes lines (drop place bytes) → StandsAt bytes place line after → BeginsWith bytes (lines ++ line ∷ []) (drop after bytes)
begins_more bytes place lines line after h one = record {
  forms = forms_more lines line h.forms one.form;
  text = h.text ∙ ap (λ s. text_of lines ++ s) one.text ∙ sym (append_assoc (text_of lines) (line_text line) (drop after bytes))
      ∙ ap (λ s. s ++ drop after bytes) (sym (text_more lines line));
}

pub reads_more : (bytes : List ℕ) (place number : ℕ) (lines : List Line) (line : Line) (after next : ℕ) → HasRead bytes place number lines → ReadsOne bytes place number line after next
    → HasRead bytes after next (lines ++ line ∷ [])
reads_more bytes place number lines line after next h one = record {
  begins = begins_more bytes place lines line after h.begins one.stands;
  counted = omega (arith, h.counted, one.counted, length-append lines (line ∷ []));
}

-- a line moves the place on
pub stands_on : (bytes : List ℕ) (place : ℕ) (line : Line) (after : ℕ) → StandsAt bytes place line after → place < after
stands_on bytes place line after h = omega (arith, h.size, some_text line)

pub reads_on : (bytes : List ℕ) (place number : ℕ) (line : Line) (after next : ℕ) → ReadsOne bytes place number line after next → place < after
reads_on bytes place number line after next h = omega (arith, h.stands.size, some_text line)

pub stands_within : (bytes : List ℕ) (place : ℕ) (line : Line) (after : ℕ) → StandsAt bytes place line after → after ≤ length bytes
stands_within bytes place line after h =
    let sizes : length bytes - place ≡ length (line_text line) + (length bytes - after) =
    sym (length-drop place bytes) ∙ ap length h.text ∙ length-append (line_text line) (drop after bytes) ∙ ap (λ n. length (line_text line) + n) (length-drop after bytes) in
    omega (arith, h.size, some_text line)

-- ---- what does not fit

-- the line that stands there is not due, so none that is due does
pub not_due : (is_due : Line → Bool) (bytes : List ℕ) (place : ℕ) (line : Line) (after : ℕ) → StandsAt bytes place line after → (IsTrue (is_due line) → ⊥) → HasNoDue is_due bytes place
not_due is_due bytes place line after h not = λ other behind due g.
    not (subst (λ (l : Line). IsTrue (is_due l)) (same_at bytes place other line behind after g h).0 due)

pub none_stands : (bytes : List ℕ) (place : ℕ) → HasNoLineAt bytes place → HasNoDue is_any bytes place
none_stands bytes place none = λ line after due h. none line after h

pub none_due : (is_due : Line → Bool) (bytes : List ℕ) (place number : ℕ) (bad : ReadBad) → IsMisfit is_any bytes place number bad → IsMisfit is_due bytes place number bad
none_due is_due bytes place number (Bad line reason) h = (h.0, h.1, λ other after due g. h.2 other after refl g)
none_due is_due bytes place number NoMemory h = tt

pub misfit : (is_due : Line → Bool) (bytes : List ℕ) (place number : ℕ) (line : Line) (after next : ℕ) → ReadsOne bytes place number line after next → (IsTrue (is_due line) → ⊥)
    → IsMisfit is_due bytes place number (Bad next why.Form)
misfit is_due bytes place number line after next h not = (h.counted, refl, not_due is_due bytes place line after h.stands not)

-- a misfit is a fault of the bytes
none_begins : (is_due : Line → Bool) (bytes : List ℕ) (place : ℕ) (before : List Line) → HasNoDue is_due bytes place → ((line : Line) → MayFollow before line → IsTrue (is_due line))
    → place ≤ length bytes → (line : Line) (after : List ℕ) → MayFollow before line → BeginsWith (drop place bytes) (line ∷ []) after → ⊥
none_begins is_due bytes place before none follow within line after may h =
    let first : LineFirst (drop place bytes) line after = record { form = h.forms.0; text = h.text ∙ ap (λ s. s ++ after) (append-nil (line_text line)) } in
    none line (length bytes - length after) (follow line may)
    (stands_at bytes place line after (length bytes - length after) within first (omega (arith, rest_within bytes place line after first)))

pub misfit_fault : (is_due : Line → Bool) (bytes : List ℕ) (place number : ℕ) (before : List Line) (bad : ReadBad) → place ≤ length bytes → HasRead bytes place number before
    → (line : Line) × MayFollow before line → ((line : Line) → MayFollow before line → IsTrue (is_due line)) → IsMisfit is_due bytes place number bad → HasFault bytes bad
misfit_fault is_due bytes place number before (Bad line reason) within h due follow fault =
    subst (λ (w : Why). IsFault bytes line w) (sym fault.1) (record {
      before = before;
      rest = drop place bytes;
      begins = h.begins;
      due = due;
      none = none_begins is_due bytes place before fault.2 follow within;
      at = omega (arith, fault.0, h.counted);
    })
misfit_fault is_due bytes place number before NoMemory within h due follow fault = tt

-- ---- the header

-- lines go on in the bytes that they began in
pub reads_in : (bytes b : List ℕ) (place number : ℕ) (lines : List Line) (line : Line) (after next : ℕ) → b ≡ bytes → HasRead bytes place number lines
    → ReadsOne b place number line after next → HasRead bytes after next (lines ++ line ∷ [])
reads_in bytes b place number lines line after next same h one =
    reads_more bytes place number lines line after next h (subst (λ (s : List ℕ). ReadsOne s place number line after next) same one)

misfit_in : (is_due : Line → Bool) (bytes b : List ℕ) (place number : ℕ) (bad : ReadBad) → b ≡ bytes → IsMisfit is_due b place number bad → IsMisfit is_due bytes place number bad
misfit_in is_due bytes b place number bad same h = subst (λ (s : List ℕ). IsMisfit is_due s place number bad) same h

none_read : (bytes : List ℕ) (place number : ℕ) → place ≡ 0 → number ≡ 0 → HasRead bytes place number []
none_read bytes place number start none = record {
  begins = record { forms = tt; text = ap (λ (n : ℕ). drop n bytes) (sym start) };
  counted = none;
}

pub title_fault : (bytes : List ℕ) (place number : ℕ) (bad : ReadBad) → place ≡ 0 → number ≡ 0 → IsMisfit is_title bytes place number bad → HasFault bytes bad
title_fault bytes place number bad start none h =
    misfit_fault is_title bytes place number [] bad (omega arith) (none_read bytes place number start none) due_nothing follow_nothing h

pub title_read : (bytes : List ℕ) (place number after next : ℕ) → place ≡ 0 → number ≡ 0 → ReadsOne bytes place number (Title 1) after next → HasRead bytes after next (Title 1 ∷ [])
title_read bytes place number after next start none one =
    reads_more bytes place number [] (Title 1) after next (none_read bytes place number start none) one

pub run_fault : (bytes b : List ℕ) (place number : ℕ) (bad : ReadBad) → b ≡ bytes → place ≤ length b → HasRead bytes place number (Title 1 ∷ []) → IsMisfit is_run b place number bad
    → HasFault bytes bad
run_fault bytes b place number bad same within h fault =
    misfit_fault is_run bytes place number (Title 1 ∷ []) bad (omega (arith, ap length same)) h due_title follow_title
    (misfit_in is_run bytes b place number bad same fault)

-- the header but for its last line
abbrev pub two_lines : Notion → ℕ → Model → List Line
two_lines notion order model = Title 1 ∷ Run notion order model ∷ []

abbrev some_after : Notion → ℕ → Model → Header
some_after n o m = record { notion = n; order = o; model = m; probes = 0; rows = 0; tuples = 0 }

pub counts_fault : (bytes b : List ℕ) (place number : ℕ) (notion : Notion) (order : ℕ) (model : Model) (bad : ReadBad) → b ≡ bytes → place ≤ length b
    → HasRead bytes place number (two_lines notion order model) → IsMisfit is_counts b place number bad → HasFault bytes bad
counts_fault bytes b place number notion order model bad same within h fault =
    misfit_fault is_counts bytes place number (two_lines notion order model) bad (omega (arith, ap length same)) h
    (due_run (some_after notion order model)) (follow_run (some_after notion order model)) (misfit_in is_counts bytes b place number bad same fault)

-- ---- the entries

-- the header and these entries were read
abbrev pub HasEntries : List ℕ → ℕ → ℕ → Header → List Entry → Type 0
HasEntries bytes place number header entries = HasRead bytes place number (header_lines header ++ flat_map entry_lines entries)

pub hull_read : (bytes : List ℕ) (place number : ℕ) (header : Header) (entries : List Entry) (members : List ℕ) (after next : ℕ) → HasEntries bytes place number header entries
    → ReadsOne bytes place number (Hull members) after next → HasRead bytes after next (header_lines header ++ (flat_map entry_lines entries ++ Hull members ∷ []))
hull_read bytes place number header entries members after next h one = reads_more bytes place number (header_lines header ++ flat_map entry_lines entries) (Hull members) after next h one

pub entry_read : (bytes : List ℕ) (place number : ℕ) (header : Header) (entries : List Entry) (hull cuts : List ℕ) (after next : ℕ)
    → HasRead bytes place number (header_lines header ++ (flat_map entry_lines entries ++ Hull hull ∷ [])) → ReadsOne bytes place number (Cuts cuts) after next
    → HasEntries bytes after next header (entries ++ entry_of hull cuts ∷ [])
entry_read bytes place number header entries hull cuts after next h one =
    subst (λ (ls : List Line). HasRead bytes after next (header_lines header ++ ls)) all
    (reads_more bytes place number (header_lines header ++ (flat_map entry_lines entries ++ Hull hull ∷ [])) (Cuts cuts) after next h one)
  where
    all : (flat_map entry_lines entries ++ Hull hull ∷ []) ++ Cuts cuts ∷ [] ≡ flat_map entry_lines (entries ++ entry_of hull cuts ∷ [])
    all = append_assoc (flat_map entry_lines entries) (Hull hull ∷ []) (Cuts cuts ∷ []) ∙ sym (flat_map-append entry_lines entries (entry_of hull cuts ∷ []))

pub cuts_fault : (bytes : List ℕ) (place number : ℕ) (header : Header) (entries : List Entry) (hull : List ℕ) (bad : ReadBad) → place ≤ length bytes
    → HasRead bytes place number (header_lines header ++ (flat_map entry_lines entries ++ Hull hull ∷ [])) → IsMisfit is_cuts bytes place number bad → HasFault bytes bad
cuts_fault bytes place number header entries hull bad within h fault =
    misfit_fault is_cuts bytes place number (header_lines header ++ (flat_map entry_lines entries ++ Hull hull ∷ [])) bad within h
    (due_hull header entries hull) (follow_hull header entries hull) fault

-- the last line, with any number
pub end_read : (bytes : List ℕ) (place number : ℕ) (header : Header) (entries : List Entry) (said after : ℕ) → HasEntries bytes place number header entries → StandsAt bytes place (End said) after
    → BeginsWith bytes (lines_saying said header entries) (drop after bytes)
end_read bytes place number header entries said after h one =
    subst (λ (ls : List Line). BeginsWith bytes ls (drop after bytes)) (sym (lines_are said header entries))
    (begins_more bytes place (header_lines header ++ flat_map entry_lines entries) (End said) after h.begins one)

length_saying : (bytes : List ℕ) (place number : ℕ) (header : Header) (entries : List Entry) (said : ℕ) → HasEntries bytes place number header entries → length (lines_saying said header entries) ≡ number + 1
length_saying bytes place number header entries said h =
    omega (arith, ap length (lines_are said header entries), h.counted, length-append (flat_map entry_lines entries) (End said ∷ []))

pub end_fault : (bytes : List ℕ) (place number : ℕ) (header : Header) (entries : List Entry) (bad : ReadBad) → place ≤ length bytes → HasEntries bytes place number header entries
    → IsWrongEnd bytes place number (length entries) bad → HasFault bytes bad
end_fault bytes place number header entries (Bad line why.Form) within h fault =
    misfit_fault is_hull_or_end bytes place number (header_lines header ++ flat_map entry_lines entries) (Bad line why.Form) within h
    (due_entries header entries) (follow_entries header entries) (fault.0, refl, fault.1)
end_fault bytes place number header entries (Bad line why.Count) within h fault = record {
  said = fault.1.0;
  header = header;
  entries = entries;
  rest = drop fault.1.1 bytes;
  begins = end_read bytes place number header entries fault.1.0 fault.1.1 h fault.1.2;
  wrong = fault.1.3;
  at = fault.0 ∙ sym (length_saying bytes place number header entries fault.1.0 h);
}
end_fault bytes place number header entries (Bad line reason) within h fault = absurd fault
end_fault bytes place number header entries NoMemory within h fault = tt

-- ---- the end

pub more_fault : (bytes : List ℕ) (place number : ℕ) (header : Header) (entries : List Entry) (after : ℕ) → HasEntries bytes place number header entries
    → StandsAt bytes place (End (length entries)) after → after < length bytes → HasFault bytes (Bad (number + 1 + 1) why.Extra)
more_fault bytes place number header entries after h one more =
    let whole = end_read bytes place number header entries (length entries) after h one in
    by_rest (drop after bytes) whole (omega (arith, length-drop after bytes))
  where
    by_rest : (rest : List ℕ) → BeginsWith bytes (lines_of header entries) rest → 0 < length rest → HasFault bytes (Bad (number + 1 + 1) why.Extra)
    by_rest [] whole some = absurd (omega arith)
    by_rest (next ∷ rest) whole some = record {
      header = header;
      entries = entries;
      next = next;
      rest = rest;
      begins = whole;
      at = ap (λ n. n + 1) (sym (length_saying bytes place number header entries (length entries) h));
    }

pub certificate_read : (bytes : List ℕ) (place number : ℕ) (header : Header) (entries : List Entry) (after : ℕ) → HasEntries bytes place number header entries
    → StandsAt bytes place (End (length entries)) after → after ≡ length bytes → IsCertificate bytes header entries
certificate_read bytes place number header entries after h one end =
    subst (λ (rest : List ℕ). BeginsWith bytes (lines_of header entries) rest) (drop_all after bytes (omega (arith, end)))
    (end_read bytes place number header entries (length entries) after h one)

-- ---- lines that are not due

pub not_title : (line : Line) (version : ℕ) → line ≡ Title version → (version ≡ 1 → ⊥) → IsTrue (is_title line) → ⊥
not_title line version is other due = other (eqb-true version 1 (sym (ap is_title is) ∙ due))

pub no_title : (line : Line) → ((version : ℕ) → line ≡ Title version → ⊥) → IsTrue (is_title line) → ⊥
no_title (Title version) not due = not version refl
no_title (Run n o m) not due = false≢true due
no_title (Counts p r t) not due = false≢true due
no_title (Hull ms) not due = false≢true due
no_title (Cuts rs) not due = false≢true due
no_title (End n) not due = false≢true due

pub no_run : (line : Line) → ((notion : Notion) (order : ℕ) (model : Model) → line ≡ Run notion order model → ⊥) → IsTrue (is_run line) → ⊥
no_run (Title version) not due = false≢true due
no_run (Run n o m) not due = not n o m refl
no_run (Counts p r t) not due = false≢true due
no_run (Hull ms) not due = false≢true due
no_run (Cuts rs) not due = false≢true due
no_run (End n) not due = false≢true due

pub no_counts : (line : Line) → ((probes rows tuples : ℕ) → line ≡ Counts probes rows tuples → ⊥) → IsTrue (is_counts line) → ⊥
no_counts (Title version) not due = false≢true due
no_counts (Run n o m) not due = false≢true due
no_counts (Counts p r t) not due = not p r t refl
no_counts (Hull ms) not due = false≢true due
no_counts (Cuts rs) not due = false≢true due
no_counts (End n) not due = false≢true due

pub no_cuts : (line : Line) → ((rows : List ℕ) → line ≡ Cuts rows → ⊥) → IsTrue (is_cuts line) → ⊥
no_cuts (Title version) not due = false≢true due
no_cuts (Run n o m) not due = false≢true due
no_cuts (Counts p r t) not due = false≢true due
no_cuts (Hull ms) not due = false≢true due
no_cuts (Cuts rs) not due = not rs refl
no_cuts (End n) not due = false≢true due

pub no_hull_or_end : (line : Line) → ((members : List ℕ) → line ≡ Hull members → ⊥) → ((number : ℕ) → line ≡ End number → ⊥) → IsTrue (is_hull_or_end line) → ⊥
no_hull_or_end (Title version) hull end due = false≢true due
no_hull_or_end (Run n o m) hull end due = false≢true due
no_hull_or_end (Counts p r t) hull end due = false≢true due
no_hull_or_end (Hull ms) hull end due = hull ms refl
no_hull_or_end (Cuts rs) hull end due = false≢true due
no_hull_or_end (End n) hull end due = end n refl

-- what is wrong where a hull, or an `end` with the number of the entries, is due
pub wrong_any : (bytes : List ℕ) (place number entries : ℕ) (bad : ReadBad) → IsMisfit is_any bytes place number bad → IsWrongEnd bytes place number entries bad
wrong_any bytes place number entries (Bad line reason) h =
    subst (λ (w : Why). IsWrongEnd bytes place number entries (Bad line w)) (sym h.1) (h.0, λ other after due g. h.2 other after refl g)
wrong_any bytes place number entries NoMemory h = tt

pub wrong_form : (bytes : List ℕ) (place number entries : ℕ) (line : Line) (after next : ℕ) → ReadsOne bytes place number line after next → (IsTrue (is_hull_or_end line) → ⊥)
    → IsWrongEnd bytes place number entries (Bad next why.Form)
wrong_form bytes place number entries line after next h not = (h.counted, not_due is_hull_or_end bytes place line after h.stands not)

pub wrong_count : (bytes : List ℕ) (place number entries said : ℕ) (line : Line) (after next : ℕ) → ReadsOne bytes place number line after next → line ≡ End said → (said ≡ entries → ⊥)
    → IsWrongEnd bytes place number entries (Bad next why.Count)
wrong_count bytes place number entries said line after next h is wrong =
    (h.counted, (said, after, subst (λ (l : Line). StandsAt bytes place l after) is h.stands, wrong))

-- ---- the loop over the entries

pub header_fault : (bytes b : List ℕ) (bad : ReadBad) → b ≡ bytes → HasFault b bad → HasFault bytes bad
header_fault bytes b bad same h = subst (λ (s : List ℕ). HasFault s bad) same h

pub entries_begun : (bytes b : List ℕ) (place number : ℕ) (header : Header) (entries : List Entry) → b ≡ bytes → entries ≡ [] → HasRead b place number (header_lines header)
    → HasEntries bytes place number header entries
entries_begun bytes b place number header entries same none h =
    subst (λ (es : List Entry). HasEntries bytes place number header es) (sym none) (subst (λ (s : List ℕ). HasRead s place number (header_lines header)) same h)

-- the line that was read is the hull
hull_is : (b : List ℕ) (place number count : ℕ) (form : Option (List ℕ)) (hull : List ℕ) (after next : ℕ) → form ≡ Some hull → ReadsOne b place number (hull_or_end count form) after next
    → ReadsOne b place number (Hull hull) after next
hull_is b place number count form hull after next is one = subst (λ (o : Option (List ℕ)). ReadsOne b place number (hull_or_end count o) after next) is one

hull_in : (bytes b : List ℕ) (place number count : ℕ) (header : Header) (entries : List Entry) (form : Option (List ℕ)) (hull : List ℕ) (after next : ℕ) → b ≡ bytes → form ≡ Some hull
    → HasEntries bytes place number header entries → ReadsOne b place number (hull_or_end count form) after next
    → HasRead bytes after next (header_lines header ++ (flat_map entry_lines entries ++ Hull hull ∷ []))
hull_in bytes b place number count header entries form hull after next same is h one =
    hull_read bytes place number header entries hull after next h
    (subst (λ (s : List ℕ). ReadsOne s place number (Hull hull) after next) same (hull_is b place number count form hull after next is one))

pub entry_in : (bytes b s : List ℕ) (place number count : ℕ) (header : Header) (entries : List Entry) (form : Option (List ℕ)) (hull cuts : List ℕ) (after next end last : ℕ) (more : List Entry)
    → b ≡ bytes → s ≡ b → form ≡ Some hull → HasEntries bytes place number header entries → ReadsOne b place number (hull_or_end count form) after next
    → ReadsOne s after next (Cuts cuts) end last → more ≡ entries ++ entry_of hull cuts ∷ [] → HasEntries bytes end last header more
entry_in bytes b s place number count header entries form hull cuts after next end last more same also is h one two all =
    subst (λ (es : List Entry). HasEntries bytes end last header es) (sym all)
    (entry_read bytes after next header entries hull cuts end last (hull_in bytes b place number count header entries form hull after next same is h one)
    (subst (λ (x : List ℕ). ReadsOne x after next (Cuts cuts) end last) (also ∙ same) two))

pub hull_fault : (bytes b : List ℕ) (place number count : ℕ) (header : Header) (entries : List Entry) (bad : ReadBad) → b ≡ bytes → place ≤ length b → count ≡ length entries
    → HasEntries bytes place number header entries → IsWrongEnd b place number count bad → HasFault bytes bad
hull_fault bytes b place number count header entries bad same within counted h fault =
    end_fault bytes place number header entries bad (omega (arith, ap length same)) h
    (subst (λ (n : ℕ). IsWrongEnd bytes place number n bad) counted (subst (λ (s : List ℕ). IsWrongEnd s place number count bad) same fault))

pub cuts_in_fault : (bytes b s : List ℕ) (place number count : ℕ) (header : Header) (entries : List Entry) (form : Option (List ℕ)) (hull : List ℕ) (after next : ℕ) (bad : ReadBad)
    → b ≡ bytes → s ≡ b → after ≤ length s → form ≡ Some hull → HasEntries bytes place number header entries → ReadsOne b place number (hull_or_end count form) after next
    → IsMisfit is_cuts s after next bad → HasFault bytes bad
cuts_in_fault bytes b s place number count header entries form hull after next bad same also within is h one fault =
    cuts_fault bytes after next header entries hull bad (omega (arith, ap length (also ∙ same)))
    (hull_in bytes b place number count header entries form hull after next same is h one) (misfit_in is_cuts bytes s after next bad (also ∙ same) fault)

-- the `end` that was read says the number of the entries
end_in : (bytes b : List ℕ) (place number count : ℕ) (entries : List Entry) (form : Option (List ℕ)) (after next : ℕ) → b ≡ bytes → form ≡ None → count ≡ length entries
    → ReadsOne b place number (hull_or_end count form) after next → ReadsOne bytes place number (End (length entries)) after next
end_in bytes b place number count entries form after next same is counted one =
    subst (λ (s : List ℕ). ReadsOne s place number (End (length entries)) after next) same
    (subst (λ (n : ℕ). ReadsOne b place number (End n) after next) counted
    (subst (λ (o : Option (List ℕ)). ReadsOne b place number (hull_or_end count o) after next) is one))

pub more_in_fault : (bytes b s : List ℕ) (place number count : ℕ) (header : Header) (entries : List Entry) (form : Option (List ℕ)) (after next : ℕ) (bad : ReadBad)
    → b ≡ bytes → s ≡ b → form ≡ None → count ≡ length entries → HasEntries bytes place number header entries → ReadsOne b place number (hull_or_end count form) after next
    → bad ≡ Bad (next + 1) why.Extra → after < length s → HasFault bytes bad
more_in_fault bytes b s place number count header entries form after next bad same also is counted h one is_bad more =
    let end : ReadsOne bytes place number (End (length entries)) after next = end_in bytes b place number count entries form after next same is counted one in
    let line : next + 1 ≡ number + 1 + 1 = omega (arith, end.counted) in
    subst (λ (x : ReadBad). HasFault bytes x) (sym (is_bad ∙ ap (λ (n : ℕ). Bad n why.Extra) line))
    (more_fault bytes place number header entries after h end.stands (omega (arith, ap length (also ∙ same))))

pub all_read : (bytes b s : List ℕ) (place number count : ℕ) (header : Header) (entries list : List Entry) (form : Option (List ℕ)) (after next : ℕ)
    → b ≡ bytes → s ≡ b → form ≡ None → count ≡ length entries → HasEntries bytes place number header entries → ReadsOne b place number (hull_or_end count form) after next
    → after ≡ length s → list ≡ entries → IsCertificate bytes header list
all_read bytes b s place number count header entries list form after next same also is counted h one ends listed =
    let end : ReadsOne bytes place number (End (length entries)) after next = end_in bytes b place number count entries form after next same is counted one in
    subst (λ (es : List Entry). IsCertificate bytes header es) (sym listed)
    (certificate_read bytes place number header entries after h end.stands (ends ∙ ap length (also ∙ same)))

-- Lines that are written one behind the other.
use Rattle.std.proofs.Common.{◌≡◌, ℕ, ◌+◌, ◌<◌, ◌^◌, List, [], ◌∷◌, ◌++◌, length, take, get_or, codes, decimal, refl, sym, ap, ◌∙◌, subst, arith, append_assoc, append-nil}
use Rattle.std.specs.List.{flat_map, AllByRecursion}
use Rattle.std.proofs.lemmas.List.{take_more}
use Rattle.std.proofs.lemmas.List.Concat.{flat_map-append}
use Rattle.certificate.specs.declared.entries.Header.{Header}
use Rattle.certificate.specs.declared.entries.Entry.{Entry}
use Rattle.certificate.specs.declared.line.Line.{Line}
use Rattle.certificate.specs.declared.line.Line.TheVariants.{Title, Run, Counts, Hull, Cuts, End}
use Rattle.certificate.specs.Lines.{line_text, numbers_text, IsLine, IsSmall, IsHull}
use Rattle.certificate.specs.Certificates.{header_lines, entry_lines, lines_saying, lines_of, text_of, BeginsWith, IsCertificate}
use Rattle.certificate.proofs.Following.{lines_are}

-- The text is these lines, each of its form.
pub record AreWritten (lines : List Line) (written : List ℕ) : Type 0 where
  pub forms : AllByRecursion IsLine lines
  pub text : written ≡ text_of lines

forms-append : (ls ks : List Line) → AllByRecursion IsLine ls → AllByRecursion IsLine ks → AllByRecursion IsLine (ls ++ ks)
forms-append [] ks h g = g
forms-append (l ∷ ls) ks h g = (h.0, forms-append ls ks h.1 g)

pub more_written : (ls ks : List Line) (text more : List ℕ) → AreWritten ls text → AllByRecursion IsLine ks → more ≡ text ++ text_of ks → AreWritten (ls ++ ks) more
more_written ls ks text more h forms e = record {
  forms = forms-append ls ks h.forms forms;
  text = e ∙ ap (λ s. s ++ text_of ks) h.text ∙ sym (flat_map-append line_text ls ks);
}

-- the lines of the header and of some entries
pub record EntriesWritten (header : Header) (entries : List Entry) (text : List ℕ) : Type 0 where
  pub lines : AreWritten (header_lines header ++ flat_map entry_lines entries) text

pub entry_written : (header : Header) (entries : List Entry) (entry : Entry) (text more : List ℕ) → EntriesWritten header entries text → AllByRecursion IsLine (entry_lines entry)
    → more ≡ text ++ text_of (entry_lines entry) → EntriesWritten header (entries ++ entry ∷ []) more
entry_written header entries entry text more h forms e = record {
  lines = subst (λ (ls : List Line). AreWritten (header_lines header ++ ls) more) (sym (flat_map-append entry_lines entries (entry ∷ [])))
      (more_written (header_lines header ++ flat_map entry_lines entries) (entry_lines entry) text more h.lines forms e);
}

pub end_written : (header : Header) (entries : List Entry) (text more : List ℕ) → EntriesWritten header entries text → length entries < 2 ^ 64
    → more ≡ text ++ line_text (End (length entries)) → IsCertificate more header entries
end_written header entries text more h few e =
    let all : AreWritten ((header_lines header ++ flat_map entry_lines entries) ++ End (length entries) ∷ []) more =
    more_written (header_lines header ++ flat_map entry_lines entries) (End (length entries) ∷ []) text more h.lines (few, tt)
    (e ∙ ap (λ s. text ++ s) (sym (append-nil (line_text (End (length entries)))))) in
    record {
      forms = subst (λ (ls : List Line). AllByRecursion IsLine ls) (sym (lines_are (length entries) header entries)) all.forms;
      text = all.text ∙ ap text_of (sym (lines_are (length entries) header entries)) ∙ sym (append-nil (text_of (lines_of header entries)));
    }

-- the two lines of an entry, behind what is there
pub written_entry : (entry : Entry) (start middle text hull cuts : List ℕ) → hull ≡ entry.hull → cuts ≡ entry.cuts → middle ≡ start ++ (codes "hull" ++ (numbers_text hull ++ codes "\n"))
    → text ≡ middle ++ (codes "cuts" ++ (numbers_text cuts ++ codes "\n")) → text ≡ start ++ text_of (entry_lines entry)
unfolding line_text
written_entry entry start middle text hull cuts is_hull is_cuts first second =
    second ∙ ap (λ s. s ++ (codes "cuts" ++ (numbers_text cuts ++ codes "\n"))) first
    ∙ append_assoc start (codes "hull" ++ (numbers_text hull ++ codes "\n")) (codes "cuts" ++ (numbers_text cuts ++ codes "\n"))
    ∙ ap (λ h. start ++ ((codes "hull" ++ (numbers_text h ++ codes "\n")) ++ (codes "cuts" ++ (numbers_text cuts ++ codes "\n")))) is_hull
    ∙ ap (λ k. start ++ (line_text (Hull entry.hull) ++ (codes "cuts" ++ (numbers_text k ++ codes "\n")))) is_cuts
    ∙ ap (λ s. start ++ (line_text (Hull entry.hull) ++ s)) (sym (append-nil (line_text (Cuts entry.cuts))))

pub entry_forms : (entry : Entry) (hull cuts : List ℕ) → hull ≡ entry.hull → cuts ≡ entry.cuts → IsHull entry.hull → AllByRecursion IsSmall hull → AllByRecursion IsSmall cuts
    → AllByRecursion IsLine (entry_lines entry)
entry_forms entry hull cuts is_hull is_cuts h small few =
    ((h, subst (λ (ns : List ℕ). AllByRecursion IsSmall ns) is_hull small), (subst (λ (ns : List ℕ). AllByRecursion IsSmall ns) is_cuts few, tt))

-- one more entry of the list
pub entries_more : (header : Header) (entries : List Entry) (i : ℕ) (entry : Entry) (text more : List ℕ) → i < length entries → entry ≡ get_or entries i entry
    → EntriesWritten header (take i entries) text → AllByRecursion IsLine (entry_lines entry) → more ≡ text ++ text_of (entry_lines entry) → EntriesWritten header (take (i + 1) entries) more
entries_more header entries i entry text more lt is h forms e =
    subst (λ (es : List Entry). EntriesWritten header es more) (sym (take_more entries i entry lt ∙ ap (λ (x : Entry). take i entries ++ x ∷ []) (sym is)))
    (entry_written header (take i entries) entry text more h forms e)

pub header_written : (header : Header) (text : List ℕ) → AllByRecursion IsLine (header_lines header) → text ≡ text_of (header_lines header) → EntriesWritten header [] text
header_written header text forms e = record { lines = record { forms = forms; text = e } }

pub header_text : (header : Header) (none first second third : List ℕ) → none ≡ [] → first ≡ none ++ line_text (Title 1)
    → second ≡ first ++ line_text (Run header.notion header.order header.model) → third ≡ second ++ line_text (Counts header.probes header.rows header.tuples)
    → third ≡ text_of (header_lines header)
header_text header none first second third is_none one two three =
    let title : List ℕ = line_text (Title 1) in
    let run : List ℕ = line_text (Run header.notion header.order header.model) in
    let counts : List ℕ = line_text (Counts header.probes header.rows header.tuples) in
    three ∙ ap (λ s. s ++ counts) (two ∙ ap (λ s. s ++ run) (one ∙ ap (λ s. s ++ title) is_none)) ∙ append_assoc title run counts
    ∙ ap (λ s. title ++ (run ++ s)) (sym (append-nil counts))

pub header_forms : (header : Header) → IsLine (Run header.notion header.order header.model) → IsLine (Counts header.probes header.rows header.tuples)
    → AllByRecursion IsLine (header_lines header)
header_forms header run counts = (omega arith, (run, (counts, tt)))

-- every entry was written
pub all_written : (header : Header) (entries done : List Entry) (text more : List ℕ) → done ≡ entries → EntriesWritten header done text → length entries < 2 ^ 64
    → more ≡ text ++ line_text (End (length entries)) → IsCertificate more header entries
all_written header entries done text more all h few e =
    end_written header entries text more (subst (λ (es : List Entry). EntriesWritten header es text) all h) few e

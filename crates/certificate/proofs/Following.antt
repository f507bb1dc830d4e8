-- Which lines may follow which, and that a certificate's last line is the last.
use Rattle.std.proofs.Common.{◌≡◌, ℕ, zero, suc, ◌+◌, ◌*◌, true, List, [], ◌∷◌, ◌++◌, length, refl, sym, ap, ◌∙◌, subst, arith, append_assoc, append-nil, length-append}
use Rattle.std.specs.Prelude.{IsTrue}
use Rattle.std.specs.List.{flat_map}
use Rattle.std.proofs.lemmas.List.Concat.{flat_map-append}
use Rattle.expr_table.specs.declared.instance.Notion.TheVariants.{Probing}
use Rattle.circuit_types.specs.declared.probes.Model.TheVariants.{Value}
use Rattle.certificate.specs.declared.entries.Header.{Header}
use Rattle.certificate.specs.declared.entries.Entry.{Entry}
use Rattle.certificate.specs.declared.line.Line.{Line}
use Rattle.certificate.specs.declared.line.Line.TheVariants.{Title, Run, Counts, Hull, Cuts, End}
use Rattle.certificate.specs.Certificates.{header_lines, entry_lines, lines_saying, MayFollow}
use Rattle.certificate.specs.Reading.{is_title, is_run, is_counts, is_hull_or_end, is_cuts}

-- an entry of these parts
abbrev pub entry_of : List ℕ → List ℕ → Entry
entry_of h c = record { hull = h; cuts = c }

-- the lines of entries, and a last line
abbrev pub body : List Entry → ℕ → List Line
body entries number = flat_map entry_lines entries ++ End number ∷ []

pub lines_are : (number : ℕ) (header : Header) (entries : List Entry)
    → lines_saying number header entries ≡ Title 1 ∷ Run header.notion header.order header.model ∷ Counts header.probes header.rows header.tuples ∷ body entries number
unfolding lines_saying
lines_are number header entries = refl

-- ---- two certificates, one of whose lines the other goes on

pub record SameBody (es us : List Entry) (n m : ℕ) (more : List Line) : Type 0 where
  pub entries : es ≡ us
  pub number : n ≡ m
  pub none : more ≡ []

pub same_body : (es us : List Entry) (n m : ℕ) (more : List Line) → body es n ++ more ≡ body us m → SameBody es us n m more
same_body [] [] n m more e = record { entries = refl; number = cc; none = cc }
same_body [] (u ∷ us) n m more e = absurd cc
same_body (x ∷ es) [] n m more e = absurd cc
same_body (x ∷ es) (u ∷ us) n m more e =
    let rest : SameBody es us n m more = same_body es us n m more (tails (body es n) more _ _ _ _ _ e) in
    record { entries = ap₂-cons x u es us (same_entry x u _ _ e) rest.entries; number = rest.number; none = rest.none }
  where
    tails : (xs more ys : List Line) (a b c d : Line) → a ∷ b ∷ (xs ++ more) ≡ c ∷ d ∷ ys → xs ++ more ≡ ys
    tails xs more ys a b c d e = cc

    same_entry : (x u : Entry) (xs ys : List Line) → Hull x.hull ∷ Cuts x.cuts ∷ xs ≡ Hull u.hull ∷ Cuts u.cuts ∷ ys → x ≡ u
    same_entry x u xs ys e =
        let hulls : x.hull ≡ u.hull = cc in
        let cuts : x.cuts ≡ u.cuts = cc in
        ap (λ h. entry_of h x.cuts) hulls ∙ ap (entry_of u.hull) cuts

    ap₂-cons : (x u : Entry) (es us : List Entry) → x ≡ u → es ≡ us → x ∷ es ≡ u ∷ us
    ap₂-cons x u es us p q = cc

pub record SameLines (h k : Header) (es us : List Entry) (n m : ℕ) (more : List Line) : Type 0 where
  pub header : h ≡ k
  pub entries : es ≡ us
  pub number : n ≡ m
  pub none : more ≡ []

pub same_lines : (h k : Header) (es us : List Entry) (n m : ℕ) (more : List Line) → lines_saying n h es ++ more ≡ lines_saying m k us → SameLines h k es us n m more
same_lines h k es us n m more e =
    let all : (Title 1 ∷ Run h.notion h.order h.model ∷ Counts h.probes h.rows h.tuples ∷ body es n) ++ more ≡ Title 1 ∷ Run k.notion k.order k.model ∷ Counts k.probes k.rows k.tuples ∷ body us m =
    ap (λ ls. ls ++ more) (sym (lines_are n h es)) ∙ e ∙ lines_are m k us in
    let rest : SameBody es us n m more = same_body es us n m more (tails (body es n) more (body us m) _ _ _ _ _ _ all) in
    record { header = same_header h k _ _ all; entries = rest.entries; number = rest.number; none = rest.none }
  where
    tails : (xs more ys : List Line) (a b c a' b' c' : Line) → a ∷ b ∷ c ∷ (xs ++ more) ≡ a' ∷ b' ∷ c' ∷ ys → xs ++ more ≡ ys
    tails xs more ys a b c a' b' c' e = cc

    same_header : (h k : Header) (xs ys : List Line)
        → Title 1 ∷ Run h.notion h.order h.model ∷ Counts h.probes h.rows h.tuples ∷ xs ≡ Title 1 ∷ Run k.notion k.order k.model ∷ Counts k.probes k.rows k.tuples ∷ ys → h ≡ k
    same_header h k xs ys e =
        let notion : h.notion ≡ k.notion = cc in
        let order : h.order ≡ k.order = cc in
        let model : h.model ≡ k.model = cc in
        let probes : h.probes ≡ k.probes = cc in
        let rows : h.rows ≡ k.rows = cc in
        let tuples : h.tuples ≡ k.tuples = cc in
        λ i. record { notion = notion i; order = order i; model = model i; probes = probes i; rows = rows i; tuples = tuples i }

-- nothing may follow the lines of a certificate
pub nothing_follows : (number : ℕ) (header : Header) (entries : List Entry) (more : List Line) (next : Line) → MayFollow (lines_saying number header entries ++ more) next → ⊥
nothing_follows number header entries more next h =
    let all : lines_saying number header entries ++ (more ++ next ∷ h.later) ≡ lines_saying h.number h.header h.entries =
    sym (append_assoc (lines_saying number header entries) more (next ∷ h.later)) ∙ h.together in
    some more next h.later (same_lines header h.header entries h.entries number h.number (more ++ next ∷ h.later) all).none
  where
    some : (more : List Line) (next : Line) (later : List Line) → more ++ next ∷ later ≡ [] → ⊥
    some [] next later e = cc
    some (m ∷ more) next later e = cc

-- ---- what may follow

pub follow_nothing : (next : Line) → MayFollow [] next → IsTrue (is_title next)
follow_nothing next h =
    let first : next ≡ Title 1 = heads _ _ _ _ (h.together ∙ lines_are h.number h.header h.entries) in
    ap is_title first
  where
    heads : (a b : Line) (xs ys : List Line) → a ∷ xs ≡ b ∷ ys → a ≡ b
    heads a b xs ys e = cc

pub follow_title : (next : Line) → MayFollow (Title 1 ∷ []) next → IsTrue (is_run next)
follow_title next h = ap is_run (seconds _ _ _ _ _ _ (h.together ∙ lines_are h.number h.header h.entries))
  where
    seconds : (a b a' b' : Line) (xs ys : List Line) → a ∷ b ∷ xs ≡ a' ∷ b' ∷ ys → b ≡ b'
    seconds a b a' b' xs ys e = cc

pub follow_run : (header : Header) (next : Line) → MayFollow (Title 1 ∷ Run header.notion header.order header.model ∷ []) next → IsTrue (is_counts next)
follow_run header next h = ap is_counts (thirds _ _ _ _ _ _ _ _ (h.together ∙ lines_are h.number h.header h.entries))
  where
    thirds : (a b c a' b' c' : Line) (xs ys : List Line) → a ∷ b ∷ c ∷ xs ≡ a' ∷ b' ∷ c' ∷ ys → c ≡ c'
    thirds a b c a' b' c' xs ys e = cc

-- behind the header
past_header : (header : Header) (ls : List Line) (next : Line) (h : MayFollow (header_lines header ++ ls) next) → ls ++ next ∷ h.later ≡ body h.entries h.number
past_header header ls next h = tails (ls ++ next ∷ h.later) (body h.entries h.number) _ _ _ _ _ _ (h.together ∙ lines_are h.number h.header h.entries)
  where
    tails : (xs ys : List Line) (a b c a' b' c' : Line) → a ∷ b ∷ c ∷ xs ≡ a' ∷ b' ∷ c' ∷ ys → xs ≡ ys
    tails xs ys a b c a' b' c' e = cc

after_entries : (es us : List Entry) (n : ℕ) (next : Line) (later : List Line) → flat_map entry_lines es ++ next ∷ later ≡ body us n → IsTrue (is_hull_or_end next)
after_entries [] [] n next later e = let same : next ≡ End n = cc in ap is_hull_or_end same
after_entries [] (u ∷ us) n next later e = let same : next ≡ Hull u.hull = cc in ap is_hull_or_end same
after_entries (x ∷ es) [] n next later e = absurd cc
after_entries (x ∷ es) (u ∷ us) n next later e = after_entries es us n next later (tails _ _ _ _ _ _ e)
  where
    tails : (xs ys : List Line) (a b a' b' : Line) → a ∷ b ∷ xs ≡ a' ∷ b' ∷ ys → xs ≡ ys
    tails xs ys a b a' b' e = cc

pub follow_entries : (header : Header) (entries : List Entry) (next : Line) → MayFollow (header_lines header ++ flat_map entry_lines entries) next → IsTrue (is_hull_or_end next)
follow_entries header entries next h = after_entries entries h.entries h.number next h.later (past_header header (flat_map entry_lines entries) next h)

after_hull : (es us : List Entry) (n : ℕ) (members : List ℕ) (next : Line) (later : List Line) → (flat_map entry_lines es ++ Hull members ∷ []) ++ next ∷ later ≡ body us n → IsTrue (is_cuts next)
after_hull [] [] n members next later e = absurd cc
after_hull [] (u ∷ us) n members next later e = let same : next ≡ Cuts u.cuts = cc in ap is_cuts same
after_hull (x ∷ es) [] n members next later e = absurd cc
after_hull (x ∷ es) (u ∷ us) n members next later e = after_hull es us n members next later (tails _ _ _ _ _ _ e)
  where
    tails : (xs ys : List Line) (a b a' b' : Line) → a ∷ b ∷ xs ≡ a' ∷ b' ∷ ys → xs ≡ ys
    tails xs ys a b a' b' e = cc

pub follow_hull : (header : Header) (entries : List Entry) (members : List ℕ) (next : Line) → MayFollow (header_lines header ++ (flat_map entry_lines entries ++ Hull members ∷ [])) next → IsTrue (is_cuts next)
follow_hull header entries members next h =
    after_hull entries h.entries h.number members next h.later (past_header header (flat_map entry_lines entries ++ Hull members ∷ []) next h)

-- ---- something is due

some_header : Header
some_header = record { notion = Probing; order = 0; model = Value; probes = 0; rows = 0; tuples = 0 }

pub due_nothing : (line : Line) × MayFollow [] line
due_nothing = (Title 1, record { later = _; number = 0; header = some_header; entries = []; together = sym (lines_are 0 some_header []) })

pub due_title : (line : Line) × MayFollow (Title 1 ∷ []) line
due_title = (Run some_header.notion some_header.order some_header.model, record { later = _; number = 0; header = some_header; entries = []; together = sym (lines_are 0 some_header []) })

pub due_run : (header : Header) → (line : Line) × MayFollow (Title 1 ∷ Run header.notion header.order header.model ∷ []) line
due_run header = (Counts header.probes header.rows header.tuples, record { later = _; number = 0; header = header; entries = []; together = sym (lines_are 0 header []) })

pub due_entries : (header : Header) (entries : List Entry) → (line : Line) × MayFollow (header_lines header ++ flat_map entry_lines entries) line
due_entries header entries = (End 0, record { later = []; number = 0; header = header; entries = entries; together = sym (lines_are 0 header entries) })

pub due_hull : (header : Header) (entries : List Entry) (members : List ℕ) → (line : Line) × MayFollow (header_lines header ++ (flat_map entry_lines entries ++ Hull members ∷ [])) line
due_hull header entries members =
    let one : Entry = entry_of members [] in
    let before : List Line = flat_map entry_lines entries in
    let same : (before ++ Hull members ∷ []) ++ Cuts [] ∷ End 0 ∷ [] ≡ body (entries ++ one ∷ []) 0 =
    append_assoc before (Hull members ∷ []) (Cuts [] ∷ End 0 ∷ []) ∙ sym (append_assoc before (entry_lines one) (End 0 ∷ [])) ∙ ap (λ ls. ls ++ End 0 ∷ []) (sym (flat_map-append entry_lines entries (one ∷ []))) in (
      Cuts [],
      record {
        later = End 0 ∷ [];
        number = 0;
        header = header;
        entries = entries ++ one ∷ [];
        together = ap (λ ls. header_lines header ++ ls) same ∙ sym (lines_are 0 header (entries ++ one ∷ []));
      },
    )

-- how many lines there are
pub length_entries : (entries : List Entry) → length (flat_map entry_lines entries) ≡ 2 * length entries
length_entries [] = refl
length_entries (e ∷ es) = omega (arith, length_entries es)

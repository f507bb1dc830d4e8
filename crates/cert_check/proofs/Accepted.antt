-- Lines that all are right are a certificate that closes the families.
use Rattle.std.proofs.Common.{◌≡◌, ℕ, zero, suc, ◌+◌, Bool, true, false, ◌&&◌, cond, eqb, ◌⊎◌, inl, inr, List, [], ◌∷◌, ◌++◌, length, drop, Some, None, refl, sym, ap, ◌∙◌, subst, arith}
use Rattle.std.specs.List.{flat_map, AllByRecursion}
use Rattle.std.proofs.lemmas.Bool.{eqb-true, false≢true}
use Rattle.std.proofs.lemmas.List.{append-nil, drop_all}
use Rattle.circuit_types.specs.declared.probes.Model.{Model}
use Rattle.circuit_types.specs.declared.probes.Model.TheVariants.{Value, Glitch}
use Rattle.expr_table.specs.declared.instance.Instance.{Instance}
use Rattle.expr_table.specs.declared.instance.Notion.{Notion}
use Rattle.expr_table.specs.declared.instance.Notion.TheVariants.{Probing, Ni, Sni}
use Rattle.probe_family.specs.declared.family.Family.{Family}
use Rattle.probe_family.specs.Roots as root
use Rattle.family_split.specs.Children.{children_of}
use Rattle.certificate.specs.declared.entries.Header.{Header}
use Rattle.certificate.specs.declared.entries.Entry.{Entry}
use Rattle.certificate.specs.declared.fault.Why.{Why}
use Rattle.certificate.specs.declared.fault.Why.TheVariants as why
use Rattle.certificate.specs.declared.line.Line.{Line}
use Rattle.certificate.specs.declared.line.Line.TheVariants.{Title, Run, Counts, Hull, Cuts, End}
use Rattle.certificate.specs.Lines.{IsLine, StandsAt, line_text}
use Rattle.certificate.specs.Certificates.{BeginsWith, entry_lines, header_lines, lines_saying, text_of}
use Rattle.cert_check.specs.declared.due.Due.{Due}
use Rattle.cert_check.specs.declared.due.Due.TheVariants as due
use Rattle.cert_check.specs.Closing.{Closes, IsCertified, IsProof, header_of, hull_set, is_bounded, is_chain_for, is_hull_for}
use Rattle.cert_check.specs.Outcome.{AreRight, IsAccepted}
use Rattle.cert_check.specs.Stages.{Stage, end_at, hull_for, is_done, judge, last_stage, same_model, same_notion, stage, unless}
use Rattle.cert_check.proofs.Outcomes.{no_further, not_both, one_stage, right, wrong}
use Rattle.cert_check.proofs.Questions.{first, second}

-- a stage is reached only where the test holds
record Passes (b : Bool) (s u : Stage) : Type 0 where
  holds : b ≡ true
  stage : u ≡ s

passes : (b : Bool) (s u : Stage) (reason : Why) → cond b (right s) (wrong reason) ≡ right u → Passes b s u
passes true s u reason e = record { holds = refl; stage = one_stage u s (right s) e refl }
passes false s u reason e = absurd (not_both u reason (wrong reason) e refl)

module _ (x : Instance) (header : Header) where
  record HullIs (waiting : List Family) (closed : ℕ) (line : Line) (u : Stage) : Type 0 where
    hull : List ℕ
    family : Family
    rest : List Family
    line_is : line ≡ Hull hull
    waiting_is : waiting ≡ family ∷ rest
    fits : is_hull_for family hull ≡ true
    next : u ≡ stage (due.Cuts family (hull_set (length x.probes) hull)) rest closed

  record EndIs (waiting : List Family) (closed : ℕ) (line : Line) (u : Stage) : Type 0 where
    line_is : line ≡ End closed
    waiting_is : waiting ≡ []
    next : u ≡ last_stage closed

  record CutsAre (family : Family) (hull : List Bool) (waiting : List Family) (closed : ℕ) (line : Line) (u : Stage) : Type 0 where
    rows : List ℕ
    line_is : line ≡ Cuts rows
    chain : is_chain_for x hull rows ≡ true
    bounded : is_bounded x hull family.bound rows ≡ true
    next : u ≡ stage due.Hull (children_of family hull ++ waiting) (closed + 1)

  a_hull : (waiting : List Family) (closed : ℕ) (hull : List ℕ) (u : Stage) → hull_for x waiting closed hull ≡ right u → HullIs waiting closed (Hull hull) u
  a_hull [] closed hull u e = absurd (not_both u why.Extra (wrong why.Extra) e refl)
  a_hull (family ∷ rest) closed hull u e =
      let p = passes (is_hull_for family hull) (stage (due.Cuts family (hull_set (length x.probes) hull)) rest closed) u why.Hull e in
      record { hull = hull; family = family; rest = rest; line_is = refl; waiting_is = refl; fits = p.holds; next = p.stage }

  an_end : (waiting : List Family) (closed number : ℕ) (u : Stage) → end_at waiting closed number ≡ right u → EndIs waiting closed (End number) u
  an_end (family ∷ waiting) closed number u e = absurd (not_both u why.Open (wrong why.Open) e refl)
  an_end [] closed number u e =
      let p = passes (eqb number closed) (last_stage closed) u why.Count e in
      record { line_is = ap (λ (n : ℕ). End n) (eqb-true number closed p.holds); waiting_is = refl; next = p.stage }

  -- a hull or the end comes
  hull_or_end : (waiting : List Family) (closed : ℕ) (line : Line) (u : Stage) → judge x header (stage due.Hull waiting closed) line ≡ right u → HullIs waiting closed line u ⊎ EndIs waiting closed line u
  hull_or_end waiting closed (Hull hull) u e = inl (a_hull waiting closed hull u e)
  hull_or_end waiting closed (End number) u e = inr (an_end waiting closed number u e)
  hull_or_end waiting closed (Title version) u e = absurd (not_both u why.Form (wrong why.Form) e refl)
  hull_or_end waiting closed (Run notion order model) u e = absurd (not_both u why.Form (wrong why.Form) e refl)
  hull_or_end waiting closed (Counts probes rows tuples) u e = absurd (not_both u why.Form (wrong why.Form) e refl)
  hull_or_end waiting closed (Cuts rows) u e = absurd (not_both u why.Form (wrong why.Form) e refl)

  record NoFault (a b : Bool) (s u : Stage) : Type 0 where
    chain : a ≡ true
    bounded : b ≡ true
    stage : u ≡ s

  no_fault : (a b : Bool) (s u : Stage) → unless (cond a (cond b None (Some why.Bound)) (Some why.Cuts)) s ≡ right u → NoFault a b s u
  no_fault true true s u e = record { chain = refl; bounded = refl; stage = one_stage u s (right s) e refl }
  no_fault true false s u e = absurd (not_both u why.Bound (wrong why.Bound) e refl)
  no_fault false b s u e = absurd (not_both u why.Cuts (wrong why.Cuts) e refl)

  -- cuts come
  cuts_come : (family : Family) (hull : List Bool) (waiting : List Family) (closed : ℕ) (line : Line) (u : Stage)
      → judge x header (stage (due.Cuts family hull) waiting closed) line ≡ right u → CutsAre family hull waiting closed line u
  cuts_come family hull waiting closed (Cuts rows) u e =
      let p = no_fault (is_chain_for x hull rows) (is_bounded x hull family.bound rows) (stage due.Hull (children_of family hull ++ waiting) (closed + 1)) u e in
      record { rows = rows; line_is = refl; chain = p.chain; bounded = p.bounded; next = p.stage }
  cuts_come family hull waiting closed (Title version) u e = absurd (not_both u why.Form (wrong why.Form) e refl)
  cuts_come family hull waiting closed (Run notion order model) u e = absurd (not_both u why.Form (wrong why.Form) e refl)
  cuts_come family hull waiting closed (Counts probes rows tuples) u e = absurd (not_both u why.Form (wrong why.Form) e refl)
  cuts_come family hull waiting closed (Hull more) u e = absurd (not_both u why.Form (wrong why.Form) e refl)
  cuts_come family hull waiting closed (End number) u e = absurd (not_both u why.Form (wrong why.Form) e refl)

module _ (x : Instance) (header : Header) (bytes : List ℕ) where
  -- these lines stand from the place to the end of the bytes
  record StandToEnd (place : ℕ) (lines : List Line) : Type 0 where
    forms : AllByRecursion IsLine lines
    text : drop place bytes ≡ text_of lines

  before : (place : ℕ) (line : Line) (after : ℕ) (lines : List Line) → StandsAt bytes place line after → StandToEnd after lines → StandToEnd place (line ∷ lines)
  before place line after lines h g = record { forms = (h.form, g.forms); text = h.text ∙ ap (λ (l : List ℕ). line_text line ++ l) g.text }

  -- after these lines come those of entries that close the families, and the end
  record Closing (lines : List Line) (place : ℕ) (waiting : List Family) (closed total : ℕ) : Type 0 where
    entries : List Entry
    stand : StandToEnd place (lines ++ flat_map entry_lines entries ++ End total ∷ [])
    closes : Closes x waiting entries []
    counted : total ≡ closed + length entries

  not_due : (d : Due) (waiting : List Family) (closed total : ℕ) → is_done d ≡ false → stage d waiting closed ≡ last_stage total → ⊥
  not_due d waiting closed total h e = false≢true (sym h ∙ ap (λ (s : Stage). is_done s.due) e)

  ended : (n place closed total : ℕ) (line : Line) (next : ℕ) (u : Stage) → StandsAt bytes place line next → line ≡ End closed → u ≡ last_stage closed
      → AreRight x header bytes n next u (length bytes) (last_stage total) → StandToEnd place (End total ∷ []) × (total ≡ closed)
  ended zero place closed total line next u stands is e h =
      let same : closed ≡ total = ap (λ (s : Stage). s.closed) (sym e ∙ h.1) in
      let here : StandsAt bytes place (End total) next = subst (λ (l : Line). StandsAt bytes place l next) (is ∙ ap (λ (n : ℕ). End n) same) stands in
      let none : StandToEnd next [] = record { forms = tt; text = ap (λ (p : ℕ). drop p bytes) h.0 ∙ drop_all (length bytes) bytes (omega arith) } in
      (before place (End total) next [] here none, sym same)
  ended (suc n) place closed total line next u stands is e h =
      absurd (not_both h.2 why.Form (judge x header u h.0) h.4 (no_further x header u h.0 (ap (λ (s : Stage). s.due) e)))

  at_end : (n place : ℕ) (waiting : List Family) (closed total : ℕ) (line : Line) (next : ℕ) (u : Stage) → StandsAt bytes place line next → EndIs x header waiting closed line u
      → AreRight x header bytes n next u (length bytes) (last_stage total) → Closing [] place waiting closed total
  at_end n place waiting closed total line next u stands end h =
      let last = ended n place closed total line next u stands end.line_is end.next h in
      record { entries = []; stand = last.0; closes = end.waiting_is; counted = omega (arith, last.1) }

  -- one more entry before
  one_entry : (place : ℕ) (waiting : List Family) (closed total : ℕ) (line : Line) (next : ℕ) (u : Stage) → StandsAt bytes place line next → (hull : HullIs x header waiting closed line u)
      → (other : Line) (after : ℕ) (v : Stage) → StandsAt bytes next other after
      → (cuts : CutsAre x header hull.family (hull_set (length x.probes) hull.hull) hull.rest closed other v)
      → Closing [] after (children_of hull.family (hull_set (length x.probes) hull.hull) ++ hull.rest) (closed + 1) total → Closing [] place waiting closed total
  one_entry place waiting closed total line next u stands hull other after v there cuts r =
      let entry : Entry = record { hull = hull.hull; cuts = cuts.rows } in
      let proof : IsProof x hull.family (record { hull = hull.hull; cuts = cuts.rows }) = record { hull = hull.fits; chain = cuts.chain; bounded = cuts.bounded } in
      record {
        entries = (record { hull = hull.hull; cuts = cuts.rows }) ∷ r.entries;
        stand = before place (Hull hull.hull) next (Cuts cuts.rows ∷ (flat_map entry_lines r.entries ++ End total ∷ [])) (subst (λ (l : Line). StandsAt bytes place l next) hull.line_is stands)
            (before next (Cuts cuts.rows) after (flat_map entry_lines r.entries ++ End total ∷ []) (subst (λ (l : Line). StandsAt bytes next l after) cuts.line_is there) r.stand);
        closes = subst (λ (w : List Family). Closes x w ((record { hull = hull.hull; cuts = cuts.rows }) ∷ r.entries) []) (sym hull.waiting_is) (proof, r.closes);
        counted = omega (arith, r.counted);
      }

  closing : (n place : ℕ) (waiting : List Family) (closed total : ℕ) → AreRight x header bytes n place (stage due.Hull waiting closed) (length bytes) (last_stage total) → Closing [] place waiting closed total
  closing zero place waiting closed total h = absurd (not_due due.Hull waiting closed total refl h.1)
  closing (suc zero) place waiting closed total h =
      elim (hull_or_end x header waiting closed h.0 h.2 h.4) [
        | inl hull ↦ absurd (false≢true (ap (λ (s : Stage). is_done s.due) (sym hull.next ∙ h.5.1)))
        | inr end ↦ at_end zero place waiting closed total h.0 h.1 h.2 h.3 end h.5
      ]
  closing (suc (suc n)) place waiting closed total h =
      elim (hull_or_end x header waiting closed h.0 h.2 h.4) [
        | inl hull ↦ (
            let g : AreRight x header bytes (suc n) h.1 (stage (due.Cuts hull.family (hull_set (length x.probes) hull.hull)) hull.rest closed) (length bytes) (last_stage total) =
            subst (λ (s : Stage). AreRight x header bytes (suc n) h.1 s (length bytes) (last_stage total)) hull.next h.5 in
            let cuts = cuts_come x header hull.family (hull_set (length x.probes) hull.hull) hull.rest closed g.0 g.2 g.4 in
            one_entry place waiting closed total h.0 h.1 h.2 h.3 hull g.0 g.1 g.2 g.3 cuts
            (closing n g.1 (children_of hull.family (hull_set (length x.probes) hull.hull) ++ hull.rest) (closed + 1) total
            (subst (λ (s : Stage). AreRight x header bytes n g.1 s (length bytes) (last_stage total)) cuts.next g.5)))
        | inr end ↦ at_end (suc n) place waiting closed total h.0 h.1 h.2 h.3 end h.5
      ]

  -- ---- the first lines

  same_notion_is : (a b : Notion) → same_notion a b ≡ true → a ≡ b
  same_notion_is Probing Probing h = refl
  same_notion_is Ni Ni h = refl
  same_notion_is Sni Sni h = refl
  same_notion_is Probing Ni h = absurd (false≢true h)
  same_notion_is Probing Sni h = absurd (false≢true h)
  same_notion_is Ni Probing h = absurd (false≢true h)
  same_notion_is Ni Sni h = absurd (false≢true h)
  same_notion_is Sni Probing h = absurd (false≢true h)
  same_notion_is Sni Ni h = absurd (false≢true h)

  same_model_is : (a b : Model) → same_model a b ≡ true → a ≡ b
  same_model_is Value Value h = refl
  same_model_is Glitch Glitch h = refl
  same_model_is Value Glitch h = absurd (false≢true h)
  same_model_is Glitch Value h = absurd (false≢true h)

  record LineIs (due_line : Line) (d : Due) (waiting : List Family) (closed : ℕ) (line : Line) (u : Stage) : Type 0 where
    line_is : line ≡ due_line
    next : u ≡ stage d waiting closed

  title_is : (waiting : List Family) (closed : ℕ) (line : Line) (u : Stage) → judge x header (stage due.Title waiting closed) line ≡ right u → LineIs (Title 1) due.Run waiting closed line u
  title_is waiting closed (Title version) u e =
      let p = passes (eqb version 1) (stage due.Run waiting closed) u why.Header e in
      record { line_is = ap (λ (n : ℕ). Title n) (eqb-true version 1 p.holds); next = p.stage }
  title_is waiting closed (Run notion order model) u e = absurd (not_both u why.Form (wrong why.Form) e refl)
  title_is waiting closed (Counts probes rows tuples) u e = absurd (not_both u why.Form (wrong why.Form) e refl)
  title_is waiting closed (Hull hull) u e = absurd (not_both u why.Form (wrong why.Form) e refl)
  title_is waiting closed (Cuts rows) u e = absurd (not_both u why.Form (wrong why.Form) e refl)
  title_is waiting closed (End number) u e = absurd (not_both u why.Form (wrong why.Form) e refl)

  run_is : (waiting : List Family) (closed : ℕ) (line : Line) (u : Stage) → judge x header (stage due.Run waiting closed) line ≡ right u
      → LineIs (Run header.notion header.order header.model) due.Counts waiting closed line u
  run_is waiting closed (Run notion order model) u e =
      let p = passes (same_notion notion header.notion && (eqb order header.order && same_model model header.model)) (stage due.Counts waiting closed) u why.Header e in
      let n = same_notion_is notion header.notion (first (same_notion notion header.notion) (eqb order header.order && same_model model header.model) p.holds) in
      let q = second (same_notion notion header.notion) (eqb order header.order && same_model model header.model) p.holds in
      let o = eqb-true order header.order (first (eqb order header.order) (same_model model header.model) q) in
      let m = same_model_is model header.model (second (eqb order header.order) (same_model model header.model) q) in
      record {
        line_is = ap (λ (a : Notion). Run a order model) n ∙ ap (λ (b : ℕ). Run header.notion b model) o ∙ ap (λ (c : Model). Run header.notion header.order c) m;
        next = p.stage;
      }
  run_is waiting closed (Title version) u e = absurd (not_both u why.Form (wrong why.Form) e refl)
  run_is waiting closed (Counts probes rows tuples) u e = absurd (not_both u why.Form (wrong why.Form) e refl)
  run_is waiting closed (Hull hull) u e = absurd (not_both u why.Form (wrong why.Form) e refl)
  run_is waiting closed (Cuts rows) u e = absurd (not_both u why.Form (wrong why.Form) e refl)
  run_is waiting closed (End number) u e = absurd (not_both u why.Form (wrong why.Form) e refl)

  counts_are : (waiting : List Family) (closed : ℕ) (line : Line) (u : Stage) → judge x header (stage due.Counts waiting closed) line ≡ right u
      → LineIs (Counts header.probes header.rows header.tuples) due.Hull waiting closed line u
  counts_are waiting closed (Counts probes rows tuples) u e =
      let p = passes (eqb probes header.probes && (eqb rows header.rows && eqb tuples header.tuples)) (stage due.Hull waiting closed) u why.Header e in
      let n = eqb-true probes header.probes (first (eqb probes header.probes) (eqb rows header.rows && eqb tuples header.tuples) p.holds) in
      let q = second (eqb probes header.probes) (eqb rows header.rows && eqb tuples header.tuples) p.holds in
      let o = eqb-true rows header.rows (first (eqb rows header.rows) (eqb tuples header.tuples) q) in
      let m = eqb-true tuples header.tuples (second (eqb rows header.rows) (eqb tuples header.tuples) q) in
      record {
        line_is = ap (λ (a : ℕ). Counts a rows tuples) n ∙ ap (λ (b : ℕ). Counts header.probes b tuples) o ∙ ap (λ (c : ℕ). Counts header.probes header.rows c) m;
        next = p.stage;
      }
  counts_are waiting closed (Title version) u e = absurd (not_both u why.Form (wrong why.Form) e refl)
  counts_are waiting closed (Run notion order model) u e = absurd (not_both u why.Form (wrong why.Form) e refl)
  counts_are waiting closed (Hull hull) u e = absurd (not_both u why.Form (wrong why.Form) e refl)
  counts_are waiting closed (Cuts rows) u e = absurd (not_both u why.Form (wrong why.Form) e refl)
  counts_are waiting closed (End number) u e = absurd (not_both u why.Form (wrong why.Form) e refl)

  one_before : (line : Line) (lines : List Line) (d : Due) (place : ℕ) (waiting : List Family) (closed total : ℕ) (it : Line) (next : ℕ) (u : Stage) → StandsAt bytes place it next
      → LineIs line d waiting closed it u → Closing lines next waiting closed total → Closing (line ∷ lines) place waiting closed total
  one_before line lines d place waiting closed total it next u stands is r = record {
    entries = r.entries;
    stand = before place line next (lines ++ flat_map entry_lines r.entries ++ End total ∷ []) (subst (λ (l : Line). StandsAt bytes place l next) is.line_is stands) r.stand;
    closes = r.closes;
    counted = r.counted;
  }

  from_counts : (n place : ℕ) (waiting : List Family) (closed total : ℕ) → AreRight x header bytes n place (stage due.Counts waiting closed) (length bytes) (last_stage total)
      → Closing (Counts header.probes header.rows header.tuples ∷ []) place waiting closed total
  from_counts zero place waiting closed total h = absurd (not_due due.Counts waiting closed total refl h.1)
  from_counts (suc n) place waiting closed total h =
      let is = counts_are waiting closed h.0 h.2 h.4 in
      one_before (Counts header.probes header.rows header.tuples) [] due.Hull place waiting closed total h.0 h.1 h.2 h.3 is
      (closing n h.1 waiting closed total (subst (λ (s : Stage). AreRight x header bytes n h.1 s (length bytes) (last_stage total)) is.next h.5))

  from_run : (n place : ℕ) (waiting : List Family) (closed total : ℕ) → AreRight x header bytes n place (stage due.Run waiting closed) (length bytes) (last_stage total)
      → Closing (Run header.notion header.order header.model ∷ Counts header.probes header.rows header.tuples ∷ []) place waiting closed total
  from_run zero place waiting closed total h = absurd (not_due due.Run waiting closed total refl h.1)
  from_run (suc n) place waiting closed total h =
      let is = run_is waiting closed h.0 h.2 h.4 in
      one_before (Run header.notion header.order header.model) (Counts header.probes header.rows header.tuples ∷ []) due.Counts place waiting closed total h.0 h.1 h.2 h.3 is
      (from_counts n h.1 waiting closed total (subst (λ (s : Stage). AreRight x header bytes n h.1 s (length bytes) (last_stage total)) is.next h.5))

  from_title : (n place : ℕ) (waiting : List Family) (closed total : ℕ) → AreRight x header bytes n place (stage due.Title waiting closed) (length bytes) (last_stage total)
      → Closing (header_lines header) place waiting closed total
  from_title zero place waiting closed total h = absurd (not_due due.Title waiting closed total refl h.1)
  from_title (suc n) place waiting closed total h =
      let is = title_is waiting closed h.0 h.2 h.4 in
      one_before (Title 1) (Run header.notion header.order header.model ∷ Counts header.probes header.rows header.tuples ∷ []) due.Run place waiting closed total h.0 h.1 h.2 h.3 is
      (from_run n h.1 waiting closed total (subst (λ (s : Stage). AreRight x header bytes n h.1 s (length bytes) (last_stage total)) is.next h.5))

-- accepted bytes are certified, by as many entries
pub accepted_certified : (x : Instance) (model : Model) (order : ℕ) (bytes : List ℕ) (families : ℕ) → IsAccepted x model order bytes families
    → (entries : List Entry) × IsCertified x model order bytes entries × (families ≡ length entries)
unfolding lines_saying
accepted_certified x model order bytes families h =
    let r = from_title x (header_of x model order) bytes h.lines 0 (root.roots_of x order) 0 families h.right in
    let same : families ≡ length r.entries = omega (arith, r.counted) in (
      r.entries,
      record {
        text = subst (λ (n : ℕ). BeginsWith bytes (lines_saying n (header_of x model order) r.entries) []) same
            (record { forms = r.stand.forms; text = r.stand.text ∙ sym (append-nil (text_of (lines_saying families (header_of x model order) r.entries))) });
        closes = r.closes;
      },
      same,
    )

-- only the end leads to where nothing is due, and there no family waits
pub last_of : (x : Instance) (header : Header) (bytes : List ℕ) (d : Due) (waiting : List Family) (closed : ℕ) (line : Line) (u : Stage)
    → judge x header (stage d waiting closed) line ≡ right u → is_done u.due ≡ true → u ≡ last_stage u.closed
last_of x header bytes due.Title waiting closed line u e h =
    absurd (false≢true (ap (λ (s : Stage). is_done s.due) (sym (title_is x header bytes waiting closed line u e).next) ∙ h))
last_of x header bytes due.Run waiting closed line u e h =
    absurd (false≢true (ap (λ (s : Stage). is_done s.due) (sym (run_is x header bytes waiting closed line u e).next) ∙ h))
last_of x header bytes due.Counts waiting closed line u e h =
    absurd (false≢true (ap (λ (s : Stage). is_done s.due) (sym (counts_are x header bytes waiting closed line u e).next) ∙ h))
last_of x header bytes due.Hull waiting closed line u e h =
    elim (hull_or_end x header waiting closed line u e) [
      | inl hull ↦ absurd (false≢true (ap (λ (s : Stage). is_done s.due) (sym hull.next) ∙ h))
      | inr end ↦ end.next ∙ ap (λ (c : ℕ). last_stage c) (sym (ap (λ (s : Stage). s.closed) end.next))
    ]
last_of x header bytes (due.Cuts family hull) waiting closed line u e h =
    absurd (false≢true (ap (λ (s : Stage). is_done s.due) (sym (cuts_come x header family hull waiting closed line u e).next) ∙ h))
last_of x header bytes due.Nothing waiting closed line u e h =
    absurd (not_both u why.Form (judge x header (stage due.Nothing waiting closed) line) e (no_further x header (stage due.Nothing waiting closed) line refl))

-- Certified bytes are accepted.
use Rattle.std.proofs.Common.{◌≡◌, ℕ, suc, ◌+◌, ◌-◌, Bool, true, ◌&&◌, cond, eqb, eq-eqb, List, [], ◌∷◌, ◌++◌, length, drop, Some, None, refl, sym, ap, ◌∙◌, arith, length-append, length-drop}
use Rattle.std.specs.Prelude.{Ok}
use Rattle.std.specs.List.{flat_map, AllByRecursion}
use Rattle.std.proofs.lemmas.List.{append-nil, drop_at, drop-drop}
use Rattle.circuit_types.specs.declared.probes.Model.{Model}
use Rattle.circuit_types.specs.declared.probes.Model.TheVariants.{Value, Glitch}
use Rattle.expr_table.specs.declared.instance.Instance.{Instance}
use Rattle.expr_table.specs.declared.instance.Notion.{Notion}
use Rattle.expr_table.specs.declared.instance.Notion.TheVariants.{Probing, Ni, Sni}
use Rattle.probe_family.specs.declared.family.Family.{Family}
use Rattle.probe_family.specs.Roots as root
use Rattle.family_split.specs.Children.{children_of}
use Rattle.certificate.specs.declared.entries.Header.{Header}
use Rattle.certificate.specs.declared.entries.Entry.{Entry}
use Rattle.certificate.specs.declared.fault.Why.{Why}
use Rattle.certificate.specs.declared.fault.Why.TheVariants as why
use Rattle.certificate.specs.declared.line.Line.{Line}
use Rattle.certificate.specs.declared.line.Line.TheVariants.{Title, Run, Counts, Hull, Cuts, End}
use Rattle.certificate.specs.Lines.{IsLine, StandsAt, line_text}
use Rattle.certificate.specs.Certificates.{entry_lines, header_lines, lines_saying, text_of}
use Rattle.cert_check.specs.declared.due.Due.TheVariants as due
use Rattle.cert_check.specs.Closing.{Closes, IsCertified, header_of, hull_set, is_bounded, is_chain_for, is_hull_for}
use Rattle.cert_check.specs.Outcome.{AreRight, IsAccepted}
use Rattle.cert_check.specs.Stages.{Stage, judge, last_stage, same_model, same_notion, stage, unless}
use Rattle.cert_check.proofs.Outcomes.{right, wrong}
use Rattle.cert_check.proofs.RightLines.{moves_on}
use Rattle.cert_check.proofs.Questions.{both}

holds_then : (b : Bool) (s : Stage) (reason : Why) → b ≡ true → cond b (right s) (wrong reason) ≡ right s
holds_then b s reason e = ap (λ (t : Bool). cond t (right s) (wrong reason)) e

no_fault : (a b : Bool) (s : Stage) → a ≡ true → b ≡ true → unless (cond a (cond b None (Some why.Bound)) (Some why.Cuts)) s ≡ right s
no_fault a b s p q =
    ap (λ (t : Bool). unless (cond t (cond b None (Some why.Bound)) (Some why.Cuts)) s) p ∙ ap (λ (t : Bool). unless (cond t None (Some why.Bound)) s) q

same_notion_self : (a : Notion) → same_notion a a ≡ true
same_notion_self Probing = refl
same_notion_self Ni = refl
same_notion_self Sni = refl

same_model_self : (a : Model) → same_model a a ≡ true
same_model_self Value = refl
same_model_self Glitch = refl

module _ (x : Instance) (header : Header) (bytes : List ℕ) where
  -- from the place on the bytes are these lines
  record Left (place : ℕ) (lines : List Line) : Type 0 where
    forms : AllByRecursion IsLine lines
    text : drop place bytes ≡ text_of lines

  record Next (place : ℕ) (line : Line) (lines : List Line) : Type 0 where
    after : ℕ
    stands : StandsAt bytes place line after
    left : Left after lines

  next_line : (place : ℕ) (line : Line) (lines : List Line) → Left place (line ∷ lines) → Next place line lines
  next_line place line lines h =
      let behind : drop (place + length (line_text line)) bytes ≡ text_of lines =
      sym (drop-drop (length (line_text line)) place bytes) ∙ ap (λ (l : List ℕ). drop (length (line_text line)) l) h.text ∙ drop_at (line_text line) (text_of lines) (length (line_text line)) refl in
      record {
        after = place + length (line_text line);
        stands = record { form = h.forms.0; text = h.text ∙ ap (λ (l : List ℕ). line_text line ++ l) (sym behind); size = refl };
        left = record { forms = h.forms.1; text = behind };
      }

  -- nothing is left at the end of the bytes
  at_end : (place after : ℕ) (line : Line) → StandsAt bytes place line after → Left after [] → after ≡ length bytes
  at_end place after line stands left =
      let none : length bytes - after ≡ 0 = sym (length-drop after bytes) ∙ ap length left.text in
      let size : length bytes - place ≡ length (line_text line) + 0 =
      sym (length-drop place bytes) ∙ ap length stands.text ∙ length-append (line_text line) (drop after bytes) ∙ ap (λ (l : List ℕ). length (line_text line) + length l) left.text in
      omega (arith, none, size, stands.size, moves_on bytes place line after stands)

  record Path (place : ℕ) (s : Stage) (total : ℕ) : Type 0 where
    lines : ℕ
    right : AreRight x header bytes lines place s (length bytes) (last_stage total)

  one_right : (place : ℕ) (s : Stage) (total : ℕ) (line : Line) (after : ℕ) (u : Stage) → StandsAt bytes place line after → judge x header s line ≡ Ok u → Path after u total → Path place s total
  one_right place s total line after u stands is path = record { lines = suc path.lines; right = (line, after, u, stands, is, path.right) }

  entries_right : (entries : List Entry) (waiting : List Family) (closed total place : ℕ) → total ≡ closed + length entries → Closes x waiting entries []
      → Left place (flat_map entry_lines entries ++ End total ∷ []) → Path place (stage due.Hull waiting closed) total
  entries_right [] waiting closed total place e closes left =
      let n = next_line place (End total) [] left in
      let same : total ≡ closed = omega (arith, e) in
      let stage_is : stage due.Hull waiting closed ≡ stage due.Hull [] total = ap (λ (w : List Family). stage due.Hull w closed) closes ∙ ap (λ (c : ℕ). stage due.Hull [] c) (sym same) in
      one_right place (stage due.Hull waiting closed) total (End total) n.after (last_stage total) n.stands
      (ap (λ (s : Stage). judge x header s (End total)) stage_is ∙ holds_then (eqb total total) (last_stage total) why.Count (eq-eqb total total refl))
      (record { lines = 0; right = (at_end place n.after (End total) n.stands n.left, refl) })
  entries_right (entry ∷ entries) [] closed total place e closes left = absurd closes
  entries_right (entry ∷ entries) (family ∷ waiting) closed total place e closes left =
      let n = next_line place (Hull entry.hull) (Cuts entry.cuts ∷ (flat_map entry_lines entries ++ End total ∷ [])) left in
      let m = next_line n.after (Cuts entry.cuts) (flat_map entry_lines entries ++ End total ∷ []) n.left in
      one_right place (stage due.Hull (family ∷ waiting) closed) total (Hull entry.hull) n.after (stage (due.Cuts family (hull_set (length x.probes) entry.hull)) waiting closed) n.stands
      (holds_then (is_hull_for family entry.hull) (stage (due.Cuts family (hull_set (length x.probes) entry.hull)) waiting closed) why.Hull closes.0.hull)
      (one_right n.after (stage (due.Cuts family (hull_set (length x.probes) entry.hull)) waiting closed) total (Cuts entry.cuts) m.after
      (stage due.Hull (children_of family (hull_set (length x.probes) entry.hull) ++ waiting) (closed + 1)) m.stands
      (no_fault (is_chain_for x (hull_set (length x.probes) entry.hull) entry.cuts) (is_bounded x (hull_set (length x.probes) entry.hull) family.bound entry.cuts)
      (stage due.Hull (children_of family (hull_set (length x.probes) entry.hull) ++ waiting) (closed + 1)) closes.0.chain closes.0.bounded)
      (entries_right entries (children_of family (hull_set (length x.probes) entry.hull) ++ waiting) (closed + 1) total m.after (omega (arith, e)) closes.1 m.left))

  lines_right : (entries : List Entry) (waiting : List Family) → Closes x waiting entries []
      → Left 0 (header_lines header ++ flat_map entry_lines entries ++ End (length entries) ∷ []) → Path 0 (stage due.Title waiting 0) (length entries)
  lines_right entries waiting closes left =
      let n = next_line 0 (Title 1) (Run header.notion header.order header.model ∷ Counts header.probes header.rows header.tuples ∷ (flat_map entry_lines entries ++ End (length entries) ∷ [])) left in
      let m = next_line n.after (Run header.notion header.order header.model) (Counts header.probes header.rows header.tuples ∷ (flat_map entry_lines entries ++ End (length entries) ∷ [])) n.left in
      let k = next_line m.after (Counts header.probes header.rows header.tuples) (flat_map entry_lines entries ++ End (length entries) ∷ []) m.left in
      one_right 0 (stage due.Title waiting 0) (length entries) (Title 1) n.after (stage due.Run waiting 0) n.stands refl
      (one_right n.after (stage due.Run waiting 0) (length entries) (Run header.notion header.order header.model) m.after (stage due.Counts waiting 0) m.stands
      (holds_then (same_notion header.notion header.notion && (eqb header.order header.order && same_model header.model header.model)) (stage due.Counts waiting 0) why.Header
      (both (same_notion header.notion header.notion) (eqb header.order header.order && same_model header.model header.model) (same_notion_self header.notion)
      (both (eqb header.order header.order) (same_model header.model header.model) (eq-eqb header.order header.order refl) (same_model_self header.model))))
      (one_right m.after (stage due.Counts waiting 0) (length entries) (Counts header.probes header.rows header.tuples) k.after (stage due.Hull waiting 0) k.stands
      (holds_then (eqb header.probes header.probes && (eqb header.rows header.rows && eqb header.tuples header.tuples)) (stage due.Hull waiting 0) why.Header
      (both (eqb header.probes header.probes) (eqb header.rows header.rows && eqb header.tuples header.tuples) (eq-eqb header.probes header.probes refl)
      (both (eqb header.rows header.rows) (eqb header.tuples header.tuples) (eq-eqb header.rows header.rows refl) (eq-eqb header.tuples header.tuples refl))))
      (entries_right entries waiting 0 (length entries) k.after (omega arith) closes k.left)))

pub certified_accepted : (x : Instance) (model : Model) (order : ℕ) (bytes : List ℕ) (entries : List Entry) → IsCertified x model order bytes entries → IsAccepted x model order bytes (length entries)
unfolding lines_saying
certified_accepted x model order bytes entries h =
    let left : Left x (header_of x model order) bytes 0 (header_lines (header_of x model order) ++ flat_map entry_lines entries ++ End (length entries) ∷ []) =
    record { forms = h.text.forms; text = h.text.text ∙ append-nil (text_of (lines_saying (length entries) (header_of x model order) entries)) } in
    let path = lines_right x (header_of x model order) bytes entries (root.roots_of x order) h.closes left in
    record { lines = path.lines; right = path.right }

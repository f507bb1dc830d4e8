-- What is answered holds of the bytes, and what holds of them is answered.
use Rattle.std.proofs.Common.{◌≡◌, ℕ, List, length, refl, ap, ◌∙◌, sym, subst, inl, inr, Option, Some, None, Result, Ok, Err, IfOk, IfErr}
use Rattle.std.specs.Option.{IsSome, is_some}
use Rattle.rtlil_lex.specs.Tokens.{HasFault, line_at}
use Rattle.rtlil_lex.specs.declared.fault.LexFault.{LexFault}
use Rattle.rtlil_lex.specs.declared.fault.LexFault.TheVariants as fault
use Rattle.circuit_types.specs.Top.{top_of}
use Rattle.circuit_types.specs.declared.refusal.Refusal.{Refusal}
use Rattle.circuit_types.specs.declared.refusal.Refusal.TheVariants.{NoTop}
use Rattle.circuit_types.specs.declared.refusal.Stop.{Stop}
use Rattle.circuit_types.specs.declared.refusal.Stop.TheVariants as stop
use Rattle.circuit_types.specs.declared.tree.Tree.{Tree}
use Rattle.rtlil_tree.specs.Lines.{lines_of, AreLines}
use Rattle.rtlil_tree.specs.Text.{Stands}
use Rattle.rtlil_tree.specs.Refusals.{IsRefused}
use Rattle.rtlil_tree.specs.Inner.Reading.{fault_stop, has_top, topped, ReadsStatements, ReadsText}
use Rattle.rtlil_tree.proofs.Standing.{tree_if_run, refused_if_run, same_tree, same_refusal, no_refusal}
use Rattle.rtlil_tree.specs.Answers.{StandsWithTop, HasStop, AnswersTree, AnswersRefusal}

-- ---- the statements

lines_read : (result : Result Tree Stop) (bytes : List ℕ) (s : ReadsStatements result bytes) → AreLines bytes (lines_of bytes s.tokens) (line_at bytes (length bytes))
lines_read result bytes s = record { tokens = s.tokens; are_tokens = s.are_tokens; lines_are = refl; end_is = refl }

statements_stand : (bytes : List ℕ) (t : Tree) → ReadsStatements (Ok t) bytes → Stands bytes t
statements_stand bytes t s =
    let lines = lines_of bytes s.tokens in
    let are = lines_read (Ok t) bytes s in
    record { lines = lines; end_line = line_at bytes (length bytes); are_lines = are; text = tree_if_run bytes lines (line_at bytes (length bytes)) t are s.reads }

text_stands : (bytes : List ℕ) (t : Tree) → ReadsText (Ok t) bytes → Stands bytes t
text_stands bytes t (inl s) = statements_stand bytes t s
text_stands bytes t (inr f) = let no = f.stops in absurd cc

fault_due : (bytes : List ℕ) (f : LexFault) → HasFault bytes f → HasStop bytes (fault_stop bytes f)
fault_due bytes (fault.BadByte place) h = record { place = place; fault = inl h; line_is = refl }
fault_due bytes (fault.OpenString place) h = record { place = place; fault = inr h; line_is = refl }
fault_due bytes fault.NoMemory h = tt

same_stop : (bytes : List ℕ) (e f : Stop) → e ≡ f → HasStop bytes f → HasStop bytes e
same_stop bytes e f is h = subst (HasStop bytes) (sym is) h

abbrev stopped : Stop → Result Tree Stop
stopped e = Err e

err_is : (e f : Stop) → stopped e ≡ stopped f → e ≡ f
err_is e f h = cc

text_stops : (bytes : List ℕ) (e : Stop) → ReadsText (Err e) bytes → HasStop bytes e
text_stops bytes stop.NoMemory reads = tt
text_stops bytes (stop.Refused r) (inl s) = refused_if_run bytes (lines_of bytes s.tokens) (line_at bytes (length bytes)) r (lines_read (Err (stop.Refused r)) bytes s) s.reads
text_stops bytes (stop.Refused r) (inr f) = same_stop bytes (stop.Refused r) (fault_stop bytes f.fault) (err_is (stop.Refused r) (fault_stop bytes f.fault) f.stops) (fault_due bytes f.fault f.has_fault)

-- ---- what is answered holds

-- the answer holds of the bytes
pub record Holds (bytes : List ℕ) (result : Result Tree Stop) : Type 0 where
  pub tree : IfOk result (StandsWithTop bytes)
  pub refused : IfErr result (HasStop bytes)

err_holds : (bytes : List ℕ) (e : Stop) → HasStop bytes e → Holds bytes (Err e)
err_holds bytes e h = record { tree = tt; refused = h }

top_holds : (bytes : List ℕ) (t : Tree) (o : Option ℕ) → Stands bytes t → top_of t ≡ o → Holds bytes (has_top t o)
top_holds bytes t (Some place) stands is = record { tree = (stands, ap is_some is); refused = tt }
top_holds bytes t None stands is = err_holds bytes (stop.Refused NoTop) (record { tree = t; stands = stands; none = is })

same_holds : (bytes : List ℕ) (result other : Result Tree Stop) → result ≡ other → Holds bytes other → Holds bytes result
same_holds bytes result other is h = subst (Holds bytes) (sym is) h

pub topped_holds : (bytes : List ℕ) (t : Tree) (result : Result Tree Stop) → ReadsText (Ok t) bytes → result ≡ topped t → Holds bytes result
topped_holds bytes t result reads is = same_holds bytes result (topped t) is (top_holds bytes t (top_of t) (text_stands bytes t reads) refl)

pub stopped_holds : (bytes : List ℕ) (e f : Stop) (result : Result Tree Stop) → ReadsText (Err e) bytes → result ≡ Err f → f ≡ e → Holds bytes result
stopped_holds bytes e f result reads is same = same_holds bytes result (Err e) (is ∙ ap (λ x. Err x) same) (err_holds bytes e (text_stops bytes e reads))

-- ---- what holds is answered

pub all_trees : (bytes : List ℕ) (result : Result Tree Stop) → Holds bytes result → (t : Tree) → Stands bytes t → IsSome (top_of t) → AnswersTree result t
all_trees bytes (Ok u) h t stands top = same_tree bytes u t h.tree.0 stands
all_trees bytes (Err (stop.Refused r)) h t stands top = absurd (no_refusal bytes t r stands top h.refused)
all_trees bytes (Err stop.NoMemory) h t stands top = tt

pub all_refusals : (bytes : List ℕ) (result : Result Tree Stop) → Holds bytes result → (r : Refusal) → IsRefused bytes r → AnswersRefusal result r
all_refusals bytes (Ok u) h r refused = absurd (no_refusal bytes u r h.tree.0 h.tree.1 refused)
all_refusals bytes (Err (stop.Refused s)) h r refused = same_refusal bytes s r h.refused refused
all_refusals bytes (Err stop.NoMemory) h r refused = tt

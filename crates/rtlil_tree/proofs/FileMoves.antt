-- How the reader goes through a file.
use Rattle.std.proofs.Common.{◌≡◌, ℕ, ℤ, Bool, true, not, List, [], ◌∷◌, ◌++◌, refl, ap, ◌∙◌, sym, Result, Ok, Err, Some}
use Rattle.std.proofs.lemmas.List.{map-append}
use Rattle.std.specs.declared.vec.Vec.{Vec}
use Rattle.std.specs.declared.alloc.Global.{Global}
use Rattle.circuit_types.specs.declared.refusal.Refusal.{Refusal}
use Rattle.circuit_types.specs.declared.refusal.Refusal.TheVariants.{BadForm}
use Rattle.circuit_types.specs.declared.refusal.Stop.{Stop}
use Rattle.circuit_types.specs.declared.refusal.Stop.TheVariants as stop
use Rattle.circuit_types.specs.declared.tree.Tree.{Tree}
use Rattle.circuit_types.specs.declared.tree.Attribute.{Attribute}
use Rattle.circuit_types.specs.declared.tree.Module.{Module}
use Rattle.circuit_types.specs.declared.tree.Item.{Item}
use Rattle.rtlil_tree.specs.declared.lines.Lines.{Lines}
use Rattle.rtlil_tree.specs.declared.line.Line.{Line}
use Rattle.rtlil_tree.specs.declared.file_body.FileBody.{FileBody}
use Rattle.rtlil_tree.specs.declared.statements.FileStatement.{FileStatement}
use Rattle.rtlil_tree.specs.Names.{is_among, module_names}
use Rattle.rtlil_tree.specs.Inner.Seen.{HasOneMore}
use Rattle.rtlil_tree.specs.Forms.{FileForm, autoidx, attribute, begins, file_view}
use Rattle.rtlil_tree.specs.Inner.Cursor.{line_view, Rest, IsRest, GoesOn, ReadsWhole, IsTaken}
use Rattle.rtlil_tree.specs.Machine as machine
use Rattle.rtlil_tree.specs.Machine.{State, start, file, inside, step, file_step, has_some, with_items, module_begun, finish}
use Rattle.rtlil_tree.specs.Inner.Reading.{StopsAt, run_on, run_from, ReadsModule, HasItsModules, ReadsFileLine, in_file, FileRunsTo, ReadsFile}
use Rattle.rtlil_tree.proofs.Moves.{IsNext, IsLast, goes_nowhere, goes_far, same_rest, moves, ends, stops_by, stops_as, stops_taken, stops_run, stops_short, is_new, one_more, unless_bad, unless_good}

-- the lines left and the body so far give what all lines give
pub record FileSoFar (first now : Lines) (body : FileBody) : Type 0 where
  pub names : HasItsModules body
  pub on : GoesOn first now
  pub same : (rest : Rest) → IsRest first.bytes.now rest → run_on rest start first ≡ run_on rest (in_file body) now

pub file_start : (lines : Lines) (body : FileBody) → body.modules.items ≡ [] → body.held.items ≡ [] → HasItsModules body → FileSoFar lines lines body
file_start lines body is held names = record {
  names = names;
  on = goes_nowhere lines;
  same = λ rest ah.
      ap (λ (l : List Module). run_on rest (file l []) lines) (sym is)
      ∙ ap (λ (l : List Attribute). run_on rest (file body.modules.items l) lines) (sym held);
}

abbrev pub due_of : FileBody → ℕ → FileForm → Result State Refusal
due_of body number form = file_step body.modules.items body.held.items number (Some form)

-- what is due for the statement that was read
due_here : (body : FileBody) (line : Line) (number : ℕ) (s : FileStatement) (form : FileForm) → ReadsFileLine (Ok s) line → file_view s ≡ form → number ≡ (line_view line).number → step (in_file body) (line_view line) ≡ due_of body number form
due_here body line number s form reads is at =
    reads body.modules.items body.held.items
    ∙ ap (λ (f : FileForm). due_of body (line_view line).number f) is
    ∙ ap (λ (n : ℕ). due_of body n form) (sym at)

pub file_attribute_in : (first now new : Lines) (body : FileBody) (line : Line) (number : ℕ) (s : FileStatement) (a : Attribute) (v : Vec Attribute Global) → FileSoFar first now body → IsNext now new line
    → ReadsFileLine (Ok s) line → file_view s ≡ attribute a → number ≡ (line_view line).number → v.items ≡ body.held.items ++ a ∷ [] → FileSoFar first new (record body { held = v })
file_attribute_in first now new body line number s a v far taken reads is at pushed = record {
  names = far.names;
  on = goes_far first now new far.on taken.on;
  same = λ rest ah.
      far.same rest ah
      ∙ moves rest (in_file body) now new line (Ok (file body.modules.items v.items)) taken (same_rest first now rest far.on ah)
      (due_here body line number s (attribute a) reads is at ∙ ap (λ (l : List Attribute). Ok (file body.modules.items l)) (sym pushed));
}

pub file_run_in : {X : Type 0} (x : X) (first now new last : Lines) (body after : FileBody) (line : Line) (number : ℕ) (s : FileStatement) (form : FileForm) → FileSoFar first now body → IsNext now new line
    → ReadsFileLine (Ok s) line → file_view s ≡ form → number ≡ (line_view line).number → FileRunsTo (Ok x) body after new last number form → HasItsModules after → GoesOn new last → FileSoFar first last after
file_run_in x first now new last body after line number s form far taken reads is at runs names more = record {
  names = names;
  on = goes_far first new last (goes_far first now new far.on taken.on) more;
  same = λ rest ah.
      far.same rest ah ∙ moves rest (in_file body) now new line (due_of body number form) taken (same_rest first now rest far.on ah) (due_here body line number s form reads is at)
      ∙ runs rest (same_rest now new rest taken.on (same_rest first now rest far.on ah));
}

pub file_index_in : (first now new : Lines) (body : FileBody) (line : Line) (number : ℕ) (s : FileStatement) (z : ℤ) → FileSoFar first now body → IsNext now new line
    → ReadsFileLine (Ok s) line → file_view s ≡ autoidx z → number ≡ (line_view line).number → body.held.items ≡ [] → FileSoFar first new body
file_index_in first now new body line number s z far taken reads is at none = record {
  names = far.names;
  on = goes_far first now new far.on taken.on;
  same = λ rest ah.
      far.same rest ah
      ∙ moves rest (in_file body) now new line (Ok (in_file body)) taken (same_rest first now rest far.on ah)
      (due_here body line number s (autoidx z) reads is at ∙ unless_good (has_some body.held.items) number (in_file body) (ap has_some none));
}

pub file_index_stopped : (e : Stop) (first now new : Lines) (body : FileBody) (line : Line) (number : ℕ) (s : FileStatement) (z : ℤ) → FileSoFar first now body → IsNext now new line
    → ReadsFileLine (Ok s) line → file_view s ≡ autoidx z → number ≡ (line_view line).number → e ≡ stop.Refused (BadForm number) → has_some body.held.items ≡ true → ReadsFile (Err e) first
file_index_stopped e first now new body line number s z far taken reads is at refused some rest ah =
    stops_as e (BadForm number) _ refused
    (far.same rest ah
    ∙ moves rest (in_file body) now new line (machine.bad_form number) taken (same_rest first now rest far.on ah)
    (due_here body line number s (autoidx z) reads is at ∙ unless_bad (has_some body.held.items) number (in_file body) some))

pub file_stopped : (first now new : Lines) (body : FileBody) (line : Line) (e : Stop) → FileSoFar first now body → IsNext now new line → ReadsFileLine (Err e) line → ReadsFile (Err e) first
file_stopped first now new body line e far taken reads rest ah = stops_by e _ _ (far.same rest ah) (stops_run rest (in_file body) now new line e taken (same_rest first now rest far.on ah) (reads body.modules.items body.held.items))

pub file_run_stopped : (e : Stop) (first now new last : Lines) (body after : FileBody) (line : Line) (number : ℕ) (s : FileStatement) (form : FileForm) → FileSoFar first now body → IsNext now new line
    → ReadsFileLine (Ok s) line → file_view s ≡ form → number ≡ (line_view line).number → ((rest : Rest) → IsRest new.bytes.now rest → StopsAt e (run_from rest (due_of body number form) new)) → ReadsFile (Err e) first
file_run_stopped e first now new last body after line number s form far taken reads is at runs rest ah =
    stops_by e _ _ (far.same rest ah ∙ moves rest (in_file body) now new line (due_of body number form) taken (same_rest first now rest far.on ah) (due_here body line number s form reads is at)) (runs rest (same_rest now new rest taken.on (same_rest first now rest far.on ah)))

-- ---- the end of the text

finished : (end_line : ℕ) (ms : List Module) (held : List Attribute) → held ≡ [] → finish end_line (file ms held) ≡ Ok (record { modules = ms })
finished end_line ms held none = ap (λ (l : List Attribute). finish end_line (file ms l)) none

unfinished : (end_line : ℕ) (ms : List Module) (held : List Attribute) → has_some held ≡ true → finish end_line (file ms held) ≡ Err (BadForm end_line)
unfinished end_line ms [] some = absurd cc
unfinished end_line ms (a ∷ held) some = refl

-- the answer with these modules
abbrev pub tree_of : List Module → Result Tree Refusal
tree_of ms = Ok (record { modules = ms })

pub file_closed : (first now new : Lines) (body : FileBody) (ms : List Module) → FileSoFar first now body → IsLast now new → body.held.items ≡ [] → ms ≡ body.modules.items → ReadsFile (Ok (record { modules = ms })) first
file_closed first now new body ms far last none is rest ah =
    far.same rest ah ∙ ends rest (in_file body) now new last (same_rest first now rest far.on ah) ∙ finished rest.end_line body.modules.items body.held.items none ∙ ap tree_of (sym is)

pub whole_read : (first now new : Lines) (body : FileBody) → FileSoFar first now body → IsLast now new → ReadsWhole first new
whole_read first now new body far last = record { on = goes_far first now new far.on last.on; at_end = last.at_end }

pub file_not_closed : (e : Stop) (first now new : Lines) (body : FileBody) → FileSoFar first now body → IsLast now new → e ≡ stop.Refused (BadForm new.end_line) → has_some body.held.items ≡ true → ReadsFile (Err e) first
file_not_closed e first now new body far last is some rest ah =
    let here = same_rest first now rest far.on ah in
    stops_short e now new rest _ is last here (far.same rest ah ∙ ends rest (in_file body) now new last here ∙ unfinished rest.end_line body.modules.items body.held.items some)

-- the lines could not be read for want of memory
pub file_not_taken : (e : Stop) (first now new : Lines) (body : FileBody) → FileSoFar first now body → IsTaken now new (Err e) → ReadsFile (Err e) first
file_not_taken e first now new body far taken rest ah =
    stops_taken now new rest e (run_on rest start first) taken (same_rest first now rest far.on ah)

-- ---- modules

module_entered : (rest : Rest) (old : FileBody) (before : Lines) (line : ℕ) (name : List ℕ) (added : Bool) → HasItsModules old → added ≡ not (is_among name old.names) → added ≡ true
    → run_from rest (due_of old line (begins name)) before ≡ run_on rest (inside old.modules.items (with_items (module_begun line name old.held.items) []) []) before
module_entered rest old before line name added names is new_name =
    ap (λ (d : Result State Refusal). run_from rest d before)
    (unless_good (is_among name (module_names old.modules.items)) line (inside old.modules.items (module_begun line name old.held.items) []) (is_new old.names (module_names old.modules.items) name added names is new_name))

pub module_body_stopped : (e : Stop) (old : FileBody) (before after : Lines) (line : ℕ) (name : List ℕ) (added : Bool) → HasItsModules old → added ≡ not (is_among name old.names) → added ≡ true
    → ReadsModule (Err e) before after → (rest : Rest) → IsRest before.bytes.now rest → StopsAt e (run_from rest (due_of old line (begins name)) before)
module_body_stopped e old before after line name added names is new_name reads rest ah =
    stops_by e _ _ (module_entered rest old before line name added names is new_name) (reads rest ah old.modules.items (module_begun line name old.held.items))

-- the module with its items
abbrev pub module_with : ℕ → List ℕ → List Attribute → List Item → Module
module_with line name held items = with_items (module_begun line name held) items

-- a module that was pushed, by what it is made of
pub module_as : (old after : List Module) (line : ℕ) (name name_is : List ℕ) (held held_is : List Attribute) (items items_is : List Item)
    → after ≡ old ++ record { line = line; name = name; attributes = held; items = items } ∷ [] → name ≡ name_is → held ≡ held_is → items ≡ items_is
    → after ≡ old ++ record { line = line; name = name_is; attributes = held_is; items = items_is } ∷ []
module_as old after line name name_is held held_is items items_is pushed a b d = cc

pub module_added : {X : Type 0} (x : X) (old new : FileBody) (before after : Lines) (line : ℕ) (name : List ℕ) (items : Vec Item Global) (added : Bool) → HasItsModules old → added ≡ not (is_among name old.names) → added ≡ true
    → ReadsModule (Ok items) before after → new.modules.items ≡ old.modules.items ++ module_with line name old.held.items items.items ∷ [] → new.held.items ≡ []
    → FileRunsTo (Ok x) old new before after line (begins name)
module_added x old new before after line name items added names is new_name reads pushed none rest ah =
    module_entered rest old before line name added names is new_name
    ∙ reads rest ah old.modules.items (module_begun line name old.held.items)
    ∙ ap (λ (l : List Module). run_on rest (file l []) after) (sym pushed)
    ∙ ap (λ (l : List Attribute). run_on rest (file new.modules.items l) after) (sym none)

-- the names of a body with one more module
pub module_item_names : (old new : FileBody) (m : Module) (name : List ℕ) → HasItsModules old → new.modules.items ≡ old.modules.items ++ m ∷ [] → m.name ≡ name → HasOneMore old.names new.names name → HasItsModules new
module_item_names old new m name names pushed is more =
    one_more old.names new.names (module_names old.modules.items) (module_names new.modules.items) name names more
    (ap module_names pushed ∙ map-append (λ (x : Module). x.name) old.modules.items (m ∷ []) ∙ ap (λ n. module_names old.modules.items ++ n ∷ []) is)

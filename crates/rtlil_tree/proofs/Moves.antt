-- How the reader goes on from a state, and which names it has seen.
use Rattle.std.proofs.Common.{◌≡◌, ℕ, Bool, true, false, not, ◌||◌, List, [], ◌∷◌, ◌++◌, length, refl, ap, ◌∙◌, sym, subst, arith, Result, Ok, Err}
use Rattle.std.specs.Str.{bytes_eq}
use Rattle.rtlil_lex.specs.Tokens.{line_at}
use Rattle.circuit_types.specs.declared.refusal.Refusal.{Refusal}
use Rattle.circuit_types.specs.declared.refusal.Refusal.TheVariants.{BadForm}
use Rattle.circuit_types.specs.declared.refusal.Stop.{Stop}
use Rattle.circuit_types.specs.declared.refusal.Stop.TheVariants as stop
use Rattle.rtlil_tree.specs.declared.lines.Lines.{Lines}
use Rattle.rtlil_tree.specs.declared.line.Line as code
use Rattle.rtlil_tree.specs.Lines.{Line}
use Rattle.rtlil_tree.specs.Names.{is_among}
use Rattle.rtlil_tree.specs.Inner.Seen.{HasOneMore, HaveSameNames}
use Rattle.rtlil_tree.specs.Inner.Cursor.{line_view, current_of, Rest, IsRest, left_of, GoesOn, IsTaken}
use Rattle.rtlil_tree.specs.Machine.{State, step, finish, run, unless, bad_form}
use Rattle.rtlil_tree.specs.Inner.Reading.{StopsAt, LeadsTo, run_on, run_from}

-- ---- lines

-- The next line is taken.
pub record IsNext (old new : Lines) (line : code.Line) : Type 0 where
  pub first : (rest : Rest) → IsRest old.bytes.now rest → left_of rest old ≡ line_view line ∷ left_of rest new
  pub on : GoesOn old new

-- No line is left.
pub record IsLast (old new : Lines) : Type 0 where
  pub none : (rest : Rest) → IsRest old.bytes.now rest → left_of rest old ≡ []
  pub on : GoesOn old new
  pub at_end : new.place ≡ length new.bytes.now

pub is_next : (old new : Lines) (line : code.Line) (some : Bool) → IsTaken old new (Ok some) → GoesOn old new → some ≡ true → line_view line ≡ current_of new.part → IsNext old new line
unfolding IsTaken
is_next old new line true taken on is view = record {
  first = λ rest ah. taken rest ah ∙ ap (λ (l : Line). l ∷ left_of rest new) (sym view);
  on = on;
}
is_next old new line false taken on is view = absurd cc

pub is_last : (old new : Lines) (some : Bool) → IsTaken old new (Ok some) → GoesOn old new → some ≡ false → new.place ≡ length new.bytes.now → IsLast old new
unfolding IsTaken
is_last old new false taken on is at_end = record { none = λ rest ah. taken rest ah; on = on; at_end = at_end }
is_last old new true taken on is at_end = absurd cc

pub goes_nowhere : (lines : Lines) → GoesOn lines lines
goes_nowhere lines = record { bytes = refl; less = omega arith; tokens = λ h. h }

pub goes_far : (a b c : Lines) → GoesOn a b → GoesOn b c → GoesOn a c
goes_far a b c on more = record {
  bytes = more.bytes ∙ on.bytes;
  less = let x = on.less in let y = more.less in omega arith;
  tokens = λ h. more.tokens (on.tokens h);
}

-- it is the same text
pub same_rest : (old new : Lines) (rest : Rest) → GoesOn old new → IsRest old.bytes.now rest → IsRest new.bytes.now rest
same_rest old new rest on ah = let P : List ℕ → Type 0 = λ b. IsRest b rest in subst P (sym on.bytes) ah

-- the line on which the text ends
pub end_line_is : (old new : Lines) (rest : Rest) → IsLast old new → IsRest old.bytes.now rest → new.end_line ≡ rest.end_line
end_line_is old new rest last ah =
    new.counted ∙ ap (line_at new.bytes.now) last.at_end ∙ sym (same_rest old new rest last.on ah).end_is

-- ---- statements

from_step : (rest : Rest) (due : Result State Refusal) (lines : Lines) → elim due [ Ok t ↦ run rest.end_line t (left_of rest lines) | Err r ↦ Err r ] ≡ run_from rest due lines
from_step rest (Ok t) lines = refl
from_step rest (Err r) lines = refl

run_moves : (rest : Rest) (s : State) (line : Line) (old : List Line) (new : Lines) → old ≡ line ∷ left_of rest new → run rest.end_line s old ≡ run_from rest (step s line) new
unfolding run
run_moves rest s line old new e = ap (run rest.end_line s) e ∙ from_step rest (step s line) new

run_ends : (end_line : ℕ) (s : State) (lines : List Line) → lines ≡ [] → run end_line s lines ≡ finish end_line s
unfolding run
run_ends end_line s lines e = ap (run end_line s) e

-- the next statement is taken, and what is due for it is known
pub moves : (rest : Rest) (s : State) (old new : Lines) (line : code.Line) (due : Result State Refusal) → IsNext old new line → IsRest old.bytes.now rest → step s (line_view line) ≡ due → run_on rest s old ≡ run_from rest due new
moves rest s old new line due next ah is =
    run_moves rest s (line_view line) (left_of rest old) new (next.first rest ah) ∙ ap (λ (r : Result State Refusal). run_from rest r new) is

-- no statement is left
pub ends : (rest : Rest) (s : State) (old new : Lines) → IsLast old new → IsRest old.bytes.now rest → run_on rest s old ≡ finish rest.end_line s
ends rest s old new last ah = run_ends rest.end_line s (left_of rest old) (last.none rest ah)

-- ---- answers

-- the exit of a `?`
pub leads_out : {X A : Type 0} (result : Result X Stop) (e f : Stop) (due : Result A Refusal) (next : X → Result A Refusal) → result ≡ Err f → f ≡ e → StopsAt e due → LeadsTo result due next
leads_out {X = X} result e f due next is same h =
    let P : Result X Stop → Type 0 = λ r. LeadsTo r due next in
    subst P (sym (is ∙ ap (λ x. Err x) same)) h

pub stops_by : {A : Type 0} (e : Stop) (due other : Result A Refusal) → due ≡ other → StopsAt e other → StopsAt e due
stops_by stop.NoMemory due other is h = tt
stops_by (stop.Refused r) due other is h = is ∙ h

pub stops_as : {A : Type 0} (e : Stop) (r : Refusal) (due : Result A Refusal) → e ≡ stop.Refused r → due ≡ Err r → StopsAt e due
stops_as e r due is h =
    let P : Stop → Type 0 = λ s. StopsAt s due in
    subst P (sym is) h

-- the lines could not be read for want of memory
pub stops_taken : {A : Type 0} (old new : Lines) (rest : Rest) (e : Stop) (due : Result A Refusal) → IsTaken old new (Err e) → IsRest old.bytes.now rest → StopsAt e due
unfolding IsTaken
stops_taken old new rest e due taken ah =
    let P : Stop → Type 0 = λ s. StopsAt s due in
    subst P (sym (taken rest ah)) tt

-- a refusal of the statement is that of the text
pub stops_run : (rest : Rest) (s : State) (old new : Lines) (line : code.Line) (e : Stop) → IsNext old new line → IsRest old.bytes.now rest → StopsAt e (step s (line_view line)) → StopsAt e (run_on rest s old)
stops_run rest s old new line stop.NoMemory next ah h = tt
stops_run rest s old new line (stop.Refused r) next ah h = moves rest s old new line (Err r) next ah h

pub stops_from : (rest : Rest) (due : Result State Refusal) (lines : Lines) (e : Stop) → StopsAt e due → StopsAt e (run_from rest due lines)
stops_from rest due lines stop.NoMemory h = tt
stops_from rest due lines (stop.Refused r) h = ap (λ (d : Result State Refusal). run_from rest d lines) h

-- something is missing at the end of the text
pub stops_short : {A : Type 0} (e : Stop) (old new : Lines) (rest : Rest) (due : Result A Refusal) → e ≡ stop.Refused (BadForm new.end_line) → IsLast old new → IsRest old.bytes.now rest → due ≡ Err (BadForm rest.end_line) → StopsAt e due
stops_short e old new rest due is last ah h = stops_as e (BadForm rest.end_line) due (is ∙ ap (λ n. stop.Refused (BadForm n)) (end_line_is old new rest last ah)) h

-- ---- names

or_swap : (a b c : Bool) → (a || (b || c)) ≡ (b || (a || c))
or_swap true true c = refl
or_swap true false c = refl
or_swap false true c = refl
or_swap false false c = refl

among_last : (x name : List ℕ) (names : List (List ℕ)) → is_among x (names ++ name ∷ []) ≡ (bytes_eq x name || is_among x names)
among_last x name [] = refl
among_last x name (n ∷ ns) = ap (λ b. bytes_eq x n || b) (among_last x name ns) ∙ or_swap (bytes_eq x n) (bytes_eq x name) (is_among x ns)

not_false : (b : Bool) → not b ≡ false → b ≡ true
not_false true e = refl
not_false false e = sym e

not_true : (b : Bool) → not b ≡ true → b ≡ false
not_true true e = sym e
not_true false e = refl

pub one_more : (old new names after : List (List ℕ)) (name : List ℕ) → HaveSameNames old names → HasOneMore old new name → after ≡ names ++ name ∷ [] → HaveSameNames new after
one_more old new names after name same more is x =
    more x ∙ ap (λ b. bytes_eq x name || b) (same x) ∙ sym (among_last x name names) ∙ ap (is_among x) (sym is)

pub still_same : (seen names after : List (List ℕ)) → HaveSameNames seen names → after ≡ names → HaveSameNames seen after
still_same seen names after same is x = same x ∙ ap (is_among x) (sym is)

pub was_seen : (old names : List (List ℕ)) (name : List ℕ) (added : Bool) → HaveSameNames old names → added ≡ not (is_among name old) → added ≡ false → is_among name names ≡ true
was_seen old names name added same is old_name = sym (same name) ∙ not_false (is_among name old) (sym is ∙ old_name)

pub is_new : (old names : List (List ℕ)) (name : List ℕ) (added : Bool) → HaveSameNames old names → added ≡ not (is_among name old) → added ≡ true → is_among name names ≡ false
is_new old names name added same is new_name = sym (same name) ∙ not_true (is_among name old) (sym is ∙ new_name)

pub unless_bad : (bad : Bool) (line : ℕ) (s : State) → bad ≡ true → unless bad line s ≡ bad_form line
unless_bad bad line s e = ap (λ b. unless b line s) e

pub unless_good : (bad : Bool) (line : ℕ) (s : State) → bad ≡ false → unless bad line s ≡ Ok s
unless_good bad line s e = ap (λ b. unless b line s) e

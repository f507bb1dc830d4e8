-- How the reader goes from line to line, and from part to part.
use Rattle.std.proofs.Common.{◌≡◌, ℕ, ◌<◌, ◌≤◌, Bool, true, false, List, [], ◌∷◌, ◌++◌, length, take, refl, ap, ◌∙◌, sym, subst, arith, Result, Ok, Err}
use Rattle.circuit_types.specs.declared.refusal.Stop.{Stop}
use Rattle.rtlil_tree.specs.declared.lines.Lines.{Lines}
use Rattle.rtlil_tree.specs.Lines as text
use Rattle.rtlil_tree.specs.Inner.Parts.{HasTokens}
use Rattle.rtlil_tree.specs.Inner.Cursor.{current_of, left_in, tokens_left, Rest, IsRest, left_of, work_of, GoesOn, IsLoaded, Takes, IsTaken}
use Rattle.rtlil_tree.proofs.Moves.{goes_nowhere, goes_far, same_rest}

-- ---- within a part

-- The same text, with its part read further.
pub record IsWithin (now mid : Lines) : Type 0 where
  pub bytes : mid.bytes.now ≡ now.bytes.now
  pub place : mid.place ≡ now.place
  pub order : tokens_left mid.part ≤ tokens_left now.part

pub within_on : (now mid : Lines) → IsWithin now mid → GoesOn now mid
unfolding work_of
within_on now mid within =
    let order = within.order in
    let P : ℕ → Type 0 = λ n. HasTokens (take n mid.bytes.now) in
    let Q : List ℕ → Type 0 = λ l. HasTokens (take now.place l) in
    record {
      bytes = within.bytes;
      less = rw (within.bytes, within.place) (omega arith);
      tokens = λ h. subst P (sym within.place) (subst Q (sym within.bytes) h);
    }

pub within_less : (now mid : Lines) → IsWithin now mid → tokens_left mid.part < tokens_left now.part → work_of mid < work_of now
unfolding work_of
within_less now mid within less = rw (within.bytes, within.place) (omega arith)

none_here : (now mid : Lines) (rest : Rest) → IsWithin now mid → left_in now.part ≡ [] → left_of rest now ≡ rest.ahead mid.place
unfolding left_of
none_here now mid rest within none = ap (λ (l : List text.Line). l ++ rest.ahead now.place) none ∙ ap rest.ahead (sym within.place)

some_here : (now mid : Lines) (rest : Rest) → IsWithin now mid → left_in now.part ≡ current_of mid.part ∷ left_in mid.part → left_of rest now ≡ current_of mid.part ∷ left_of rest mid
unfolding left_of
some_here now mid rest within some =
    ap (λ (l : List text.Line). l ++ rest.ahead now.place) some ∙ ap (λ n. current_of mid.part ∷ (left_in mid.part ++ rest.ahead n)) (sym within.place)

-- ---- from part to part

-- the lines left are those that were left first
pub record LinesSoFar (first now : Lines) : Type 0 where
  pub on : GoesOn first now
  pub left : (rest : Rest) → IsRest first.bytes.now rest → left_of rest first ≡ left_of rest now

pub lines_start : (lines : Lines) → LinesSoFar lines lines
lines_start lines = record { on = goes_nowhere lines; left = λ rest ah. refl }

pub part_loaded : (x : Unit {0}) (first now mid new : Lines) → IsLoaded mid new (Ok x) → GoesOn mid new → LinesSoFar first now → IsWithin now mid → left_in now.part ≡ [] → LinesSoFar first new
unfolding IsLoaded
part_loaded x first now mid new loaded on far within none =
    let there = goes_far first now mid far.on (within_on now mid within) in
    record {
      on = goes_far first mid new there on;
      left = λ rest ah. far.left rest ah ∙ none_here now mid rest within none ∙ sym (loaded rest (same_rest first mid rest there ah));
    }

pub loaded_less : (now mid new : Lines) → work_of new < work_of mid → IsWithin now mid → work_of new < work_of now
loaded_less now mid new less within = let more = (within_on now mid within).less in omega (arith, less, more)

pub part_not_loaded : (e f : Stop) (result : Result Bool Stop) (first now mid new : Lines) → IsLoaded mid new (Err e) → result ≡ Err f → f ≡ e → LinesSoFar first now → IsWithin now mid → IsTaken first new result
unfolding IsLoaded IsTaken
part_not_loaded e f result first now mid new loaded is same far within = λ rest ah.
    let there = same_rest first mid rest (goes_far first now mid far.on (within_on now mid within)) ah in
    let P : Result Bool Stop → Type 0 = λ r. Takes rest first new r in
    subst P (sym is) (same ∙ loaded rest there)

pub none_taken : (first now mid : Lines) → LinesSoFar first now → IsWithin now mid → left_in now.part ≡ [] → mid.place ≡ length mid.bytes.now → IsTaken first mid (Ok false)
unfolding IsTaken
none_taken first now mid far within none at_end = λ rest ah.
    let there = same_rest first mid rest (goes_far first now mid far.on (within_on now mid within)) ah in
    far.left rest ah ∙ none_here now mid rest within none ∙ ap rest.ahead at_end ∙ there.are_ahead.ends

pub some_taken : (first now mid : Lines) → LinesSoFar first now → IsWithin now mid → left_in now.part ≡ current_of mid.part ∷ left_in mid.part → IsTaken first mid (Ok true)
unfolding IsTaken
some_taken first now mid far within some = λ rest ah. far.left rest ah ∙ some_here now mid rest within some

pub taken_on : (first now mid : Lines) → LinesSoFar first now → IsWithin now mid → GoesOn first mid
taken_on first now mid far within = goes_far first now mid far.on (within_on now mid within)

pub taken_less : (first now mid : Lines) → LinesSoFar first now → IsWithin now mid → tokens_left mid.part < tokens_left now.part → work_of mid < work_of first
taken_less first now mid far within less = let more = far.on.less in omega (arith, more, within_less now mid within less)

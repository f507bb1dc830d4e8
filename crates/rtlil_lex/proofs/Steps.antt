-- What the cursor's steps give.
use Rattle.std.proofs.Common.{◌≡◌, ℕ, ◌+◌, ◌-◌, ◌<◌, ◌≤◌, List, [], ◌∷◌, ◌++◌, length, drop, Ok, Err, sym, refl, ap, ◌∙◌, subst, arith, length-drop}
use Rattle.std.specs.Prelude.{slice_range, Result, MatchResult}
use Rattle.std.specs.declared.vec.Vec.{Vec}
use Rattle.std.specs.declared.alloc.Global.{Global}
use Rattle.std.proofs.lemmas.List.{take_all, drop_all}
use Rattle.rtlil_lex.specs.Forms.{IsLongest}
use Rattle.rtlil_lex.specs.Tokens.{IsGap, line_at, ComesNext, LeadTo, AreTokens, Reaches, IsOpen, IsBadByte, IsOpenString, HasFault, AnswersTokens, AnswersFault}
use Rattle.rtlil_lex.specs.Next.{IsNext, IsStep, IsTaken, feeds_of, offset_of, fault_of}
use Rattle.rtlil_lex.specs.declared.token.Token.{Token}
use Rattle.rtlil_lex.specs.declared.token.TokenKind.TheVariants.{Eol}
use Rattle.rtlil_lex.specs.declared.fault.LexFault.{LexFault}
use Rattle.rtlil_lex.specs.declared.fault.LexFault.TheVariants as fault
use Rattle.rtlil_lex.specs.declared.spelling.Spelling.{Spelling}
use Rattle.rtlil_lex.specs.declared.spelling.Misfit.{Misfit}
use Rattle.rtlil_lex.specs.declared.spelling.Misfit.TheVariants.{BadByte, OpenString}
use Rattle.rtlil_lex.proofs.Once.{bad_some, some_size, same_tokens, same_bad_byte, same_open_string, tokens_or_bad, tokens_or_open, bad_or_open}
use Rattle.rtlil_lex.proofs.Lines.{line_after_token}

pub misfit_within : (bytes : List ℕ) (m : Misfit) → 0 < length bytes → IsNext bytes (Err m) → offset_of m < length bytes
unfolding IsNext
misfit_within bytes (BadByte offset) some h = bad_some bytes offset h
misfit_within bytes OpenString some h = some

pub spelling_within : (bytes : List ℕ) (s : Spelling) → IsNext bytes (Ok s) → (0 < s.size) × (s.size ≤ length bytes)
unfolding IsNext
spelling_within bytes s h = (some_size s.kind s.size bytes h, h.within)

pub line_behind : (bytes : List ℕ) (place : ℕ) (s : Spelling) → IsNext (drop place bytes) (Ok s) → line_at bytes (place + s.size) ≡ line_at bytes place + feeds_of s.kind
unfolding IsNext
line_behind bytes place s h = line_after_token bytes s.kind place s.size h.form

pub step_err : (bytes : List ℕ) (place after : ℕ) (m : Misfit) → IsNext (drop place bytes) (Err m) → IsStep bytes place after (Err (fault_of m place))
unfolding IsNext IsStep
step_err bytes place after (BadByte offset) h = (offset, refl, h)
step_err bytes place after OpenString h = (refl, h)

pub step_ok : (bytes : List ℕ) (place line : ℕ) (s : Spelling) → IsNext (drop place bytes) (Ok s) → line ≡ line_at bytes place → IsStep bytes place (place + s.size) (Ok (record { kind = s.kind; start = place; end = place + s.size; line = line }))
unfolding IsNext IsStep
step_ok bytes place line s h counted =
    let some : 0 < s.size = some_size s.kind s.size (drop place bytes) h in
    let size : s.size ≡ (place + s.size) - place = omega arith in
    record {
      start = refl;
      end_place = refl;
      order = omega arith;
      spelling = subst (λ n. IsLongest s.kind n (drop place bytes)) size h;
      line = counted;
    }

-- Tokens lead from the beginning, and the gap behind them ends at the place.
pub lead_more : (bytes : List ℕ) (place : ℕ) (ts : List Token) (last : ℕ) (t : Token) → LeadTo bytes place ts last → ComesNext bytes last t → LeadTo bytes place (ts ++ t ∷ []) t.end
lead_more bytes place [] last t h next = (subst (λ p. ComesNext bytes p t) (sym h) next, refl)
lead_more bytes place (u ∷ us) last t h next = (h.0, lead_more bytes u.end us last t h.1 next)

-- the beginning, and the gap there
pub reach_start : (bytes : List ℕ) (start : ℕ) → IsGap (slice_range bytes 0 start) (drop start bytes) → Reaches bytes [] start
reach_start bytes start gap = record { place = 0; lead = refl; order = omega arith; gap = gap }

comes_next : (bytes : List ℕ) (ts : List Token) (place after : ℕ) (t : Token) → (h : Reaches bytes ts place) → IsTaken bytes place after t → ComesNext bytes h.place t
comes_next bytes ts place after t h taken = record {
  order = omega (arith, h.order, taken.start);
  gap = subst (λ p. IsGap (slice_range bytes h.place p) (drop p bytes)) (sym taken.start) h.gap;
  spelling = subst (λ p. IsLongest t.kind (t.end - p) (drop p bytes)) (sym taken.start) (subst (λ e. IsLongest t.kind (e - place) (drop place bytes)) (sym taken.end_place) taken.spelling);
  line = taken.line ∙ ap (line_at bytes) (sym taken.start);
}

-- one more token, and the gap behind it
pub reach_more : (bytes : List ℕ) (ts : List Token) (place after start : ℕ) (t : Token) → Reaches bytes ts place → IsStep bytes place after (Ok t) → after ≤ start → IsGap (slice_range bytes after start) (drop start bytes) → Reaches bytes (ts ++ t ∷ []) start
unfolding IsStep
reach_more bytes ts place after start t h taken order gap = record {
  place = after;
  lead = subst (LeadTo bytes 0 (ts ++ t ∷ [])) taken.end_place (lead_more bytes 0 ts h.place t h.lead (comes_next bytes ts place after t h taken));
  order = order;
  gap = gap;
}

-- the end of input
pub reach_end : (bytes : List ℕ) (ts : List Token) (start : ℕ) (t : Token) → Reaches bytes ts start → start ≡ length bytes → t ≡ record { kind = Eol; start = length bytes; end = length bytes; line = line_at bytes (length bytes) } → AreTokens bytes (ts ++ t ∷ [])
reach_end bytes ts start t h at_end is = record {
  before = ts;
  end_token = t;
  place = h.place;
  all = refl;
  lead = h.lead;
  last = record { gap = whole_gap; end_of_input = is };
}
  where
    none : drop start bytes ≡ []
    none = drop_all start bytes (omega arith)

    rest : slice_range bytes h.place start ≡ drop h.place bytes
    rest = take_all (start - h.place) (drop h.place bytes) (omega (arith, length-drop h.place bytes))

    whole_gap : IsGap (drop h.place bytes) []
    whole_gap = subst (λ s. IsGap s []) rest (subst (IsGap (slice_range bytes h.place start)) none h.gap)

-- a fault behind the tokens
pub reach_fault : (bytes : List ℕ) (ts : List Token) (place after : ℕ) (f : LexFault) → Reaches bytes ts place → IsStep bytes place after (Err f) → HasFault bytes f
unfolding IsStep
reach_fault bytes ts place after (fault.BadByte at) h step = record {
  tokens = ts;
  start = place;
  offset = step.0;
  reach = h;
  bad = step.2;
  at = step.1;
}
reach_fault bytes ts place after (fault.OpenString at) h step = record {
  tokens = ts;
  reach = subst (Reaches bytes ts) (sym step.0) h;
  cut = subst (λ p. IsOpen (drop p bytes)) (sym step.0) step.1;
}
reach_fault bytes ts place after fault.NoMemory h step = tt

-- what holds of the bytes is what was answered
pub answers_tokens : (bytes : List ℕ) (r : Result (Vec Token Global) LexFault) → MatchResult r (λ v. AreTokens bytes v.items) (HasFault bytes) → (tokens : List Token) → AreTokens bytes tokens → AnswersTokens r tokens
answers_tokens bytes (Ok v) h tokens are = same_tokens bytes v.items tokens h are
answers_tokens bytes (Err (fault.BadByte at)) h tokens are = tokens_or_bad bytes tokens at are h
answers_tokens bytes (Err (fault.OpenString at)) h tokens are = tokens_or_open bytes tokens at are h
answers_tokens bytes (Err fault.NoMemory) h tokens are = tt

pub answers_bad : (bytes : List ℕ) (r : Result (Vec Token Global) LexFault) → MatchResult r (λ v. AreTokens bytes v.items) (HasFault bytes) → (place : ℕ) → IsBadByte bytes place → AnswersFault r (fault.BadByte place)
answers_bad bytes (Ok v) h place is = tokens_or_bad bytes v.items place h is
answers_bad bytes (Err (fault.BadByte at)) h place is = ap fault.BadByte (same_bad_byte bytes at place h is)
answers_bad bytes (Err (fault.OpenString at)) h place is = absurd (bad_or_open bytes place at is h)
answers_bad bytes (Err fault.NoMemory) h place is = tt

pub answers_open : (bytes : List ℕ) (r : Result (Vec Token Global) LexFault) → MatchResult r (λ v. AreTokens bytes v.items) (HasFault bytes) → (place : ℕ) → IsOpenString bytes place → AnswersFault r (fault.OpenString place)
answers_open bytes (Ok v) h place is = tokens_or_open bytes v.items place h is
answers_open bytes (Err (fault.BadByte at)) h place is = absurd (bad_or_open bytes at place h is)
answers_open bytes (Err (fault.OpenString at)) h place is = ap fault.OpenString (same_open_string bytes at place h is)
answers_open bytes (Err fault.NoMemory) h place is = tt

-- a step goes on
pub step_order : (bytes : List ℕ) (place after : ℕ) (t : Token) → IsStep bytes place after (Ok t) → place < after
unfolding IsStep
step_order bytes place after t h = h.order

-- The cursor's input is the bytes, and stays so.
pub loop_more : (bytes b d : List ℕ) (ts items : List Token) (place after start : ℕ) (t : Token) → b ≡ bytes → d ≡ b → Reaches bytes ts place → IsStep b place after (Ok t) → after ≤ start → IsGap (slice_range d after start) (drop start d) → items ≡ ts ++ t ∷ [] → Reaches bytes items start
loop_more bytes b d ts items place after start t input same h step order gap pushed =
    let gap' : IsGap (slice_range bytes after start) (drop start bytes) = subst (λ s. IsGap (slice_range s after start) (drop start s)) (same ∙ input) gap in
    subst (λ l. Reaches bytes l start) (sym pushed)
    (reach_more bytes ts place after start t h (subst (λ s. IsStep s place after (Ok t)) input step) order gap')

pub loop_end : (bytes b : List ℕ) (ts items : List Token) (place line : ℕ) (t : Token) → b ≡ bytes → Reaches bytes ts place → place ≡ length b → line ≡ line_at b place → t ≡ record { kind = Eol; start = place; end = place; line = line } → items ≡ ts ++ t ∷ [] → AreTokens bytes items
loop_end bytes b ts items place line t input h at_end counted is pushed =
    let there : place ≡ length bytes = at_end ∙ ap length input in
    let lines : line ≡ line_at bytes (length bytes) = counted ∙ ap (λ s. line_at s place) input ∙ ap (line_at bytes) there in
    subst (AreTokens bytes) (sym pushed)
    (reach_end bytes ts place t h there
    (is ∙ ap (λ p. token_at p line) there ∙ ap (λ l. token_at (length bytes) l) lines))
  where
    token_at : ℕ → ℕ → Token
    token_at p l = record { kind = Eol; start = p; end = p; line = l }

pub loop_fault : (bytes b : List ℕ) (ts : List Token) (place after : ℕ) (f : LexFault) → b ≡ bytes → Reaches bytes ts place → IsStep b place after (Err f) → HasFault bytes f
loop_fault bytes b ts place after f input h step = reach_fault bytes ts place after f h (subst (λ s. IsStep s place after (Err f)) input step)

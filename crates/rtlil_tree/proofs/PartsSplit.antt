-- A text that has tokens has them part by part.
use Rattle.std.proofs.Common.{◌≡◌, ℕ, ◌-◌, ◌≤◌, nat_le, true, List, [], ◌∷◌, ◌++◌, length, map, filter, refl, ap, ◌∙◌, sym, subst, inl, ⊎_elim, arith, append_assoc, append-nil}
use Rattle.std.specs.Prelude.{slice_range}
use Rattle.std.proofs.lemmas.Bool.{cond-true, cond-false, le-leb, lt-leb}
use Rattle.std.proofs.lemmas.List.Elements.{filter-append}
use Rattle.rtlil_lex.specs.Tokens.{IsGap, AreTokens, ComesLast, LeadTo, HasFault, line_at}
use Rattle.rtlil_lex.specs.declared.token.Token.{Token}
use Rattle.rtlil_lex.specs.declared.token.TokenKind.TheVariants.{Eol}
use Rattle.rtlil_lex.specs.declared.fault.LexFault.{LexFault}
use Rattle.rtlil_lex.specs.declared.fault.LexFault.TheVariants.{BadByte, OpenString, NoMemory}
use Rattle.rtlil_lex.proofs.Once.{same_tokens, tokens_or_bad, tokens_or_open}
use Rattle.rtlil_tree.specs.Lines.{Line, is_eol, lines_of}
use Rattle.rtlil_tree.specs.Inner.Parts.{BeginsLine, IsPart, moved, ahead_of, AreAhead}
use Rattle.rtlil_tree.proofs.PartsBytes.{drop_in, slice_end, slice_none}
use Rattle.rtlil_tree.proofs.PartsTokens.{token_within}
use Rattle.rtlil_tree.proofs.PartsLeads.{up_by, lead_order, lead_in_part, halves}
use Rattle.rtlil_tree.proofs.PartsLines.{lines_end, lines_append, lines_up}

-- ---- the tokens that begin at a place or behind it

abbrev behind : ℕ → List Token → List Token
behind place ts = filter (λ (t : Token). nat_le place t.start) ts

abbrev AreBehind : ℕ → List Token → Type 0
AreBehind place [] = Unit {0}
AreBehind place (t ∷ ts) = (place ≤ t.start) × AreBehind place ts

all_behind : (place low : ℕ) (ts : List Token) → place ≤ low → AreBehind low ts → behind place ts ≡ ts
all_behind place low [] order h = refl
all_behind place low (t ∷ ts) order h =
    cond-true (nat_le place t.start) (t ∷ behind place ts) (behind place ts) (le-leb place t.start (omega (arith, h.0, order)))
    ∙ ap (λ (us : List Token). t ∷ us) (all_behind place low ts order h.1)

pub from_start : (ts : List Token) → behind 0 ts ≡ ts
from_start [] = refl
from_start (t ∷ ts) = cond-true (nat_le 0 t.start) (t ∷ behind 0 ts) (behind 0 ts) (le-leb 0 t.start (omega arith)) ∙ ap (λ (us : List Token). t ∷ us) (from_start ts)

lead_behind : (bytes : List ℕ) (place low : ℕ) (ts : List Token) (last : ℕ) → place ≤ low → LeadTo bytes low ts last → AreBehind place ts
lead_behind bytes place low [] last order h = tt
lead_behind bytes place low (t ∷ ts) last order h =
    let fits = token_within bytes low t h.0 in
    (omega (arith, fits, order), lead_behind bytes place t.end ts last (omega (arith, fits, order)) h.1)

behind_append : (place : ℕ) (ts us : List Token) → AreBehind place ts → AreBehind place us → AreBehind place (ts ++ us)
behind_append place [] us h k = k
behind_append place (t ∷ ts) us h k = (h.0, behind_append place ts us h.1 k)

none_behind : (bytes : List ℕ) (place low : ℕ) (ts : List Token) (last : ℕ) → low ≤ length bytes → last ≤ place → LeadTo bytes low ts last → behind place ts ≡ []
none_behind bytes place low [] last within order h = refl
none_behind bytes place low (t ∷ ts) last within order h =
    let fits = token_within bytes low t h.0 in
    let more = lead_order bytes t.end ts last h.1 fits.2 in
    cond-false (nat_le place t.start) (t ∷ behind place ts) (behind place ts) (lt-leb place t.start (omega (arith, fits, more, order)))
    ∙ none_behind bytes place t.end ts last fits.2 order h.1

-- ---- the tokens of a part

-- The tokens before a part, in it and behind it.
record AreThirds (bytes : List ℕ) (tokens : List Token) (from to : ℕ) : Type 0 where
  pub before : List Token
  pub inside : List Token
  pub after : List Token
  pub place : ℕ
  pub all : tokens ≡ before ++ (inside ++ after)
  pub front : LeadTo bytes 0 before from
  pub lead : LeadTo bytes from inside place
  pub order : place ≤ to
  pub gap : IsGap (slice_range bytes place to) []
  pub behind : AreBehind to after
  pub lines : lines_of bytes (inside ++ after) ≡ lines_of bytes inside ++ lines_of bytes after

gap_none : (bytes : List ℕ) (place : ℕ) → IsGap (slice_range bytes place place) []
gap_none bytes place = subst (λ s. IsGap s []) (sym (slice_none bytes place)) (inl (tt, refl))

end_behind : (bytes : List ℕ) (place to : ℕ) (t : Token) → to ≤ length bytes → ComesLast bytes place t → AreBehind to (t ∷ [])
end_behind bytes place to t within h = (omega (arith, within, ap (λ (u : Token). u.start) h.end_of_input), tt)

end_eol : (bytes : List ℕ) (place : ℕ) (t : Token) → ComesLast bytes place t → is_eol t.kind ≡ true
end_eol bytes place t h = ap (λ (u : Token). is_eol u.kind) h.end_of_input

three_parts : (tokens all before rest inside after : List Token) (t : Token) → tokens ≡ all ++ t ∷ [] → all ≡ before ++ rest → rest ≡ inside ++ after → tokens ≡ before ++ (inside ++ (after ++ t ∷ []))
three_parts tokens all before rest inside after t one two three =
    one
    ∙ ap (λ (ts : List Token). ts ++ t ∷ []) two
    ∙ append_assoc before rest (t ∷ [])
    ∙ ap (λ (ts : List Token). before ++ (ts ++ t ∷ [])) three
    ∙ ap (λ (ts : List Token). before ++ ts) (append_assoc inside after (t ∷ []))

-- in the middle of the text
thirds_within : (bytes : List ℕ) (tokens : List Token) (from to : ℕ) → IsPart bytes from to → BeginsLine bytes to → AreTokens bytes tokens → AreThirds bytes tokens from to
thirds_within bytes tokens from to part ends h =
    let order = lead_order bytes 0 h.before h.place h.lead (omega arith) in
    let last : IsGap (slice_range bytes h.place (length bytes)) [] = subst (λ s. IsGap s []) (sym (slice_end bytes h.place)) h.last.gap in
    let first = halves bytes 0 from h.before h.place (length bytes) (omega arith) (omega (arith, part.order, part.within)) part.begins (omega arith) h.lead order.1 last in
    let second = halves bytes from to first.behind h.place (length bytes) (omega arith) part.within ends part.order first.rest order.1 last in
    record {
      before = first.before;
      inside = second.before;
      after = second.behind ++ h.end_token ∷ [];
      place = to;
      all = three_parts tokens h.before first.before first.behind second.before second.behind h.end_token h.all first.all second.all;
      front = first.front;
      lead = second.front;
      order = omega arith;
      gap = gap_none bytes to;
      behind = behind_append to second.behind (h.end_token ∷ []) (lead_behind bytes to to second.behind h.place (omega arith) second.rest) (end_behind bytes h.place to h.end_token part.within h.last);
      lines = lines_append bytes second.before (second.behind ++ h.end_token ∷ []) second.closed;
    }

-- at the end of the text
thirds_at_end : (bytes : List ℕ) (tokens : List Token) (from to : ℕ) → IsPart bytes from to → to ≡ length bytes → AreTokens bytes tokens → AreThirds bytes tokens from to
thirds_at_end bytes tokens from to part ends h =
    let order = lead_order bytes 0 h.before h.place h.lead (omega arith) in
    let last : IsGap (slice_range bytes h.place (length bytes)) [] = subst (λ s. IsGap s []) (sym (slice_end bytes h.place)) h.last.gap in
    let parts = halves bytes 0 from h.before h.place (length bytes) (omega arith) (omega (arith, part.order, part.within)) part.begins (omega arith) h.lead order.1 last in
    record {
      before = parts.before;
      inside = parts.behind;
      after = h.end_token ∷ [];
      place = h.place;
      all = h.all ∙ ap (λ (ts : List Token). ts ++ h.end_token ∷ []) parts.all ∙ append_assoc parts.before parts.behind (h.end_token ∷ []);
      front = parts.front;
      lead = parts.rest;
      order = omega (arith, order, ends);
      gap = subst (λ n. IsGap (slice_range bytes h.place n) []) (sym ends) last;
      behind = end_behind bytes h.place to h.end_token part.within h.last;
      lines = lines_end bytes parts.behind h.end_token (end_eol bytes h.place h.end_token h.last)
          ∙ sym (append-nil (lines_of bytes parts.behind))
          ∙ ap (λ (ls : List Line). lines_of bytes parts.behind ++ ls) (sym (lines_end bytes [] h.end_token (end_eol bytes h.place h.end_token h.last)));
    }

thirds : (bytes : List ℕ) (tokens : List Token) (from to : ℕ) → IsPart bytes from to → AreTokens bytes tokens → AreThirds bytes tokens from to
thirds bytes tokens from to part h = ⊎_elim (λ begins. thirds_within bytes tokens from to part begins h) (λ ends. thirds_at_end bytes tokens from to part ends h) part.ends

-- the lines behind a part, and those from its beginning on
ahead_after : (bytes : List ℕ) (tokens : List Token) (from to : ℕ) → IsPart bytes from to → (h : AreThirds bytes tokens from to) → ahead_of bytes tokens to ≡ lines_of bytes h.after
ahead_after bytes tokens from to part h =
    let within = part.within in
    let order = part.order in
    let rest : behind to (h.inside ++ h.after) ≡ h.after =
    filter-append (λ (t : Token). nat_le to t.start) h.inside h.after
    ∙ ap (λ (ts : List Token). ts ++ behind to h.after) (none_behind bytes to from h.inside h.place (omega arith) h.order h.lead)
    ∙ all_behind to to h.after (omega arith) h.behind in
    ap (λ (ts : List Token). lines_of bytes (behind to ts)) h.all
    ∙ ap (lines_of bytes) (filter-append (λ (t : Token). nat_le to t.start) h.before (h.inside ++ h.after)
    ∙ ap (λ (ts : List Token). ts ++ behind to (h.inside ++ h.after)) (none_behind bytes to 0 h.before from (omega arith) order h.front)
    ∙ rest)

ahead_from : (bytes : List ℕ) (tokens : List Token) (from to : ℕ) → IsPart bytes from to → (h : AreThirds bytes tokens from to) → ahead_of bytes tokens from ≡ lines_of bytes (h.inside ++ h.after)
ahead_from bytes tokens from to part h =
    let rest : behind from (h.inside ++ h.after) ≡ h.inside ++ h.after =
    filter-append (λ (t : Token). nat_le from t.start) h.inside h.after
    ∙ ap (λ (ts : List Token). ts ++ behind from h.after) (all_behind from from h.inside (omega arith) (lead_behind bytes from from h.inside h.place (omega arith) h.lead))
    ∙ ap (λ (ts : List Token). h.inside ++ ts) (all_behind from to h.after part.order h.behind) in
    ap (λ (ts : List Token). lines_of bytes (behind from ts)) h.all
    ∙ ap (lines_of bytes) (filter-append (λ (t : Token). nat_le from t.start) h.before (h.inside ++ h.after)
    ∙ ap (λ (ts : List Token). ts ++ behind from (h.inside ++ h.after)) (none_behind bytes from 0 h.before from (omega arith) (omega arith) h.front)
    ∙ rest)

abbrev end_of : List ℕ → Token
end_of bytes = record { kind = Eol; start = length bytes; end = length bytes; line = line_at bytes (length bytes) }

-- the tokens of a part
tokens_of : (bytes : List ℕ) (tokens : List Token) (from to : ℕ) → AreThirds bytes tokens from to → List Token
tokens_of bytes tokens from to h = map (up_by from (line_at bytes from - 1)) h.inside ++ end_of (slice_range bytes from to) ∷ []

are_tokens : (bytes : List ℕ) (tokens : List Token) (from to : ℕ) → IsPart bytes from to → (h : AreThirds bytes tokens from to) → AreTokens (slice_range bytes from to) (tokens_of bytes tokens from to h)
unfolding tokens_of
are_tokens bytes tokens from to part h =
    let within = part.within in
    let low = part.order in
    let order = lead_order bytes from h.inside h.place h.lead (omega arith) in
    let ts = map (up_by from (line_at bytes from - 1)) h.inside in
    let at : from - from ≡ 0 = omega arith in
    record {
      before = map (up_by from (line_at bytes from - 1)) h.inside;
      end_token = end_of (slice_range bytes from to);
      place = h.place - from;
      all = refl;
      lead = subst (λ p. LeadTo (slice_range bytes from to) p (map (up_by from (line_at bytes from - 1)) h.inside) (h.place - from)) at
          (lead_in_part bytes from to from h.inside h.place (omega arith) (omega arith) h.order h.lead);
      last = record { gap = subst (λ s. IsGap s []) (sym (drop_in bytes from to h.place order.0 h.order)) h.gap; end_of_input = refl };
    }

part_lines : (bytes : List ℕ) (tokens : List Token) (from to : ℕ) → IsPart bytes from to → (h : AreThirds bytes tokens from to)
    → lines_of bytes h.inside ≡ moved (line_at bytes from - 1) (lines_of (slice_range bytes from to) (tokens_of bytes tokens from to h))
unfolding tokens_of
part_lines bytes tokens from to part h =
    let within = part.within in
    let low = part.order in
    lines_up bytes from to h.inside h.place (omega arith) h.order h.lead
    ∙ ap (moved (line_at bytes from - 1)) (sym (lines_end (slice_range bytes from to) (map (up_by from (line_at bytes from - 1)) h.inside) (end_of (slice_range bytes from to)) refl))

part_ahead : (bytes : List ℕ) (tokens : List Token) (from to : ℕ) (ts : List Token) → AreTokens bytes tokens → IsPart bytes from to → AreTokens (slice_range bytes from to) ts
    → ahead_of bytes tokens from ≡ moved (line_at bytes from - 1) (lines_of (slice_range bytes from to) ts) ++ ahead_of bytes tokens to
part_ahead bytes tokens from to ts h part k =
    let parts = thirds bytes tokens from to part h in
    let same : tokens_of bytes tokens from to parts ≡ ts = same_tokens (slice_range bytes from to) (tokens_of bytes tokens from to parts) ts (are_tokens bytes tokens from to part parts) k in
    ahead_from bytes tokens from to part parts
    ∙ parts.lines
    ∙ ap (λ (ls : List Line). ls ++ lines_of bytes parts.after) (part_lines bytes tokens from to part parts ∙ ap (λ (us : List Token). moved (line_at bytes from - 1) (lines_of (slice_range bytes from to) us)) same)
    ∙ ap (λ (ls : List Line). moved (line_at bytes from - 1) (lines_of (slice_range bytes from to) ts) ++ ls) (sym (ahead_after bytes tokens from to part parts))

no_fault : (bytes : List ℕ) (ts : List Token) (fault : LexFault) → AreTokens bytes ts → HasFault bytes fault → fault ≡ NoMemory
no_fault bytes ts (BadByte place) h bad = absurd (tokens_or_bad bytes ts place h bad)
no_fault bytes ts (OpenString place) h bad = absurd (tokens_or_open bytes ts place h bad)
no_fault bytes ts NoMemory h bad = refl

none_ahead : (bytes : List ℕ) (tokens : List Token) → AreTokens bytes tokens → ahead_of bytes tokens (length bytes) ≡ []
none_ahead bytes tokens h =
    let order = lead_order bytes 0 h.before h.place h.lead (omega arith) in
    let eol = end_eol bytes h.place h.end_token h.last in
    let last : behind (length bytes) (h.end_token ∷ []) ≡ h.end_token ∷ [] = all_behind (length bytes) (length bytes) (h.end_token ∷ []) (omega arith) (end_behind bytes h.place (length bytes) h.end_token (omega arith) h.last) in
    ap (λ (ts : List Token). lines_of bytes (behind (length bytes) ts)) h.all
    ∙ ap (lines_of bytes) (filter-append (λ (t : Token). nat_le (length bytes) t.start) h.before (h.end_token ∷ [])
    ∙ ap (λ (ts : List Token). ts ++ behind (length bytes) (h.end_token ∷ [])) (none_behind bytes (length bytes) 0 h.before h.place (omega arith) order.1 h.lead)
    ∙ last)
    ∙ lines_end bytes [] h.end_token eol

pub split_parts : (bytes : List ℕ) (tokens : List Token) → AreTokens bytes tokens → AreAhead bytes (ahead_of bytes tokens)
split_parts bytes tokens h = record {
  parts = λ from to ts part k. part_ahead bytes tokens from to ts h part k;
  whole = λ from to fault part bad.
      let parts = thirds bytes tokens from to part h in
      no_fault (slice_range bytes from to) (tokens_of bytes tokens from to parts) fault (are_tokens bytes tokens from to part parts) bad;
  ends = none_ahead bytes tokens h;
}

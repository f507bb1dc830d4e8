-- Tokens that lead from place to place, in the bytes and in a part of them.
use Rattle.std.proofs.Common.{◌≡◌, ℕ, ◌+◌, ◌-◌, ◌<◌, ◌≤◌, ◌⊎◌, List, [], ◌∷◌, ◌++◌, length, map, take, drop, refl, ap, ◌∙◌, sym, subst, inl, inr, ⊎_elim, arith, length-take, take-take, drop-drop}
use Rattle.std.specs.Prelude.{slice_range}
use Rattle.std.specs.List.{count_by}
use Rattle.std.proofs.lemmas.Bool.{cases_lt}
use Rattle.rtlil_lex.specs.Bytes.{is_feed}
use Rattle.rtlil_lex.specs.Forms.{IsLongest}
use Rattle.rtlil_lex.specs.Tokens.{IsGap, line_at, ComesNext, LeadTo}
use Rattle.rtlil_lex.specs.declared.token.Token.{Token}
use Rattle.rtlil_lex.specs.declared.token.TokenKind.TheVariants.{Eol}
use Rattle.rtlil_tree.specs.Inner.Parts.{BeginsLine}
use Rattle.rtlil_tree.proofs.PartsBytes.{drop_in, slice_in, drop_front, slice_front, slice_rest, line_in, line_more, gap_stops}
use Rattle.rtlil_tree.proofs.PartsTokens.{gap_in_front, gap_in_all, longest_in_front, longest_in_all, token_within, token_stops}

pub lead_order : (bytes : List ℕ) (place : ℕ) (ts : List Token) (last : ℕ) → LeadTo bytes place ts last → place ≤ length bytes → (place ≤ last) × (last ≤ length bytes)
lead_order bytes place [] last h within = (omega (arith, h), omega (arith, h, within))
lead_order bytes place (t ∷ ts) last h within =
    let fits = token_within bytes place t h.0 in
    let more = lead_order bytes t.end ts last h.1 fits.2 in
    (omega (arith, fits, more), more.1)

pub lead_append : (bytes : List ℕ) (place : ℕ) (ts us : List Token) (middle last : ℕ) → LeadTo bytes place ts middle → LeadTo bytes middle us last → LeadTo bytes place (ts ++ us) last
lead_append bytes place [] us middle last h k = subst (λ p. LeadTo bytes p us last) (sym h) k
lead_append bytes place (t ∷ ts) us middle last h k = (h.0, lead_append bytes t.end ts us middle last h.1 k)

-- ---- a part of the bytes

-- the token, so many bytes and lines further up
abbrev pub up_by : ℕ → ℕ → Token → Token
up_by size lines t = record { kind = t.kind; start = t.start - size; end = t.end - size; line = t.line - lines }

-- the token, so many bytes and lines further down
abbrev pub down_by : ℕ → ℕ → Token → Token
down_by size lines t = record { kind = t.kind; start = size + t.start; end = size + t.end; line = lines + t.line }

pub next_in_part : (bytes : List ℕ) (from to place : ℕ) (t : Token) → from ≤ place → t.end ≤ to → ComesNext bytes place t → ComesNext (slice_range bytes from to) (place - from) (up_by from (line_at bytes from - 1) t)
next_in_part bytes from to place t low high h =
    let fits = token_within bytes place t h in
    let rest : slice_range bytes t.start to ≡ drop (t.start - from) (slice_range bytes from to) = sym (drop_in bytes from to t.start (omega (arith, fits)) (omega (arith, fits))) in
    let size : t.end - t.start ≡ (t.end - from) - (t.start - from) = omega (arith, fits) in
    record {
      order = omega (arith, fits);
      gap = subst (λ s. IsGap s (drop (t.start - from) (slice_range bytes from to))) (sym (slice_in bytes from to place t.start low h.order (omega (arith, fits))))
          (subst (IsGap (slice_range bytes place t.start)) rest
          (gap_in_front (slice_range bytes place t.start) (drop t.start bytes) (to - t.start) (omega (arith, fits)) h.gap));
      spelling = subst (λ n. IsLongest t.kind n (drop (t.start - from) (slice_range bytes from to))) size
          (subst (IsLongest t.kind (t.end - t.start)) rest
          (longest_in_front t.kind (t.end - t.start) (to - t.start) (drop t.start bytes) (omega (arith, fits)) h.spelling));
      line = omega (arith, h.line, line_in bytes from to t.start (omega (arith, fits)) (omega (arith, fits)));
    }

pub lead_in_part : (bytes : List ℕ) (from to place : ℕ) (ts : List Token) (last : ℕ) → from ≤ place → place ≤ length bytes → last ≤ to → LeadTo bytes place ts last
    → LeadTo (slice_range bytes from to) (place - from) (map (up_by from (line_at bytes from - 1)) ts) (last - from)
lead_in_part bytes from to place [] last low within high h = ap (λ n. n - from) h
lead_in_part bytes from to place (t ∷ ts) last low within high h =
    let fits = token_within bytes place t h.0 in
    let order = lead_order bytes t.end ts last h.1 fits.2 in
    (next_in_part bytes from to place t low (omega (arith, order, high)) h.0, lead_in_part bytes from to t.end ts last (omega (arith, fits, low)) fits.2 high h.1)

-- ---- a front of the bytes that ends with a line

next_in_all : (bytes : List ℕ) (to place : ℕ) (t : Token) → to ≤ length bytes → BeginsLine bytes to → ComesNext (take to bytes) place t → ComesNext bytes place t
next_in_all bytes to place t within begins h =
    let fits = token_within (take to bytes) place t h in
    let before : t.end ≤ to = omega (arith, fits, length-take to bytes) in
    let rest : drop t.start (take to bytes) ≡ take (to - t.start) (drop t.start bytes) = drop_front bytes to t.start (omega (arith, fits, before)) in
    record {
      order = h.order;
      gap = gap_in_all (slice_range bytes place t.start) (drop t.start bytes) (to - t.start) (omega (arith, fits, before))
          (subst (IsGap (slice_range bytes place t.start)) rest
          (subst (λ s. IsGap s (drop t.start (take to bytes))) (slice_front bytes to place t.start h.order (omega (arith, fits, before))) h.gap));
      spelling = longest_in_all bytes t.kind (t.end - t.start) t.start to within begins (omega (arith, fits, before))
          (subst (IsLongest t.kind (t.end - t.start)) rest h.spelling);
      line = h.line ∙ ap (λ s. 1 + count_by is_feed s) (take-take t.start to bytes (omega (arith, fits, before)));
    }

pub lead_in_all : (bytes : List ℕ) (to place : ℕ) (ts : List Token) (last : ℕ) → to ≤ length bytes → BeginsLine bytes to → LeadTo (take to bytes) place ts last → LeadTo bytes place ts last
lead_in_all bytes to place [] last within begins h = h
lead_in_all bytes to place (t ∷ ts) last within begins h = (next_in_all bytes to place t within begins h.0, lead_in_all bytes to t.end ts last within begins h.1)

-- ---- what is left of the bytes

next_behind : (bytes : List ℕ) (from place : ℕ) (t : Token) → from ≤ length bytes → ComesNext (drop from bytes) place t → ComesNext bytes (from + place) (down_by from (line_at bytes from - 1) t)
next_behind bytes from place t within h =
    let rest : drop t.start (drop from bytes) ≡ drop (from + t.start) bytes = drop-drop t.start from bytes in
    let size : t.end - t.start ≡ (from + t.end) - (from + t.start) = omega arith in
    let line : line_at bytes (from + t.start) ≡ line_at bytes from + count_by is_feed (take t.start (drop from bytes)) = line_more bytes from t.start in
    record {
      order = omega (arith, h.order);
      gap = subst (λ s. IsGap s (drop (from + t.start) bytes)) (slice_rest bytes from place t.start)
          (subst (IsGap (slice_range (drop from bytes) place t.start)) rest h.gap);
      spelling = subst (λ n. IsLongest t.kind n (drop (from + t.start) bytes)) size (subst (IsLongest t.kind (t.end - t.start)) rest h.spelling);
      line = omega (arith, line, h.line);
    }

pub lead_behind : (bytes : List ℕ) (from place : ℕ) (ts : List Token) (last : ℕ) → from ≤ length bytes → LeadTo (drop from bytes) place ts last
    → LeadTo bytes (from + place) (map (down_by from (line_at bytes from - 1)) ts) (from + last)
lead_behind bytes from place [] last within h = ap (λ n. from + n) h
lead_behind bytes from place (t ∷ ts) last within h = (next_behind bytes from place t within h.0, lead_behind bytes from t.end ts last within h.1)

-- ---- two halves

-- none, or the last one is the end of a line
abbrev pub IsClosed : List Token → Type 0
IsClosed ts = (ts ≡ []) ⊎ ((us : List Token) × (t : Token) × (ts ≡ us ++ t ∷ []) × (t.kind ≡ Eol))

-- The tokens up to the beginning of a line, and those behind it.
pub record AreHalves (bytes : List ℕ) (low place : ℕ) (ts : List Token) (last : ℕ) : Type 0 where
  pub before : List Token
  pub behind : List Token
  pub all : ts ≡ before ++ behind
  pub front : LeadTo bytes low before place
  pub rest : LeadTo bytes place behind last
  pub closed : IsClosed before

none_before : (bytes : List ℕ) (low place : ℕ) (ts : List Token) (last : ℕ) → low ≡ place → LeadTo bytes low ts last → AreHalves bytes low place ts last
none_before bytes low place ts last here h =
    record { before = []; behind = ts; all = refl; front = here; rest = subst (λ p. LeadTo bytes p ts last) here h; closed = inl refl }

one_before : (bytes : List ℕ) (low place : ℕ) (t : Token) (ts : List Token) (last : ℕ) → ComesNext bytes low t → (t.end < place) ⊎ ((t.end ≡ place) × (t.kind ≡ Eol)) → AreHalves bytes t.end place ts last → AreHalves bytes low place (t ∷ ts) last
one_before bytes low place t ts last next stops h = record {
  before = t ∷ h.before;
  behind = h.behind;
  all = ap (λ (us : List Token). t ∷ us) h.all;
  front = (next, h.front);
  rest = h.rest;
  closed = ⊎_elim
      (λ none.
      let here : t.end ≡ place = subst (λ us. LeadTo bytes t.end us place) none h.front in
      ⊎_elim (λ less. absurd (omega (arith, less, here))) (λ eol. inr ([], t, ap (λ (us : List Token). t ∷ us) none, eol.1)) stops)
      (λ some. inr (t ∷ some.0, some.1, ap (λ (us : List Token). t ∷ us) some.2, some.3))
      h.closed;
}

pub halves : (bytes : List ℕ) (low place : ℕ) (ts : List Token) (last to : ℕ) → to ≤ length bytes → place ≤ to → BeginsLine bytes place → low ≤ place → LeadTo bytes low ts last → last ≤ to → IsGap (slice_range bytes last to) []
    → AreHalves bytes low place ts last
halves bytes low place [] last to within inside begins order h ends gap =
    ⊎_elim
    (λ before. absurd (omega (arith, inside, gap_stops bytes [] last place to (omega arith) begins ends gap (omega (arith, before, h)))))
    (λ behind. none_before bytes low place [] last (omega arith) h)
    (cases_lt low place)
halves bytes low place (t ∷ ts) last to within inside begins order h ends gap =
    ⊎_elim
    (λ before.
    let stops = token_stops bytes low place t (omega arith) begins h.0 before in
    let left : t.end ≤ place = ⊎_elim (λ less. omega (arith, less)) (λ eol. omega (arith, eol.0)) stops in
    one_before bytes low place t ts last h.0 stops (halves bytes t.end place ts last to within inside begins left h.1 ends gap))
    (λ behind. none_before bytes low place (t ∷ ts) last (omega arith) h)
    (cases_lt low place)

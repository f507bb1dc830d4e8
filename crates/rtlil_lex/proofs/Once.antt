-- The bytes have one outcome: one list of tokens or one fault.
use Rattle.std.proofs.Common.{◌≡◌, ℕ, ◌+◌, ◌-◌, ◌<◌, ◌≤◌, zero, suc, not, ◌==◌, List, [], ◌∷◌, ◌++◌, length, take, drop, sym, refl, ap, ◌∙◌, subst, ⊎_elim, arith, length-append, length-drop}
use Rattle.std.specs.Prelude.{IsTrue, slice_range}
use Rattle.std.proofs.lemmas.Bool.{false≢true}
use Rattle.std.proofs.lemmas.List.{drop_all, append-nil}
use Rattle.rtlil_lex.specs.Bytes.{begins}
use Rattle.rtlil_lex.specs.Strings.{Character, text_of, IsBadEscape}
use Rattle.rtlil_lex.specs.Forms.{HasForm, IsLongest, BeginsNoToken}
use Rattle.rtlil_lex.specs.Tokens.{IsGap, line_at, ComesNext, ComesLast, LeadTo, AreTokens, IsString, IsStray, IsBadAt, IsOpen, IsBadByte, IsOpenString}
use Rattle.rtlil_lex.specs.declared.token.Token.{Token}
use Rattle.rtlil_lex.specs.declared.token.TokenKind.{TokenKind}
use Rattle.rtlil_lex.proofs.FirstBytes.{kind_of, kind_is, no_empty}
use Rattle.rtlil_lex.proofs.Characters.{NoCharacter, same_rest, bad_stops, cut_stops, quote_or_bad, quote_or_cut, bad_or_cut}
use Rattle.rtlil_lex.proofs.Quoted.{str_none}
use Rattle.rtlil_lex.proofs.Gaps.{gap_size, gap_size_is, gap_end}

-- a form's longest spelling is of one kind and size
same_size : (k l : TokenKind) (m n : ℕ) (bytes : List ℕ) → IsLongest k m bytes → IsLongest l n bytes → m ≡ n
same_size k l m n bytes h g =
    let up : m ≤ n = g.longest k m h.within h.form in
    let down : n ≤ m = h.longest l n g.within g.form in
    omega arith

same_kind : (k l : TokenKind) (m n : ℕ) (bytes : List ℕ) → IsLongest k m bytes → IsLongest l n bytes → k ≡ l
same_kind k l m n bytes h g =
    sym (kind_is k (take m bytes) h.form) ∙ ap (λ x. kind_of (take x bytes)) (same_size k l m n bytes h g) ∙ kind_is l (take n bytes) g.form

-- a spelling has a byte or more
pub some_size : (k : TokenKind) (n : ℕ) (bytes : List ℕ) → IsLongest k n bytes → 0 < n
some_size k zero bytes h = absurd (no_empty k h.form)
some_size k (suc n) bytes h = omega arith

some_left : (bytes : List ℕ) (start : ℕ) → 0 < length (drop start bytes) → start < length bytes
some_left bytes start h = omega (arith, length-drop start bytes)

token_within : (bytes : List ℕ) (place : ℕ) (t : Token) → ComesNext bytes place t → (t.start < length bytes) × (t.start < t.end)
token_within bytes place t h =
    let some : 0 < t.end - t.start = some_size t.kind _ _ h.spelling in
    (some_left bytes t.start (omega (arith, h.spelling.within)), omega arith)

start_is : (bytes : List ℕ) (place : ℕ) (t : Token) → ComesNext bytes place t → t.start ≡ place + gap_size (drop place bytes)
start_is bytes place t h = gap_end bytes place t.start h.order (omega (arith, (token_within bytes place t h).0)) h.gap

token_parts : (t u : Token) → t.kind ≡ u.kind → t.start ≡ u.start → t.end ≡ u.end → t.line ≡ u.line → t ≡ u
token_parts t u kind start end_place line =
    ap (λ k. token_of k t.start t.end t.line) kind
    ∙ ap (λ s. token_of u.kind s t.end t.line) start
    ∙ ap (λ e. token_of u.kind u.start e t.line) end_place
    ∙ ap (λ l. token_of u.kind u.start u.end l) line
  where
    token_of : TokenKind → ℕ → ℕ → ℕ → Token
    token_of k s e l = record { kind = k; start = s; end = e; line = l }

same_token : (bytes : List ℕ) (place : ℕ) (t u : Token) → ComesNext bytes place t → ComesNext bytes place u → t ≡ u
same_token bytes place t u h g =
    let start : t.start ≡ u.start = start_is bytes place t h ∙ sym (start_is bytes place u g) in
    let other : IsLongest u.kind (u.end - u.start) (drop t.start bytes) = subst (λ s. IsLongest u.kind (u.end - u.start) (drop s bytes)) (sym start) g.spelling in
    let size : t.end - t.start ≡ u.end - u.start = same_size t.kind u.kind _ _ (drop t.start bytes) h.spelling other in
    token_parts t u
    (same_kind t.kind u.kind _ _ (drop t.start bytes) h.spelling other)
    start
    (omega (arith, token_within bytes place t h, token_within bytes place u g))
    (h.line ∙ ap (line_at bytes) start ∙ sym g.line)

-- what stands behind the tokens: the end of input, or a fault at an offset
pub data Outcome : Type 0 where
  whole : Token → Outcome
  bad : ℕ → Outcome
  opened : ℕ → Outcome

abbrev pub EndsWith : List ℕ → ℕ → Outcome → Type 0
EndsWith bytes place (whole t) = ComesLast bytes place t
EndsWith bytes place (bad at) = (start offset : ℕ) × (place ≤ start) × IsGap (slice_range bytes place start) (drop start bytes) × IsBadAt (drop start bytes) offset × (at ≡ start + offset)
EndsWith bytes place (opened at) = (place ≤ at) × IsGap (slice_range bytes place at) (drop at bytes) × IsOpen (drop at bytes)

nothing_begins : BeginsNoToken []
nothing_begins = λ kind size h. at kind size h
  where
    at : (kind : TokenKind) (size : ℕ) → HasForm kind (take size []) → ⊥
    at kind zero h = no_empty kind h
    at kind (suc size) h = no_empty kind h

-- a bad byte is within the bytes, and no token begins where they do
pub bad_some : (bytes : List ℕ) (offset : ℕ) → IsBadAt bytes offset → offset < length bytes
bad_some bytes offset h =
    ⊎_elim
    (λ stray. omega (arith, stray.0, stray.1.some))
    (λ escape. omega (arith, escape.at, ap length escape.string.text, length-append (text_of escape.characters) escape.rest, rest_some escape.rest escape.bad))
    h
  where
    rest_some : (rest : List ℕ) → IsBadEscape rest → 0 < length rest
    rest_some [] none = absurd none
    rest_some (b ∷ bs) some = omega arith

bad_left : (bytes : List ℕ) (offset : ℕ) → IsBadAt bytes offset → 0 < length bytes
bad_left bytes offset h = omega (arith, bad_some bytes offset h)

pub bad_none : (bytes : List ℕ) (offset : ℕ) → IsBadAt bytes offset → BeginsNoToken bytes
bad_none bytes offset h =
    ⊎_elim
    (λ stray. stray.1.none)
    (λ escape. str_none bytes escape.characters escape.rest escape.string (bad_stops escape.rest escape.bad) (λ tail e. quote_or_bad tail escape.rest escape.bad (sym e)))
    h

open_some : (bytes : List ℕ) → IsOpen bytes → 0 < length bytes
open_some bytes h = omega (arith, ap length h.string.text)

pub open_none : (bytes : List ℕ) → IsOpen bytes → BeginsNoToken bytes
open_none bytes h = str_none bytes h.characters h.rest h.string (cut_stops h.rest h.cut) (λ tail e. quote_or_cut tail h.rest h.cut (sym e))

-- behind the gap after the place no token begins
stops : (bytes : List ℕ) (place : ℕ) (o : Outcome) → place ≤ length bytes → EndsWith bytes place o → (start : ℕ) × (start ≡ place + gap_size (drop place bytes)) × BeginsNoToken (drop start bytes)
stops bytes place (whole t) le h =
    let size : gap_size (drop place bytes) ≡ length (drop place bytes) = ap gap_size (sym (append-nil (drop place bytes))) ∙ gap_size_is (drop place bytes) [] h.gap in
    (length bytes, omega (arith, length-drop place bytes), subst BeginsNoToken (sym (drop_all (length bytes) bytes (omega arith))) nothing_begins)
stops bytes place (bad at) le (start, offset, order, gap, fault, is) =
    (start, gap_end bytes place start order (omega (arith, length-drop start bytes, bad_some _ _ fault)) gap, bad_none _ _ fault)
stops bytes place (opened at) le (order, gap, fault) =
    (at, gap_end bytes place at order (omega (arith, length-drop at bytes, open_some _ fault)) gap, open_none _ fault)

not_next : (bytes : List ℕ) (place : ℕ) (o : Outcome) (t : Token) → EndsWith bytes place o → ComesNext bytes place t → ⊥
not_next bytes place o t h next =
    let within = token_within bytes place t next in
    let stop = stops bytes place o (omega (arith, within, next.order)) h in
    let same : stop.0 ≡ t.start = stop.1 ∙ sym (start_is bytes place t next) in
    subst (λ s. BeginsNoToken (drop s bytes)) same stop.2 t.kind (t.end - t.start) next.spelling.form

-- two ways to read a string end alike
ends_alike : (bytes : List ℕ) (cs ds : List Character) (r s : List ℕ) → IsString bytes cs r → IsString bytes ds s → NoCharacter r → NoCharacter s → (r ≡ s) × (length (text_of cs) ≡ length (text_of ds))
ends_alike bytes cs ds r s h g first second =
    let texts : text_of cs ++ r ≡ text_of ds ++ s = tails _ _ (sym h.text ∙ g.text) in
    let rests : r ≡ s = same_rest cs ds r s h.each g.each first second texts in
    (rests, omega (arith, ap length texts, length-append (text_of cs) r, length-append (text_of ds) s, ap length rests))
  where
    tails : (x y : List ℕ) → 34 ∷ x ≡ 34 ∷ y → x ≡ y
    tails x y e = cc

no_string : (bytes : List ℕ) (cs : List Character) (r : List ℕ) → IsStray bytes → IsString bytes cs r → ⊥
no_string bytes cs r stray string = false≢true (subst (λ s. IsTrue (not (begins (λ b. b == 34) s))) string.text stray.no_quote)

same_offset : (bytes : List ℕ) (m n : ℕ) → IsBadAt bytes m → IsBadAt bytes n → m ≡ n
same_offset bytes m n h g =
    ⊎_elim
    (λ stray. ⊎_elim (λ other. stray.0 ∙ sym other.0) (λ escape. absurd (no_string bytes _ _ stray.1 escape.string)) g)
    (λ escape. ⊎_elim
    (λ stray. absurd (no_string bytes _ _ stray.1 escape.string))
    (λ other.
    let alike = ends_alike bytes _ _ _ _ escape.string other.string (bad_stops escape.rest escape.bad) (bad_stops other.rest other.bad) in
    omega (arith, escape.at, other.at, alike.1))
    g)
    h

bad_not_open : (bytes : List ℕ) (m : ℕ) → IsBadAt bytes m → IsOpen bytes → ⊥
bad_not_open bytes m h open_string =
    ⊎_elim
    (λ stray. no_string bytes _ _ stray.1 open_string.string)
    (λ escape.
    let alike = ends_alike bytes _ _ _ _ escape.string open_string.string (bad_stops escape.rest escape.bad) (cut_stops open_string.rest open_string.cut) in
    bad_or_cut open_string.rest (subst IsBadEscape alike.0 escape.bad) open_string.cut)
    h

whole_not : (bytes : List ℕ) (place : ℕ) (t : Token) → ComesLast bytes place t → (start : ℕ) → place ≤ start → 0 < length (drop start bytes) → IsGap (slice_range bytes place start) (drop start bytes) → ⊥
whole_not bytes place t h start order some gap =
    let within : start < length bytes = some_left bytes start some in
    let all = stops bytes place (whole t) (omega arith) h in
    let here : start ≡ place + gap_size (drop place bytes) = gap_end bytes place start order (omega arith) gap in
    let size : gap_size (drop place bytes) ≡ length (drop place bytes) = ap gap_size (sym (append-nil (drop place bytes))) ∙ gap_size_is (drop place bytes) [] h.gap in
    omega (arith, length-drop place bytes)

same_start : (bytes : List ℕ) (place m n : ℕ) → place ≤ m → place ≤ n → 0 < length (drop m bytes) → 0 < length (drop n bytes) → IsGap (slice_range bytes place m) (drop m bytes) → IsGap (slice_range bytes place n) (drop n bytes) → m ≡ n
same_start bytes place m n le le' some some' gap gap' =
    gap_end bytes place m le (omega (arith, some_left bytes m some)) gap ∙ sym (gap_end bytes place n le' (omega (arith, some_left bytes n some')) gap')

-- what stands behind a place ends it in one way
same_end : (bytes : List ℕ) (place : ℕ) (o p : Outcome) → EndsWith bytes place o → EndsWith bytes place p → o ≡ p
same_end bytes place (whole t) (whole u) h g = ap whole (h.end_of_input ∙ sym g.end_of_input)
same_end bytes place (whole t) (bad at) h (start, offset, order, gap, fault, is) = absurd (whole_not bytes place t h start order (bad_left _ _ fault) gap)
same_end bytes place (whole t) (opened at) h (order, gap, fault) = absurd (whole_not bytes place t h at order (open_some _ fault) gap)
same_end bytes place (bad at) (whole t) (start, offset, order, gap, fault, is) h = absurd (whole_not bytes place t h start order (bad_left _ _ fault) gap)
same_end bytes place (opened at) (whole t) (order, gap, fault) h = absurd (whole_not bytes place t h at order (open_some _ fault) gap)
same_end bytes place (bad at) (bad at') (start, offset, order, gap, fault, is) (start', offset', order', gap', fault', is') =
    let same : start ≡ start' = same_start bytes place start start' order order' (bad_left _ _ fault) (bad_left _ _ fault') gap gap' in
    let offsets : offset ≡ offset' = same_offset (drop start' bytes) offset offset' (subst (λ s. IsBadAt (drop s bytes) offset) same fault) fault' in
    ap bad (omega arith)
same_end bytes place (bad at) (opened at') (start, offset, order, gap, fault, is) (order', gap', fault') =
    let same : start ≡ at' = same_start bytes place start at' order order' (bad_left _ _ fault) (open_some _ fault') gap gap' in
    absurd (bad_not_open (drop at' bytes) offset (subst (λ s. IsBadAt (drop s bytes) offset) same fault) fault')
same_end bytes place (opened at) (bad at') (order, gap, fault) (start', offset', order', gap', fault', is') =
    let same : start' ≡ at = same_start bytes place start' at order' order (bad_left _ _ fault') (open_some _ fault) gap' gap in
    absurd (bad_not_open (drop at bytes) offset' (subst (λ s. IsBadAt (drop s bytes) offset') same fault') fault)
same_end bytes place (opened at) (opened at') (order, gap, fault) (order', gap', fault') =
    ap opened (same_start bytes place at at' order order' (open_some _ fault) (open_some _ fault') gap gap')

-- so tokens and what ends them are those of the bytes alone
same_run : (bytes : List ℕ) (place : ℕ) (ts us : List Token) (p q : ℕ) (o r : Outcome) → LeadTo bytes place ts p → EndsWith bytes p o → LeadTo bytes place us q → EndsWith bytes q r → (ts ≡ us) × (o ≡ r)
same_run bytes place [] [] p q o r h ends g others =
    (refl, same_end bytes place o r (subst (λ x. EndsWith bytes x o) (sym h) ends) (subst (λ x. EndsWith bytes x r) (sym g) others))
same_run bytes place [] (u ∷ us) p q o r h ends g others = absurd (not_next bytes place o u (subst (λ x. EndsWith bytes x o) (sym h) ends) g.0)
same_run bytes place (t ∷ ts) [] p q o r h ends g others = absurd (not_next bytes place r t (subst (λ x. EndsWith bytes x r) (sym g) others) h.0)
same_run bytes place (t ∷ ts) (u ∷ us) p q o r h ends g others =
    let first : t ≡ u = same_token bytes place t u h.0 g.0 in
    let rest : (ts ≡ us) × (o ≡ r) = same_run bytes t.end ts us p q o r h.1 ends (subst (λ x. LeadTo bytes x us q) (ap (λ (x : Token). x.end) (sym first)) g.1) others in
    (cc, rest.1)

pub same_tokens : (bytes : List ℕ) (a b : List Token) → AreTokens bytes a → AreTokens bytes b → a ≡ b
same_tokens bytes a b h g =
    let same : (h.before ≡ g.before) × (whole h.end_token ≡ whole g.end_token) = same_run bytes 0 h.before g.before h.place g.place (whole h.end_token) (whole g.end_token) h.lead h.last g.lead g.last in
    let ends : h.end_token ≡ g.end_token = cc in
    h.all ∙ ap (λ x. x ++ h.end_token ∷ []) same.0 ∙ ap (λ x. g.before ++ x ∷ []) ends ∙ sym g.all

bad_end : (bytes : List ℕ) (place : ℕ) (h : IsBadByte bytes place) → EndsWith bytes h.reach.place (bad place)
bad_end bytes place h = (h.start, h.offset, h.reach.order, h.reach.gap, h.bad, h.at)

open_end : (bytes : List ℕ) (place : ℕ) (h : IsOpenString bytes place) → EndsWith bytes h.reach.place (opened place)
open_end bytes place h = (h.reach.order, h.reach.gap, h.cut)

pub same_bad_byte : (bytes : List ℕ) (p q : ℕ) → IsBadByte bytes p → IsBadByte bytes q → p ≡ q
same_bad_byte bytes p q h g =
    let same = same_run bytes 0 h.tokens g.tokens _ _ (bad p) (bad q) h.reach.lead (bad_end bytes p h) g.reach.lead (bad_end bytes q g) in
    let ends : bad p ≡ bad q = same.1 in
    cc

pub same_open_string : (bytes : List ℕ) (p q : ℕ) → IsOpenString bytes p → IsOpenString bytes q → p ≡ q
same_open_string bytes p q h g =
    let same = same_run bytes 0 h.tokens g.tokens _ _ (opened p) (opened q) h.reach.lead (open_end bytes p h) g.reach.lead (open_end bytes q g) in
    let ends : opened p ≡ opened q = same.1 in
    cc

pub tokens_or_bad : (bytes : List ℕ) (a : List Token) (p : ℕ) → AreTokens bytes a → IsBadByte bytes p → ⊥
tokens_or_bad bytes a p h g =
    let same = same_run bytes 0 h.before g.tokens _ _ (whole h.end_token) (bad p) h.lead h.last g.reach.lead (bad_end bytes p g) in
    let ends : whole h.end_token ≡ bad p = same.1 in
    cc

pub tokens_or_open : (bytes : List ℕ) (a : List Token) (p : ℕ) → AreTokens bytes a → IsOpenString bytes p → ⊥
tokens_or_open bytes a p h g =
    let same = same_run bytes 0 h.before g.tokens _ _ (whole h.end_token) (opened p) h.lead h.last g.reach.lead (open_end bytes p g) in
    let ends : whole h.end_token ≡ opened p = same.1 in
    cc

pub bad_or_open : (bytes : List ℕ) (p q : ℕ) → IsBadByte bytes p → IsOpenString bytes q → ⊥
bad_or_open bytes p q h g =
    let same = same_run bytes 0 h.tokens g.tokens _ _ (bad p) (opened q) h.reach.lead (bad_end bytes p h) g.reach.lead (open_end bytes q g) in
    let ends : bad p ≡ opened q = same.1 in
    cc

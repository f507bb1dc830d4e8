-- Bytes that have tokens up to the beginning of a line and from there on have tokens.
use Rattle.std.proofs.Common.{◌≡◌, ℕ, ◌+◌, ◌-◌, ◌≤◌, List, [], ◌∷◌, ◌++◌, length, map, take, drop, refl, ap, ◌∙◌, sym, subst, inl, ⊎_elim, arith, length-take-le, take-take, drop-drop}
use Rattle.std.specs.Prelude.{slice_range}
use Rattle.std.proofs.lemmas.Bool.{cases_lt}
use Rattle.rtlil_lex.specs.Tokens.{IsGap, line_at, LeadTo}
use Rattle.rtlil_lex.specs.declared.token.Token.{Token}
use Rattle.rtlil_lex.specs.declared.token.TokenKind.TheVariants.{Eol}
use Rattle.rtlil_tree.specs.Inner.Parts.{BeginsLine, IsPart, HasTokens}
use Rattle.rtlil_tree.proofs.PartsBytes.{slice_end, drop_front, begins_front, gap_stops}
use Rattle.rtlil_tree.proofs.PartsLeads.{lead_order, lead_append, lead_in_all, lead_behind, down_by}

-- where a line begins behind the bytes, their last token ends
last_ends : (bytes : List ℕ) (to : ℕ) (ts : List Token) (last : ℕ) → to ≤ length bytes → BeginsLine bytes to → LeadTo (take to bytes) 0 ts last → IsGap (drop last (take to bytes)) [] → last ≡ to
last_ends bytes to ts last within begins h gap =
    let front = take to bytes in
    let size : length (take to bytes) ≡ to = length-take-le to bytes within in
    let order = lead_order (take to bytes) 0 ts last h (omega arith) in
    let rest : drop last (take to bytes) ≡ slice_range (take to bytes) last to = sym (slice_end (take to bytes) last) ∙ ap (slice_range (take to bytes) last) size in
    ⊎_elim
    (λ before.
    absurd (omega (
      arith,
      gap_stops (take to bytes) [] last to to (omega (arith, size)) (begins_front bytes to to (omega arith) begins) (omega (arith, before))
          (subst (λ s. IsGap s []) rest gap) before,
    )))
    (λ behind. omega (arith, behind, order, size))
    (cases_lt last to)

abbrev end_of : List ℕ → Token
end_of bytes = record { kind = Eol; start = length bytes; end = length bytes; line = line_at bytes (length bytes) }

pub join_at : (bytes : List ℕ) (from : ℕ) → from ≤ length bytes → BeginsLine bytes from → HasTokens (take from bytes) → HasTokens (drop from bytes) → HasTokens bytes
join_at bytes from within begins h k =
    let front = h.are_tokens in
    let back = k.are_tokens in
    let lines = line_at bytes from - 1 in
    let here : front.place ≡ from = last_ends bytes from front.before front.place within begins front.lead front.last.gap in
    let before : LeadTo bytes 0 front.before from = subst (λ p. LeadTo bytes 0 front.before p) here (lead_in_all bytes from 0 front.before front.place within begins front.lead) in
    let at : from + 0 ≡ from = omega arith in
    let behind : LeadTo bytes from (map (down_by from lines) back.before) (from + back.place) = subst (λ p. LeadTo bytes p (map (down_by from lines) back.before) (from + back.place)) at (lead_behind bytes from 0 back.before back.place within back.lead) in
    record {
      tokens = (front.before ++ map (down_by from lines) back.before) ++ end_of bytes ∷ [];
      are_tokens = record {
        before = front.before ++ map (down_by from lines) back.before;
        end_token = end_of bytes;
        place = from + back.place;
        all = refl;
        lead = lead_append bytes 0 front.before (map (down_by from lines) back.before) from (from + back.place) before behind;
        last = record { gap = subst (λ s. IsGap s []) (drop-drop back.place from bytes) back.last.gap; end_of_input = refl };
      };
    }

pub join_parts : (bytes : List ℕ) (from to : ℕ) → IsPart bytes from to → HasTokens (take from bytes) → HasTokens (slice_range bytes from to) → HasTokens (take to bytes)
join_parts bytes from to part h k =
    let size : length (take to bytes) ≡ to = length-take-le to bytes part.within in
    join_at (take to bytes) from (omega (arith, size, part.order)) (begins_front bytes to from part.order part.begins)
    (subst HasTokens (sym (take-take from to bytes part.order)) h)
    (subst HasTokens (sym (drop_front bytes to from part.order)) k)

pub no_bytes : HasTokens []
no_bytes = record {
  tokens = end_of [] ∷ [];
  are_tokens = record { before = []; end_token = end_of []; place = 0; all = refl; lead = refl; last = record { gap = inl (tt, refl); end_of_input = refl } };
}

-- How the reader goes through a text.
use Rattle.std.proofs.Common.{◌≡◌, ℕ, ◌-◌, List, [], ◌∷◌, ◌++◌, length, get_or, take, refl, ap, ◌∙◌, sym, subst, arith, inl, inr, Result, Ok, Err}
use Rattle.std.proofs.lemmas.List.{length-append, take_all}
use Rattle.std.proofs.lemmas.Option.{slice_get-get_or}
use Rattle.rtlil_lex.specs.Tokens.{AreTokens, line_at}
use Rattle.rtlil_lex.specs.declared.token.Token.{Token}
use Rattle.rtlil_lex.specs.declared.fault.LexFault.TheVariants as fault
use Rattle.circuit_types.specs.declared.refusal.Refusal.{Refusal}
use Rattle.circuit_types.specs.declared.refusal.Stop.{Stop}
use Rattle.circuit_types.specs.declared.refusal.Stop.TheVariants as stop
use Rattle.circuit_types.specs.declared.tree.Tree.{Tree}
use Rattle.rtlil_tree.specs.declared.lines.Lines.{Lines}
use Rattle.rtlil_tree.specs.Lines as text
use Rattle.rtlil_tree.specs.Lines.{lines_of}
use Rattle.rtlil_tree.specs.Inner.Parts.{ahead_of, HasTokens}
use Rattle.rtlil_tree.specs.Inner.Cursor.{last_line, line_number, Rest, IsRest, IsBegun, ReadsWhole}
use Rattle.rtlil_tree.specs.Machine.{start, run}
use Rattle.rtlil_tree.specs.Inner.Reading.{LeadsTo, ReadsFile, IsDueFor, ReadsText}
use Rattle.rtlil_tree.proofs.PartsFacts.{split, starts, none}

-- the text has these tokens
abbrev rest_of : List ℕ → List Token → Rest
rest_of bytes tokens = record { ahead = ahead_of bytes tokens; end_line = line_at bytes (length bytes) }

is_rest_of : (bytes : List ℕ) (tokens : List Token) → AreTokens bytes tokens → IsRest bytes (rest_of bytes tokens)
is_rest_of bytes tokens are = record { are_ahead = split bytes tokens are; end_is = refl }

reads_all : (result : Result Tree Stop) (bytes : List ℕ) (lines : Lines) (tokens : List Token) → IsBegun bytes lines → AreTokens bytes tokens → ReadsFile result lines
    → LeadsTo result (run (line_at bytes (length bytes)) start (lines_of bytes tokens)) (λ t. Ok t)
reads_all result bytes lines tokens begun are reads =
    let rest = rest_of bytes tokens in
    let P : List ℕ → Type 0 = λ b. IsRest b rest in
    let Q : List text.Line → Type 0 = λ ls. LeadsTo result (run (line_at bytes (length bytes)) start ls) (λ t. Ok t) in
    subst Q (begun.all rest ∙ starts bytes tokens) (reads rest (subst P (sym begun.same) (is_rest_of bytes tokens are)))

-- a text that was read to its end has tokens
has_tokens : (bytes : List ℕ) (old new : Lines) → IsBegun bytes old → ReadsWhole old new → HasTokens bytes
has_tokens bytes old new begun whole =
    let P : ℕ → Type 0 = λ n. HasTokens (take n old.bytes.now) in
    let at_end = whole.at_end in
    subst HasTokens (take_all new.place new.bytes.now (omega arith) ∙ (whole.on.bytes ∙ begun.same)) (whole.on.tokens (subst P (sym begun.place) none))

pub text_read : (tree : Tree) (bytes : List ℕ) (old new : Lines) → IsBegun bytes old → ReadsFile (Ok tree) old → ReadsWhole old new → ReadsText (Ok tree) bytes
text_read tree bytes old new begun reads whole =
    let h = has_tokens bytes old new begun whole in
    inl (record { tokens = h.tokens; are_tokens = h.are_tokens; reads = reads_all (Ok tree) bytes old h.tokens begun h.are_tokens reads })

pub text_refused : (e f : Stop) (refusal : Refusal) (bytes : List ℕ) (old : Lines) → IsBegun bytes old → ReadsFile (Err f) old → f ≡ stop.Refused refusal → IsDueFor refusal bytes e → ReadsText (Err e) bytes
text_refused e f refusal bytes old begun reads is (inl due) =
    let P : Stop → Type 0 = λ s. LeadsTo (Err s) (run (line_at bytes (length bytes)) start (lines_of bytes due.0.tokens)) (λ t. Ok t) in
    inl (record { tokens = due.0.tokens; are_tokens = due.0.are_tokens; reads = subst P (is ∙ sym due.1) (reads_all (Err f) bytes old due.0.tokens begun due.0.are_tokens reads) })
text_refused e f refusal bytes old begun reads is (inr due) = inr (record { fault = due.0; has_fault = due.1; stops = ap (λ s. Err s) due.2 })

pub text_without_memory : (bytes : List ℕ) → ReadsText (Err stop.NoMemory) bytes
text_without_memory bytes = inr (record { fault = fault.NoMemory; has_fault = tt; stops = refl })

last_is : (ts : List Token) (t : Token) → get_or (ts ++ t ∷ []) (length ts) t ≡ t
last_is [] t = refl
last_is (u ∷ ts) t = last_is ts t

-- the last token is on the line of the end of the text
pub ends_at : (bytes : List ℕ) (tokens : List Token) (ts : List Token) → AreTokens bytes ts → tokens ≡ ts → last_line tokens ≡ line_at bytes (length bytes)
ends_at bytes tokens ts are is =
    let all = are.before ++ are.end_token ∷ [] in
    let size = length-append are.before (are.end_token ∷ []) in
    let at : length all - 1 ≡ length are.before = omega (arith, size) in
    ap last_line (is ∙ are.all)
    ∙ (ap line_number (slice_get-get_or all (length all - 1) are.end_token (omega (arith, size)))
    ∙ (ap (λ n. (get_or all n are.end_token).line) at
    ∙ (ap (λ (t : Token). t.line) (last_is are.before are.end_token) ∙ ap (λ (t : Token). t.line) are.last.end_of_input)))

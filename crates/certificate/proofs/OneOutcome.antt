-- Bytes are one certificate or have one fault.
use Rattle.std.proofs.Common.{◌≡◌, ℕ, ◌+◌, ◌⊎◌, inl, inr, ⊎_elim, List, [], ◌∷◌, ◌++◌, length, refl, sym, ap, ◌∙◌, subst, arith, append_assoc, append-nil}
use Rattle.std.specs.List.{AllByRecursion}
use Rattle.certificate.specs.declared.entries.Header.{Header}
use Rattle.certificate.specs.declared.entries.Entry.{Entry}
use Rattle.certificate.specs.declared.line.Line.{Line}
use Rattle.certificate.specs.declared.fault.Why.{Why}
use Rattle.certificate.specs.declared.fault.Why.TheVariants as why
use Rattle.certificate.specs.Lines.{line_text, IsLine}
use Rattle.certificate.specs.Parts.{LineFirst}
use Rattle.certificate.specs.Certificates.{lines_saying, lines_of, text_of, BeginsWith, IsCertificate, MayFollow, IsOutOfForm, IsMiscounted, HasMore, IsFault}
use Rattle.certificate.proofs.OneLine.{same_line, SameLine}
use Rattle.certificate.proofs.Following.{same_lines, SameLines, nothing_follows}

-- ---- lines that bytes begin with

-- The first lines are the second and some more, which the rest behind the second begins with.
pub record GoesOn (ls ks : List Line) (rest more : List ℕ) : Type 0 where
  pub others : List Line
  pub together : ls ≡ ks ++ others
  pub begins : BeginsWith more others rest

first_of_all : (bytes : List ℕ) (l : Line) (ls : List Line) (rest : List ℕ) → BeginsWith bytes (l ∷ ls) rest → LineFirst bytes l (text_of ls ++ rest)
first_of_all bytes l ls rest h = record { form = h.forms.0; text = h.text ∙ append_assoc (line_text l) (text_of ls) rest }

others_of_all : (l : Line) (ls : List Line) (bytes rest : List ℕ) → BeginsWith bytes (l ∷ ls) rest → BeginsWith (text_of ls ++ rest) ls rest
others_of_all l ls bytes rest h = record { forms = h.forms.1; text = refl }

-- of two lists of lines that bytes begin with, one goes on the other
pub compare_lines : (ls ks : List Line) (bytes rest more : List ℕ) → BeginsWith bytes ls rest → BeginsWith bytes ks more → GoesOn ls ks rest more ⊎ GoesOn ks ls more rest
compare_lines [] ks bytes rest more h g =
    inr (record { others = ks; together = refl; begins = record { forms = g.forms; text = sym h.text ∙ g.text } })
compare_lines (l ∷ ls) [] bytes rest more h g =
    inl (record { others = l ∷ ls; together = refl; begins = record { forms = h.forms; text = sym g.text ∙ h.text } })
compare_lines (l ∷ ls) (k ∷ ks) bytes rest more h g =
    let same : SameLine l k (text_of ls ++ rest) (text_of ks ++ more) =
    same_line bytes l k _ _ (first_of_all bytes l ls rest h) (first_of_all bytes k ks more g) in
    let second : BeginsWith (text_of ls ++ rest) ks more =
    subst (λ (s : List ℕ). BeginsWith s ks more) (sym same.left) (others_of_all k ks bytes more g) in
    ⊎_elim
    (λ on. inl (record { others = on.others; together = joined l k ls ks on.others same.line on.together; begins = on.begins }))
    (λ on. inr (record { others = on.others; together = joined k l ks ls on.others (sym same.line) on.together; begins = on.begins }))
    (compare_lines ls ks (text_of ls ++ rest) rest more (others_of_all l ls bytes rest h) second)
  where
    joined : (a b : Line) (xs ys others : List Line) → a ≡ b → xs ≡ ys ++ others → a ∷ xs ≡ b ∷ (ys ++ others)
    joined a b xs ys others p q = cc

-- ---- two certificates

pub record SameWhole (h k : Header) (es us : List Entry) (n m : ℕ) (rest more : List ℕ) : Type 0 where
  pub header : h ≡ k
  pub entries : es ≡ us
  pub number : n ≡ m
  pub left : rest ≡ more

ended : (h k : Header) (es us : List Entry) (n m : ℕ) (rest more : List ℕ) → GoesOn (lines_saying m k us) (lines_saying n h es) more rest → SameWhole h k es us n m rest more
ended h k es us n m rest more on =
    let same : SameLines h k es us n m on.others = same_lines h k es us n m on.others (sym on.together) in
    record {
      header = same.header;
      entries = same.entries;
      number = same.number;
      left = on.begins.text ∙ ap (λ ls. text_of ls ++ more) same.none;
    }

pub same_whole : (bytes : List ℕ) (h k : Header) (es us : List Entry) (n m : ℕ) (rest more : List ℕ) → BeginsWith bytes (lines_saying n h es) rest → BeginsWith bytes (lines_saying m k us) more
    → SameWhole h k es us n m rest more
same_whole bytes h k es us n m rest more first second =
    ⊎_elim
    (λ on. let same : SameWhole k h us es m n more rest = ended k h us es m n more rest on in
    record { header = sym same.header; entries = sym same.entries; number = sym same.number; left = sym same.left })
    (λ on. ended h k es us n m rest more on)
    (compare_lines (lines_saying n h es) (lines_saying m k us) bytes rest more first second)

-- ---- a line out of form

-- the first of more lines follows
one_more : (before : List Line) (l : Line) (ls : List Line) (next : Line) → MayFollow (before ++ l ∷ ls) next → MayFollow before l
one_more before l ls next h = record {
  later = ls ++ next ∷ h.later;
  number = h.number;
  header = h.header;
  entries = h.entries;
  together = sym (append_assoc before (l ∷ ls) (next ∷ h.later)) ∙ h.together;
}

first_begins : (l : Line) (ls : List Line) (bytes rest : List ℕ) → BeginsWith bytes (l ∷ ls) rest → BeginsWith bytes (l ∷ []) (text_of ls ++ rest)
first_begins l ls bytes rest h = record {
  forms = (h.forms.0, tt);
  text = h.text ∙ append_assoc (line_text l) (text_of ls) rest ∙ ap (λ s. s ++ (text_of ls ++ rest)) (sym (append-nil (line_text l)));
}

-- none of the lines that may follow stands there, so no lines go on
no_more : (before others : List Line) (rest more : List ℕ) → ((line : Line) (after : List ℕ) → MayFollow before line → BeginsWith rest (line ∷ []) after → ⊥)
    → BeginsWith rest others more → ((l : Line) (ls : List Line) → others ≡ l ∷ ls → MayFollow before l) → others ≡ []
no_more before [] rest more none begins follow = refl
no_more before (l ∷ ls) rest more none begins follow = absurd (none l _ (follow l ls refl) (first_begins l ls rest more begins))

pub form_not_whole : (bytes : List ℕ) (number : ℕ) (header : Header) (entries : List Entry) (said : ℕ) (rest : List ℕ) → IsOutOfForm bytes number → BeginsWith bytes (lines_saying said header entries) rest → ⊥
form_not_whole bytes number header entries said rest h whole =
    ⊎_elim
    (λ on. nothing_follows said header entries on.others h.due.0 (subst (λ (ls : List Line). MayFollow ls h.due.0) on.together h.due.1))
    (λ on.
    let none : on.others ≡ [] = no_more h.before on.others h.rest rest h.none on.begins (λ l ls e. follows on.others l ls on.together e) in
    let all : h.before ≡ lines_saying said header entries = sym (on.together ∙ ap (λ ls. h.before ++ ls) none ∙ append-nil h.before) in
    nothing_follows said header entries [] h.due.0 (subst (λ (ls : List Line). MayFollow ls h.due.0) (all ∙ sym (append-nil (lines_saying said header entries))) h.due.1))
    (compare_lines h.before (lines_saying said header entries) bytes h.rest rest h.begins whole)
  where
    follows : (others : List Line) (l : Line) (ls : List Line) → lines_saying said header entries ≡ h.before ++ others → others ≡ l ∷ ls → MayFollow h.before l
    follows others l ls together e = record {
      later = ls;
      number = said;
      header = header;
      entries = entries;
      together = ap (λ xs. h.before ++ xs) (sym e) ∙ sym together;
    }

same_before : (bytes : List ℕ) (m n : ℕ) (h : IsOutOfForm bytes m) (g : IsOutOfForm bytes n) → GoesOn h.before g.before h.rest g.rest → m ≡ n
same_before bytes m n h g on =
    let none : on.others ≡ [] = no_more g.before on.others g.rest h.rest g.none on.begins
    (λ l ls e. one_more g.before l ls h.due.0 (subst (λ (xs : List Line). MayFollow xs h.due.0) (on.together ∙ ap (λ xs. g.before ++ xs) e) h.due.1)) in
    let all : h.before ≡ g.before = on.together ∙ ap (λ ls. g.before ++ ls) none ∙ append-nil g.before in
    h.at ∙ ap (λ ls. length ls + 1) all ∙ sym g.at

pub same_form : (bytes : List ℕ) (m n : ℕ) → IsOutOfForm bytes m → IsOutOfForm bytes n → m ≡ n
same_form bytes m n h g =
    ⊎_elim
    (λ on. same_before bytes m n h g on)
    (λ on. sym (same_before bytes n m g h on))
    (compare_lines h.before g.before bytes h.rest g.rest h.begins g.begins)

-- ---- outcomes

pub one_certificate : (bytes : List ℕ) (header other : Header) (entries others : List Entry) → IsCertificate bytes header entries → IsCertificate bytes other others → (header ≡ other) × (entries ≡ others)
one_certificate bytes header other entries others h g =
    let same = same_whole bytes header other entries others (length entries) (length others) [] [] h g in
    (same.header, same.entries)

miscounted_or_more : (bytes : List ℕ) (m n : ℕ) → IsMiscounted bytes m → HasMore bytes n → ⊥
miscounted_or_more bytes m n h g =
    let same = same_whole bytes h.header g.header h.entries g.entries h.said (length g.entries) h.rest (g.next ∷ g.rest) h.begins g.begins in
    h.wrong (same.number ∙ ap length (sym same.entries))

same_count : (bytes : List ℕ) (m n : ℕ) → IsMiscounted bytes m → IsMiscounted bytes n → m ≡ n
same_count bytes m n h g =
    let same = same_whole bytes h.header g.header h.entries g.entries h.said g.said h.rest g.rest h.begins g.begins in
    h.at ∙ ap (λ s. length (lines_saying s h.header h.entries)) same.number ∙ ap (λ x. length (lines_saying g.said x h.entries)) same.header
    ∙ ap (λ es. length (lines_saying g.said g.header es)) same.entries ∙ sym g.at

same_more : (bytes : List ℕ) (m n : ℕ) → HasMore bytes m → HasMore bytes n → m ≡ n
same_more bytes m n h g =
    let same = same_whole bytes h.header g.header h.entries g.entries (length h.entries) (length g.entries) (h.next ∷ h.rest) (g.next ∷ g.rest) h.begins g.begins in
    h.at ∙ ap (λ x. length (lines_of x h.entries) + 1) same.header ∙ ap (λ es. length (lines_of g.header es) + 1) same.entries ∙ sym g.at

pub one_fault : (bytes : List ℕ) (m n : ℕ) (a b : Why) → IsFault bytes m a → IsFault bytes n b → (m ≡ n) × (a ≡ b)
one_fault bytes m n why.Form why.Form h g = (same_form bytes m n h g, refl)
one_fault bytes m n why.Form why.Count h g = absurd (form_not_whole bytes m g.header g.entries g.said g.rest h g.begins)
one_fault bytes m n why.Form why.Extra h g = absurd (form_not_whole bytes m g.header g.entries (length g.entries) (g.next ∷ g.rest) h g.begins)
one_fault bytes m n why.Count why.Form h g = absurd (form_not_whole bytes n h.header h.entries h.said h.rest g h.begins)
one_fault bytes m n why.Count why.Count h g = (same_count bytes m n h g, refl)
one_fault bytes m n why.Count why.Extra h g = absurd (miscounted_or_more bytes m n h g)
one_fault bytes m n why.Extra why.Form h g = absurd (form_not_whole bytes n h.header h.entries (length h.entries) (h.next ∷ h.rest) g h.begins)
one_fault bytes m n why.Extra why.Count h g = absurd (miscounted_or_more bytes n m g h)
one_fault bytes m n why.Extra why.Extra h g = (same_more bytes m n h g, refl)
one_fault bytes m n why.Form b h g = absurd g
one_fault bytes m n why.Count b h g = absurd g
one_fault bytes m n why.Extra b h g = absurd g
one_fault bytes m n a b h g = absurd h

certificate_or_miscounted : (bytes : List ℕ) (header : Header) (entries : List Entry) (n : ℕ) → IsCertificate bytes header entries → IsMiscounted bytes n → ⊥
certificate_or_miscounted bytes header entries n h g =
    let same = same_whole bytes header g.header entries g.entries (length entries) g.said [] g.rest h g.begins in
    g.wrong (sym same.number ∙ ap length same.entries)

certificate_or_more : (bytes : List ℕ) (header : Header) (entries : List Entry) (n : ℕ) → IsCertificate bytes header entries → HasMore bytes n → ⊥
certificate_or_more bytes header entries n h g =
    let same = same_whole bytes header g.header entries g.entries (length entries) (length g.entries) [] (g.next ∷ g.rest) h g.begins in
    let left : [] ≡ g.next ∷ g.rest = same.left in
    cc

pub certificate_or_fault : (bytes : List ℕ) (header : Header) (entries : List Entry) (n : ℕ) (a : Why) → IsCertificate bytes header entries → IsFault bytes n a → ⊥
certificate_or_fault bytes header entries n why.Form h g = form_not_whole bytes n header entries (length entries) [] g h
certificate_or_fault bytes header entries n why.Count h g = certificate_or_miscounted bytes header entries n h g
certificate_or_fault bytes header entries n why.Extra h g = certificate_or_more bytes header entries n h g
certificate_or_fault bytes header entries n a h g = g

-- Parts and what they give: one more part, and that words fall into plain parts in one way.
use Rattle.std.proofs.Common.{◌≡◌, ℕ, ◌+◌, ◌<◌, ◌≤◌, List, [], ◌∷◌, ◌++◌, length, get_or, refl, sym, ap, ◌∙◌, subst, arith, append_assoc, length-append}
use Rattle.std.proofs.lemmas.List.{append-nil, append_cancel_left}
use Rattle.command_words.specs.declared.names.OptionName.{OptionName}
use Rattle.command_words.specs.declared.names.OptionName.TheVariants.{Workers, Certificate, Schedule}
use Rattle.command_words.specs.Names.{option_word, texts}
use Rattle.command_words.specs.Parts.{Part, operand, separate, joined, words_of, written, IsPlain, IsPlainPart, ArePlain, Found, nothing, join, found_part, found_in, GivesFew}
use Rattle.std.specs.Prelude.{string_bytes}
use Rattle.std.specs.declared.string.String.{String}
use Rattle.std.specs.declared.alloc.Global.{Global}
use Rattle.command_words.specs.declared.parts.Argument.{Argument}
use Rattle.command_words.specs.Reading.{BeginsWithPart, HasRead, found_by}

-- what is found, joined
pub join_assoc : (a b c : Found) → join (join a b) c ≡ join a (join b c)
join_assoc a b c = λ i. record {
  operands = append_assoc a.operands b.operands c.operands i;
  workers = append_assoc a.workers b.workers c.workers i;
  certificate = append_assoc a.certificate b.certificate c.certificate i;
  schedule = append_assoc a.schedule b.schedule c.schedule i;
}

pub join-nothing : (a : Found) → join a nothing ≡ a
join-nothing a = λ i. record {
  operands = append-nil a.operands i;
  workers = append-nil a.workers i;
  certificate = append-nil a.certificate i;
  schedule = append-nil a.schedule i;
}

pub found-append : (ps qs : List Part) → found_in (ps ++ qs) ≡ join (found_in ps) (found_in qs)
found-append [] qs = refl
found-append (p ∷ ps) qs = ap (join (found_part p)) (found-append ps qs) ∙ sym (join_assoc (found_part p) (found_in ps) (found_in qs))

pub found-snoc : (ps : List Part) (p : Part) → found_in (ps ++ p ∷ []) ≡ join (found_in ps) (found_part p)
found-snoc ps p = found-append ps (p ∷ []) ∙ ap (join (found_in ps)) (join-nothing (found_part p))

pub written-snoc : (ps : List Part) (p : Part) → written (ps ++ p ∷ []) ≡ written ps ++ words_of p
written-snoc [] p = append-nil (words_of p)
written-snoc (q ∷ qs) p = ap (λ (r : List (List ℕ)). words_of q ++ r) (written-snoc qs p) ∙ sym (append_assoc (words_of q) (written qs) (words_of p))

pub plain-snoc : (ps : List Part) (p : Part) → ArePlain ps → IsPlainPart p → ArePlain (ps ++ p ∷ [])
plain-snoc [] p all one = (one, tt)
plain-snoc (q ∷ qs) p all one = (all.0, plain-snoc qs p all.1 one)

length-front : (a b : List (List ℕ)) (n : ℕ) → length (a ++ b) ≤ n → length a ≤ n
length-front a b n h = omega (arith, length-append a b)

pub within-front : (a b : Found) → GivesFew (join a b) → GivesFew a
within-front a b w = record {
  operands_few = length-front a.operands b.operands 4 w.operands_few;
  workers_once = length-front a.workers b.workers 1 w.workers_once;
  certificate_once = length-front a.certificate b.certificate 1 w.certificate_once;
  schedule_once = length-front a.schedule b.schedule 1 w.schedule_once;
}

-- options' names: no plain word, and no one begins another
third : List ℕ → ℕ
third word = get_or word 2 0

third-joined : (name : OptionName) (value : List ℕ) → third (option_word name ++ 61 ∷ value) ≡ third (option_word name)
unfolding third
third-joined Workers value = refl
third-joined Certificate value = refl
third-joined Schedule value = refl

one-third : (n m : OptionName) → third (option_word n) ≡ third (option_word m) → n ≡ m
unfolding third
one-third Workers Workers e = refl
one-third Certificate Certificate e = refl
one-third Schedule Schedule e = refl
one-third Workers Certificate e = absurd (omega arith)
one-third Workers Schedule e = absurd (omega arith)
one-third Certificate Workers e = absurd (omega arith)
one-third Certificate Schedule e = absurd (omega arith)
one-third Schedule Workers e = absurd (omega arith)
one-third Schedule Certificate e = absurd (omega arith)

pub one-option : (n m : OptionName) → option_word n ≡ option_word m → n ≡ m
one-option n m e = one-third n m (ap third e)

pub name-not_joined : (n m : OptionName) (value : List ℕ) → option_word n ≡ option_word m ++ 61 ∷ value → ⊥
name-not_joined n m value e =
    let same : n ≡ m = one-third n m (ap third e ∙ third-joined m value) in
    let own : option_word m ≡ option_word m ++ 61 ∷ value = sym (ap option_word same) ∙ e in
    let sizes : length (option_word m) ≡ length (option_word m) + length (61 ∷ value) = ap length own ∙ length-append (option_word m) (61 ∷ value) in
    let more : length (61 ∷ value) ≡ length value + 1 = omega arith in
    omega arith

pub record SameJoined (n m : OptionName) (v u : List ℕ) : Type 0 where
  pub name : n ≡ m
  pub value : v ≡ u

pub same-joined : (n m : OptionName) (v u : List ℕ) → option_word n ++ 61 ∷ v ≡ option_word m ++ 61 ∷ u → SameJoined n m v u
same-joined n m v u e =
    let same : n ≡ m = one-third n m (sym (third-joined n v) ∙ ap third e ∙ third-joined m u) in
    let own : option_word m ++ 61 ∷ v ≡ option_word m ++ 61 ∷ u = sym (ap (λ (k : OptionName). option_word k ++ 61 ∷ v) same) ∙ e in
    let tails : 61 ∷ v ≡ 61 ∷ u = append_cancel_left (option_word m) (61 ∷ v) (61 ∷ u) own in
    record { name = same; value = cc }

pub name-not_plain : (name : OptionName) → IsPlain (option_word name) → ⊥
name-not_plain Workers h = h refl
name-not_plain Certificate h = h refl
name-not_plain Schedule h = h refl

pub joined-not_plain : (name : OptionName) (value : List ℕ) → IsPlain (option_word name ++ 61 ∷ value) → ⊥
joined-not_plain Workers value h = h refl
joined-not_plain Certificate value h = h refl
joined-not_plain Schedule value h = h refl

-- an operand is told from an option by its first byte
abbrev pub Starts : Part → Type 0
Starts (operand word) = IsPlain word
Starts (separate name value) = Unit {0}
Starts (joined name value) = Unit {0}

pub starts : (p : Part) → IsPlainPart p → Starts p
starts (operand word) h = h
starts (separate name value) h = tt
starts (joined name value) h = tt

pub record SamePart (p q : Part) (xs ys : List (List ℕ)) : Type 0 where
  pub part : p ≡ q
  pub behind : xs ≡ ys

pub record SameHead (a b : List ℕ) (xs ys : List (List ℕ)) : Type 0 where
  pub head : a ≡ b
  pub tail : xs ≡ ys

pub same-head : (a b : List ℕ) (xs ys : List (List ℕ)) → a ∷ xs ≡ b ∷ ys → SameHead a b xs ys
same-head a b xs ys e = record { head = cc; tail = cc }

pub same-part : (p q : Part) (xs ys : List (List ℕ)) → Starts p → Starts q → words_of p ++ xs ≡ words_of q ++ ys → SamePart p q xs ys
same-part (operand w) (operand v) xs ys hp hq e =
    let h = same-head w v xs ys e in record { part = ap operand h.head; behind = h.tail }
same-part (operand w) (separate n v) xs ys hp hq e =
    absurd (name-not_plain n (subst IsPlain (same-head w (option_word n) xs (v ∷ ys) e).head hp))
same-part (operand w) (joined n v) xs ys hp hq e =
    absurd (joined-not_plain n v (subst IsPlain (same-head w (option_word n ++ 61 ∷ v) xs ys e).head hp))
same-part (separate n v) (operand w) xs ys hp hq e =
    absurd (name-not_plain n (subst IsPlain (sym (same-head (option_word n) w (v ∷ xs) ys e).head) hq))
same-part (joined n v) (operand w) xs ys hp hq e =
    absurd (joined-not_plain n v (subst IsPlain (sym (same-head (option_word n ++ 61 ∷ v) w xs ys e).head) hq))
same-part (separate n v) (separate m u) xs ys hp hq e =
    let h = same-head (option_word n) (option_word m) (v ∷ xs) (u ∷ ys) e in
    let name = one-option n m h.head in
    let t = same-head v u xs ys h.tail in
    record { part = λ i. separate (name i) (t.head i); behind = t.tail }
same-part (separate n v) (joined m u) xs ys hp hq e =
    absurd (name-not_joined n m u (same-head (option_word n) (option_word m ++ 61 ∷ u) (v ∷ xs) ys e).head)
same-part (joined n v) (separate m u) xs ys hp hq e =
    absurd (name-not_joined m n v (sym (same-head (option_word n ++ 61 ∷ v) (option_word m) xs (u ∷ ys) e).head))
same-part (joined n v) (joined m u) xs ys hp hq e =
    let h = same-head (option_word n ++ 61 ∷ v) (option_word m ++ 61 ∷ u) xs ys e in
    let s = same-joined n m v u h.head in
    record { part = λ i. joined (s.name i) (s.value i); behind = h.tail }

part-not_empty : (p : Part) (behind : List (List ℕ)) → words_of p ++ behind ≡ [] → ⊥
part-not_empty (operand w) behind e = cc
part-not_empty (separate n v) behind e = cc
part-not_empty (joined n v) behind e = cc

-- parts that begin as others do begin with these
pub record Behind (ps qs : List Part) (rest : List (List ℕ)) : Type 0 where
  pub more : List Part
  pub parts_are : qs ≡ ps ++ more
  pub words_are : rest ≡ written more
  pub plain : ArePlain more

pub reads-back : (ps qs : List Part) (rest : List (List ℕ)) → ArePlain ps → ArePlain qs → written ps ++ rest ≡ written qs → Behind ps qs rest
reads-back [] qs rest hp hq e = record { more = qs; parts_are = refl; words_are = e; plain = hq }
reads-back (p ∷ ps) [] rest hp hq e =
    absurd (part-not_empty p (written ps ++ rest) (sym (append_assoc (words_of p) (written ps) rest) ∙ e))
reads-back (p ∷ ps) (q ∷ qs) rest hp hq e =
    let first = same-part p q (written ps ++ rest) (written qs) (starts p hp.0) (starts q hq.0) (sym (append_assoc (words_of p) (written ps) rest) ∙ e) in
    let b = reads-back ps qs rest hp.1 hq.1 first.behind in
    let head : q ≡ p = sym first.part in
    record { more = b.more; parts_are = λ i. head i ∷ b.parts_are i; words_are = b.words_are; plain = b.plain }

none-more : (more : List Part) → [] ≡ written more → more ≡ []
none-more [] e = refl
none-more (p ∷ ps) e = absurd (part-not_empty p (written ps) (sym e))

pub one-reading : (ps qs : List Part) → ArePlain ps → ArePlain qs → written ps ≡ written qs → ps ≡ qs
one-reading ps qs hp hq e =
    let b = reads-back ps qs [] hp hq (append-nil (written ps) ∙ e) in
    sym (b.parts_are ∙ ap (λ (more : List Part). ps ++ more) (none-more b.more b.words_are) ∙ append-nil ps)

-- reading on
pub begins : (words : List (List ℕ)) → HasRead words nothing words
begins words = record { parts = []; plain = tt; words_are = refl; gives = refl }

pub reads-on : (words rest behind : List (List ℕ)) (found : Found) (part : Part) → HasRead words found rest → IsPlainPart part → rest ≡ words_of part ++ behind
    → HasRead words (join found (found_part part)) behind
reads-on words rest behind found part r plain e =
    let on : written r.parts ++ rest ≡ written r.parts ++ (words_of part ++ behind) = ap (λ (x : List (List ℕ)). written r.parts ++ x) e in
    let joined : written (r.parts ++ part ∷ []) ++ behind ≡ (written r.parts ++ words_of part) ++ behind =
    ap (λ (x : List (List ℕ)). x ++ behind) (written-snoc r.parts part) in
    record {
      parts = r.parts ++ part ∷ [];
      plain = plain-snoc r.parts part r.plain plain;
      words_are = r.words_are ∙ on ∙ sym (append_assoc (written r.parts) (words_of part) behind) ∙ sym joined;
      gives = found-snoc r.parts part ∙ ap (λ (f : Found). join f (found_part part)) r.gives;
    }

abbrev pub NoPart : List (List ℕ) → Type 0
NoPart words = (part : Part) (behind : List (List ℕ)) → IsPlainPart part → words ≡ words_of part ++ behind → ⊥

stuck-at : (first : List ℕ) (tail : List (List ℕ)) (more : List Part) → ArePlain more → first ∷ tail ≡ written more → NoPart (first ∷ tail) → ⊥
stuck-at first tail [] plain e none = cc
stuck-at first tail (p ∷ ps) plain e none = none p (written ps) plain.0 e

-- where no part is next, no parts make the words
pub stuck : (words : List (List ℕ)) (found : Found) (first : List ℕ) (tail : List (List ℕ)) → HasRead words found (first ∷ tail) → NoPart (first ∷ tail)
    → (parts : List Part) → words ≡ written parts → ArePlain parts → ⊥
stuck words found first tail r none parts e plain =
    let b = reads-back r.parts parts (first ∷ tail) r.plain plain (sym r.words_are ∙ e) in
    stuck-at first tail b.more b.plain b.words_are none

-- where the next part gives too much, so do all parts
pub too-much : (words rest behind : List (List ℕ)) (found : Found) (part : Part) → HasRead words found rest → IsPlainPart part → rest ≡ words_of part ++ behind
    → (GivesFew (join found (found_part part)) → ⊥)
    → (parts : List Part) → words ≡ written parts → ArePlain parts → GivesFew (found_in parts) → ⊥
too-much words rest behind found part r plain e over parts is all within =
    let next = reads-on words rest behind found part r plain e in
    let b = reads-back next.parts parts behind next.plain all (sym next.words_are ∙ is) in
    let sum : found_in parts ≡ join (found_in next.parts) (found_in b.more) = ap found_in b.parts_are ∙ found-append next.parts b.more in
    over (subst GivesFew next.gives (within-front (found_in next.parts) (found_in b.more) (subst GivesFew sum within)))

-- at the end
pub at-end : (words : List (List ℕ)) (found : Found) (r : HasRead words found []) → words ≡ written r.parts
at-end words found r = r.words_are ∙ append-nil (written r.parts)

-- the same by what the reader holds
pub read_one : (words rest behind : List (List ℕ)) (found more : Found) (argument : Argument) → HasRead words found rest → BeginsWithPart rest argument behind
    → join found (found_by argument) ≡ more → HasRead words more behind
read_one words rest behind found more argument h b e =
    let r = reads-on words rest behind found b.part h b.plain b.words_are in
    record { parts = r.parts; plain = r.plain; words_are = r.words_are; gives = r.gives ∙ ap (join found) b.gives ∙ e }

pub read_too_much : (words rest behind : List (List ℕ)) (found : Found) (argument : Argument) → HasRead words found rest → BeginsWithPart rest argument behind
    → (GivesFew (join found (found_by argument)) → ⊥)
    → (parts : List Part) → words ≡ written parts → ArePlain parts → GivesFew (found_in parts) → ⊥
read_too_much words rest behind found argument h b over =
    too-much words rest behind found b.part h b.plain b.words_are
    (λ w. over (subst (λ (f : Found). GivesFew (join found f)) b.gives w))

pub read_stuck : (words : List (List ℕ)) (found : Found) (rest : List (String Global)) → HasRead words found (texts rest) → 0 < length rest → NoPart (texts rest)
    → (parts : List Part) → words ≡ written parts → ArePlain parts → GivesFew (found_in parts) → ⊥
read_stuck words found [] h some none parts e plain within = absurd (omega arith)
read_stuck words found (x ∷ xs) h some none parts e plain within = stuck words found (string_bytes x) (texts xs) h none parts e plain

pub read_all : (words : List (List ℕ)) (found : Found) (rest : List (String Global)) → HasRead words found (texts rest) → length rest ≡ 0 → HasRead words found []
read_all words found [] h none = h
read_all words found (x ∷ xs) h none = absurd (omega arith)

pub no_part_of_none : (words : List (String Global)) → length words ≡ 0 → NoPart (texts words)
no_part_of_none [] none part behind plain e = part-not_empty part behind (sym e)
no_part_of_none (x ∷ xs) none part behind plain e = absurd (omega arith)

-- From the words behind a command's name to what they ask, and back.
use Rattle.std.proofs.Common.{◌≡◌, ℕ, ◌<◌, ◌≤◌, true, eqb, List, [], ◌∷◌, length, get_or, Option, Some, None, sym, ap, ◌∙◌, subst, arith}
use Rattle.std.specs.Prelude.{IfSome, IfNone}
use Rattle.std.specs.Cmp.Lexicographic.{pointwise}
use Rattle.std.proofs.lemmas.Slice.Eq.{bytes_eq-Decides}
use Rattle.std.specs.Option.{option_to_list}
use Rattle.command_words.specs.declared.command.Gadget.{Gadget}
use Rattle.command_words.specs.Numbers.{IsNumber}
use Rattle.command_words.specs.Parts.{Part, Found, ArePlain, IsPlain, GivesFew, found_in, written}
use Rattle.command_words.specs.Reading.{HasRead}
use Rattle.command_words.specs.Commands.{VerifyRequest, CheckRequest, IsWorkers, IsSchedule, AsksVerify, IsVerify, AsksCheck, IsCheck, AsksGadget, IsGadget}
use Rattle.command_words.proofs.Written.{same-head, one-reading, at-end}
use Rattle.command_words.proofs.One.{moved, same-four, same-fifth}

pub if-some : {T : Type 0} (o : Option T) (P Q : T → Type 0) → ((x : T) → P x → Q x) → IfSome o P → IfSome o Q
if-some None P Q f h = tt
if-some (Some x) P Q f h = f x h

pub if-none : {T : Type 0} (o : Option T) (P Q : Type 0) → (P → Q) → IfNone o P → IfNone o Q
if-none None P Q f h = f h
if-none (Some x) P Q f h = tt

pub is-none : {T : Type 0} (o : Option T) (P : Type 0) → P → IfNone o P
is-none None P p = p
is-none (Some x) P p = tt

-- what asks is within the bounds
few-workers : (values : List (List ℕ)) (workers : ℕ) → IsWorkers values workers → length values ≤ 1
few-workers [] workers h = omega arith
few-workers (v ∷ []) workers h = omega arith
few-workers (v ∷ u ∷ more) workers h = absurd h

few-seeds : (values : List (List ℕ)) (schedule : Option ℕ) → IsSchedule values schedule → length values ≤ 1
few-seeds [] schedule h = omega arith
few-seeds (v ∷ []) schedule h = omega arith
few-seeds (v ∷ u ∷ more) schedule h = absurd h

few-files : (values : List (List ℕ)) (file : Option (List ℕ)) → values ≡ option_to_list file → length values ≤ 1
few-files values None e = let size : length values ≡ 0 = ap length e in omega arith
few-files values (Some x) e = let size : length values ≡ 1 = ap length e in omega arith

pub asks-within : (found : Found) (request : VerifyRequest) → AsksVerify found request → GivesFew found
asks-within found request a =
    let four : length found.operands ≡ 4 = ap length a.operands_are in
    record {
      operands_few = omega arith;
      workers_once = few-workers found.workers request.workers a.workers_is;
      certificate_once = few-files found.certificate request.certificate a.certificate_is;
      schedule_once = few-seeds found.schedule request.schedule a.schedule_is;
    }

-- `verify`
pub no-verify : (words : List (List ℕ)) → ((parts : List Part) → words ≡ written parts → ArePlain parts → GivesFew (found_in parts) → ⊥)
    → (request : VerifyRequest) → IsVerify words request → ⊥
no-verify words none request v = none v.parts v.words_are v.plain (asks-within (found_in v.parts) request v.asks)

pub is-verify : (words : List (List ℕ)) (found : Found) (request : VerifyRequest) → HasRead words found [] → AsksVerify found request → IsVerify words request
is-verify words found request r asks = record {
  parts = r.parts;
  words_are = at-end words found r;
  plain = r.plain;
  asks = subst (λ (f : Found). AsksVerify f request) (sym r.gives) asks;
}

pub asks-verify : (words : List (List ℕ)) (found : Found) (request : VerifyRequest) → HasRead words found [] → IsVerify words request → AsksVerify found request
asks-verify words found request r v =
    let same = one-reading v.parts r.parts v.plain r.plain (sym v.words_are ∙ at-end words found r) in
    subst (λ (f : Found). AsksVerify f request) (ap found_in same ∙ r.gives) v.asks

-- `check`
pub is-check : (words : List (List ℕ)) (n o m f g : List ℕ) → words ≡ n ∷ o ∷ m ∷ f ∷ g ∷ [] → (request : CheckRequest) → AsksCheck n o m f g request → IsCheck words request
is-check words n o m f g e request asks = record { notion = n; order = o; model = m; netlist = f; certificate = g; words_are = e; asks = asks }

pub asks-check : (words : List (List ℕ)) (n o m f g : List ℕ) → words ≡ n ∷ o ∷ m ∷ f ∷ g ∷ [] → (request : CheckRequest) → IsCheck words request → AsksCheck n o m f g request
asks-check words n o m f g is request c =
    let e = sym c.words_are ∙ is in
    let s = same-four c.notion c.order c.model c.netlist n o m f (c.certificate ∷ []) (g ∷ []) e in
    let fifth : c.certificate ≡ g = same-fifth c.notion c.order c.model c.netlist c.certificate n o m f g e in
    record {
      question_is = moved c.notion c.order c.model n o m request.question s.first_is s.second_is s.third_is c.asks.question_is;
      netlist_is = sym s.fourth_is ∙ c.asks.netlist_is;
      certificate_is = sym fifth ∙ c.asks.certificate_is;
      netlist_plain = subst IsPlain s.fourth_is c.asks.netlist_plain;
      certificate_plain = subst IsPlain fifth c.asks.certificate_plain;
      two_files = λ same. c.asks.two_files (fifth ∙ same ∙ sym s.fourth_is);
    }

-- `generate` and `trial`
pub is-gadget : (words : List (List ℕ)) (a b : List ℕ) → words ≡ a ∷ b ∷ [] → (gadget : Gadget) → AsksGadget a b gadget → IsGadget words gadget
is-gadget words a b e gadget asks = record { seed = a; shares = b; words_are = e; asks = asks }

pub asks-gadget : (words : List (List ℕ)) (a b : List ℕ) → words ≡ a ∷ b ∷ [] → (gadget : Gadget) → IsGadget words gadget → AsksGadget a b gadget
asks-gadget words a b is gadget g =
    let h = same-head g.seed a (g.shares ∷ []) (b ∷ []) (sym g.words_are ∙ is) in
    let t = same-head g.shares b [] [] h.tail in
    record {
      seed_is = subst (λ (w : List ℕ). IsNumber 0 18446744073709551615 w gadget.seed) h.head g.asks.seed_is;
      shares_is = subst (λ (w : List ℕ). IsNumber 2 16 w gadget.shares) t.head g.asks.shares_is;
    }

-- lists of five and of two
pub five : {X : Type 0} (xs : List X) (a b c d e : X) → 5 ≤ length xs → length xs < 6
    → a ≡ get_or xs 0 a → b ≡ get_or xs 1 b → c ≡ get_or xs 2 c → d ≡ get_or xs 3 d → e ≡ get_or xs 4 e → xs ≡ a ∷ b ∷ c ∷ d ∷ e ∷ []
five [] a b c d e lo hi p q r s t = absurd (omega arith)
five (v ∷ []) a b c d e lo hi p q r s t = absurd (omega arith)
five (v ∷ w ∷ []) a b c d e lo hi p q r s t = absurd (omega arith)
five (v ∷ w ∷ x ∷ []) a b c d e lo hi p q r s t = absurd (omega arith)
five (v ∷ w ∷ x ∷ y ∷ []) a b c d e lo hi p q r s t = absurd (omega arith)
five (v ∷ w ∷ x ∷ y ∷ z ∷ []) a b c d e lo hi p q r s t = cc
five (v ∷ w ∷ x ∷ y ∷ z ∷ u ∷ more) a b c d e lo hi p q r s t = absurd (omega arith)

pub two : {X : Type 0} (xs : List X) (a b : X) → 2 ≤ length xs → length xs < 3 → a ≡ get_or xs 0 a → b ≡ get_or xs 1 b → xs ≡ a ∷ b ∷ []
two [] a b lo hi p q = absurd (omega arith)
two (v ∷ []) a b lo hi p q = absurd (omega arith)
two (v ∷ w ∷ []) a b lo hi p q = cc
two (v ∷ w ∷ x ∷ more) a b lo hi p q = absurd (omega arith)

-- names
pub named : (name word : List ℕ) → true ≡ pointwise eqb name word → name ≡ word
named name word e = (bytes_eq-Decides name word).0 (sym e)

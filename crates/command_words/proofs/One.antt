-- Words mean at most one command.
use Rattle.std.proofs.Common.{◌≡◌, ◌≢◌, ℕ, ◌-◌, ◌^◌, List, [], ◌∷◌, get_or, codes, Option, Some, None, refl, sym, ap, ◌∙◌, subst, arith}
use Rattle.std.specs.Option.{option_to_list}
use Rattle.expr_table.specs.declared.instance.Notion.{Notion}
use Rattle.expr_table.specs.declared.instance.Notion.TheVariants.{Probing, Ni, Sni}
use Rattle.circuit_types.specs.declared.probes.Model.{Model}
use Rattle.circuit_types.specs.declared.probes.Model.TheVariants.{Value, Glitch}
use Rattle.verify_question.specs.declared.question.Question.{Question}
use Rattle.command_words.specs.declared.command.Gadget.{Gadget}
use Rattle.verify_question.specs.Words.{notion_word, model_word}
use Rattle.command_words.specs.Numbers.{IsNumber}
use Rattle.command_words.specs.Parts.{Part, Found, found_in}
use Rattle.command_words.specs.Commands.{VerifyRequest, CheckRequest, Request, verify, check, generate, trial, AsksQuestion, IsWorkers, IsSchedule, AsksVerify, IsVerify, IsCheck, IsGadget, command_word, AsksFor, Means}
use Rattle.command_words.proofs.Written.{same-head, one-reading}

-- the first letter of a word, by which notions, models and commands differ
letter : List ℕ → ℕ
letter word = get_or word 0 0

one-notion : (a b : Notion) → letter (notion_word a) ≡ letter (notion_word b) → a ≡ b
unfolding letter
one-notion Probing Probing e = refl
one-notion Ni Ni e = refl
one-notion Sni Sni e = refl
one-notion Probing Ni e = absurd (omega arith)
one-notion Probing Sni e = absurd (omega arith)
one-notion Ni Probing e = absurd (omega arith)
one-notion Ni Sni e = absurd (omega arith)
one-notion Sni Probing e = absurd (omega arith)
one-notion Sni Ni e = absurd (omega arith)

one-model : (a b : Model) → letter (model_word a) ≡ letter (model_word b) → a ≡ b
unfolding letter
one-model Value Value e = refl
one-model Glitch Glitch e = refl
one-model Value Glitch e = absurd (omega arith)
one-model Glitch Value e = absurd (omega arith)

one-question : (n o m : List ℕ) (a b : Question) → AsksQuestion n o m a → AsksQuestion n o m b → a ≡ b
one-question n o m a b p q =
    let notion : a.notion ≡ b.notion = one-notion a.notion b.notion (ap letter (sym p.notion_is ∙ q.notion_is)) in
    let order : a.order ≡ b.order = p.order_is.value ∙ sym q.order_is.value in
    let model : a.model ≡ b.model = one-model a.model b.model (ap letter (sym p.model_is ∙ q.model_is)) in
    let timing : a.timing ≡ b.timing = p.timing_is ∙ sym q.timing_is in
    λ i. record { notion = notion i; order = order i; model = model i; timing = timing i }

pub moved : (n o m n' o' m' : List ℕ) (a : Question) → n ≡ n' → o ≡ o' → m ≡ m' → AsksQuestion n o m a → AsksQuestion n' o' m' a
moved n o m n' o' m' a en eo em h = record {
  notion_is = sym en ∙ h.notion_is;
  order_is = subst (λ (w : List ℕ). IsNumber 1 8 w a.order) eo h.order_is;
  model_is = sym em ∙ h.model_is;
  timing_is = h.timing_is;
}

one-workers : (values : List (List ℕ)) (a b : ℕ) → IsWorkers values a → IsWorkers values b → a ≡ b
one-workers [] a b p q = p ∙ sym q
one-workers (v ∷ []) a b p q = p.value ∙ sym q.value
one-workers (v ∷ u ∷ more) a b p q = absurd p

one-schedule : (values : List (List ℕ)) (a b : Option ℕ) → IsSchedule values a → IsSchedule values b → a ≡ b
one-schedule [] a b p q = p ∙ sym q
one-schedule (v ∷ []) a b p q = p.1 ∙ ap (λ (n : ℕ). Some n) (p.2.value ∙ sym q.2.value) ∙ sym q.1
one-schedule (v ∷ u ∷ more) a b p q = absurd p

pub one-file : (a b : Option (List ℕ)) → option_to_list a ≡ option_to_list b → a ≡ b
one-file None None e = refl
one-file None (Some y) e = cc
one-file (Some x) None e = cc
one-file (Some x) (Some y) e = ap (λ (t : List ℕ). Some t) (same-head x y [] [] e).head

pub record SameFour (a b c d a' b' c' d' : List ℕ) : Type 0 where
  pub first_is : a ≡ a'
  pub second_is : b ≡ b'
  pub third_is : c ≡ c'
  pub fourth_is : d ≡ d'

pub same-four : (a b c d a' b' c' d' : List ℕ) (xs ys : List (List ℕ)) → a ∷ b ∷ c ∷ d ∷ xs ≡ a' ∷ b' ∷ c' ∷ d' ∷ ys → SameFour a b c d a' b' c' d'
same-four a b c d a' b' c' d' xs ys e = record { first_is = cc; second_is = cc; third_is = cc; fourth_is = cc }

one-asked : (found : Found) (a b : VerifyRequest) → AsksVerify found a → AsksVerify found b → a ≡ b
one-asked found a b p q =
    let s = same-four p.notion p.order p.model a.netlist q.notion q.order q.model b.netlist [] [] (sym p.operands_are ∙ q.operands_are) in
    let question : a.question ≡ b.question =
    one-question q.notion q.order q.model a.question b.question
    (moved p.notion p.order p.model q.notion q.order q.model a.question s.first_is s.second_is s.third_is p.question_is) q.question_is in
    let netlist : a.netlist ≡ b.netlist = s.fourth_is in
    let workers : a.workers ≡ b.workers = one-workers found.workers a.workers b.workers p.workers_is q.workers_is in
    let certificate : a.certificate ≡ b.certificate = one-file a.certificate b.certificate (sym p.certificate_is ∙ q.certificate_is) in
    let schedule : a.schedule ≡ b.schedule = one-schedule found.schedule a.schedule b.schedule p.schedule_is q.schedule_is in
    λ i. record { question = question i; netlist = netlist i; workers = workers i; certificate = certificate i; schedule = schedule i }

one-verify : (words : List (List ℕ)) (a b : VerifyRequest) → IsVerify words a → IsVerify words b → a ≡ b
one-verify words a b p q =
    let same = one-reading p.parts q.parts p.plain q.plain (sym p.words_are ∙ q.words_are) in
    one-asked (found_in q.parts) a b (subst (λ (ps : List Part). AsksVerify (found_in ps) a) same p.asks) q.asks

pub same-fifth : (a b c d x a' b' c' d' x' : List ℕ) → a ∷ b ∷ c ∷ d ∷ x ∷ [] ≡ a' ∷ b' ∷ c' ∷ d' ∷ x' ∷ [] → x ≡ x'
same-fifth a b c d x a' b' c' d' x' e = cc

one-check : (words : List (List ℕ)) (a b : CheckRequest) → IsCheck words a → IsCheck words b → a ≡ b
one-check words a b p q =
    let e = sym p.words_are ∙ q.words_are in
    let s = same-four p.notion p.order p.model p.netlist q.notion q.order q.model q.netlist (p.certificate ∷ []) (q.certificate ∷ []) e in
    let question : a.question ≡ b.question =
    one-question q.notion q.order q.model a.question b.question
    (moved p.notion p.order p.model q.notion q.order q.model a.question s.first_is s.second_is s.third_is p.asks.question_is) q.asks.question_is in
    let netlist : a.netlist ≡ b.netlist = sym p.asks.netlist_is ∙ s.fourth_is ∙ q.asks.netlist_is in
    let fifth = same-fifth p.notion p.order p.model p.netlist p.certificate q.notion q.order q.model q.netlist q.certificate e in
    let certificate : a.certificate ≡ b.certificate = sym p.asks.certificate_is ∙ fifth ∙ q.asks.certificate_is in
    λ i. record { question = question i; netlist = netlist i; certificate = certificate i }

one-gadget : (words : List (List ℕ)) (a b : Gadget) → IsGadget words a → IsGadget words b → a ≡ b
one-gadget words a b p q =
    let h = same-head p.seed q.seed (p.shares ∷ []) (q.shares ∷ []) (sym p.words_are ∙ q.words_are) in
    let t = same-head p.shares q.shares [] [] h.tail in
    let seed_word = subst (λ (w : List ℕ). IsNumber 0 (2 ^ 64 - 1) w a.seed) h.head p.asks.seed_is in
    let shares_word = subst (λ (w : List ℕ). IsNumber 2 16 w a.shares) t.head p.asks.shares_is in
    let seed : a.seed ≡ b.seed = seed_word.value ∙ sym q.asks.seed_is.value in
    let shares : a.shares ≡ b.shares = shares_word.value ∙ sym q.asks.shares_is.value in
    λ i. record { seed = seed i; shares = shares i }

one-behind : (behind : List (List ℕ)) (a b : Request) → letter (command_word a) ≡ letter (command_word b) → AsksFor behind a → AsksFor behind b → a ≡ b
unfolding letter
one-behind behind (verify a) (verify b) e p q = ap verify (one-verify behind a b p q)
one-behind behind (check a) (check b) e p q = ap check (one-check behind a b p q)
one-behind behind (generate a) (generate b) e p q = ap generate (one-gadget behind a b p q)
one-behind behind (trial a) (trial b) e p q = ap trial (one-gadget behind a b p q)
one-behind behind (verify a) (check b) e p q = absurd (omega arith)
one-behind behind (verify a) (generate b) e p q = absurd (omega arith)
one-behind behind (verify a) (trial b) e p q = absurd (omega arith)
one-behind behind (check a) (verify b) e p q = absurd (omega arith)
one-behind behind (check a) (generate b) e p q = absurd (omega arith)
one-behind behind (check a) (trial b) e p q = absurd (omega arith)
one-behind behind (generate a) (verify b) e p q = absurd (omega arith)
one-behind behind (generate a) (check b) e p q = absurd (omega arith)
one-behind behind (generate a) (trial b) e p q = absurd (omega arith)
one-behind behind (trial a) (verify b) e p q = absurd (omega arith)
one-behind behind (trial a) (check b) e p q = absurd (omega arith)
one-behind behind (trial a) (generate b) e p q = absurd (omega arith)

pub one-request : (words : List (List ℕ)) (a b : Request) → Means words a → Means words b → a ≡ b
one-request [] a b p q = absurd p
one-request (name ∷ behind) a b p q = one-behind behind a b (ap letter (sym p.0 ∙ q.0)) p.1 q.1

-- nothing is meant, where what stands behind the name asks for nothing
none-verify : (behind : List (List ℕ)) → ((x : VerifyRequest) → IsVerify behind x → ⊥) → (request : Request) → letter (codes "verify") ≡ letter (command_word request) → AsksFor behind request → ⊥
unfolding letter
none-verify behind none (verify a) e p = none a p
none-verify behind none (check a) e p = omega arith
none-verify behind none (generate a) e p = omega arith
none-verify behind none (trial a) e p = omega arith

pub no-verify : (name : List ℕ) (behind : List (List ℕ)) → name ≡ codes "verify" → ((x : VerifyRequest) → IsVerify behind x → ⊥) → (request : Request) → Means (name ∷ behind) request → ⊥
no-verify name behind is none request p = none-verify behind none request (ap letter (sym is ∙ p.0)) p.1

none-check : (behind : List (List ℕ)) → ((x : CheckRequest) → IsCheck behind x → ⊥) → (request : Request) → letter (codes "check") ≡ letter (command_word request) → AsksFor behind request → ⊥
unfolding letter
none-check behind none (verify a) e p = omega arith
none-check behind none (check a) e p = none a p
none-check behind none (generate a) e p = omega arith
none-check behind none (trial a) e p = omega arith

pub no-check : (name : List ℕ) (behind : List (List ℕ)) → name ≡ codes "check" → ((x : CheckRequest) → IsCheck behind x → ⊥) → (request : Request) → Means (name ∷ behind) request → ⊥
no-check name behind is none request p = none-check behind none request (ap letter (sym is ∙ p.0)) p.1

none-generate : (behind : List (List ℕ)) → ((x : Gadget) → IsGadget behind x → ⊥) → (request : Request) → letter (codes "generate") ≡ letter (command_word request) → AsksFor behind request → ⊥
unfolding letter
none-generate behind none (verify a) e p = omega arith
none-generate behind none (check a) e p = omega arith
none-generate behind none (generate a) e p = none a p
none-generate behind none (trial a) e p = omega arith

pub no-generate : (name : List ℕ) (behind : List (List ℕ)) → name ≡ codes "generate" → ((x : Gadget) → IsGadget behind x → ⊥) → (request : Request) → Means (name ∷ behind) request → ⊥
no-generate name behind is none request p = none-generate behind none request (ap letter (sym is ∙ p.0)) p.1

none-trial : (behind : List (List ℕ)) → ((x : Gadget) → IsGadget behind x → ⊥) → (request : Request) → letter (codes "trial") ≡ letter (command_word request) → AsksFor behind request → ⊥
unfolding letter
none-trial behind none (verify a) e p = omega arith
none-trial behind none (check a) e p = omega arith
none-trial behind none (generate a) e p = omega arith
none-trial behind none (trial a) e p = none a p

pub no-trial : (name : List ℕ) (behind : List (List ℕ)) → name ≡ codes "trial" → ((x : Gadget) → IsGadget behind x → ⊥) → (request : Request) → Means (name ∷ behind) request → ⊥
no-trial name behind is none request p = none-trial behind none request (ap letter (sym is ∙ p.0)) p.1

pub no-command : (name : List ℕ) (behind : List (List ℕ)) → name ≢ codes "verify" → name ≢ codes "check" → name ≢ codes "generate" → name ≢ codes "trial" → (request : Request) → Means (name ∷ behind) request → ⊥
no-command name behind v c g t (verify a) p = v p.0
no-command name behind v c g t (check a) p = c p.0
no-command name behind v c g t (generate a) p = g p.0
no-command name behind v c g t (trial a) p = t p.0

pub no-words : (request : Request) → Means [] request → ⊥
no-words request p = p

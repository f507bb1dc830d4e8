-- What words ask.
use Rattle.std.specs.Prelude.{ℕ, ◌≡◌, ◌≢◌, ◌-◌, ◌^◌, List, [], ◌∷◌, codes, Option, Some, None}
use Rattle.std.specs.Option.{option_copied, option_to_list}
use Rattle.circuit_types.specs.declared.circuit.Timing.TheVariants.{Settled}
use Rattle.verify_question.specs.declared.question.Question.{Question}
use Rattle.verify_question.specs.Words.{notion_word, model_word}
use Rattle.command_words.specs.declared.command.Verification.{Verification}
use Rattle.command_words.specs.declared.command.Checking.{Checking}
use Rattle.command_words.specs.declared.command.Gadget.{Gadget}
use Rattle.command_words.specs.declared.command.Command.{Command}
use Rattle.command_words.specs.declared.command.Command.TheVariants.{Verify, Check, Generate, Trial}
use Rattle.command_words.specs.Numbers.{IsNumber}
use Rattle.command_words.specs.Parts.{Part, Found, ArePlain, IsPlain, found_in, written}

-- What words ask of `verify`, with the names of files as lists of bytes.
pub record VerifyRequest : Type 0 where
  pub question : Question
  pub netlist : List ℕ
  pub workers : ℕ
  pub certificate : Option (List ℕ)
  pub schedule : Option ℕ

-- what words ask of `check`
pub record CheckRequest : Type 0 where
  pub question : Question
  pub netlist : List ℕ
  pub certificate : List ℕ

-- what words ask of the program: a command and what it is to do
pub data Request : Type 0 where
  verify : VerifyRequest → Request
  check : CheckRequest → Request
  generate : Gadget → Request
  trial : Gadget → Request

-- the request that a value of the code is: with the names of files as lists of bytes
abbrev pub verify_request : Verification → VerifyRequest
verify_request v = record {
  question = v.question;
  netlist = v.netlist.now;
  workers = v.workers;
  certificate = option_copied v.certificate;
  schedule = v.schedule;
}

-- the same of what is asked of `check`
abbrev pub check_request : Checking → CheckRequest
check_request c = record { question = c.question; netlist = c.netlist.now; certificate = c.certificate.now }

-- the same of a whole command
abbrev pub request_of : Command → Request
request_of (Verify v) = verify (verify_request v)
request_of (Check c) = check (check_request c)
request_of (Generate g) = generate g
request_of (Trial g) = trial g

-- The words for a notion, an order from 1 to 8 and a model, where all is settled.
pub record AsksQuestion (notion order model : List ℕ) (question : Question) : Type 0 where
  pub notion_is : notion ≡ notion_word question.notion
  pub order_is : IsNumber 1 8 order question.order
  pub model_is : model ≡ model_word question.model
  pub timing_is : question.timing ≡ Settled

-- The number of workers, 1 to 64, by the values that `--workers` has: 1 where it has none.
abbrev pub IsWorkers : List (List ℕ) → ℕ → Type 0
IsWorkers [] workers = workers ≡ 1
IsWorkers (value ∷ []) workers = IsNumber 1 64 value workers
IsWorkers (value ∷ other ∷ more) workers = ⊥

-- The seed of the schedule, if there is one.
abbrev pub IsSchedule : List (List ℕ) → Option ℕ → Type 0
IsSchedule [] schedule = schedule ≡ None
IsSchedule (value ∷ []) schedule = (seed : ℕ) × (schedule ≡ Some seed) × IsNumber 0 (2 ^ 64 - 1) value seed
IsSchedule (value ∷ other ∷ more) schedule = ⊥

-- Four operands, NOTION ORDER MODEL NETLIST, and at most one value for each option; the certificate is not the netlist.
pub record AsksVerify (found : Found) (request : VerifyRequest) : Type 0 where
  pub notion : List ℕ
  pub order : List ℕ
  pub model : List ℕ
  pub operands_are : found.operands ≡ notion ∷ order ∷ model ∷ request.netlist ∷ []
  pub question_is : AsksQuestion notion order model request.question
  pub workers_is : IsWorkers found.workers request.workers
  pub certificate_is : found.certificate ≡ option_to_list request.certificate
  pub schedule_is : IsSchedule found.schedule request.schedule
  pub two_files : request.certificate ≢ Some request.netlist

-- The words are parts, written one after the other, and these ask for the request.
pub record IsVerify (words : List (List ℕ)) (request : VerifyRequest) : Type 0 where
  pub parts : List Part
  pub words_are : words ≡ written parts
  pub plain : ArePlain parts
  pub asks : AsksVerify (found_in parts) request

-- The words NOTION ORDER MODEL NETLIST CERTIFICATE, with two files. There are no options. That the first three words are
-- plain follows from what they say, as it does of SEED and SHARES.
pub record AsksCheck (notion order model netlist certificate : List ℕ) (request : CheckRequest) : Type 0 where
  pub question_is : AsksQuestion notion order model request.question
  pub netlist_is : netlist ≡ request.netlist
  pub certificate_is : certificate ≡ request.certificate
  pub netlist_plain : IsPlain netlist
  pub certificate_plain : IsPlain certificate
  pub two_files : certificate ≢ netlist

-- The words ask `check` for the request.
pub record IsCheck (words : List (List ℕ)) (request : CheckRequest) : Type 0 where
  pub notion : List ℕ
  pub order : List ℕ
  pub model : List ℕ
  pub netlist : List ℕ
  pub certificate : List ℕ
  pub words_are : words ≡ notion ∷ order ∷ model ∷ netlist ∷ certificate ∷ []
  pub asks : AsksCheck notion order model netlist certificate request

-- The words SEED SHARES: a number below 2^64, and one from 2 to 16.
pub record AsksGadget (seed shares : List ℕ) (gadget : Gadget) : Type 0 where
  pub seed_is : IsNumber 0 (2 ^ 64 - 1) seed gadget.seed
  pub shares_is : IsNumber 2 16 shares gadget.shares

-- The words ask for the gadget.
pub record IsGadget (words : List (List ℕ)) (gadget : Gadget) : Type 0 where
  pub seed : List ℕ
  pub shares : List ℕ
  pub words_are : words ≡ seed ∷ shares ∷ []
  pub asks : AsksGadget seed shares gadget

-- the name of the command
abbrev pub command_word : Request → List ℕ
command_word (verify v) = codes "verify"
command_word (check c) = codes "check"
command_word (generate g) = codes "generate"
command_word (trial g) = codes "trial"

-- what the words behind the name ask for
abbrev pub AsksFor : List (List ℕ) → Request → Type 0
AsksFor behind (verify v) = IsVerify behind v
AsksFor behind (check c) = IsCheck behind c
AsksFor behind (generate g) = IsGadget behind g
AsksFor behind (trial g) = IsGadget behind g

-- The words mean the request: the name of the command, and behind it what asks for the request.
abbrev pub Means : List (List ℕ) → Request → Type 0
Means [] request = ⊥
Means (name ∷ behind) request = (name ≡ command_word request) × AsksFor behind request

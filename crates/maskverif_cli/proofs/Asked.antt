-- What words that mean a request say of it.
use Rattle.std.proofs.Common.{◌≡◌, ◌≤◌, ◌<◌, ◌^◌, ℕ, List, [], ◌∷◌, sym, subst, arith}
use Rattle.circuit_types.specs.Order.{IsTiming}
use Rattle.verify_question.specs.declared.question.Question.{Question}
use Rattle.verify_question.specs.Asking.{IsAsked}
use Rattle.command_words.specs.declared.command.Gadget.{Gadget}
use Rattle.command_words.specs.Parts.{found_in}
use Rattle.command_words.specs.Commands.{Request, VerifyRequest, CheckRequest, AsksQuestion, IsCheck, IsGadget, IsVerify, IsWorkers, Means, verify, check, generate, trial}

-- words mean at most one request
abbrev pub OneCommand : Type 0
OneCommand = (words : List (List ℕ)) (request other : Request) → Means words request → Means words other → request ≡ other

-- the number of workers is not 0
workers-some : (values : List (List ℕ)) (workers : ℕ) → IsWorkers values workers → 1 ≤ workers
workers-some [] workers h = let one : workers ≡ 1 = h in omega arith
workers-some (value ∷ []) workers h = h.at_least
workers-some (value ∷ other ∷ more) workers h = absurd h

-- words for a question ask one
asked-question : (notion order model : List ℕ) (question : Question) → AsksQuestion notion order model question → IsAsked question
asked-question notion order model question h = record {
  least = h.order_is.at_least;
  most = h.order_is.at_most;
  timing = subst IsTiming (sym h.timing_is) tt;
}

-- what is asked to be verified is within its limits
pub record IsModest (asked : VerifyRequest) : Type 0 where
  pub question : IsAsked asked.question
  pub crew : 1 ≤ asked.workers

pub modest : (words : List (List ℕ)) (asked : VerifyRequest) → Means words (verify asked) → IsModest asked
modest [] asked h = absurd h
modest (name ∷ behind) asked h =
    let found : IsVerify behind asked = h.1 in
    record {
      question = asked-question found.asks.notion found.asks.order found.asks.model asked.question found.asks.question_is;
      crew = workers-some (found_in found.parts).workers asked.workers found.asks.workers_is;
    }

-- so is what is asked to be checked
pub checked-question : (words : List (List ℕ)) (asked : CheckRequest) → Means words (check asked) → IsAsked asked.question
checked-question [] asked h = absurd h
checked-question (name ∷ behind) asked h =
    let found : IsCheck behind asked = h.1 in
    asked-question found.notion found.order found.model asked.question found.asks.question_is

-- a gadget that is asked for has 2 to 16 shares
pub record HasShares (asked : Gadget) : Type 0 where
  pub least : 2 ≤ asked.shares
  pub most : asked.shares ≤ 16

pub made-shares : (words : List (List ℕ)) (asked : Gadget) → Means words (generate asked) → HasShares asked
made-shares [] asked h = absurd h
made-shares (name ∷ behind) asked h =
    let found : IsGadget behind asked = h.1 in
    let shares = found.asks.shares_is in
    record { least = shares.at_least; most = shares.at_most }

pub tried-shares : (words : List (List ℕ)) (asked : Gadget) → Means words (trial asked) → HasShares asked
tried-shares [] asked h = absurd h
tried-shares (name ∷ behind) asked h =
    let found : IsGadget behind asked = h.1 in
    let shares = found.asks.shares_is in
    record { least = shares.at_least; most = shares.at_most }

-- its seed has 64 bits
pub tried-seed : (words : List (List ℕ)) (asked : Gadget) → Means words (trial asked) → asked.seed < 2 ^ 64
tried-seed [] asked h = absurd h
tried-seed (name ∷ behind) asked h =
    let found : IsGadget behind asked = h.1 in
    omega (arith, found.asks.seed_is.at_most)

-- One argument more, and what the arguments of `verify` ask.
use Rattle.std.proofs.Common.{◌≡◌, ℕ, ◌+◌, ◌≤◌, List, [], ◌∷◌, ◌++◌, length, Option, Some, sym, ap, ◌∙◌, arith, length-append}
use Rattle.std.specs.Option.{option_to_list}
use Rattle.std.proofs.lemmas.List.{append-nil}
use Rattle.command_words.specs.declared.names.OptionName.TheVariants.{Workers, Certificate, Schedule}
use Rattle.command_words.specs.Parts.{Found, a_value, an_operand, join}
use Rattle.command_words.specs.Commands.{VerifyRequest, AsksQuestion, AsksVerify}
use Rattle.command_words.proofs.One.{moved, same-four, one-file}

pub join-operand : (f : Found) (word : List ℕ) (operands : List (List ℕ)) → operands ≡ f.operands ++ word ∷ [] → join f (an_operand word) ≡ record f { operands = operands }
join-operand f word operands e = λ i. record {
  operands = (sym e) i;
  workers = append-nil f.workers i;
  certificate = append-nil f.certificate i;
  schedule = append-nil f.schedule i;
}

added : (values : List (List ℕ)) (value : List ℕ) → values ≡ [] → values ++ value ∷ [] ≡ value ∷ []
added values value e = ap (λ (v : List (List ℕ)). v ++ value ∷ []) e

pub join-workers : (f : Found) (value : List ℕ) → f.workers ≡ [] → join f (a_value Workers value) ≡ record f { workers = value ∷ [] }
join-workers f value e = λ i. record {
  operands = append-nil f.operands i;
  workers = added f.workers value e i;
  certificate = append-nil f.certificate i;
  schedule = append-nil f.schedule i;
}

pub join-certificate : (f : Found) (value : List ℕ) → f.certificate ≡ [] → join f (a_value Certificate value) ≡ record f { certificate = value ∷ [] }
join-certificate f value e = λ i. record {
  operands = append-nil f.operands i;
  workers = append-nil f.workers i;
  certificate = added f.certificate value e i;
  schedule = append-nil f.schedule i;
}

pub join-schedule : (f : Found) (value : List ℕ) → f.schedule ≡ [] → join f (a_value Schedule value) ≡ record f { schedule = value ∷ [] }
join-schedule f value e = λ i. record {
  operands = append-nil f.operands i;
  workers = append-nil f.workers i;
  certificate = append-nil f.certificate i;
  schedule = added f.schedule value e i;
}

pub fifth : (operands : List (List ℕ)) (word : List ℕ) → length operands ≡ 4 → length (operands ++ word ∷ []) ≤ 4 → ⊥
fifth operands word four few =
    let more : length (operands ++ word ∷ []) ≡ length operands + 1 = length-append operands (word ∷ []) in
    omega arith

pub twice : (values : List (List ℕ)) (one value : List ℕ) → values ≡ one ∷ [] → length (values ++ value ∷ []) ≤ 1 → ⊥
twice values one value e few =
    let more : length (values ++ value ∷ []) ≡ 2 = ap (λ (v : List (List ℕ)). length (v ++ value ∷ [])) e in
    omega arith

-- four operands, and what asks for a request with them
pub record AsksFour (notion order model netlist : List ℕ) (request : VerifyRequest) : Type 0 where
  pub question_is : AsksQuestion notion order model request.question
  pub netlist_is : request.netlist ≡ netlist

pub asks-four : (found : Found) (n o m f : List ℕ) → found.operands ≡ n ∷ o ∷ m ∷ f ∷ [] → (request : VerifyRequest) → AsksVerify found request → AsksFour n o m f request
asks-four found n o m f is request a =
    let s = same-four a.notion a.order a.model request.netlist n o m f [] [] (sym a.operands_are ∙ is) in
    record {
      question_is = moved a.notion a.order a.model n o m request.question s.first_is s.second_is s.third_is a.question_is;
      netlist_is = s.fourth_is;
    }

pub one-file_name : (found : Found) (n o m f : List ℕ) (file : Option (List ℕ)) → found.operands ≡ n ∷ o ∷ m ∷ f ∷ [] → found.certificate ≡ option_to_list file → file ≡ Some f
    → (request : VerifyRequest) → AsksVerify found request → ⊥
one-file_name found n o m f file is certificate same request a =
    let four = asks-four found n o m f is request a in
    let own : request.certificate ≡ file = one-file request.certificate file (sym a.certificate_is ∙ certificate) in
    a.two_files (own ∙ same ∙ ap (λ (t : List ℕ). Some t) (sym four.netlist_is))

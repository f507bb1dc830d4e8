-- What is answered to an accepted netlist, in terms of what is kept of it.
use Rattle.std.specs.Prelude.{ℕ, ◌≡◌, List, length, Option, None, Result}
use Rattle.circuit_types.specs.declared.refusal.Refusal.{Refusal}
use Rattle.circuit_types.specs.Probes.{probe_at}
use Rattle.net_build.specs.Names.{printed_name}
use Rattle.tuple_rank.specs.Tuples.{tuples}
use Rattle.accepted_netlist.specs.declared.netlist.Accepted.{Accepted}
use Rattle.accepted_netlist.specs.Known.{Keeps}
use Rattle.accepted_netlist.specs.Netlist.{HasRefusal}
use Rattle.maskverif_cli.specs.declared.report.Heading.{Heading}
use Rattle.maskverif_cli.specs.declared.reply.Reply.{Reply}
use Rattle.maskverif_cli.specs.declared.reply.Halt.{Halt}
use Rattle.maskverif_cli.specs.declared.status.Status.{Status}
use Rattle.verify_question.specs.declared.question.Question.{Question}
use Rattle.maskverif_cli.specs.Verdict.{IsSecure}
use Rattle.maskverif_cli.specs.Certificates.{HasCertificate, IsChecked}
use Rattle.maskverif_cli.specs.Answer.{AnswersNetlist, NewFile, Refuses}
use Rattle.maskverif_cli.specs.Reply.{CannotFail, Ends, Gives}

-- the printed name of a probe, by its number
abbrev pub name_of_probe : Accepted → ℕ → List ℕ
name_of_probe kept p = printed_name kept.circuit.nets.wires (probe_at kept.probes.list p).name_bit

-- what each report on it says: what was asked, and how many probes and tuples there are
abbrev pub heading_of : Question → Accepted → Heading
heading_of asked kept = record {
  question = asked;
  probes = length kept.instance.probes;
  tuples = length (tuples (length kept.instance.probes) asked.order);
}

-- Whatever bytes it is kept of: this is the report on them where each tuple is proved.
abbrev pub IsSecureReport : Question → Accepted → List ℕ → Type 0
IsSecureReport asked kept text =
    (bytes : List ℕ) → Keeps asked bytes kept
    → IsSecure asked bytes text

-- the same of their certificate
abbrev pub IsCertificateOf : Question → Accepted → List ℕ → Type 0
IsCertificateOf asked kept text =
    (bytes : List ℕ) → Keeps asked bytes kept → HasCertificate asked bytes text

-- the same of how it ends: with what they are answered with
abbrev pub EndsKept : Question → Option (List ℕ) → Accepted → Result Reply Halt → Type 0
EndsKept asked wish kept result =
    (bytes : List ℕ) → Keeps asked bytes kept
    → Ends (AnswersNetlist asked wish bytes) wish CannotFail result

-- the same of a reply: it is what they are answered with
abbrev pub IsReplyTo : Question → Option (List ℕ) → Accepted → Reply → Type 0
IsReplyTo asked wish kept reply =
    (bytes : List ℕ) → Keeps asked bytes kept
    → Gives (AnswersNetlist asked wish bytes) wish reply

-- the same of a reply: what a certificate for them is answered with
abbrev pub ChecksKept : Question → Accepted → List ℕ → Reply → Type 0
ChecksKept asked kept certificate reply =
    (bytes : List ℕ) → Keeps asked bytes kept
    → Gives (λ status text file. IsChecked asked bytes certificate status text × (file ≡ None)) None reply

-- the bytes are refused, and this is the answer
abbrev pub RefusesBytes : Question → List ℕ → Status → List ℕ → NewFile → Type 0
RefusesBytes asked bytes status text file =
    (why : Refusal) × HasRefusal asked bytes why × Refuses why status text file

-- Verdicts on certificates, from what the checker answers.
use Rattle.std.proofs.Common.{◌≡◌, ℕ, List, length}
use Rattle.certificate.specs.declared.fault.Why.{Why}
use Rattle.certificate.specs.declared.entries.Entry.{Entry}
use Rattle.cert_check.specs.Closing.{IsCertified}
use Rattle.cert_check.specs.Outcome.{IsFirstFault}
use Rattle.verify_question.specs.declared.question.Question.{Question}
use Rattle.tuple_rank.specs.Tuples.{IsTuple, TuplesAreAll}
use Rattle.accepted_netlist.specs.declared.netlist.Accepted.{Accepted}
use Rattle.accepted_netlist.specs.Known.{Keeps}
use Rattle.maskverif_cli.specs.Certificates.{IsAcceptedCertificate, IsRejectedCertificate}
use Rattle.maskverif_cli.specs.Report.{accepted_report, rejected_report}
use Rattle.maskverif_cli.specs.Verdict.{IsProvableTuple}
use Rattle.maskverif_cli.proofs.Deciding.{Hides, Simulates, all-is, ranked-tuple}

module _ (asked : Question) (bytes certificate : List ℕ) (n : Accepted) (keeps : Keeps asked bytes n) where
  pub certified-is : Simulates asked keeps.netlist n.instance → Hides asked keeps.netlist n.instance → TuplesAreAll
      → ((tuple : List ℕ) → IsTuple (length n.instance.probes) asked.order tuple → IsProvableTuple n.instance tuple)
      → (entries : List Entry) (text : List ℕ) → IsCertified n.instance asked.model asked.order certificate entries → text ≡ accepted_report (length entries)
      → IsAcceptedCertificate asked bytes certificate text
  certified-is simulates hides tuples provable entries text certified written = record {
    netlist = keeps.netlist;
    instance = n.instance;
    means = record { accepted = keeps.accepted; instance = keeps.instance };
    entries = entries;
    certified = certified;
    all = all-is asked bytes n keeps simulates hides
        (λ tuple rank has. provable tuple (ranked-tuple n.instance asked.order tuple rank tuples has));
    report = written;
  }

  pub rejected-is : (line : ℕ) (why : Why) (text : List ℕ) → IsFirstFault n.instance asked.model asked.order certificate line why → text ≡ rejected_report line why
      → IsRejectedCertificate asked bytes certificate line why text
  rejected-is line why text fault written = record {
    netlist = keeps.netlist;
    instance = n.instance;
    means = record { accepted = keeps.accepted; instance = keeps.instance };
    fault = fault;
    report = written;
  }

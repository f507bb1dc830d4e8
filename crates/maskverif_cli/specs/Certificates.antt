-- The certificate of a netlist, and the verdict on a certificate.
use Rattle.std.specs.Prelude.{ℕ, ◌≡◌, List, length}
use Rattle.certificate.specs.declared.fault.Why.{Why}
use Rattle.certificate.specs.declared.entries.Entry.{Entry}
use Rattle.cert_check.specs.Closing.{IsCertified}
use Rattle.cert_check.specs.Entries.{entries_of}
use Rattle.cert_check.specs.Outcome.{IsFirstFault}
use Rattle.verify_question.specs.declared.question.Question.{Question}
use Rattle.expr_table.specs.declared.instance.Instance.{Instance}
use Rattle.frontier_core.specs.Tree.{tree_of}
use Rattle.accepted_netlist.specs.Netlist.{Netlist}
use Rattle.maskverif_cli.specs.declared.status.Status.{Status}
use Rattle.maskverif_cli.specs.declared.status.Status.TheVariants.{Accepted, Rejected}
use Rattle.maskverif_cli.specs.Report.{accepted_report, rejected_report}
use Rattle.maskverif_cli.specs.Verdict.{AllProvable, Means}

-- This is the certificate of the netlist whose text the bytes are. It says what was asked and, for each family of the proof
-- tree, in its order, the hull and the least chain; and it certifies the netlist's instance.
pub record HasCertificate (asked : Question) (bytes certificate : List ℕ) : Type 0 where
  pub netlist : Netlist
  pub instance : Instance
  pub means : Means asked bytes netlist instance
  pub certified : IsCertified instance asked.model asked.order certificate (entries_of instance (tree_of instance asked.order))

-- The certificate certifies the instance of the netlist, so each tuple is provable; and this is the report on it, with the
-- number of its families.
pub record IsAcceptedCertificate (asked : Question) (bytes certificate text : List ℕ) : Type 0 where
  pub netlist : Netlist
  pub instance : Instance
  pub means : Means asked bytes netlist instance
  pub entries : List Entry
  pub certified : IsCertified instance asked.model asked.order certificate entries
  pub all : AllProvable asked netlist instance
  pub report : text ≡ accepted_report (length entries)

-- The certificate does not certify it: this is its first line with which something is wrong, and what; and this is the report
-- on it.
pub record IsRejectedCertificate (asked : Question) (bytes certificate : List ℕ) (line : ℕ) (why : Why) (text : List ℕ) : Type 0 where
  pub netlist : Netlist
  pub instance : Instance
  pub means : Means asked bytes netlist instance
  pub fault : IsFirstFault instance asked.model asked.order certificate line why
  pub report : text ≡ rejected_report line why

-- what the bytes of a certificate are answered with, for the netlist whose text the bytes are
abbrev pub IsChecked : Question → List ℕ → List ℕ → Status → List ℕ → Type 0
IsChecked asked bytes certificate Accepted text = IsAcceptedCertificate asked bytes certificate text
IsChecked asked bytes certificate (Rejected line why) text = IsRejectedCertificate asked bytes certificate line why text
IsChecked asked bytes certificate status text = ⊥

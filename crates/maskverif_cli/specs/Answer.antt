-- What the words and the files are answered with: the status, the text that is due with it, and the file.
use Rattle.std.specs.Prelude.{ℕ, ◌≡◌, ◌≢◌, ◌<◌, ◌≤◌, ◌⊎◌, List, [], length, Option, None, Some, Bool, true, false}
use Rattle.std.specs.declared.string.String.{String}
use Rattle.std.specs.declared.alloc.Global.{Global}
use Rattle.mv_files.specs.Disk.{Disk, file_of, IsLonger, IsMissing, IsWhole}
use Rattle.circuit_types.specs.declared.refusal.Refusal.{Refusal as AnyRefusal}
use Rattle.circuit_types.specs.declared.refusal.Refusal.TheVariants.{Limit}
use Rattle.circuit_types.specs.declared.refusal.Which.TheVariants.{CertificateBytes}
use Rattle.accepted_netlist.specs.Netlist.{Netlist, HasRefusal, IsAcceptedAs}
use Rattle.command_words.specs.declared.command.Gadget.{Gadget}
use Rattle.verify_question.specs.declared.question.Question.{Question}
use Rattle.command_words.specs.Commands.{Means as MeansRequest, Request, CheckRequest, VerifyRequest, verify, check, generate, trial}
use Rattle.command_words.specs.Names.{texts}
use Rattle.maskverif_cli.specs.declared.status.Status.{Status}
use Rattle.maskverif_cli.specs.declared.status.Status.TheVariants.{Secure, Accepted, Unproved, Rejected, Made, Usage, Refused, NoFile, ReadFault, WriteFault, NoMemory}
use Rattle.certificate.specs.Certificates.{most_bytes as most_certificate_bytes}
use Rattle.maskverif_cli.specs.Certificates.{HasCertificate, IsChecked}
use Rattle.maskverif_cli.specs.Gadgets.{gadget_text, trial_question}
use Rattle.maskverif_cli.specs.Report.{usage_text, refused_report}
use Rattle.maskverif_cli.specs.Verdict.{IsSecure, IsUnproved}

-- the words mean this request
abbrev pub Ask : List (String Global) → Request → Type 0
Ask words request = MeansRequest (texts words) request

-- the words mean nothing
abbrev pub NotTaken : List (String Global) → Type 0
NotTaken words = (request : Request) → Ask words request → ⊥

-- the file that is created, with its name and its bytes, if one is
abbrev pub NewFile : Type 0
NewFile = Option (List ℕ × List ℕ)

-- ---- netlists

-- a refusal is due for the bytes, and this is the report on it
pub record IsRefused (asked : Question) (bytes : List ℕ) (why : AnyRefusal) (text : List ℕ) : Type 0 where
  pub refusal : HasRefusal asked bytes why
  pub report : text ≡ refused_report why

-- what the bytes of a netlist are answered with, and the report on them
abbrev pub IsVerdict : Question → List ℕ → Status → List ℕ → Type 0
IsVerdict asked bytes Secure text = IsSecure asked bytes text
IsVerdict asked bytes (Unproved tuple) text = IsUnproved asked bytes tuple.items text
IsVerdict asked bytes (Refused why) text = IsRefused asked bytes why text
IsVerdict asked bytes status text = ⊥

-- no refusal is due for the bytes
abbrev pub IsAcceptedFor : Question → List ℕ → Netlist → Type 0
IsAcceptedFor asked bytes n = IsAcceptedAs asked bytes n

-- the answer is this refusal
pub record Refuses (why : AnyRefusal) (status : Status) (text : List ℕ) (file : NewFile) : Type 0 where
  pub status_is : status ≡ Refused why
  pub text_is : text ≡ refused_report why
  pub no_file : file ≡ None

-- The answer is the verdict, and no certificate is due: none is asked for, or not every tuple is proved. Where a certificate
-- is asked for, `wish` is the name of its file.
pub record IsPlain (asked : Question) (wish : Option (List ℕ)) (bytes : List ℕ) (status : Status) (text : List ℕ) (file : NewFile) : Type 0 where
  pub verdict : IsVerdict asked bytes status text
  pub none_due : (wish ≡ None) ⊎ (status ≢ Secure)
  pub no_file : file ≡ None

-- each tuple is proved, and a certificate is asked for
pub record OwesCertificate (asked : Question) (wish : Option (List ℕ)) (bytes report name certificate : List ℕ) : Type 0 where
  pub secure : IsSecure asked bytes report
  pub wished : wish ≡ Some name
  pub certificate_is : HasCertificate asked bytes certificate

-- the certificate is due
pub record IsKept (asked : Question) (wish : Option (List ℕ)) (bytes : List ℕ) (status : Status) (text : List ℕ) (file : NewFile) : Type 0 where
  pub name : List ℕ
  pub certificate : List ℕ
  pub owes : OwesCertificate asked wish bytes text name certificate
  pub short : length certificate ≤ most_certificate_bytes
  pub status_is : status ≡ Secure
  pub file_is : file ≡ Some (name, certificate)

-- the certificate is too long
pub record IsTooLong (asked : Question) (wish : Option (List ℕ)) (bytes : List ℕ) (status : Status) (text : List ℕ) (file : NewFile) : Type 0 where
  pub report : List ℕ
  pub name : List ℕ
  pub certificate : List ℕ
  pub owes : OwesCertificate asked wish bytes report name certificate
  pub long : most_certificate_bytes < length certificate
  pub refuses : Refuses (Limit CertificateBytes) status text file

-- what the bytes of a netlist are answered with, where a certificate may be asked for
pub data AnswersNetlist (asked : Question) (wish : Option (List ℕ)) (bytes : List ℕ) (status : Status) (text : List ℕ) (file : NewFile) : Type 0 where
  plain : IsPlain asked wish bytes status text file → AnswersNetlist asked wish bytes status text file
  kept : IsKept asked wish bytes status text file → AnswersNetlist asked wish bytes status text file
  too_long : IsTooLong asked wish bytes status text file → AnswersNetlist asked wish bytes status text file

-- ---- commands; where the files do not tell their bytes, they may be any

-- there is no file of this name
pub record HasNoFile (disk : Option Disk) (name : List ℕ) (status : Status) (text : List ℕ) (file : NewFile) : Type 0 where
  pub missing : IsMissing name disk
  pub status_is : status ≡ NoFile
  pub text_is : text ≡ []
  pub no_file : file ≡ None

-- there is a netlist of this name, and it is accepted
pub record HasAccepted (disk : Option Disk) (name : List ℕ) (asked : Question) : Type 0 where
  pub bytes : List ℕ
  pub there : IsWhole name disk bytes
  pub netlist : Netlist
  pub accepted : IsAcceptedFor asked bytes netlist

-- what is due to `verify`: a missing file, or what the netlist's bytes are answered with
pub data AnswersVerify (disk : Option Disk) (asked : VerifyRequest) (status : Status) (text : List ℕ) (file : NewFile) : Type 0 where
  missing_netlist : HasNoFile disk asked.netlist status text file → AnswersVerify disk asked status text file
  netlist : (bytes : List ℕ) → IsWhole asked.netlist disk bytes
      → AnswersNetlist asked.question asked.certificate bytes status text file → AnswersVerify disk asked status text file

-- What is due to `check`: there is no netlist; it is refused; it is accepted, and there is no certificate, or one that is too
-- long; or what the certificate's bytes are answered with.
pub data AnswersCheck (disk : Option Disk) (asked : CheckRequest) (status : Status) (text : List ℕ) (file : NewFile) : Type 0 where
  no_netlist : HasNoFile disk asked.netlist status text file → AnswersCheck disk asked status text file
  refused : (bytes : List ℕ) (why : AnyRefusal) → IsWhole asked.netlist disk bytes
      → HasRefusal asked.question bytes why → Refuses why status text file
      → AnswersCheck disk asked status text file
  no_certificate : HasAccepted disk asked.netlist asked.question → HasNoFile disk asked.certificate status text file
      → AnswersCheck disk asked status text file
  long_certificate : HasAccepted disk asked.netlist asked.question → IsLonger asked.certificate disk most_certificate_bytes
      → Refuses (Limit CertificateBytes) status text file → AnswersCheck disk asked status text file
  checked : (bytes certificate : List ℕ) → IsWhole asked.netlist disk bytes → IsWhole asked.certificate disk certificate
      → length certificate ≤ most_certificate_bytes → IsChecked asked.question bytes certificate status text → file ≡ None
      → AnswersCheck disk asked status text file

-- the text of the gadget is due
pub record IsMade (asked : Gadget) (status : Status) (text : List ℕ) (file : NewFile) : Type 0 where
  pub status_is : status ≡ Made
  pub text_is : text ≡ gadget_text asked
  pub no_file : file ≡ None

-- what is due to a request
abbrev pub IsDueTo : Option Disk → Request → Status → List ℕ → NewFile → Type 0
IsDueTo disk (verify asked) status text file = AnswersVerify disk asked status text file
IsDueTo disk (check asked) status text file = AnswersCheck disk asked status text file
IsDueTo disk (generate asked) status text file = IsMade asked status text file
IsDueTo disk (trial asked) status text file =
    AnswersNetlist (trial_question asked.shares) None (gadget_text asked) status text file

-- words that mean nothing are answered with how the program is called
pub record IsUsage (words : List (String Global)) (status : Status) (text : List ℕ) (file : NewFile) : Type 0 where
  pub not_taken : NotTaken words
  pub status_is : status ≡ Usage
  pub text_is : text ≡ usage_text
  pub no_file : file ≡ None

-- The answer that is due to the words over these files, with its text and its file. No fault is due, nor want of memory.
pub data IsDue (words : List (String Global)) (disk : Option Disk) (status : Status) (text : List ℕ) (file : NewFile) : Type 0 where
  usage : IsUsage words status text file → IsDue words disk status text file
  answer : (request : Request) → Ask words request → IsDueTo disk request status text file → IsDue words disk status text file

-- ---- which answers there are

-- nothing failed
abbrev pub is_answer : Status → Bool
is_answer ReadFault = false
is_answer WriteFault = false
is_answer NoMemory = false
is_answer status = true

-- the netlist was decided or the certificate checked, or memory was refused
abbrev pub is_decided : Status → Bool
is_decided Secure = true
is_decided Accepted = true
is_decided (Unproved tuple) = true
is_decided (Rejected line why) = true
is_decided NoMemory = true
is_decided status = false

-- the gadget was made, or memory was refused
abbrev pub is_made : Status → Bool
is_made Made = true
is_made NoMemory = true
is_made status = false

-- the files tell that there is a netlist of this name, and it is accepted
pub record FindsAccepted (disk : Option Disk) (name : List ℕ) (asked : Question) : Type 0 where
  pub told : Disk
  pub tells : disk ≡ Some told
  pub bytes : List ℕ
  pub there : file_of name told ≡ Some bytes
  pub netlist : Netlist
  pub accepted : IsAcceptedFor asked bytes netlist

-- and a certificate of it that is asked for is not too long
pub record FindsVerifiable (disk : Option Disk) (asked : VerifyRequest) : Type 0 where
  pub found : FindsAccepted disk asked.netlist asked.question
  pub short : asked.certificate ≢ None → (certificate : List ℕ) → HasCertificate asked.question found.bytes certificate
      → length certificate ≤ most_certificate_bytes

-- and there is a certificate that is not too long
pub record FindsCheckable (disk : Option Disk) (asked : CheckRequest) : Type 0 where
  pub found : FindsAccepted disk asked.netlist asked.question
  pub certificate : List ℕ
  pub there : file_of asked.certificate found.told ≡ Some certificate
  pub short : length certificate ≤ most_certificate_bytes

-- The words ask about a netlist that is accepted: to verify one of a file, to check a certificate for it, or to try a gadget,
-- which always is.
pub data AskAboutAccepted (words : List (String Global)) (disk : Option Disk) : Type 0 where
  to_verify : (asked : VerifyRequest) → Ask words (verify asked) → FindsVerifiable disk asked → AskAboutAccepted words disk
  to_check : (asked : CheckRequest) → Ask words (check asked) → FindsCheckable disk asked → AskAboutAccepted words disk
  to_try : (g : Gadget) → Ask words (trial g) → AskAboutAccepted words disk

-- the words ask for the text of a gadget
pub record AskForGadget (words : List (String Global)) : Type 0 where
  pub asked : Gadget
  pub asks : Ask words (generate asked)

-- One command was answered with Secure and the certificate that it wrote, and the other is to check this certificate, with
-- the same netlist, notion, order and model.
pub record ChecksWhatWasWritten (words others : List (String Global)) (disk later : Disk) : Type 0 where
  pub asked : VerifyRequest
  pub asks : Ask words (verify asked)
  pub report : List ℕ
  pub name : List ℕ
  pub certificate : List ℕ
  pub due : IsDue words (Some disk) Secure report (Some (name, certificate))
  pub checked : CheckRequest
  pub checks : Ask others (check checked)
  pub same_question : checked.question ≡ asked.question
  pub same_netlist : file_of checked.netlist later ≡ file_of asked.netlist disk
  pub same_certificate : file_of checked.certificate later ≡ Some certificate

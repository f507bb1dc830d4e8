-- What replies are, from what is known of netlists, certificates and files.
use Rattle.std.proofs.Common.{◌≡◌, ◌≢◌, ℕ, ◌+◌, ◌<◌, ◌≤◌, true, List, [], Option, Some, None, Result, Ok, Err, refl, sym, ap, ◌∙◌, subst, arith, inl, inr, ⊎_elim}
use Rattle.std.specs.Prelude.{replicate, length, IfOk}
use Rattle.std.proofs.lemmas.List.{length-replicate}
use Rattle.arrayvec.specs.ArrayVec.{ArrayVec}
use Rattle.mv_files.specs.declared.whole.ReadStop.{ReadStop}
use Rattle.mv_files.specs.declared.whole.ReadStop.TheVariants as read
use Rattle.mv_files.specs.Disk.{Disk, IsLonger, IsMissing, IsWhole}
use Rattle.circuit_types.specs.declared.refusal.Refusal.{Refusal}
use Rattle.circuit_types.specs.declared.refusal.Refusal.TheVariants.{Limit}
use Rattle.circuit_types.specs.declared.refusal.Which.{Which}
use Rattle.circuit_types.specs.declared.refusal.Which.TheVariants.{CertificateBytes, FileBytes}
use Rattle.rtlil_lex.specs.Tokens.{most_bytes}
use Rattle.verify_question.specs.declared.question.Question.{Question}
use Rattle.command_words.specs.Commands.{CheckRequest, Request, VerifyRequest, verify, check, generate, trial}
use Rattle.accepted_netlist.specs.declared.netlist.Accepted.{Accepted}
use Rattle.accepted_netlist.specs.Known.{Keeps}
use Rattle.accepted_netlist.specs.Netlist.{of_length}
use Rattle.maskverif_cli.specs.declared.reply.Halt.{Halt}
use Rattle.maskverif_cli.specs.declared.reply.Halt.TheVariants as halt
use Rattle.maskverif_cli.specs.declared.reply.Reply.{Reply}
use Rattle.maskverif_cli.specs.declared.status.Status.{Status}
use Rattle.maskverif_cli.specs.declared.status.Status.TheVariants.{Secure, Accepted as IsAccepted, Unproved, Rejected, Made, Usage, Refused, NoFile, ReadFault, WriteFault, NoMemory}
use Rattle.maskverif_cli.specs.Answer.{AnswersCheck, AnswersNetlist, AnswersVerify, HasAccepted, IsDueTo, IsVerdict, NewFile, OwesCertificate, Refuses, is_answer, plain, kept, too_long, missing_netlist, netlist, no_netlist, refused, no_certificate, long_certificate, checked}
use Rattle.maskverif_cli.specs.Certificates.{IsChecked}
use Rattle.certificate.specs.Certificates.{most_bytes as most_certificate_bytes}
use Rattle.maskverif_cli.specs.Gadgets.{gadget_text, trial_question}
use Rattle.maskverif_cli.specs.Kept.{ChecksKept, IsCertificateOf, IsSecureReport, RefusesBytes}
use Rattle.maskverif_cli.specs.Reply.{Answering, CountsHalt, CountsReads, Ends, Gives, Halts, Lacks, new_file}

-- ---- one answer as another

pub if-ok : {T E : Type 0} (r : Result T E) (P Q : T → Type 0) → ((x : T) → P x → Q x) → IfOk r P → IfOk r Q
if-ok (Ok x) P Q show h = show x h
if-ok (Err e) P Q show h = tt

pub halts-as : (P Q : Answering) (wish : Option (List ℕ)) (E F : Type 0) → ((s : Status) (t : List ℕ) (f : NewFile) → P s t f → Q s t f) → (E → F)
    → (h : Halt) → Halts P wish E h → Halts Q wish F h
halts-as P Q wish E F show fail (halt.Due r) h = show r.status r.text.items (new_file wish r.certificate) h
halts-as P Q wish E F show fail halt.ReadFault h = fail h
halts-as P Q wish E F show fail halt.NoMemory h = tt

pub ends-as : (P Q : Answering) (wish : Option (List ℕ)) (E F : Type 0) → ((s : Status) (t : List ℕ) (f : NewFile) → P s t f → Q s t f) → (E → F)
    → (e : Result Reply Halt) → Ends P wish E e → Ends Q wish F e
ends-as P Q wish E F show fail (Ok r) h = show r.status r.text.items (new_file wish r.certificate) h
ends-as P Q wish E F show fail (Err g) h = halts-as P Q wish E F show fail g h

-- where no call to the files can have failed, no fault was counted
pub no-fault : (P : Answering) (wish : Option (List ℕ)) (old new : ℕ) (h : Halt) → Halts P wish ⊥ h → new ≡ old → CountsHalt old new h
no-fault P wish old new (halt.Due r) h same = same
no-fault P wish old new halt.ReadFault h same = absurd h
no-fault P wish old new halt.NoMemory h same = same

-- what is counted from a count that is the same
pub counts-from : (a b c : ℕ) (h : Halt) → b ≡ a → CountsHalt b c h → CountsHalt a c h
counts-from a b c h same counts = subst (λ n. CountsHalt n c h) same counts

-- what a reading ended with, where it was no fault
module _ {T : Type 0} where
  pub other-no_fault : (stop other : ReadStop) → stop ≡ other → other ≢ read.ReadFault → let failed : Result T ReadStop = Err stop in failed ≢ Err read.ReadFault
  other-no_fault stop other e differs same = let stops : stop ≡ read.ReadFault = cc in differs (sym e ∙ stops)

pub long-no_fault : read.TooLong ≢ read.ReadFault
long-no_fault same = cc

-- ---- netlists

refused-secure : (why : Refusal) (status : Status) → status ≡ Refused why → status ≢ Secure
refused-secure why status is same = let wrong : Refused why ≡ Secure = sym is ∙ same in cc

pub refused-netlist : (asked : Question) (wish : Option (List ℕ)) (bytes : List ℕ) (status : Status) (text : List ℕ) (file : NewFile)
    → RefusesBytes asked bytes status text file → AnswersNetlist asked wish bytes status text file
refused-netlist asked wish bytes status text file h =
    let why = h.0 in
    let answer = h.2 in
    plain (record {
      verdict = subst (λ s. IsVerdict asked bytes s text) (sym answer.status_is) (record { refusal = h.1; report = answer.text_is });
      none_due = inr (refused-secure why status answer.status_is);
      no_file = answer.no_file;
    })

-- a text that is too long
pub refused-length : (asked : Question) (bytes : List ℕ) (status : Status) (text : List ℕ) (file : NewFile) → most_bytes < length bytes
    → Refuses (Limit FileBytes) status text file → RefusesBytes asked bytes status text file
refused-length asked bytes status text file longer answer = (Limit FileBytes, of_length longer refl, answer)

-- some tuple is not proved
pub unproved-plain : (asked : Question) (wish : Option (List ℕ)) (bytes : List ℕ) (tuple : ArrayVec ℕ) (text : List ℕ) → IsVerdict asked bytes (Unproved tuple) text
    → AnswersNetlist asked wish bytes (Unproved tuple) text None
unproved-plain asked wish bytes tuple text h =
    plain (record { verdict = h; none_due = inr (λ (same : Unproved tuple ≡ Secure). cc); no_file = refl })

module _ (asked : Question) (n : Accepted) (bytes : List ℕ) (keeps : Keeps asked bytes n) where
  module _ (name report certificate : List ℕ) (is : IsSecureReport asked n report) (says : IsCertificateOf asked n certificate) where
    owes : OwesCertificate asked (Some name) bytes report name certificate
    owes = record { secure = is bytes keeps; wished = refl; certificate_is = says bytes keeps }

    -- the certificate is kept
    pub secure-kept : length certificate ≤ most_certificate_bytes → AnswersNetlist asked (Some name) bytes Secure report (Some (name, certificate))
    secure-kept short = kept (record { name = name; certificate = certificate; owes = owes; short = short; status_is = refl; file_is = refl })

    -- it is too long
    pub secure-long : most_certificate_bytes < length certificate → (status : Status) (text : List ℕ) (file : NewFile)
        → Refuses (Limit CertificateBytes) status text file → AnswersNetlist asked (Some name) bytes status text file
    secure-long long status text file refuses = too_long (record { report = report; name = name; certificate = certificate; owes = owes; long = long; refuses = refuses })

-- ---- files

-- there are longer lists
pub record LongList (n : ℕ) : Type 0 where
  pub list : List ℕ
  pub longer : n < length list

long-list : (n : ℕ) → LongList n
long-list n = let e = length-replicate {A = ℕ} (n + 1) 0 in record { list = replicate (n + 1) 0; longer = omega (arith, e) }

-- the bytes of a file that is too long
pub record LongBytes (name : List ℕ) (disk : Option Disk) (limit : ℕ) : Type 0 where
  pub bytes : List ℕ
  pub there : IsWhole name disk bytes
  pub longer : limit < length bytes

pub too-long : (name : List ℕ) (disk : Option Disk) (limit : ℕ) → IsLonger name disk limit → LongBytes name disk limit
too-long name None limit h = let long = long-list limit in record { bytes = long.list; there = tt; longer = long.longer }
too-long name (Some d) limit h = record { bytes = h.bytes; there = h.there; longer = h.longer }

module _ (disk : Option Disk) (name : List ℕ) (limit : ℕ) (which : Which) where
  -- the file is missing
  pub missing-lacks : (reply : Reply) → reply.status ≡ NoFile → reply.text.items ≡ [] → reply.certificate ≡ None → IsMissing name disk
      → (wish : Option (List ℕ)) → Halts (Lacks disk name limit which) wish (Unit {0}) (halt.Due reply)
  missing-lacks reply status text certificate missing wish =
      inl (record { missing = missing; status_is = status; text_is = text; no_file = ap (new_file wish) certificate })

  -- it is too long
  pub long-lacks : (h : Halt) → ((wish : Option (List ℕ)) → Halts (Refuses (Limit which)) wish ⊥ h) → IsLonger name disk limit
      → (wish : Option (List ℕ)) → Halts (Lacks disk name limit which) wish (Unit {0}) h
  long-lacks h due longer wish =
      halts-as (Refuses (Limit which)) (Lacks disk name limit which) wish ⊥ (Unit {0}) (λ s t f r. inr (longer, r)) (λ none. absurd none) h (due wish)

  pub long-counts : (h : Halt) (old new : ℕ) → ((wish : Option (List ℕ)) → Halts (Refuses (Limit which)) wish ⊥ h) → new ≡ old → CountsHalt old new h
  long-counts h old new due same = no-fault (Refuses (Limit which)) None old new h (due None) same

module _ (disk : Option Disk) (asked : VerifyRequest) where
  -- the netlist is missing or too long
  pub verify-lacks : (status : Status) (text : List ℕ) (file : NewFile) → Lacks disk asked.netlist most_bytes FileBytes status text file
      → AnswersVerify disk asked status text file
  verify-lacks status text file h =
      ⊎_elim (λ m. missing_netlist m)
      (λ m. let long = too-long asked.netlist disk most_bytes m.0 in
      netlist long.bytes long.there (refused-netlist asked.question asked.certificate long.bytes status text file (refused-length asked.question long.bytes status text file long.longer m.1)))
      h

module _ (disk : Option Disk) (asked : CheckRequest) where
  pub check-lacks : (status : Status) (text : List ℕ) (file : NewFile) → Lacks disk asked.netlist most_bytes FileBytes status text file
      → AnswersCheck disk asked status text file
  check-lacks status text file h =
      ⊎_elim (λ m. no_netlist m)
      (λ m. let long = too-long asked.netlist disk most_bytes m.0 in
      refused long.bytes (Limit FileBytes) long.there (of_length long.longer refl) m.1)
      h

  pub check-refused : (bytes : List ℕ) → IsWhole asked.netlist disk bytes → (status : Status) (text : List ℕ) (file : NewFile)
      → RefusesBytes asked.question bytes status text file → AnswersCheck disk asked status text file
  check-refused bytes there status text file h = refused bytes h.0 there h.1 h.2

  module _ (bytes : List ℕ) (n : Accepted) (there : IsWhole asked.netlist disk bytes)
      (keeps : Keeps asked.question bytes n) where
    found : HasAccepted disk asked.netlist asked.question
    found = record { bytes = bytes; there = there; netlist = keeps.netlist; accepted = keeps.accepted }

    -- the certificate is missing or too long
    pub certificate-lacks : (status : Status) (text : List ℕ) (file : NewFile) → Lacks disk asked.certificate most_certificate_bytes CertificateBytes status text file
        → AnswersCheck disk asked status text file
    certificate-lacks status text file h = ⊎_elim (λ m. no_certificate found m) (λ m. long_certificate found m.0 m.1) h

    -- it is checked
    pub certificate-checked : (certificate : List ℕ) → IsWhole asked.certificate disk certificate → length certificate ≤ most_certificate_bytes
        → (reply : Reply) → ChecksKept asked.question n certificate reply → Gives (AnswersCheck disk asked) None reply
    certificate-checked certificate is short reply h =
        let answer = h bytes keeps in
        checked bytes certificate there is short answer.0 answer.1

-- ---- an answer is no fault

verdict-answer : (asked : Question) (bytes : List ℕ) (status : Status) (text : List ℕ) → IsVerdict asked bytes status text → is_answer status ≡ true
verdict-answer asked bytes Secure text h = refl
verdict-answer asked bytes (Unproved tuple) text h = refl
verdict-answer asked bytes (Refused why) text h = refl
verdict-answer asked bytes IsAccepted text h = absurd h
verdict-answer asked bytes (Rejected line why) text h = absurd h
verdict-answer asked bytes Made text h = absurd h
verdict-answer asked bytes Usage text h = absurd h
verdict-answer asked bytes NoFile text h = absurd h
verdict-answer asked bytes ReadFault text h = absurd h
verdict-answer asked bytes WriteFault text h = absurd h
verdict-answer asked bytes NoMemory text h = absurd h

checked-answer : (asked : Question) (bytes certificate : List ℕ) (status : Status) (text : List ℕ) → IsChecked asked bytes certificate status text → is_answer status ≡ true
checked-answer asked bytes certificate IsAccepted text h = refl
checked-answer asked bytes certificate (Rejected line why) text h = refl
checked-answer asked bytes certificate Secure text h = absurd h
checked-answer asked bytes certificate (Unproved tuple) text h = absurd h
checked-answer asked bytes certificate (Refused why) text h = absurd h
checked-answer asked bytes certificate Made text h = absurd h
checked-answer asked bytes certificate Usage text h = absurd h
checked-answer asked bytes certificate NoFile text h = absurd h
checked-answer asked bytes certificate ReadFault text h = absurd h
checked-answer asked bytes certificate WriteFault text h = absurd h
checked-answer asked bytes certificate NoMemory text h = absurd h

netlist-answer : (asked : Question) (wish : Option (List ℕ)) (bytes : List ℕ) (status : Status) (text : List ℕ) (file : NewFile)
    → AnswersNetlist asked wish bytes status text file → is_answer status ≡ true
netlist-answer asked wish bytes status text file (plain h) = verdict-answer asked bytes status text h.verdict
netlist-answer asked wish bytes status text file (kept h) = ap is_answer h.status_is
netlist-answer asked wish bytes status text file (too_long h) = ap is_answer h.refuses.status_is

verify-answer : (disk : Option Disk) (asked : VerifyRequest) (status : Status) (text : List ℕ) (file : NewFile) → AnswersVerify disk asked status text file → is_answer status ≡ true
verify-answer disk asked status text file (missing_netlist h) = ap is_answer h.status_is
verify-answer disk asked status text file (netlist bytes there h) = netlist-answer asked.question asked.certificate bytes status text file h

check-answer : (disk : Option Disk) (asked : CheckRequest) (status : Status) (text : List ℕ) (file : NewFile) → AnswersCheck disk asked status text file → is_answer status ≡ true
check-answer disk asked status text file (no_netlist h) = ap is_answer h.status_is
check-answer disk asked status text file (refused bytes why there due h) = ap is_answer h.status_is
check-answer disk asked status text file (no_certificate accepted h) = ap is_answer h.status_is
check-answer disk asked status text file (long_certificate accepted longer h) = ap is_answer h.status_is
check-answer disk asked status text file (checked bytes certificate there is short h none) = checked-answer asked.question bytes certificate status text h

pub due-answer : (disk : Option Disk) (request : Request) (status : Status) (text : List ℕ) (file : NewFile) → IsDueTo disk request status text file → is_answer status ≡ true
due-answer disk (verify asked) status text file h = verify-answer disk asked status text file h
due-answer disk (check asked) status text file h = check-answer disk asked status text file h
due-answer disk (generate asked) status text file h = ap is_answer h.status_is
due-answer disk (trial asked) status text file h = netlist-answer (trial_question asked.shares) None (gadget_text asked) status text file h

-- ---- counts

-- where what comes behind a reading calls no files, the count is that of the reading
pub ends-count : (P : Answering) (wish : Option (List ℕ)) (old new : ℕ) (e : Result Reply Halt) → Ends P wish ⊥ e → new ≡ old → CountsReads old new e
ends-count P wish old new (Ok r) h same = same
ends-count P wish old new (Err g) h same = no-fault P wish old new g h same

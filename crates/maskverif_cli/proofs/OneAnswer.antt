-- At most one answer is due.
use Rattle.std.proofs.Common.{◌≡◌, ◌≢◌, ℕ, ◌<◌, ◌≤◌, ◌-◌, ◌^◌, min, List, [], ◌++◌, length, map, true, Option, Some, None, refl, sym, ap, ◌∙◌, subst, arith, ⊎_elim}
use Rattle.std.proofs.lemmas.Bool.{cases_lt}
use Rattle.std.specs.declared.string.String.{String}
use Rattle.std.specs.declared.alloc.Global.{Global}
use Rattle.mv_files.specs.Disk.{Disk, LongFile, IsMissing, IsWhole}
use Rattle.circuit_types.specs.declared.circuit.Timing.TheVariants.{Settled}
use Rattle.circuit_types.specs.declared.probes.Model.{Model}
use Rattle.circuit_types.specs.declared.probes.Model.TheVariants.{Glitch}
use Rattle.circuit_types.specs.declared.refusal.Refusal.{Refusal}
use Rattle.circuit_types.specs.declared.refusal.Refusal.TheVariants.{Limit}
use Rattle.circuit_types.specs.declared.refusal.Which.TheVariants.{CertificateBytes}
use Rattle.expr_table.specs.declared.instance.Instance.{Instance}
use Rattle.expr_table.specs.declared.instance.Notion.TheVariants.{Probing}
use Rattle.rtlil_print.specs.Printed.{printed}
use Rattle.gadget_maker.specs.Gadget.{gadget}
use Rattle.certificate.specs.declared.fault.Why.{Why}
use Rattle.cert_check.specs.declared.checked.Checked.{Checked}
use Rattle.cert_check.specs.declared.checked.Checked.TheVariants as checked_as
use Rattle.cert_check.specs.Closing.{IsCertified, header_of}
use Rattle.cert_check.specs.Entries.{entries_of}
use Rattle.cert_check.specs.Outcome.{IsAccepted, IsDue as IsOutcome, IsFirstFault}
use Rattle.certificate.specs.declared.entries.Entry.{Entry}
use Rattle.certificate.specs.Certificates.{lines_of, text_of}
use Rattle.command_words.specs.declared.command.Gadget.{Gadget}
use Rattle.verify_question.specs.declared.question.Question.{Question}
use Rattle.command_words.specs.Commands.{Request, CheckRequest, VerifyRequest, verify, check, generate, trial}
use Rattle.command_words.specs.Names.{texts}
use Rattle.term_build.specs.Laws.{OneInstance}
use Rattle.frontier_core.specs.Tree.{tree_of}
use Rattle.accepted_netlist.specs.Netlist.{Netlist, HasRefusal, IsAcceptedAs, probe_name, probes, circuit, roles}
use Rattle.accepted_netlist.specs.Laws.{OneNetlist, OneRefusal, AcceptedOrRefused}
use Rattle.maskverif_cli.specs.declared.status.Status.{Status}
use Rattle.maskverif_cli.specs.declared.status.Status.TheVariants.{Secure, Accepted, Unproved, Rejected, Made, Usage, Refused, NoFile, ReadFault, WriteFault, NoMemory}
use Rattle.maskverif_cli.specs.Report.{accepted_report, rejected_report, secure_report, unproved_report, refused_report}
use Rattle.maskverif_cli.specs.Verdict.{IsSecure, IsUnproved, IsProvableTuple, HasRank, Means, tuples_of}
use Rattle.maskverif_cli.specs.Certificates.{HasCertificate, IsAcceptedCertificate, IsChecked, IsRejectedCertificate}
use Rattle.certificate.specs.Certificates.{most_bytes as most_certificate_bytes}
use Rattle.maskverif_cli.specs.Answer.{Ask, IsDue, IsDueTo, IsVerdict, IsPlain, IsKept, IsRefused, OwesCertificate, Refuses, IsAcceptedFor, NewFile, HasAccepted, HasNoFile, AnswersCheck, AnswersNetlist, AnswersVerify, AskAboutAccepted, ChecksWhatWasWritten, is_decided, is_made, usage, answer, plain, kept, too_long, missing_netlist, netlist, no_netlist, refused, no_certificate, long_certificate, checked, to_verify, to_check, to_try}
use Rattle.maskverif_cli.specs.Gadgets.{gadget_text, trial_question}
use Rattle.maskverif_cli.proofs.Asked.{OneCommand, tried-seed, tried-shares}

-- the text of each gadget is accepted as it is tried
abbrev pub GadgetsAccepted : Type 0
GadgetsAccepted = (seed d : ℕ) → seed < 2 ^ 64 → 2 ≤ d → d ≤ 16
    → (n : Netlist) × IsAcceptedAs (record { notion = Probing; order = min (d - 1) 2; model = Glitch; timing = Settled }) (printed (gadget seed d)) n

tried-accepted : GadgetsAccepted → (words : List (String Global)) (g : Gadget) → Ask words (trial g)
    → (n : Netlist) × IsAcceptedFor (trial_question g.shares) (gadget_text g) n
unfolding gadget_text
tried-accepted accepts words g asks =
    let has = tried-shares (texts words) g asks in
    accepts g.seed g.shares (tried-seed (texts words) g asks) has.least has.most

-- two answers are one
abbrev pub Same : Status → Status → List ℕ → List ℕ → NewFile → NewFile → Type 0
Same s t a b f g = (s ≡ t) × (a ≡ b) × (f ≡ g)

same-refusals : (why : Refusal) (s t : Status) (a b : List ℕ) (f g : NewFile) → Refuses why s a f → Refuses why t b g → Same s t a b f g
same-refusals why s t a b f g h k = (h.status_is ∙ sym k.status_is, h.text_is ∙ sym k.text_is, h.no_file ∙ sym k.no_file)

missing-missing : (disk : Option Disk) (name : List ℕ) (s t : Status) (a b : List ℕ) (f g : NewFile) → HasNoFile disk name s a f → HasNoFile disk name t b g → Same s t a b f g
missing-missing disk name s t a b f g h k = (h.status_is ∙ sym k.status_is, h.text_is ∙ sym k.text_is, h.no_file ∙ sym k.no_file)

-- a file is created or not, and holds one thing
no-file-there : (name bytes : List ℕ) (f : NewFile) → f ≡ None → f ≡ Some (name, bytes) → ⊥
no-file-there name bytes f m n = let wrong : None ≡ Some (name, bytes) = sym m ∙ n in cc

abbrev bytes-of : NewFile → List ℕ
bytes-of None = []
bytes-of (Some file) = file.1

same-certificate : (name other a b : List ℕ) (f : NewFile) → f ≡ Some (name, a) → f ≡ Some (other, b) → a ≡ b
same-certificate name other a b f m n = ap bytes-of (sym m ∙ n)

-- a file is missing or there, and holds one thing
missing-there : (disk : Disk) (name bytes : List ℕ) → IsMissing name (Some disk) → IsWhole name (Some disk) bytes → ⊥
missing-there disk name bytes m n = let wrong : None ≡ Some bytes = sym m ∙ n in cc

same-bytes : (disk : Disk) (name a b : List ℕ) → IsWhole name (Some disk) a → IsWhole name (Some disk) b → a ≡ b
same-bytes disk name a b m n = let both : Some a ≡ Some b = sym m ∙ n in cc

-- a file is longer than the limit, or is not
long-short : (disk : Disk) (name bytes : List ℕ) (limit : ℕ) → LongFile name limit disk → IsWhole name (Some disk) bytes → length bytes ≤ limit → ⊥
long-short disk name bytes limit long there short =
    let same : long.bytes ≡ bytes = same-bytes disk name long.bytes bytes long.there there in
    let e : length long.bytes ≡ length bytes = ap length same in
    let h = long.longer in
    omega arith

module _ (one_command : OneCommand) (words : List (String Global)) where
  -- what is due to words that mean this
  due-for : (disk : Option Disk) (request : Request) (s : Status) (a : List ℕ) (f : NewFile) → Ask words request → IsDue words disk s a f → IsDueTo disk request s a f
  due-for disk request s a f asks (usage h) = absurd (h.not_taken request asks)
  due-for disk request s a f asks (answer other means h) = subst (λ r. IsDueTo disk r s a f) (one_command (texts words) other request means asks) h

  -- a gadget is made, where nothing failed, and no file is
  pub is-made : (disk : Option Disk) (s : Status) (a : List ℕ) (f : NewFile) (asked : Gadget) → Ask words (generate asked) → IsDue words disk s a f → is_made s ≡ true
  is-made disk s a f asked asks due = ap is_made (due-for disk (generate asked) s a f asks due).status_is

  pub makes-no-file : (disk : Option Disk) (s : Status) (a : List ℕ) (f : NewFile) (asked : Gadget) → Ask words (generate asked) → IsDue words disk s a f → f ≡ None
  makes-no-file disk s a f asked asks due = (due-for disk (generate asked) s a f asks due).no_file

-- at most one verdict on a certificate is due, and what is certified is accepted
abbrev pub OneOutcome : Type 0
OneOutcome = (x : Instance) (model : Model) (order : ℕ) (bytes : List ℕ) (found other : Checked)
    → IsOutcome x model order bytes found → IsOutcome x model order bytes other → found ≡ other

abbrev pub CertifiedIsAccepted : Type 0
CertifiedIsAccepted = (x : Instance) (model : Model) (order : ℕ) (bytes : List ℕ) (entries : List Entry)
    → IsCertified x model order bytes entries → IsAccepted x model order bytes (length entries)

module _ (one_netlist : OneNetlist) (one_refusal : OneRefusal) (either : AcceptedOrRefused) where
  module _ (one_instance : OneInstance) (asked : Question) (bytes : List ℕ) where
    same-instance : (n m : Netlist) (x y : Instance) → Means asked bytes n x → Means asked bytes m y → x ≡ y
    same-instance n m x y a b =
        let same = one_netlist bytes n m a.accepted.netlist b.accepted.netlist in
        one_instance asked.notion (roles m) (circuit asked m) (probes asked m) x y
        (subst (λ v. Means asked bytes v x) same a).instance b.instance

    secure-secure : (a b : List ℕ) → IsSecure asked bytes a → IsSecure asked bytes b → a ≡ b
    secure-secure a b s t =
        let x = same-instance s.netlist t.netlist s.instance t.instance s.means t.means in
        s.report ∙ ap (λ (i : Instance). secure_report asked (length i.probes) (length (tuples_of i asked.order)) (length (tree_of i asked.order))) x ∙ sym t.report

    secure-unproved : (tuple a b : List ℕ) → IsSecure asked bytes a → IsUnproved asked bytes tuple b → ⊥
    secure-unproved tuple a b s t =
        let x = same-instance s.netlist t.netlist s.instance t.instance s.means t.means in
        let ranked_there = subst (λ (i : Instance). HasRank i asked.order tuple t.rank) (sym x) t.ranked in
        t.not_provable (subst (λ (i : Instance). IsProvableTuple i tuple) x (s.all.provable tuple t.rank ranked_there))

    -- of two unproved tuples neither has the lesser rank
    not-before : (tuple other a b : List ℕ) (s : IsUnproved asked bytes tuple a) (t : IsUnproved asked bytes other b) → s.rank < t.rank → ⊥
    not-before tuple other a b s t lt =
        let x = same-instance s.netlist t.netlist s.instance t.instance s.means t.means in
        let there = subst (λ (i : Instance). HasRank i asked.order tuple s.rank) x s.ranked in
        s.not_provable (subst (λ (i : Instance). IsProvableTuple i tuple) (sym x) (t.first tuple s.rank lt there))

    unproved-unproved : (tuple other a b : List ℕ) → IsUnproved asked bytes tuple a → IsUnproved asked bytes other b → (tuple ≡ other) × (a ≡ b)
    unproved-unproved tuple other a b s t =
        let n = one_netlist bytes s.netlist t.netlist s.means.accepted.netlist t.means.accepted.netlist in
        let x = same-instance s.netlist t.netlist s.instance t.instance s.means t.means in
        let low = not-before tuple other a b s t in
        let high = not-before other tuple b a t s in
        let rank : s.rank ≡ t.rank = ⊎_elim (λ lt. absurd (low lt)) (λ ge. ⊎_elim (λ lt. absurd (high lt)) (λ le. omega arith) (cases_lt t.rank s.rank)) (cases_lt s.rank t.rank) in
        let here = subst (λ k. HasRank s.instance asked.order tuple k) rank s.ranked in
        let there = subst (λ (i : Instance). HasRank i asked.order tuple t.rank) x here in
        let both : Some tuple ≡ Some other = sym there ∙ t.ranked in
        let tuples : tuple ≡ other = cc in
        (tuples, s.report ∙ (λ i. unproved_report asked (length (x i).probes) (length (tuples_of (x i) asked.order)) (rank i) (map (probe_name asked (n i)) (tuples i))) ∙ sym t.report)

    refused-refused : (r s : Refusal) (a b : List ℕ) → IsRefused asked bytes r a → IsRefused asked bytes s b → (r ≡ s) × (a ≡ b)
    refused-refused r s a b v w =
        let same = one_refusal asked bytes r s v.refusal w.refusal in
        (same, v.report ∙ ap refused_report same ∙ sym w.report)

    -- one text says one thing
    one-text : (x y : Instance) (a b : List ℕ) → x ≡ y → IsCertified x asked.model asked.order a (entries_of x (tree_of x asked.order))
        → IsCertified y asked.model asked.order b (entries_of y (tree_of y asked.order)) → a ≡ b
    one-text x y a b same s t =
        s.text.text ∙ ap (λ (i : Instance). text_of (lines_of (header_of i asked.model asked.order) (entries_of i (tree_of i asked.order))) ++ []) same ∙ sym t.text.text

    -- what a certificate is answered with
    module _ (one_outcome : OneOutcome) (accepts : CertifiedIsAccepted) (certificate : List ℕ) where
      moved-certified : (x y : Instance) (entries : List Entry) → x ≡ y → IsCertified x asked.model asked.order certificate entries → IsAccepted y asked.model asked.order certificate (length entries)
      moved-certified x y entries same h = accepts y asked.model asked.order certificate entries (subst (λ (i : Instance). IsCertified i asked.model asked.order certificate entries) same h)

      same-count : (f g : ℕ) → checked_as.Accepted f ≡ checked_as.Accepted g → f ≡ g
      same-count f g both = cc

      certified-certified : (n m : Netlist) (x y : Instance) (e d : List Entry) → Means asked bytes n x → Means asked bytes m y
          → IsCertified x asked.model asked.order certificate e → IsCertified y asked.model asked.order certificate d → length e ≡ length d
      certified-certified n m x y e d v w p q =
          same-count (length e) (length d) (one_outcome y asked.model asked.order certificate (checked_as.Accepted (length e)) (checked_as.Accepted (length d))
          (moved-certified x y e (same-instance n m x y v w) p) (accepts y asked.model asked.order certificate d q))

      certified-faulty : (n m : Netlist) (x y : Instance) (e : List Entry) (l : ℕ) (r : Why) → Means asked bytes n x → Means asked bytes m y
          → IsCertified x asked.model asked.order certificate e → IsFirstFault y asked.model asked.order certificate l r → ⊥
      certified-faulty n m x y e l r v w p q =
          let both = one_outcome y asked.model asked.order certificate (checked_as.Accepted (length e)) (checked_as.Rejected l r) (moved-certified x y e (same-instance n m x y v w) p) q in
          cc

      same-line : (l k : ℕ) (r u : Why) → checked_as.Rejected l r ≡ checked_as.Rejected k u → (l ≡ k) × (r ≡ u)
      same-line l k r u both = let line : l ≡ k = cc in let reason : r ≡ u = cc in (line, reason)

      faulty-faulty : (n m : Netlist) (x y : Instance) (l k : ℕ) (r u : Why) → Means asked bytes n x → Means asked bytes m y
          → IsFirstFault x asked.model asked.order certificate l r → IsFirstFault y asked.model asked.order certificate k u → (l ≡ k) × (r ≡ u)
      faulty-faulty n m x y l k r u v w p q =
          let here = subst (λ (i : Instance). IsFirstFault i asked.model asked.order certificate l r) (same-instance n m x y v w) p in
          same-line l k r u (one_outcome y asked.model asked.order certificate (checked_as.Rejected l r) (checked_as.Rejected k u) here q)

  verdicts : OneInstance → (q : Question) (bytes : List ℕ) (s t : Status) (a b : List ℕ) → IsVerdict q bytes s a → IsVerdict q bytes t b → (s ≡ t) × (a ≡ b)
  verdicts one q bytes Secure Secure a b v w = (refl, secure-secure one q bytes a b v w)
  verdicts one q bytes Secure (Unproved u) a b v w = absurd (secure-unproved one q bytes u.items a b v w)
  verdicts one q bytes Secure (Refused y) a b v w = absurd (either q bytes v.netlist y v.means.accepted w.refusal)
  verdicts one q bytes (Unproved u) Secure a b v w = absurd (secure-unproved one q bytes u.items b a w v)
  verdicts one q bytes (Unproved u) (Unproved p) a b v w =
      let same = unproved-unproved one q bytes u.items p.items a b v w in (λ i. Unproved (record { items = same.0 i }), same.1)
  verdicts one q bytes (Unproved u) (Refused y) a b v w = absurd (either q bytes v.netlist y v.means.accepted w.refusal)
  verdicts one q bytes (Refused y) Secure a b v w = absurd (either q bytes w.netlist y w.means.accepted v.refusal)
  verdicts one q bytes (Refused y) (Unproved u) a b v w = absurd (either q bytes w.netlist y w.means.accepted v.refusal)
  verdicts one q bytes (Refused y) (Refused z) a b v w = let same = refused-refused one q bytes y z a b v w in (ap Refused same.0, same.1)
  verdicts one q bytes Accepted t a b v w = absurd v
  verdicts one q bytes (Rejected l y) t a b v w = absurd v
  verdicts one q bytes Made t a b v w = absurd v
  verdicts one q bytes Usage t a b v w = absurd v
  verdicts one q bytes NoFile t a b v w = absurd v
  verdicts one q bytes ReadFault t a b v w = absurd v
  verdicts one q bytes WriteFault t a b v w = absurd v
  verdicts one q bytes NoMemory t a b v w = absurd v
  verdicts one q bytes s Accepted a b v w = absurd w
  verdicts one q bytes s (Rejected l y) a b v w = absurd w
  verdicts one q bytes s Made a b v w = absurd w
  verdicts one q bytes s Usage a b v w = absurd w
  verdicts one q bytes s NoFile a b v w = absurd w
  verdicts one q bytes s ReadFault a b v w = absurd w
  verdicts one q bytes s WriteFault a b v w = absurd w
  verdicts one q bytes s NoMemory a b v w = absurd w

  -- a verdict on an accepted netlist decides it
  verdict-decides : (q : Question) (bytes : List ℕ) (n : Netlist) (s : Status) (a : List ℕ) → IsAcceptedFor q bytes n → IsVerdict q bytes s a → is_decided s ≡ true
  verdict-decides q bytes n Secure a accepted v = refl
  verdict-decides q bytes n (Unproved u) a accepted v = refl
  verdict-decides q bytes n (Refused y) a accepted v = absurd (either q bytes n y accepted v.refusal)
  verdict-decides q bytes n Accepted a accepted v = refl
  verdict-decides q bytes n (Rejected l y) a accepted v = refl
  verdict-decides q bytes n Made a accepted v = absurd v
  verdict-decides q bytes n Usage a accepted v = absurd v
  verdict-decides q bytes n NoFile a accepted v = absurd v
  verdict-decides q bytes n ReadFault a accepted v = absurd v
  verdict-decides q bytes n WriteFault a accepted v = absurd v
  verdict-decides q bytes n NoMemory a accepted v = absurd v

  -- ---- netlists, where a certificate may be asked for

  module _ (one : OneInstance) (q : Question) (wish : Option (List ℕ)) (bytes : List ℕ) where
    one-certificate : (a b : List ℕ) → HasCertificate q bytes a → HasCertificate q bytes b → a ≡ b
    one-certificate a b h k =
        one-text one q bytes h.instance k.instance a b
        (same-instance one q bytes h.netlist k.netlist h.instance k.instance h.means k.means) h.certified k.certified

    -- an answer without a certificate, where one is owed
    plain-owes : (s : Status) (a : List ℕ) (f : NewFile) (r n c : List ℕ) → IsPlain q wish bytes s a f → OwesCertificate q wish bytes r n c → ⊥
    plain-owes s a f r n c h o =
        ⊎_elim
        (λ (none : wish ≡ None). let wrong : None ≡ Some n = sym none ∙ o.wished in cc)
        (λ (other : s ≢ Secure). other (verdicts one q bytes s Secure a r h.verdict o.secure).0)
        h.none_due

    -- one certificate is both short and long
    short-long : (r n c u m d : List ℕ) → OwesCertificate q wish bytes r n c → OwesCertificate q wish bytes u m d
        → length c ≤ most_certificate_bytes → most_certificate_bytes < length d → ⊥
    short-long r n c u m d o p short long =
        let e : length c ≡ length d = ap length (one-certificate c d o.certificate_is p.certificate_is) in
        omega arith

    kept-kept : (s t : Status) (a b : List ℕ) (f g : NewFile) → IsKept q wish bytes s a f → IsKept q wish bytes t b g → Same s t a b f g
    kept-kept s t a b f g h k =
        let names : Some h.name ≡ Some k.name = sym h.owes.wished ∙ k.owes.wished in
        let name : h.name ≡ k.name = cc in
        let certificate = one-certificate h.certificate k.certificate h.owes.certificate_is k.owes.certificate_is in
        let file : Some (h.name, h.certificate) ≡ Some (k.name, k.certificate) = λ i. Some (name i, certificate i) in
        (h.status_is ∙ sym k.status_is, secure-secure one q bytes a b h.owes.secure k.owes.secure, h.file_is ∙ file ∙ sym k.file_is)

    netlists : (s t : Status) (a b : List ℕ) (f g : NewFile) → AnswersNetlist q wish bytes s a f → AnswersNetlist q wish bytes t b g → Same s t a b f g
    netlists s t a b f g (plain h) (plain k) =
        let same = verdicts one q bytes s t a b h.verdict k.verdict in (same.0, same.1, h.no_file ∙ sym k.no_file)
    netlists s t a b f g (plain h) (kept k) = absurd (plain-owes s a f b k.name k.certificate h k.owes)
    netlists s t a b f g (plain h) (too_long k) = absurd (plain-owes s a f k.report k.name k.certificate h k.owes)
    netlists s t a b f g (kept h) (plain k) = absurd (plain-owes t b g a h.name h.certificate k h.owes)
    netlists s t a b f g (kept h) (kept k) = kept-kept s t a b f g h k
    netlists s t a b f g (kept h) (too_long k) = absurd (short-long a h.name h.certificate k.report k.name k.certificate h.owes k.owes h.short k.long)
    netlists s t a b f g (too_long h) (plain k) = absurd (plain-owes t b g h.report h.name h.certificate k h.owes)
    netlists s t a b f g (too_long h) (kept k) = absurd (short-long b k.name k.certificate h.report h.name h.certificate k.owes h.owes k.short h.long)
    netlists s t a b f g (too_long h) (too_long k) = same-refusals (Limit CertificateBytes) s t a b f g h.refuses k.refuses

  -- an accepted netlist is decided, if its certificate, where one is asked for, is not too long
  netlist-decides : (q : Question) (wish : Option (List ℕ)) (bytes : List ℕ) (n : Netlist) (s : Status) (a : List ℕ) (f : NewFile) → IsAcceptedFor q bytes n
      → (wish ≢ None → (c : List ℕ) → HasCertificate q bytes c → length c ≤ most_certificate_bytes) → AnswersNetlist q wish bytes s a f → is_decided s ≡ true
  netlist-decides q wish bytes n s a f accepted short (plain h) = verdict-decides q bytes n s a accepted h.verdict
  netlist-decides q wish bytes n s a f accepted short (kept h) = ap is_decided h.status_is
  netlist-decides q wish bytes n s a f accepted short (too_long h) =
      let asked : wish ≢ None = λ none. let wrong : None ≡ Some h.name = sym none ∙ h.owes.wished in cc in
      let within = short asked h.certificate h.owes.certificate_is in
      let beyond = h.long in
      absurd (omega arith)

  -- ---- certificates

  checked-means : (q : Question) (bytes c : List ℕ) (s : Status) (a : List ℕ) → IsChecked q bytes c s a → (n : Netlist) × IsAcceptedFor q bytes n
  checked-means q bytes c Accepted a h = (h.netlist, h.means.accepted)
  checked-means q bytes c (Rejected l r) a h = (h.netlist, h.means.accepted)
  checked-means q bytes c Secure a h = absurd h
  checked-means q bytes c (Unproved u) a h = absurd h
  checked-means q bytes c Made a h = absurd h
  checked-means q bytes c Usage a h = absurd h
  checked-means q bytes c (Refused y) a h = absurd h
  checked-means q bytes c NoFile a h = absurd h
  checked-means q bytes c ReadFault a h = absurd h
  checked-means q bytes c WriteFault a h = absurd h
  checked-means q bytes c NoMemory a h = absurd h

  pub checked-decides : (q : Question) (bytes c : List ℕ) (s : Status) (a : List ℕ) → IsChecked q bytes c s a → is_decided s ≡ true
  checked-decides q bytes c Accepted a h = refl
  checked-decides q bytes c (Rejected l r) a h = refl
  checked-decides q bytes c Secure a h = absurd h
  checked-decides q bytes c (Unproved u) a h = absurd h
  checked-decides q bytes c Made a h = absurd h
  checked-decides q bytes c Usage a h = absurd h
  checked-decides q bytes c (Refused y) a h = absurd h
  checked-decides q bytes c NoFile a h = absurd h
  checked-decides q bytes c ReadFault a h = absurd h
  checked-decides q bytes c WriteFault a h = absurd h
  checked-decides q bytes c NoMemory a h = absurd h

  module _ (one : OneInstance) (one_outcome : OneOutcome) (accepts : CertifiedIsAccepted) (q : Question) (bytes c : List ℕ) where
    accepted-accepted : (a b : List ℕ) → IsAcceptedCertificate q bytes c a → IsAcceptedCertificate q bytes c b → a ≡ b
    accepted-accepted a b h k =
        h.report
        ∙ ap accepted_report (certified-certified one q bytes one_outcome accepts c
        h.netlist k.netlist h.instance k.instance h.entries k.entries h.means k.means h.certified k.certified)
        ∙ sym k.report

    accepted-rejected : (l : ℕ) (r : Why) (a b : List ℕ) → IsAcceptedCertificate q bytes c a → IsRejectedCertificate q bytes c l r b → ⊥
    accepted-rejected l r a b h k =
        certified-faulty one q bytes one_outcome accepts c
        h.netlist k.netlist h.instance k.instance h.entries l r h.means k.means h.certified k.fault

    rejected-rejected : (l m : ℕ) (r u : Why) (a b : List ℕ) → IsRejectedCertificate q bytes c l r a → IsRejectedCertificate q bytes c m u b → (l ≡ m) × (r ≡ u)
    rejected-rejected l m r u a b h k =
        faulty-faulty one q bytes one_outcome accepts c
        h.netlist k.netlist h.instance k.instance l m r u h.means k.means h.fault k.fault

    pub checks : (s t : Status) (a b : List ℕ) → IsChecked q bytes c s a → IsChecked q bytes c t b → (s ≡ t) × (a ≡ b)
    checks Accepted Accepted a b h k = (refl, accepted-accepted a b h k)
    checks Accepted (Rejected l r) a b h k = absurd (accepted-rejected l r a b h k)
    checks (Rejected l r) Accepted a b h k = absurd (accepted-rejected l r b a k h)
    checks (Rejected l r) (Rejected m u) a b h k =
        let same = rejected-rejected l m r u a b h k in
        (λ i. Rejected (same.0 i) (same.1 i), h.report ∙ (λ i. rejected_report (same.0 i) (same.1 i)) ∙ sym k.report)
    checks Secure t a b h k = absurd h
    checks (Unproved u) t a b h k = absurd h
    checks Made t a b h k = absurd h
    checks Usage t a b h k = absurd h
    checks (Refused y) t a b h k = absurd h
    checks NoFile t a b h k = absurd h
    checks ReadFault t a b h k = absurd h
    checks WriteFault t a b h k = absurd h
    checks NoMemory t a b h k = absurd h
    checks s Secure a b h k = absurd k
    checks s (Unproved u) a b h k = absurd k
    checks s Made a b h k = absurd k
    checks s Usage a b h k = absurd k
    checks s (Refused y) a b h k = absurd k
    checks s NoFile a b h k = absurd k
    checks s ReadFault a b h k = absurd k
    checks s WriteFault a b h k = absurd k
    checks s NoMemory a b h k = absurd k

  -- ---- files

  module _ (one : OneInstance) (one_outcome : OneOutcome) (accepts : CertifiedIsAccepted) (disk : Disk) where
    verifies : (asked : VerifyRequest) (s t : Status) (a b : List ℕ) (f g : NewFile) → AnswersVerify (Some disk) asked s a f → AnswersVerify (Some disk) asked t b g → Same s t a b f g
    verifies asked s t a b f g (missing_netlist h) (missing_netlist k) = missing-missing (Some disk) asked.netlist s t a b f g h k
    verifies asked s t a b f g (missing_netlist h) (netlist y there k) = absurd (missing-there disk asked.netlist y h.missing there)
    verifies asked s t a b f g (netlist x there h) (missing_netlist k) = absurd (missing-there disk asked.netlist x k.missing there)
    verifies asked s t a b f g (netlist x there h) (netlist y here k) =
        let same = same-bytes disk asked.netlist x y there here in
        netlists one asked.question asked.certificate y s t a b f g (subst (λ v. AnswersNetlist asked.question asked.certificate v s a f) same h) k

    -- the netlist of a file is accepted, and refused
    module _ (asked : CheckRequest) where
      refused-accepted : (x y : List ℕ) (why : Refusal) (n : Netlist) → IsWhole asked.netlist (Some disk) x → IsWhole asked.netlist (Some disk) y
          → HasRefusal asked.question x why → IsAcceptedFor asked.question y n → ⊥
      refused-accepted x y why n there here due accepted =
          either asked.question y n why accepted
          (subst (λ v. HasRefusal asked.question v why) (same-bytes disk asked.netlist x y there here) due)

      refused-found : (x : List ℕ) (why : Refusal) → IsWhole asked.netlist (Some disk) x → HasRefusal asked.question x why
          → HasAccepted (Some disk) asked.netlist asked.question → ⊥
      refused-found x why there due h = refused-accepted x h.bytes why h.netlist there h.there due h.accepted

      refused-checked : (x y c : List ℕ) (why : Refusal) (s : Status) (a : List ℕ) → IsWhole asked.netlist (Some disk) x → IsWhole asked.netlist (Some disk) y
          → HasRefusal asked.question x why → IsChecked asked.question y c s a → ⊥
      refused-checked x y c why s a there here due h = let m = checked-means asked.question y c s a h in refused-accepted x y why m.0 there here due m.1

      two-refused : (x y : List ℕ) (why reason : Refusal) (s t : Status) (a b : List ℕ) (f g : NewFile) → IsWhole asked.netlist (Some disk) x → IsWhole asked.netlist (Some disk) y
          → HasRefusal asked.question x why → HasRefusal asked.question y reason
          → Refuses why s a f → Refuses reason t b g → Same s t a b f g
      two-refused x y why reason s t a b f g there here due other h k =
          let q = asked.question in
          let moved = subst (λ v. HasRefusal q v why) (same-bytes disk asked.netlist x y there here) due in
          let same = one_refusal q y why reason moved other in
          same-refusals reason s t a b f g (subst (λ r. Refuses r s a f) same h) k

      two-checked : (x y c d : List ℕ) (s t : Status) (a b : List ℕ) (f g : NewFile) → IsWhole asked.netlist (Some disk) x → IsWhole asked.netlist (Some disk) y
          → IsWhole asked.certificate (Some disk) c → IsWhole asked.certificate (Some disk) d → IsChecked asked.question x c s a → IsChecked asked.question y d t b
          → f ≡ None → g ≡ None → Same s t a b f g
      two-checked x y c d s t a b f g there here cert proof h k none absent =
          let bytes = same-bytes disk asked.netlist x y there here in
          let certs = same-bytes disk asked.certificate c d cert proof in
          let moved = subst (λ v. IsChecked asked.question v d s a) bytes (subst (λ v. IsChecked asked.question x v s a) certs h) in
          let same = checks one one_outcome accepts asked.question y d s t a b moved k in
          (same.0, same.1, none ∙ sym absent)

      checks-files : (s t : Status) (a b : List ℕ) (f g : NewFile) → AnswersCheck (Some disk) asked s a f → AnswersCheck (Some disk) asked t b g → Same s t a b f g
      checks-files s t a b f g (no_netlist h) (no_netlist k) = missing-missing (Some disk) asked.netlist s t a b f g h k
      checks-files s t a b f g (no_netlist h) (refused y why here due k) = absurd (missing-there disk asked.netlist y h.missing here)
      checks-files s t a b f g (no_netlist h) (no_certificate found k) = absurd (missing-there disk asked.netlist found.bytes h.missing found.there)
      checks-files s t a b f g (no_netlist h) (long_certificate found longer k) = absurd (missing-there disk asked.netlist found.bytes h.missing found.there)
      checks-files s t a b f g (no_netlist h) (checked y d here proof short k absent) = absurd (missing-there disk asked.netlist y h.missing here)
      checks-files s t a b f g (refused x why there due h) (no_netlist k) = absurd (missing-there disk asked.netlist x k.missing there)
      checks-files s t a b f g (refused x why there due h) (refused y reason here other k) = two-refused x y why reason s t a b f g there here due other h k
      checks-files s t a b f g (refused x why there due h) (no_certificate found k) = absurd (refused-found x why there due found)
      checks-files s t a b f g (refused x why there due h) (long_certificate found longer k) = absurd (refused-found x why there due found)
      checks-files s t a b f g (refused x why there due h) (checked y d here proof short k absent) = absurd (refused-checked x y d why t b there here due k)
      checks-files s t a b f g (no_certificate found h) (no_netlist k) = absurd (missing-there disk asked.netlist found.bytes k.missing found.there)
      checks-files s t a b f g (no_certificate found h) (refused y why here due k) = absurd (refused-found y why here due found)
      checks-files s t a b f g (no_certificate found h) (no_certificate other k) = missing-missing (Some disk) asked.certificate s t a b f g h k
      checks-files s t a b f g (no_certificate found h) (long_certificate other longer k) = absurd (missing-there disk asked.certificate longer.bytes h.missing longer.there)
      checks-files s t a b f g (no_certificate found h) (checked y d here proof short k absent) = absurd (missing-there disk asked.certificate d h.missing proof)
      checks-files s t a b f g (long_certificate found longer h) (no_netlist k) = absurd (missing-there disk asked.netlist found.bytes k.missing found.there)
      checks-files s t a b f g (long_certificate found longer h) (refused y why here due k) = absurd (refused-found y why here due found)
      checks-files s t a b f g (long_certificate found longer h) (no_certificate other k) = absurd (missing-there disk asked.certificate longer.bytes k.missing longer.there)
      checks-files s t a b f g (long_certificate found longer h) (long_certificate other beyond k) = same-refusals (Limit CertificateBytes) s t a b f g h k
      checks-files s t a b f g (long_certificate found longer h) (checked y d here proof short k absent) = absurd (long-short disk asked.certificate d most_certificate_bytes longer proof short)
      checks-files s t a b f g (checked x c there cert within h none) (no_netlist k) = absurd (missing-there disk asked.netlist x k.missing there)
      checks-files s t a b f g (checked x c there cert within h none) (refused y why here due k) = absurd (refused-checked y x c why s a here there due h)
      checks-files s t a b f g (checked x c there cert within h none) (no_certificate found k) = absurd (missing-there disk asked.certificate c k.missing cert)
      checks-files s t a b f g (checked x c there cert within h none) (long_certificate found longer k) = absurd (long-short disk asked.certificate c most_certificate_bytes longer cert within)
      checks-files s t a b f g (checked x c there cert within h none) (checked y d here proof short k absent) = two-checked x y c d s t a b f g there here cert proof h k none absent

    -- ---- requests

    one-for : (request : Request) (s t : Status) (a b : List ℕ) (f g : NewFile) → IsDueTo (Some disk) request s a f → IsDueTo (Some disk) request t b g → Same s t a b f g
    one-for (verify asked) s t a b f g h k = verifies asked s t a b f g h k
    one-for (check asked) s t a b f g h k = checks-files asked s t a b f g h k
    one-for (generate asked) s t a b f g h k = (h.status_is ∙ sym k.status_is, h.text_is ∙ sym k.text_is, h.no_file ∙ sym k.no_file)
    one-for (trial asked) s t a b f g h k = netlists one (trial_question asked.shares) None (gadget_text asked) s t a b f g h k

    pub one-due : OneCommand → (words : List (String Global)) (s t : Status) (a b : List ℕ) (f g : NewFile) → IsDue words (Some disk) s a f → IsDue words (Some disk) t b g → Same s t a b f g
    one-due one_command words s t a b f g (usage h) (usage k) = (h.status_is ∙ sym k.status_is, h.text_is ∙ sym k.text_is, h.no_file ∙ sym k.no_file)
    one-due one_command words s t a b f g (usage h) (answer request asks k) = absurd (h.not_taken request asks)
    one-due one_command words s t a b f g (answer request asks h) (usage k) = absurd (k.not_taken request asks)
    one-due one_command words s t a b f g (answer request asks h) (answer other means k) =
        one-for request s t a b f g h (due-for one_command words (Some disk) request t b g asks (answer other means k))

  -- ---- which netlists are decided

  found-verifies : (disk : Disk) (asked : VerifyRequest) (bytes : List ℕ) (n : Netlist) (s : Status) (a : List ℕ) (f : NewFile)
      → IsWhole asked.netlist (Some disk) bytes → IsAcceptedFor asked.question bytes n
      → (asked.certificate ≢ None → (c : List ℕ) → HasCertificate asked.question bytes c → length c ≤ most_certificate_bytes)
      → AnswersVerify (Some disk) asked s a f → is_decided s ≡ true
  found-verifies disk asked bytes n s a f there accepted short (missing_netlist h) = absurd (missing-there disk asked.netlist bytes h.missing there)
  found-verifies disk asked bytes n s a f there accepted short (netlist x here h) =
      netlist-decides asked.question asked.certificate bytes n s a f accepted short
      (subst (λ v. AnswersNetlist asked.question asked.certificate v s a f) (same-bytes disk asked.netlist x bytes here there) h)

  found-checks : (disk : Disk) (asked : CheckRequest) (bytes c : List ℕ) (n : Netlist) (s : Status) (a : List ℕ) (f : NewFile)
      → IsWhole asked.netlist (Some disk) bytes → IsAcceptedFor asked.question bytes n → IsWhole asked.certificate (Some disk) c → length c ≤ most_certificate_bytes
      → AnswersCheck (Some disk) asked s a f → is_decided s ≡ true
  found-checks disk asked bytes c n s a f there accepted cert short (no_netlist h) = absurd (missing-there disk asked.netlist bytes h.missing there)
  found-checks disk asked bytes c n s a f there accepted cert short (refused x why here due h) =
      let q = asked.question in
      absurd (either q bytes n why accepted (subst (λ v. HasRefusal q v why) (same-bytes disk asked.netlist x bytes here there) due))
  found-checks disk asked bytes c n s a f there accepted cert short (no_certificate found h) = absurd (missing-there disk asked.certificate c h.missing cert)
  found-checks disk asked bytes c n s a f there accepted cert short (long_certificate found longer h) = absurd (long-short disk asked.certificate c most_certificate_bytes longer cert short)
  found-checks disk asked bytes c n s a f there accepted cert short (checked x d here proof within h none) = checked-decides asked.question x d s a h

  pub decided : GadgetsAccepted → OneCommand → (words : List (String Global)) (disk : Option Disk) (s : Status) (a : List ℕ) (f : NewFile) → AskAboutAccepted words disk → IsDue words disk s a f → is_decided s ≡ true
  decided accepts one_command words disk s a f (to_verify asked asks finds) due =
      let found = finds.found in
      let answers = subst (λ d. AnswersVerify d asked s a f) found.tells (due-for one_command words disk (verify asked) s a f asks due) in
      found-verifies found.told asked found.bytes found.netlist s a f found.there found.accepted finds.short answers
  decided accepts one_command words disk s a f (to_check asked asks finds) due =
      let found = finds.found in
      let answers = subst (λ d. AnswersCheck d asked s a f) found.tells (due-for one_command words disk (check asked) s a f asks due) in
      found-checks found.told asked found.bytes finds.certificate found.netlist s a f found.there found.accepted finds.there finds.short answers
  decided accepts one_command words disk s a f (to_try g asks) due =
      let accepted = tried-accepted accepts words g asks in
      netlist-decides (trial_question g.shares) None (gadget_text g) accepted.0 s a f accepted.1 (λ asked. absurd (asked refl)) (due-for one_command words disk (trial g) s a f asks due)

  -- ---- what was written is accepted

  module _ (one : OneInstance) (one_outcome : OneOutcome) (accepts : CertifiedIsAccepted) (q : Question) (bytes c : List ℕ) where
    certificate-checks : HasCertificate q bytes c → (s : Status) (a : List ℕ) → IsChecked q bytes c s a → s ≡ Accepted
    certificate-checks has Accepted a h = refl
    certificate-checks has (Rejected l r) a h =
        absurd (certified-faulty one q bytes one_outcome accepts c
        has.netlist h.netlist has.instance h.instance (entries_of has.instance (tree_of has.instance q.order)) l r has.means h.means has.certified h.fault)
    certificate-checks has Secure a h = absurd h
    certificate-checks has (Unproved u) a h = absurd h
    certificate-checks has Made a h = absurd h
    certificate-checks has Usage a h = absurd h
    certificate-checks has (Refused y) a h = absurd h
    certificate-checks has NoFile a h = absurd h
    certificate-checks has ReadFault a h = absurd h
    certificate-checks has WriteFault a h = absurd h
    certificate-checks has NoMemory a h = absurd h

  -- the netlist of which a certificate was written
  pub record WasWritten (disk : Disk) (asked : VerifyRequest) (certificate : List ℕ) : Type 0 where
    pub bytes : List ℕ
    pub there : IsWhole asked.netlist (Some disk) bytes
    pub has : HasCertificate asked.question bytes certificate
    pub short : length certificate ≤ most_certificate_bytes

  netlist-written : (disk : Disk) (asked : VerifyRequest) (bytes : List ℕ) → IsWhole asked.netlist (Some disk) bytes → (s : Status) (a name certificate : List ℕ) (f : NewFile)
      → f ≡ Some (name, certificate) → AnswersNetlist asked.question asked.certificate bytes s a f → WasWritten disk asked certificate
  netlist-written disk asked bytes there s a name certificate f is (plain h) = absurd (no-file-there name certificate f h.no_file is)
  netlist-written disk asked bytes there s a name certificate f is (too_long h) = absurd (no-file-there name certificate f h.refuses.no_file is)
  netlist-written disk asked bytes there s a name certificate f is (kept h) =
      let same = same-certificate h.name name h.certificate certificate f h.file_is is in
      record {
        bytes = bytes;
        there = there;
        has = subst (HasCertificate asked.question bytes) same h.owes.certificate_is;
        short = subst (λ (c : List ℕ). length c ≤ most_certificate_bytes) same h.short;
      }

  was-written : (disk : Disk) (asked : VerifyRequest) (s : Status) (a name certificate : List ℕ) (f : NewFile) → f ≡ Some (name, certificate)
      → AnswersVerify (Some disk) asked s a f → WasWritten disk asked certificate
  was-written disk asked s a name certificate f is (missing_netlist h) = absurd (no-file-there name certificate f h.no_file is)
  was-written disk asked s a name certificate f is (netlist bytes there h) = netlist-written disk asked bytes there s a name certificate f is h

  module _ (one : OneInstance) (one_outcome : OneOutcome) (accepts : CertifiedIsAccepted) (later : Disk) (asked : CheckRequest) (bytes c : List ℕ)
      (there : IsWhole asked.netlist (Some later) bytes) (cert : IsWhole asked.certificate (Some later) c) (short : length c ≤ most_certificate_bytes)
      (has : HasCertificate asked.question bytes c) where
    written-checks : (s : Status) (a : List ℕ) (f : NewFile) → AnswersCheck (Some later) asked s a f → s ≡ Accepted
    written-checks s a f (no_netlist h) = absurd (missing-there later asked.netlist bytes h.missing there)
    written-checks s a f (refused x why here due h) =
        let q = asked.question in
        absurd (either q bytes has.netlist why has.means.accepted
        (subst (λ v. HasRefusal q v why) (same-bytes later asked.netlist x bytes here there) due))
    written-checks s a f (no_certificate found h) = absurd (missing-there later asked.certificate c h.missing cert)
    written-checks s a f (long_certificate found longer h) = absurd (long-short later asked.certificate c most_certificate_bytes longer cert short)
    written-checks s a f (checked x d here proof within h none) =
        let moved = subst (λ v. IsChecked asked.question v c s a) (same-bytes later asked.netlist x bytes here there)
        (subst (λ v. IsChecked asked.question x v s a) (same-bytes later asked.certificate d c proof cert) h) in
        certificate-checks one one_outcome accepts asked.question bytes c has s a moved

  pub written-accepted : OneInstance → OneOutcome → CertifiedIsAccepted → OneCommand → (words others : List (String Global)) (disk later : Disk) (s : Status) (a : List ℕ) (f : NewFile)
      → ChecksWhatWasWritten words others disk later → IsDue others (Some later) s a f → s ≡ Accepted
  written-accepted one one_outcome accepts one_command words others disk later s a f w due =
      let answers = due-for one_command words (Some disk) (verify w.asked) Secure w.report (Some (w.name, w.certificate)) w.asks w.due in
      let was = was-written disk w.asked Secure w.report w.name w.certificate (Some (w.name, w.certificate)) refl answers in
      written-checks one one_outcome accepts later w.checked was.bytes w.certificate (w.same_netlist ∙ was.there) w.same_certificate was.short
      (subst (λ (q : Question). HasCertificate q was.bytes w.certificate) (sym w.same_question) was.has)
      s a f (due-for one_command others (Some later) (check w.checked) s a f w.checks due)

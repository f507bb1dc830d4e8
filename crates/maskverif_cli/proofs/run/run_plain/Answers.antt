use Rattle.std.proofs.Common.{◌≡◌, Bool, true, refl, subst, ⊎_elim}
use Rattle.std.specs.declared.option.Option.{Option}
use Rattle.mv_files.specs.Disk.{Disk}
use Rattle.maskverif_cli.specs.declared.status.Status.{Status}
use Rattle.maskverif_cli.specs.declared.status.Status.TheVariants.{Secure, Accepted, Unproved, Rejected, Made, Usage, Refused, NoFile, ReadFault, WriteFault, NoMemory}
use Rattle.maskverif_cli.specs.Answer.{IsDue, is_answer, is_decided, is_made}
use Rattle.maskverif_cli.proofs.Ending.{makes-nothing, reads-nothing}
use Rattle.maskverif_cli.proofs.run.run_plain.Goals as goal

pub returns-clause-only : goal.returns-clause-only
returns-clause-only g c disk due text file told answered is_due =
    let answer = c.run_command.ensures.answer answered in
    let here = subst (λ (d : Option Disk). IsDue c.args.words.now d c.run_command.result answer.text answer.file) told answer.due in
    (c.one_answer_is_due.ensures c.args.words.now disk c.run_command.result due answer.text text answer.file file here is_due).0

-- an answer where nothing failed, a fault, or want of memory
by_status : (passes : Status → Bool) → passes NoMemory ≡ true → (status : Status) → (is_answer status ≡ true → passes status ≡ true)
    → (status ≡ ReadFault → ⊥) → (status ≡ WriteFault → ⊥) → passes status ≡ true
by_status passes none ReadFault answer read write = absurd (read refl)
by_status passes none WriteFault answer read write = absurd (write refl)
by_status passes none NoMemory answer read write = none
by_status passes none Secure answer read write = answer refl
by_status passes none Accepted answer read write = answer refl
by_status passes none (Unproved tuple) answer read write = answer refl
by_status passes none (Rejected line why) answer read write = answer refl
by_status passes none Made answer read write = answer refl
by_status passes none Usage answer read write = answer refl
by_status passes none (Refused why) answer read write = answer refl
by_status passes none NoFile answer read write = answer refl

pub returns-clause-complete : goal.returns-clause-complete
returns-clause-complete g c asked no_read_fault no_write_fault no_sink_fault =
    let ensures = c.run_command.ensures in
    by_status is_decided refl c.run_command.result
    (λ answered. let answer = ensures.answer answered in
    c.accepted_is_decided.ensures c.args.words.now (g.F.Files.disk c.args.files.now) c.run_command.result answer.text answer.file asked answer.due)
    (λ fault. no_read_fault (ensures.read_fault fault).counted)
    (λ fault. ⊎_elim (λ keeping. no_write_fault keeping.counted) (λ sending. no_sink_fault sending.counted) (ensures.write_fault fault).fails)

pub returns-clause-made : goal.returns-clause-made
returns-clause-made g c asked no_sink_fault =
    let ensures = c.run_command.ensures in
    by_status is_made refl c.run_command.result
    (λ answered. let answer = ensures.answer answered in
    c.gadget_is_made.ensures c.args.words.now (g.F.Files.disk c.args.files.now) c.run_command.result answer.text answer.file asked answer.due)
    (λ fault. reads-nothing c.one_command.ensures c.args.words.now _ _ asked (ensures.read_fault fault))
    (λ fault. ⊎_elim
    (λ keeping. makes-nothing c.one_command.ensures c.args.words.now _ _ asked (ensures.write_fault fault).due keeping)
    (λ sending. no_sink_fault sending.counted)
    (ensures.write_fault fault).fails)

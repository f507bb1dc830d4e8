-- How the command ends, from what its parts ended with.
use Rattle.std.proofs.Common.{◌≡◌, ◌≢◌, ℕ, true, false, List, Option, Some, None, Result, Ok, Err, refl, sym, ap, ◌∙◌, subst, ⊎_elim, inl, inr}
use Rattle.std.specs.declared.string.String.{String}
use Rattle.std.specs.declared.alloc.Global.{Global}
use Rattle.mv_files.specs.Counts.{Rose}
use Rattle.mv_files.specs.Disk.{Disk, Holds, HoldsFirst, HoldsPart, SameFiles}
use Rattle.mv_files.specs.Told.{WhereTold}
use Rattle.mv_files.specs.Sending.{Adds}
use Rattle.mv_files.proofs.ToldLemmas.{told_same, told_then}
use Rattle.command_words.specs.Commands.{Request, generate}
use Rattle.command_words.specs.Names.{texts}
use Rattle.maskverif_cli.specs.declared.reply.Halt.{Halt}
use Rattle.maskverif_cli.specs.declared.reply.Halt.TheVariants as halt
use Rattle.maskverif_cli.specs.declared.reply.Reply.{Reply}
use Rattle.maskverif_cli.specs.declared.status.Status.{Status}
use Rattle.maskverif_cli.specs.declared.status.Status.TheVariants.{ReadFault, WriteFault, NoMemory}
use Rattle.maskverif_cli.specs.Answer.{Ask, AskForGadget, IsDue, IsDueTo, NewFile, answer, is_answer}
use Rattle.maskverif_cli.specs.Run.{KeepFails, Outside, ReadFails, Runs, SendFails, Stores, reads_files}
use Rattle.maskverif_cli.specs.Reply.{Breaks, Concludes, CountsHalt, CountsReads, Delivers, Ends, Finishes, Halts, IsWritten, Rests, new_file}
use Rattle.maskverif_cli.proofs.Asked.{OneCommand}
use Rattle.maskverif_cli.proofs.Before.{same-file}
use Rattle.maskverif_cli.proofs.OneAnswer.{makes-no-file}
use Rattle.maskverif_cli.proofs.Replies.{due-answer}

-- ---- files that were read

holds-after : (name bytes : List ℕ) (a b c : Disk) → SameFiles a b → Holds name bytes b c → Holds name bytes a c
holds-after name bytes a b c same h = record { named = h.named; others = λ other differs. h.others other differs ∙ same-file other a b same.files }

pub stores-after : (file : NewFile) (a b c : Disk) → SameFiles a b → Stores file b c → Stores file a c
stores-after None a b c same h = record { files = h.files ∙ same.files }
stores-after (Some file) a b c same h = holds-after file.0 file.1 a b c same h

part-after : (name bytes : List ℕ) (a b c : Disk) → SameFiles a b → HoldsPart name bytes b c → HoldsPart name bytes a c
part-after name bytes a b c same h =
    ⊎_elim
    (λ (k : SameFiles b c). inl (record { files = k.files ∙ same.files }))
    (λ (k : HoldsFirst name bytes b c). inr (record {
      written = k.written;
      unwritten = k.unwritten;
      parts = k.parts;
      some_unwritten = k.some_unwritten;
      holds = holds-after name k.written a b c same k.holds;
    }))
    h

pub same-then : (a b c : Option Disk) → WhereTold SameFiles a b → WhereTold SameFiles b c → WhereTold SameFiles a c
same-then a b c = told_then SameFiles SameFiles SameFiles (λ x y z p q. record { files = q.files ∙ p.files }) a b c

pub same-files : (a b : Option Disk) → b ≡ a → WhereTold SameFiles a b
same-files a b same = told_same SameFiles (λ (d : Disk). record { files = refl }) a b same

-- what the files and the sink tell after files were read
pub record IsRead (old new : Outside) : Type 0 where
  pub files : WhereTold SameFiles old.disk new.disk
  pub written : new.written ≡ old.written
  pub writes : new.write_faults ≡ old.write_faults
  pub sends : new.sink_faults ≡ old.sink_faults

-- ---- what is due is delivered

is_no_fault : (status fault : Status) → is_answer status ≡ true → is_answer fault ≡ false → status ≢ fault
is_no_fault status fault answered not_answered same = let wrong : true ≡ false = sym answered ∙ ap is_answer same ∙ not_answered in cc

module _ (words : List (String Global)) (old mid new : Outside) (read : IsRead old mid) (reads : mid.read_faults ≡ old.read_faults) where
  stored : (file : NewFile) → WhereTold (Stores file) mid.disk new.disk → WhereTold (Stores file) old.disk new.disk
  stored file h = told_then SameFiles (Stores file) (Stores file) (stores-after file) old.disk mid.disk new.disk read.files h

  sent-after : (text : List ℕ) → WhereTold (Adds text) mid.written new.written → WhereTold (Adds text) old.written new.written
  sent-after text h = subst (λ w. WhereTold (Adds text) w new.written) read.written h

  keep-after : (file : NewFile) → KeepFails file mid new → KeepFails file old new
  keep-after file k = record {
    name = k.name;
    bytes = k.bytes;
    file_is = k.file_is;
    counted = subst (λ n. Rose n new.write_faults) read.writes k.counted;
    part = told_then SameFiles (HoldsPart k.name k.bytes) (HoldsPart k.name k.bytes) (part-after k.name k.bytes) old.disk mid.disk new.disk read.files k.part;
    unwritten = k.unwritten ∙ read.written;
    sends = k.sends ∙ read.sends;
  }

  send-after : (text : List ℕ) (file : NewFile) → SendFails text file mid new → SendFails text file old new
  send-after text file k = record {
    counted = subst (λ n. Rose n new.sink_faults) read.sends k.counted;
    part = record {
      sent = k.part.sent;
      unsent = k.part.unsent;
      parts = k.part.parts;
      some_unsent = k.part.some_unsent;
      added = subst (λ w. WhereTold (Adds k.part.sent) w new.written) read.written k.part.added;
    };
    stored = stored file k.stored;
    writes = k.writes ∙ read.writes;
  }

  pub delivered : (status result : Status) (text : List ℕ) (file : NewFile) → IsDue words old.disk status text file → is_answer status ≡ true
      → Delivers status text file mid new result → Runs words old new result
  delivered status result text file due answered ends =
      ⊎_elim
      (λ whole. let all : IsWritten text file mid new = whole.1 in
      subst (Runs words old new) (sym whole.0) (record {
        answer = λ _. record { text = text; file = file; due = due; written = sent-after text all.written; stored = stored file all.stored };
        read_fault = λ fault. absurd (is_no_fault status ReadFault answered refl fault);
        write_fault = λ fault. absurd (is_no_fault status WriteFault answered refl fault);
        no_memory = λ none. absurd (is_no_fault status NoMemory answered refl none);
        faultless = record { reads = λ _. ends.reads ∙ reads; writes = λ _. all.writes ∙ read.writes; sends = λ _. all.sends ∙ read.sends };
      }))
      (λ broke. subst (Runs words old new) (sym broke.0) (record {
        answer = λ wrong. cc;
        read_fault = λ wrong. cc;
        write_fault = λ _. record {
          status = status;
          text = text;
          file = file;
          due = due;
          fails = ⊎_elim (λ (k : KeepFails file mid new). inl (keep-after file k)) (λ (k : SendFails text file mid new). inr (send-after text file k)) broke.1;
        };
        no_memory = λ wrong. cc;
        faultless = record { reads = λ _. ends.reads ∙ reads; writes = λ other. absurd (other refl); sends = λ other. absurd (other refl) };
      }))
      ends.ends

module _ (words : List (String Global)) (old mid new : Outside) (read : IsRead old mid) where
  rest-files : Rests mid new → WhereTold SameFiles old.disk new.disk
  rest-files rests = same-then old.disk mid.disk new.disk read.files (same-files mid.disk new.disk rests.disk)

  -- a command was answered, and went no further
  halted : (request : Request) → Ask words request → (wish : Option (List ℕ)) (h : Halt) (result : Status)
      → Halts (IsDueTo old.disk request) wish (reads_files request ≡ true) h → CountsHalt old.read_faults mid.read_faults h
      → Concludes wish (Err h) mid new result → Runs words old new result
  halted request asks wish (halt.Due r) result due counts ends =
      delivered words old mid new read counts r.status result r.text.items (new_file wish r.certificate) (answer request asks due)
      (due-answer old.disk request r.status r.text.items (new_file wish r.certificate) due) ends
  halted request asks wish halt.ReadFault result reads counts ends =
      let rests = ends.1 in
      subst (Runs words old new) (sym ends.0) (record {
        answer = λ wrong. cc;
        read_fault = λ _. record {
          request = request;
          asks = asks;
          reads = reads;
          counted = subst (λ n. Rose old.read_faults n) (sym rests.reads) counts;
          untouched = record { written = rests.written ∙ read.written; files = rest-files rests };
        };
        write_fault = λ wrong. cc;
        no_memory = λ wrong. cc;
        faultless = record { reads = λ other. absurd (other refl); writes = λ _. rests.writes ∙ read.writes; sends = λ _. rests.sends ∙ read.sends };
      })
  halted request asks wish halt.NoMemory result none counts ends =
      let rests = ends.1 in
      subst (Runs words old new) (sym ends.0) (record {
        answer = λ wrong. cc;
        read_fault = λ wrong. cc;
        write_fault = λ wrong. cc;
        no_memory = λ _. record { written = rests.written ∙ read.written; files = rest-files rests };
        faultless = record { reads = λ _. rests.reads ∙ counts; writes = λ _. rests.writes ∙ read.writes; sends = λ _. rests.sends ∙ read.sends };
      })

  -- a command was answered
  pub concluded : (request : Request) → Ask words request → (wish : Option (List ℕ)) (e : Result Reply Halt) (result : Status)
      → Ends (IsDueTo old.disk request) wish (reads_files request ≡ true) e → CountsReads old.read_faults mid.read_faults e
      → Concludes wish e mid new result → Runs words old new result
  concluded request asks wish (Ok r) result due counts ends =
      delivered words old mid new read counts r.status result r.text.items (new_file wish r.certificate) (answer request asks due)
      (due-answer old.disk request r.status r.text.items (new_file wish r.certificate) due) ends
  concluded request asks wish (Err h) result due counts ends = halted request asks wish h result due counts ends

-- nothing was read
pub unread : (old : Outside) → IsRead old old
unread old = record { files = same-files old.disk old.disk refl; written = refl; writes = refl; sends = refl }

pub no-reads : (P : Status → List ℕ → NewFile → Type 0) (wish : Option (List ℕ)) (n : ℕ) (e : Result Reply Halt) → Ends P wish ⊥ e → CountsReads n n e
no-reads P wish n (Ok r) h = refl
no-reads P wish n (Err (halt.Due r)) h = refl
no-reads P wish n (Err halt.ReadFault) h = absurd h
no-reads P wish n (Err halt.NoMemory) h = refl

-- a text was sent where no file was due
pub sends-alone : (text : List ℕ) (status result : Status) (old new : Outside) → new.disk ≡ old.disk → new.read_faults ≡ old.read_faults → new.write_faults ≡ old.write_faults
    → Finishes text status old.written new.written old.sink_faults new.sink_faults result → Delivers status text None old new result
sends-alone text status result old new disk reads writes ends = record {
  reads = reads;
  ends = ⊎_elim
      (λ whole. inl (whole.0, record { written = whole.1; stored = same-files old.disk new.disk disk; writes = writes; sends = whole.2 }))
      (λ broke. inr (broke.0, inr (record { counted = broke.2; part = broke.1; stored = same-files old.disk new.disk disk; writes = writes })))
      ends;
}

-- the file was written, and then the text was sent
pub sends-behind : (text : List ℕ) (file : NewFile) (status result : Status) (old mid new : Outside) → WhereTold (Stores file) old.disk mid.disk → mid.write_faults ≡ old.write_faults
    → mid.read_faults ≡ old.read_faults → mid.written ≡ old.written → mid.sink_faults ≡ old.sink_faults
    → new.disk ≡ mid.disk → new.read_faults ≡ mid.read_faults → new.write_faults ≡ mid.write_faults
    → Finishes text status mid.written new.written mid.sink_faults new.sink_faults result → Delivers status text file old new result
sends-behind text file status result old mid new stored writes reads written sends disk then_reads then_writes ends =
    let there = subst (λ d. WhereTold (Stores file) old.disk d) (sym disk) stored in
    record {
      reads = then_reads ∙ reads;
      ends = ⊎_elim
          (λ whole. inl (
            whole.0,
            record {
              written = subst (λ w. WhereTold (Adds text) w new.written) written whole.1;
              stored = there;
              writes = then_writes ∙ writes;
              sends = whole.2 ∙ sends;
            },
          ))
          (λ broke. inr (
            broke.0,
            inr (record {
              counted = subst (λ n. Rose n new.sink_faults) sends broke.2;
              part = record {
                sent = broke.1.sent;
                unsent = broke.1.unsent;
                parts = broke.1.parts;
                some_unsent = broke.1.some_unsent;
                added = subst (λ w. WhereTold (Adds broke.1.sent) w new.written) written broke.1.added;
              };
              stored = there;
              writes = then_writes ∙ writes;
            }),
          ))
          ends;
    }

-- the text that was sent is this one
pub sends-this : (text sent : List ℕ) (status result : Status) (old new : Option (List ℕ)) (old_faults new_faults : ℕ) → sent ≡ text
    → Finishes sent status old new old_faults new_faults result → Finishes text status old new old_faults new_faults result
sends-this text sent status result old new old_faults new_faults same ends =
    subst (λ (t : List ℕ). Finishes t status old new old_faults new_faults result) same ends

-- the writing of the file failed
pub breaks-file : (text : List ℕ) (file : NewFile) (status : Status) (old new : Outside) → new.read_faults ≡ old.read_faults → new.written ≡ old.written → new.sink_faults ≡ old.sink_faults
    → Breaks file old.disk new.disk old.write_faults new.write_faults → Delivers status text file old new WriteFault
breaks-file text file status old new reads written sends b = record {
  reads = reads;
  ends = inr (
    refl,
    inl (record {
      name = b.name;
      bytes = b.bytes;
      file_is = b.file_is;
      counted = b.counted;
      part = b.part;
      unwritten = written;
      sends = sends;
    }),
  );
}

-- ---- words that ask for a gadget

-- they ask for nothing that reads files
pub reads-nothing : OneCommand → (words : List (String Global)) (old new : Outside) → AskForGadget words → ReadFails words old new → ⊥
reads-nothing one words old new asked h =
    let same = one (texts words) h.request (generate asked.asked) h.asks asked.asks in
    let wrong : true ≡ false = sym h.reads ∙ ap reads_files same in
    cc

-- nor for a file
pub makes-nothing : OneCommand → (words : List (String Global)) (old new : Outside) → AskForGadget words → {disk : Option Disk} {status : Status} {text : List ℕ} {file : NewFile}
    → IsDue words disk status text file → KeepFails file old new → ⊥
makes-nothing one words old new asked {disk} {status} {text} {file} due h =
    let none = makes-no-file one words disk status text file asked.asked asked.asks due in
    let wrong : None ≡ Some (h.name, h.bytes) = sym none ∙ h.file_is in
    cc

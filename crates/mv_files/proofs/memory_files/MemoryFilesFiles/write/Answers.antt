use Rattle.std.proofs.Common.{◌≡◌, ℕ, true, false, ◌++◌, get_or, set, length, take, min, sym, ap, ◌∙◌}
use Rattle.std.proofs.lemmas.List.{get_or_read}
use Rattle.mv_files.specs.Calls.{is_failing, after_call}
use Rattle.mv_files.specs.Counts.{counted}
use Rattle.mv_files.specs.StoredFile.{Stored, no_file}
use Rattle.mv_files.specs.MemoryFiles.{FilesState, room_left, write_fails, taken_of, appended}
use Rattle.mv_files.specs.FileList.{disk_of, bytes_at}
use Rattle.mv_files.proofs.Writing.{WritesTo, writes_to, room_is, either_fails, goes_on, fault_answer, fault_state, taken_answer, taken_state, same_state, appended_is, appends_is}
use Rattle.mv_files.proofs.memory_files.MemoryFilesFiles.write.Goals as goal

pub returns-then-fails-clause-answer : goal.returns-then-fails-clause-answer
returns-then-fails-clause-answer c =
    let m = c.args.self.now in
    let files = c.self.inside.files.items in
    let to : WritesTo m files c.in-Writing.file = writes_to m files c.self.inside.room c.in-Writing.file c.self.inside.open c.in-Writing.is c.self.invariant.open_file (ap (λ (s : FilesState). s.room) c.self.view_is) (ap (λ (s : FilesState). s.disk) c.self.view_is) in
    let left_is : c.room_left-left.result ≡ room_left m = room_is m files c.in-Writing.file to c.index.result.now c.room_left-left.result (get_or_read files _ _ to.can.there c.index.ensures no_file) c.room_left-left.ensures in
    let failing : c.fails-fails.result ≡ is_failing m.calls = c.fails-fails.ensures.answer ∙ ap (λ (s : FilesState). is_failing s.calls) c.self.view_is in
    let fails : write_fails m ≡ true = either_fails c.args.bytes.now m c.fails-fails.result c.room_left-left.result failing left_is c.then-fails.either in
    fault_answer c.args.bytes.now m fails

pub returns-then-fails-clause-state : goal.returns-then-fails-clause-state
returns-then-fails-clause-state c =
    let m = c.args.self.now in
    let files = c.self.inside.files.items in
    let to : WritesTo m files c.in-Writing.file = writes_to m files c.self.inside.room c.in-Writing.file c.self.inside.open c.in-Writing.is c.self.invariant.open_file (ap (λ (s : FilesState). s.room) c.self.view_is) (ap (λ (s : FilesState). s.disk) c.self.view_is) in
    let left_is : c.room_left-left.result ≡ room_left m = room_is m files c.in-Writing.file to c.index.result.now c.room_left-left.result (get_or_read files _ _ to.can.there c.index.ensures no_file) c.room_left-left.ensures in
    let failing : c.fails-fails.result ≡ is_failing m.calls = c.fails-fails.ensures.answer ∙ ap (λ (s : FilesState). is_failing s.calls) c.self.view_is in
    let fails : write_fails m ≡ true = either_fails c.args.bytes.now m c.fails-fails.result c.room_left-left.result failing left_is c.then-fails.either in
    let calls : c.fails-fails.new.self ≡ after_call m.calls = c.fails-fails.ensures.counts ∙ ap (λ (s : FilesState). after_call s.calls) c.self.view_is in
    let faults : c.saturating_add-self-inside.result ≡ counted m.write_faults = c.saturating_add-self-inside.ensures ∙ ap (λ (s : FilesState). counted s.write_faults) c.self.view_is in
    same_state _ _ _ _ _ _ _ _ _ _ _ _ _ _ (ap (λ (s : FilesState). s.disk) c.self.view_is) (ap (λ (s : FilesState). s.piece) c.self.view_is) (ap (λ (s : FilesState). s.room) c.self.view_is)
    (ap (λ (s : FilesState). s.makes) c.self.view_is) calls (ap (λ (s : FilesState). s.read_faults) c.self.view_is) faults
    ∙ fault_state c.args.bytes.now m fails

pub returns-clause-answer : goal.returns-clause-answer
returns-clause-answer c =
    let m = c.args.self.now in
    let files = c.self.inside.files.items in
    let to : WritesTo m files c.in-Writing.file = writes_to m files c.self.inside.room c.in-Writing.file c.self.inside.open c.in-Writing.is c.self.invariant.open_file (ap (λ (s : FilesState). s.room) c.self.view_is) (ap (λ (s : FilesState). s.disk) c.self.view_is) in
    let left_is : c.room_left-left.result ≡ room_left m = room_is m files c.in-Writing.file to c.index.result.now c.room_left-left.result (get_or_read files _ _ to.can.there c.index.ensures no_file) c.room_left-left.ensures in
    let failing : c.fails-fails.result ≡ is_failing m.calls = c.fails-fails.ensures.answer ∙ ap (λ (s : FilesState). is_failing s.calls) c.self.view_is in
    let goes : write_fails m ≡ false = goes_on c.args.bytes.now m c.room_left-left.result (sym failing ∙ c.if-fails.false) c.if-left-eq0.false left_is in
    let taken : c.min-taken.result ≡ taken_of c.args.bytes.now m =
    c.min-taken.ensures ∙ ap (λ (n : ℕ). min n c.room_left-left.result) (c.min.ensures ∙ ap (λ (s : FilesState). min s.piece (length c.args.bytes.now)) c.self.view_is) ∙ ap (min (min m.piece (length c.args.bytes.now))) left_is in
    taken_answer c.args.bytes.now m c.min-taken.result taken goes

pub returns-clause-state : goal.returns-clause-state
returns-clause-state c =
    let m = c.args.self.now in
    let files = c.self.inside.files.items in
    let to : WritesTo m files c.in-Writing.file = writes_to m files c.self.inside.room c.in-Writing.file c.self.inside.open c.in-Writing.is c.self.invariant.open_file (ap (λ (s : FilesState). s.room) c.self.view_is) (ap (λ (s : FilesState). s.disk) c.self.view_is) in
    let left_is : c.room_left-left.result ≡ room_left m = room_is m files c.in-Writing.file to c.index.result.now c.room_left-left.result (get_or_read files _ _ to.can.there c.index.ensures no_file) c.room_left-left.ensures in
    let failing : c.fails-fails.result ≡ is_failing m.calls = c.fails-fails.ensures.answer ∙ ap (λ (s : FilesState). is_failing s.calls) c.self.view_is in
    let goes : write_fails m ≡ false = goes_on c.args.bytes.now m c.room_left-left.result (sym failing ∙ c.if-fails.false) c.if-left-eq0.false left_is in
    let taken : c.min-taken.result ≡ taken_of c.args.bytes.now m =
    c.min-taken.ensures ∙ ap (λ (n : ℕ). min n c.room_left-left.result) (c.min.ensures ∙ ap (λ (s : FilesState). min s.piece (length c.args.bytes.now)) c.self.view_is) ∙ ap (min (min m.piece (length c.args.bytes.now))) left_is in
    let more = take c.min-taken.result c.args.bytes.now in
    let item : c.index_mut-stored.result.now ≡ get_or files c.in-Writing.file no_file = get_or_read files _ _ to.can.there c.index_mut-stored.ensures.value no_file in
    let grown : c.append.new.self ≡ record (get_or files c.in-Writing.file no_file) { bytes = bytes_at files c.in-Writing.file ++ more } = c.append.ensures ∙ ap (λ (f : Stored). record f { bytes = f.bytes ++ more }) item in
    let told : disk_of (set files c.in-Writing.file c.append.new.self) c.self.inside.open ≡ appended more m.disk =
    ap (disk_of (set files c.in-Writing.file c.append.new.self)) c.in-Writing.is ∙ appended_is files m.room c.in-Writing.file to.can more c.append.new.self grown ∙ ap (appended more) (sym to.disk) in
    let calls : c.fails-fails.new.self ≡ after_call m.calls = c.fails-fails.ensures.counts ∙ ap (λ (s : FilesState). after_call s.calls) c.self.view_is in
    same_state _ _ _ _ _ _ _ _ _ _ _ _ _ _ (told ∙ ap (λ (n : ℕ). appended (take n c.args.bytes.now) m.disk) taken) (ap (λ (s : FilesState). s.piece) c.self.view_is) (ap (λ (s : FilesState). s.room) c.self.view_is)
    (ap (λ (s : FilesState). s.makes) c.self.view_is) calls (ap (λ (s : FilesState). s.read_faults) c.self.view_is) (ap (λ (s : FilesState). s.write_faults) c.self.view_is)
    ∙ taken_state c.args.bytes.now m goes

pub returns-clause-writes : goal.returns-clause-writes
returns-clause-writes c =
    let m = c.args.self.now in
    let files = c.self.inside.files.items in
    let to : WritesTo m files c.in-Writing.file = writes_to m files c.self.inside.room c.in-Writing.file c.self.inside.open c.in-Writing.is c.self.invariant.open_file (ap (λ (s : FilesState). s.room) c.self.view_is) (ap (λ (s : FilesState). s.disk) c.self.view_is) in
    let more = take c.min-taken.result c.args.bytes.now in
    let item : c.index_mut-stored.result.now ≡ get_or files c.in-Writing.file no_file = get_or_read files _ _ to.can.there c.index_mut-stored.ensures.value no_file in
    let grown : c.append.new.self ≡ record (get_or files c.in-Writing.file no_file) { bytes = bytes_at files c.in-Writing.file ++ more } = c.append.ensures ∙ ap (λ (f : Stored). record f { bytes = f.bytes ++ more }) item in
    let told : disk_of (set files c.in-Writing.file c.append.new.self) c.self.inside.open ≡ appended more m.disk =
    ap (disk_of (set files c.in-Writing.file c.append.new.self)) c.in-Writing.is ∙ appended_is files m.room c.in-Writing.file to.can more c.append.new.self grown ∙ ap (appended more) (sym to.disk) in
    appends_is files m.room c.in-Writing.file to.can more m.disk (disk_of (set files c.in-Writing.file c.append.new.self) c.self.inside.open) to.disk told

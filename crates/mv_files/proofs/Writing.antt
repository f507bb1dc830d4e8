-- Creating a file in memory, and writing to it.
use Rattle.std.proofs.Common.{◌≡◌, ◌≢◌, ℕ, ◌-◌, ◌<◌, Bool, true, false, ◌||◌, ◌⊎◌, inl, inr, cond, eqb, List, [], ◌++◌, map, set, get_or, length, take, Option, None, Some, unwrap_or, refl, sym, ap, ◌∙◌, subst, arith, get_or-set_same}
use Rattle.std.proofs.lemmas.Bool.Decides.{nat_tests}
use Rattle.std.specs.Map.{lookup}
use Rattle.std.specs.Str.{bytes_eq}
use Rattle.mv_files.specs.Counts.{counted}
use Rattle.mv_files.specs.Calls.{CallCount, is_failing, after_call}
use Rattle.mv_files.specs.Disk.{Disk, file_of, Holds, Creates, Appends}
use Rattle.mv_files.specs.StoredFile.{Stored, told_of, no_file}
use Rattle.mv_files.specs.MemoryFiles.{FilesState, put, room_left, write_fails, taken_of, write_answer, after_write, appended, written_of, created_name}
use Rattle.mv_files.specs.FileList.{place_of, bytes_at, name_at, IsAt, CanWrite, IsOpenIn, disk_of}
use Rattle.mv_files.specs.declared.memory_files.Open.{Open}
use Rattle.mv_files.specs.declared.memory_files.Open.TheVariants.{Writing}
use Rattle.mv_files.proofs.Places.{found, put_here, put_named, put_other}

-- a list in which one file was put holds it, and the others as they were
pub holds_put : (name bytes : List ℕ) (old new : Disk) → new.files ≡ put name bytes old.files → Holds name bytes old new
holds_put name bytes old new e = record {
  named = ap (lookup (bytes_eq name)) e ∙ put_named name bytes old.files;
  others = λ other apart. ap (lookup (bytes_eq other)) e ∙ put_other name bytes other apart old.files;
}

-- an empty file was put
pub creates_put : (name : List ℕ) (room place : ℕ) (file : Stored) (new : List Stored) (old : Disk) → file ≡ record { name = name; bytes = []; room = room } → map told_of new ≡ put file.name file.bytes old.files → get_or new place no_file ≡ file
    → Creates name old (disk_of new (Writing place))
creates_put name room place file new old e files placed = record {
  holds = holds_put name [] old (disk_of new (Writing place)) (files ∙ ap (λ (f : Stored). put f.name f.bytes old.files) e);
  left = refl;
  created = ap (λ (f : Stored). Some f.name) (placed ∙ e);
}

-- the file that is written to

can_write : (files : List Stored) (room file : ℕ) (opened : Open) → opened ≡ Writing file → IsOpenIn files room opened → CanWrite files room file
can_write files room file opened e h = subst (λ (o : Open). IsOpenIn files room o) e h

module _ (files : List Stored) (room file : ℕ) (can : CanWrite files room file) where
  pub at_written : IsAt (name_at files file) files file
  at_written = record {
    there = can.there;
    first = can.first;
    named = refl;
    told = subst (λ (p : ℕ). lookup (bytes_eq (name_at files file)) (map told_of files) ≡ Some (bytes_at files p)) can.first
        (found (name_at files file) files (let first : place_of (name_at files file) files ≡ file = can.first in let there : file < length files = can.there in omega arith));
  }

  pub written_is : written_of (disk_of files (Writing file)) ≡ bytes_at files file
  written_is = ap (λ (o : Option (List ℕ)). unwrap_or o []) at_written.told

  -- what was added is added to what is told
  pub appended_is : (more : List ℕ) (stored : Stored) → stored ≡ record (get_or files file no_file) { bytes = bytes_at files file ++ more } → disk_of (set files file stored) (Writing file) ≡ appended more (disk_of files (Writing file))
  appended_is more stored e =
      let name_is : stored.name ≡ name_at files file = ap (λ (f : Stored). f.name) e in
      let bytes_is : stored.bytes ≡ written_of (disk_of files (Writing file)) ++ more = ap (λ (f : Stored). f.bytes) e ∙ ap (λ (l : List ℕ). l ++ more) (sym written_is) in
      let at : IsAt stored.name files file = subst (λ (n : List ℕ). IsAt n files file) (sym name_is) at_written in
      let told : map told_of (set files file stored) ≡ put (name_at files file) (written_of (disk_of files (Writing file)) ++ more) (map told_of files) =
      put_here stored files file at ∙ ap (λ (n : List ℕ). put n stored.bytes (map told_of files)) name_is ∙ ap (λ (b : List ℕ). put (name_at files file) b (map told_of files)) bytes_is in
      let there : file < length files = can.there in
      let kept : name_at (set files file stored) file ≡ name_at files file = ap (λ (f : Stored). f.name) (get_or-set_same files file stored no_file there) ∙ name_is in
      ap (λ (l : List (List ℕ × List ℕ)). let d : Disk = record { files = l; left = None; created = Some (name_at (set files file stored) file) } in d) told
      ∙ ap (λ (n : List ℕ). let d : Disk = record { files = put (name_at files file) (written_of (disk_of files (Writing file)) ++ more) (map told_of files); left = None; created = Some n } in d) kept

  pub appends_is : (more : List ℕ) (old new : Disk) → old ≡ disk_of files (Writing file) → new ≡ appended more old → Appends more old new
  appends_is more old new o n =
      let bytes_is : written_of old ≡ bytes_at files file = ap written_of o ∙ written_is in
      let name_is : created_name old ≡ name_at files file = ap created_name o in
      record {
        name = name_at files file;
        was = ap (λ (d : Disk). d.created) o;
        before = bytes_at files file;
        held = ap (file_of (name_at files file)) o ∙ at_written.told;
        holds = holds_put (name_at files file) (bytes_at files file ++ more) old new
            (ap (λ (d : Disk). d.files) n ∙ ap (λ (a : List ℕ). put a (written_of old ++ more) old.files) name_is ∙ ap (λ (b : List ℕ). put (name_at files file) (b ++ more) old.files) bytes_is);
        left = ap (λ (d : Disk). d.left) n;
        created = ap (λ (d : Disk). d.created) n;
      }

-- the facts that a call of write has: m is the value of the object with these fields, in which this file is written to
pub record WritesTo (m : FilesState) (files : List Stored) (file : ℕ) : Type 0 where
  pub can : CanWrite files m.room file
  pub disk : m.disk ≡ disk_of files (Writing file)

pub writes_to : (m : FilesState) (files : List Stored) (room file : ℕ) (opened : Open) → opened ≡ Writing file → IsOpenIn files room opened → room ≡ m.room → disk_of files opened ≡ m.disk → WritesTo m files file
writes_to m files room file opened e h r d = record {
  can = subst (λ (n : ℕ). CanWrite files n file) r (can_write files room file opened e h);
  disk = sym d ∙ ap (disk_of files) e;
}

module _ (m : FilesState) (files : List Stored) (file : ℕ) (h : WritesTo m files file) where
  -- the room that is left
  pub room_is : (item : Stored) (left : ℕ) → item ≡ get_or files file no_file → left ≡ item.room - length item.bytes → left ≡ room_left m
  room_is item left i l =
      l ∙ ap (λ (f : Stored). f.room - length f.bytes) i
      ∙ ap (λ (r : ℕ). r - length (bytes_at files file)) h.can.holds
      ∙ ap (λ (b : List ℕ). m.room - length b) (sym (ap written_of h.disk ∙ written_is files m.room file h.can))

-- equal parts make equal states
pub same_state : (d e : Disk) (p q r s k l : ℕ) (c f : CallCount) (a b x y : ℕ) → d ≡ e → p ≡ q → r ≡ s → k ≡ l → c ≡ f → a ≡ b → x ≡ y
    → let state : FilesState = record { disk = d; piece = p; room = r; makes = k; calls = c; read_faults = a; write_faults = x } in
    let other : FilesState = record { disk = e; piece = q; room = s; makes = l; calls = f; read_faults = b; write_faults = y } in
    state ≡ other
same_state d e p q r s k l c f a b x y h1 h2 h3 h4 h5 h6 h7 = cc

some_left : (left n : ℕ) → left ≡ n → left ≢ 0 → eqb n 0 ≡ false
some_left left n e some = grind (arith, nat_tests)

-- the answer and the state, where the call fails and where it does not
module _ (bytes : List ℕ) (m : FilesState) where
  pub fails_call : is_failing m.calls ≡ true → write_fails m ≡ true
  fails_call e = ap (λ (b : Bool). b || eqb (room_left m) 0) e

  pub none_left : (left : ℕ) → left ≡ 0 → left ≡ room_left m → write_fails m ≡ true
  none_left left z e = full (is_failing m.calls) (ap (λ (n : ℕ). eqb n 0) (sym e ∙ z))
    where
      full : (b : Bool) → eqb (room_left m) 0 ≡ true → (b || eqb (room_left m) 0) ≡ true
      full true h = refl
      full false h = h

  pub goes_on : (left : ℕ) → is_failing m.calls ≡ false → left ≢ 0 → left ≡ room_left m → write_fails m ≡ false
  goes_on left e some l = ap (λ (b : Bool). b || eqb (room_left m) 0) e ∙ some_left left (room_left m) l some

  -- it is to fail, or no room is left
  pub either_fails : (fails : Bool) (left : ℕ) → fails ≡ is_failing m.calls → left ≡ room_left m → (fails ≡ true) ⊎ ((fails ≡ false) × (left ≡ 0)) → write_fails m ≡ true
  either_fails fails left f l h = elim h [ inl t ↦ fails_call (sym f ∙ t) | inr p ↦ none_left left p.1 l ]

  pub fault_answer : write_fails m ≡ true → None ≡ write_answer bytes m
  fault_answer e = sym (ap (λ (b : Bool). cond b None (Some (taken_of bytes m))) e)

  pub fault_state : write_fails m ≡ true → record m { calls = after_call m.calls; write_faults = counted m.write_faults } ≡ after_write bytes m
  fault_state e = sym (ap (λ (b : Bool). cond b (record m { calls = after_call m.calls; write_faults = counted m.write_faults }) (record m { calls = after_call m.calls; disk = appended (take (taken_of bytes m) bytes) m.disk })) e)

  pub taken_answer : (n : ℕ) → n ≡ taken_of bytes m → write_fails m ≡ false → Some n ≡ write_answer bytes m
  taken_answer n t e = ap (λ (k : ℕ). Some k) t ∙ sym (ap (λ (b : Bool). cond b None (Some (taken_of bytes m))) e)

  pub taken_state : write_fails m ≡ false → record m { calls = after_call m.calls; disk = appended (take (taken_of bytes m) bytes) m.disk } ≡ after_write bytes m
  taken_state e = sym (ap (λ (b : Bool). cond b (record m { calls = after_call m.calls; write_faults = counted m.write_faults }) (record m { calls = after_call m.calls; disk = appended (take (taken_of bytes m) bytes) m.disk })) e)

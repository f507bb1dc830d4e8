-- Reading a file to its end.
use Rattle.std.proofs.Common.{◌≡◌, ℕ, ◌<◌, Bool, true, false, List, [], ◌++◌, length, take, drop, Option, None, Some, is_some, refl, sym, ap, ◌∙◌, arith, append_assoc, length-append}
use Rattle.std.proofs.lemmas.List.{take-append-drop, append-nil}
use Rattle.mv_files.specs.Told.{WhereTold}
use Rattle.mv_files.specs.Disk.{Disk, file_of, Opens, Closes, Reads, SameFiles, LongFile, IsWhole, IsMissing, IsLonger}
use Rattle.mv_files.proofs.ToldLemmas.{told_then, told_weaker, told_first}

-- what was read, and what is left, is the file
pub record Halfway (name bytes : List ℕ) (first now : Disk) : Type 0 where
  pub files : now.files ≡ first.files
  pub unread : List ℕ
  pub left : now.left ≡ Some unread
  pub whole : file_of name first ≡ Some (bytes ++ unread)

module _ (name : List ℕ) where
  opened_told : (first now : Disk) → Opens name true first now → Halfway name [] first now
  opened_told first now h = found (file_of name first) refl
    where
      found : (o : Option (List ℕ)) → file_of name first ≡ o → Halfway name [] first now
      found (Some bytes) e = record { files = h.files; unread = bytes; left = h.left ∙ e; whole = e }
      found None e = let t : true ≡ false = h.answer ∙ ap is_some e in cc

  -- the file was found
  pub opened : (a b : Option Disk) → WhereTold (Opens name true) a b → WhereTold (Halfway name []) a b
  opened a b h = told_weaker (Opens name true) (Halfway name []) opened_told a b h

  missing_told : (first now : Disk) → Opens name false first now → file_of name first ≡ None
  missing_told first now h = found (file_of name first) refl
    where
      found : (o : Option (List ℕ)) → file_of name first ≡ o → file_of name first ≡ None
      found (Some bytes) e = let t : false ≡ true = h.answer ∙ ap is_some e in cc
      found None e = e

  -- it was not found
  pub missing : (a b : Option Disk) → WhereTold (Opens name false) a b → IsMissing name a
  missing a b h = told_first (Opens name false) (λ (d : Disk). file_of name d ≡ None) missing_told a b h

  -- opening leaves the files
  pub opens_same : (found : Bool) (a b : Option Disk) → WhereTold (Opens name found) a b → WhereTold SameFiles a b
  opens_same found a b h = told_weaker (Opens name found) SameFiles (λ (x y : Disk) (o : Opens name found x y). record { files = o.files }) a b h

  -- so does reading
  pub halfway_same : (bytes : List ℕ) (a b : Option Disk) → WhereTold (Halfway name bytes) a b → WhereTold SameFiles a b
  halfway_same bytes a b h = told_weaker (Halfway name bytes) SameFiles (λ (x y : Disk) (o : Halfway name bytes x y). record { files = o.files }) a b h

  read_told : (bytes buffer : List ℕ) (n : ℕ) (x y z : Disk) → Halfway name bytes x y → Reads n buffer y z → Halfway name (bytes ++ take n buffer) x z
  read_told bytes buffer n x y z h r =
      let same : r.unread ≡ h.unread = let e : Some r.unread ≡ Some h.unread = sym r.was ∙ h.left in cc in
      record {
        files = r.files ∙ h.files;
        unread = drop n r.unread;
        left = r.left;
        whole = h.whole ∙ ap (λ (l : List ℕ). Some (bytes ++ l)) (sym same ∙ sym (take-append-drop n r.unread)) ∙ ap (λ (l : List ℕ). Some (bytes ++ (l ++ drop n r.unread))) (sym r.bytes)
            ∙ ap (λ (l : List ℕ). Some l) (sym (append_assoc bytes (take n buffer) (drop n r.unread)));
      }

  -- after one read
  pub read_more : (bytes buffer : List ℕ) (n : ℕ) (a b c : Option Disk) → WhereTold (Halfway name bytes) a b → WhereTold (Reads n buffer) b c → WhereTold (Halfway name (bytes ++ take n buffer)) a c
  read_more bytes buffer n a b c h r = told_then (Halfway name bytes) (Reads n buffer) (Halfway name (bytes ++ take n buffer)) (read_told bytes buffer n) a b c h r

  -- after one that read nothing
  pub record All (bytes : List ℕ) (first now : Disk) : Type 0 where
    pub files : now.files ≡ first.files
    pub whole : file_of name first ≡ Some bytes

  ended_told : (bytes buffer : List ℕ) (x y z : Disk) → Halfway name bytes x y → Reads 0 buffer y z → All bytes x z
  ended_told bytes buffer x y z h r =
      let same : r.unread ≡ h.unread = let e : Some r.unread ≡ Some h.unread = sym r.was ∙ h.left in cc in
      record {
        files = r.files ∙ h.files;
        whole = h.whole ∙ ap (λ (l : List ℕ). Some (bytes ++ l)) (sym same ∙ r.end refl) ∙ ap (λ (l : List ℕ). Some l) (append-nil bytes);
      }

  pub ended : (bytes buffer : List ℕ) (a b c : Option Disk) → WhereTold (Halfway name bytes) a b → WhereTold (Reads 0 buffer) b c → WhereTold (All bytes) a c
  ended bytes buffer a b c h r = told_then (Halfway name bytes) (Reads 0 buffer) (All bytes) (ended_told bytes buffer) a b c h r

  pub all_whole : (bytes : List ℕ) (a b : Option Disk) → WhereTold (All bytes) a b → IsWhole name a bytes
  all_whole bytes a b h = told_first (All bytes) (λ (d : Disk). file_of name d ≡ Some bytes) (λ (x y : Disk) (o : All bytes x y). o.whole) a b h

  pub all_same : (bytes : List ℕ) (a b : Option Disk) → WhereTold (All bytes) a b → WhereTold SameFiles a b
  all_same bytes a b h = told_weaker (All bytes) SameFiles (λ (x y : Disk) (o : All bytes x y). record { files = o.files }) a b h

  longer_told : (bytes : List ℕ) (limit : ℕ) → limit < length bytes → (x y : Disk) → Halfway name bytes x y → LongFile name limit x
  longer_told bytes limit long x y h = record {
    bytes = bytes ++ h.unread;
    there = h.whole;
    longer = omega (arith, length-append bytes h.unread);
  }

  -- more than the limit was read
  pub longer : (bytes : List ℕ) (limit : ℕ) → limit < length bytes → (a b : Option Disk) → WhereTold (Halfway name bytes) a b → IsLonger name a limit
  longer bytes limit long a b h = told_first (Halfway name bytes) (LongFile name limit) (longer_told bytes limit long) a b h

-- two calls that leave the files
pub same_then : (a b c : Option Disk) → WhereTold SameFiles a b → WhereTold SameFiles b c → WhereTold SameFiles a c
same_then a b c f s = told_then SameFiles SameFiles SameFiles (λ (x y z : Disk) (p : SameFiles x y) (q : SameFiles y z). record { files = q.files ∙ p.files }) a b c f s

pub closes_same : (a b : Option Disk) → WhereTold Closes a b → WhereTold SameFiles a b
closes_same a b h = told_weaker Closes SameFiles (λ (x y : Disk) (o : Closes x y). record { files = o.files }) a b h

-- Writing a text to a file in parts.
use Rattle.std.proofs.Common.{◌≡◌, ◌≢◌, ℕ, ◌⊎◌, inl, inr, List, [], ◌++◌, take, drop, Option, Some, refl, sym, ap, ◌∙◌, subst, append_assoc}
use Rattle.std.proofs.lemmas.List.{take-append-drop, append-nil}
use Rattle.mv_files.specs.Told.{WhereTold}
use Rattle.mv_files.specs.Disk.{Disk, file_of, SameFiles, Closes, Holds, HoldsFirst, HoldsPart, Creates, Appends}
use Rattle.mv_files.proofs.ToldLemmas.{told_then, told_weaker, told_moved}

-- the file was created, and what it holds and what is not written are the bytes
pub record PartWritten (name bytes unwritten : List ℕ) (first now : Disk) : Type 0 where
  pub written : List ℕ
  pub parts : bytes ≡ written ++ unwritten
  pub holds : Holds name written first now
  pub created : now.created ≡ Some name

module _ (name bytes : List ℕ) where
  created_told : (x y : Disk) → Creates name x y → PartWritten name bytes bytes x y
  created_told x y h = record { written = []; parts = refl; holds = h.holds; created = h.created }

  -- the file was created
  pub was_created : (a b : Option Disk) → WhereTold (Creates name) a b → WhereTold (PartWritten name bytes bytes) a b
  was_created a b h = told_weaker (Creates name) (PartWritten name bytes bytes) created_told a b h

  -- it was not
  pub not_created : (a b : Option Disk) → WhereTold Closes a b → WhereTold (HoldsPart name bytes) a b
  not_created a b h = told_weaker Closes (HoldsPart name bytes) (λ (x y : Disk) (c : Closes x y). inl record { files = c.files }) a b h

  holds_more : (held more : List ℕ) (x y z : Disk) → Holds name held x y → Holds name more y z → Holds name more x z
  holds_more held more x y z h n = record {
    named = n.named;
    others = λ (other : List ℕ) (d : other ≢ name). n.others other d ∙ h.others other d;
  }

  one_name : (x : Disk) (other : List ℕ) → x.created ≡ Some name → x.created ≡ Some other → other ≡ name
  one_name x other h o = let e : Some name ≡ Some other = sym h ∙ o in cc

  one_text : (x : Disk) (held before : List ℕ) → file_of name x ≡ Some held → file_of name x ≡ Some before → before ≡ held
  one_text x held before h b = let e : Some held ≡ Some before = sym h ∙ b in cc

  wrote_told : (unwritten : List ℕ) (n : ℕ) (x y z : Disk) → PartWritten name bytes unwritten x y → Appends (take n unwritten) y z → PartWritten name bytes (drop n unwritten) x z
  wrote_told unwritten n x y z h a =
      let named : a.name ≡ name = one_name y a.name h.created a.was in
      let before : a.before ≡ h.written = one_text y h.written a.before h.holds.named (subst (λ (k : List ℕ). file_of k y ≡ Some a.before) named a.held) in
      let holds : Holds name (h.written ++ take n unwritten) y z =
      subst (λ (l : List ℕ). Holds name (l ++ take n unwritten) y z) before (subst (λ (k : List ℕ). Holds k (a.before ++ take n unwritten) y z) named a.holds) in
      record {
        written = h.written ++ take n unwritten;
        parts = h.parts ∙ ap (λ (l : List ℕ). h.written ++ l) (sym (take-append-drop n unwritten)) ∙ sym (append_assoc h.written (take n unwritten) (drop n unwritten));
        holds = holds_more h.written (h.written ++ take n unwritten) x y z h.holds holds;
        created = a.created ∙ h.created;
      }

  -- one more part was written
  pub wrote_more : (unwritten : List ℕ) (n : ℕ) (a b c : Option Disk) → WhereTold (PartWritten name bytes unwritten) a b → WhereTold (Appends (take n unwritten)) b c → WhereTold (PartWritten name bytes (drop n unwritten)) a c
  wrote_more unwritten n a b c h w = told_then (PartWritten name bytes unwritten) (Appends (take n unwritten)) (PartWritten name bytes (drop n unwritten)) (wrote_told unwritten n) a b c h w

  whole_told : (x y : Disk) → PartWritten name bytes [] x y → Holds name bytes x y
  whole_told x y h = subst (λ (l : List ℕ). Holds name l x y) (sym (h.parts ∙ append-nil h.written)) h.holds

  -- all was written
  pub wrote_all : (a b : Option Disk) → WhereTold (PartWritten name bytes []) a b → WhereTold (Holds name bytes) a b
  wrote_all a b h = told_weaker (PartWritten name bytes []) (Holds name bytes) whole_told a b h

  first_told : (unwritten : List ℕ) → unwritten ≢ [] → (x y : Disk) → PartWritten name bytes unwritten x y → HoldsPart name bytes x y
  first_told unwritten some x y h = inr record { written = h.written; unwritten = unwritten; parts = h.parts; some_unwritten = some; holds = h.holds }

  -- a first part was, and some was not
  pub wrote_part : (unwritten : List ℕ) (a b c : Option Disk) → WhereTold (PartWritten name bytes unwritten) a b → c ≡ b → unwritten ≢ [] → WhereTold (HoldsPart name bytes) a c
  wrote_part unwritten a b c h e some = told_moved (HoldsPart name bytes) a b c e (told_weaker (PartWritten name bytes unwritten) (HoldsPart name bytes) (first_told unwritten some) a b h)

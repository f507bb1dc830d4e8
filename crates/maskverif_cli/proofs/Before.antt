-- What is known of files from what they hold after a reading, which is what they held before.
use Rattle.std.proofs.Common.{◌≡◌, ℕ, List, Option, Some, None, sym, ap, ◌∙◌, ⊎_elim, inl, inr}
use Rattle.std.specs.Map.{lookup}
use Rattle.std.specs.Str.{bytes_eq}
use Rattle.mv_files.specs.Disk.{Disk, IsLonger, IsMissing, IsWhole, SameFiles, file_of}
use Rattle.mv_files.specs.Told.{WhereTold}
use Rattle.circuit_types.specs.declared.refusal.Refusal.TheVariants.{Limit}
use Rattle.circuit_types.specs.declared.refusal.Which.{Which}
use Rattle.maskverif_cli.specs.declared.status.Status.{Status}
use Rattle.maskverif_cli.specs.Answer.{HasNoFile, NewFile, Refuses}
use Rattle.maskverif_cli.specs.Reply.{Lacks}

-- the same file over files that hold the same
pub same-file : (name : List ℕ) (a b : Disk) → b.files ≡ a.files → file_of name b ≡ file_of name a
same-file name a b same = ap (λ (files : List (List ℕ × List ℕ)). lookup (bytes_eq name) files) same

pub whole-before : (name bytes : List ℕ) (a b : Option Disk) → WhereTold SameFiles a b → IsWhole name b bytes → IsWhole name a bytes
whole-before name bytes None b same h = tt
whole-before name bytes (Some x) None same h = absurd same
whole-before name bytes (Some x) (Some y) same h = sym (same-file name x y same.files) ∙ h

missing-before : (name : List ℕ) (a b : Option Disk) → WhereTold SameFiles a b → IsMissing name b → IsMissing name a
missing-before name None b same h = tt
missing-before name (Some x) None same h = absurd same
missing-before name (Some x) (Some y) same h = sym (same-file name x y same.files) ∙ h

longer-before : (name : List ℕ) (limit : ℕ) (a b : Option Disk) → WhereTold SameFiles a b → IsLonger name b limit → IsLonger name a limit
longer-before name limit None b same h = tt
longer-before name limit (Some x) None same h = absurd same
longer-before name limit (Some x) (Some y) same h = record { bytes = h.bytes; there = sym (same-file name x y same.files) ∙ h.there; longer = h.longer }

no-file-before : (name : List ℕ) (a b : Option Disk) → WhereTold SameFiles a b → (s : Status) (t : List ℕ) (f : NewFile) → HasNoFile b name s t f → HasNoFile a name s t f
no-file-before name a b same s t f h = record { missing = missing-before name a b same h.missing; status_is = h.status_is; text_is = h.text_is; no_file = h.no_file }

pub lacks-before : (name : List ℕ) (limit : ℕ) (which : Which) (a b : Option Disk) → WhereTold SameFiles a b → (s : Status) (t : List ℕ) (f : NewFile)
    → Lacks b name limit which s t f → Lacks a name limit which s t f
lacks-before name limit which a b same s t f h =
    ⊎_elim
    (λ (m : HasNoFile b name s t f). inl (no-file-before name a b same s t f m))
    (λ (m : IsLonger name b limit × Refuses (Limit which) s t f). inr (longer-before name limit a b same m.0, m.1))
    h

-- Where a file of a name stands in a list, and what the list tells.
use Rattle.std.proofs.Common.{◌≡◌, ◌≢◌, ℕ, suc, ◌+◌, ◌<◌, ◌≤◌, Bool, true, false, not, cond, ltb, List, [], ◌∷◌, ◌++◌, map, set, length, Option, None, Some, MatchOption, refl, sym, ap, ◌∙◌, subst, arith, position}
use Rattle.std.specs.Map.{lookup}
use Rattle.std.specs.Str.{bytes_eq}
use Rattle.std.proofs.lemmas.Bool.Decides.{nat_tests}
use Rattle.std.proofs.lemmas.Slice.Eq.{bytes_eq-Decides}
use Rattle.std.proofs.lemmas.List.Folds.{position_or_len-set}
use Rattle.mv_files.specs.StoredFile.{Stored, told_of, no_file}
use Rattle.mv_files.specs.MemoryFiles.{put}
use Rattle.mv_files.specs.FileList.{place_of, bytes_at, name_at, IsAt, IsNowhere}

-- equal names are equal for the test, and others are not
pub bytes_eq-same : (a : List ℕ) → bytes_eq a a ≡ true
bytes_eq-same a = (bytes_eq-Decides a a).1 refl

pub bytes_eq-other : (a b : List ℕ) → a ≢ b → bytes_eq a b ≡ false
bytes_eq-other a b apart = by_test (bytes_eq a b) refl
  where
    by_test : (t : Bool) → bytes_eq a b ≡ t → bytes_eq a b ≡ false
    by_test true e = absurd (apart ((bytes_eq-Decides a b).0 e))
    by_test false e = e

module _ (name : List ℕ) where
  found_at : (x : Stored) (xs : List Stored) (rest : Option (List ℕ)) (p : ℕ) (test : Bool) → (p < length xs → rest ≡ Some (bytes_at xs p)) → cond (not test) (1 + p) 0 < length (x ∷ xs)
      → cond test (Some x.bytes) rest ≡ Some (bytes_at (x ∷ xs) (cond (not test) (1 + p) 0))
  found_at x xs rest p true ih h = refl
  found_at x xs rest p false ih h = let e : 1 + p ≡ suc p = omega arith in rw e (ih (omega arith))

  -- a file that has a place is told with its bytes
  pub found : (xs : List Stored) → place_of name xs < length xs → lookup (bytes_eq name) (map told_of xs) ≡ Some (bytes_at xs (place_of name xs))
  found [] h = absurd (omega arith)
  found (x ∷ xs) h = found_at x xs (lookup (bytes_eq name) (map told_of xs)) (place_of name xs) (bytes_eq name x.name) (found xs) h

  missing_at : (x : Stored) (xs : List Stored) (rest : Option (List ℕ)) (p : ℕ) (test : Bool) → (length xs ≤ p → rest ≡ None) → length (x ∷ xs) ≤ cond (not test) (1 + p) 0 → cond test (Some x.bytes) rest ≡ None
  missing_at x xs rest p true ih h = absurd (omega arith)
  missing_at x xs rest p false ih h = ih (omega arith)

  -- one that has none is not told
  pub missing : (xs : List Stored) → length xs ≤ place_of name xs → lookup (bytes_eq name) (map told_of xs) ≡ None
  missing [] h = refl
  missing (x ∷ xs) h = missing_at x xs (lookup (bytes_eq name) (map told_of xs)) (place_of name xs) (bytes_eq name x.name) (missing xs) h

  named_at : (x : Stored) (xs : List Stored) (p : ℕ) (test : Bool) → bytes_eq name x.name ≡ test → (p < length xs → bytes_eq name (name_at xs p) ≡ true) → cond (not test) (1 + p) 0 < length (x ∷ xs)
      → bytes_eq name (name_at (x ∷ xs) (cond (not test) (1 + p) 0)) ≡ true
  named_at x xs p true e ih h = e
  named_at x xs p false e ih h = let e : 1 + p ≡ suc p = omega arith in rw e (ih (omega arith))

  named_test : (xs : List Stored) → place_of name xs < length xs → bytes_eq name (name_at xs (place_of name xs)) ≡ true
  named_test [] h = absurd (omega arith)
  named_test (x ∷ xs) h = named_at x xs (place_of name xs) (bytes_eq name x.name) refl (named_test xs) h

  -- the file at the place has the name
  pub named : (xs : List Stored) → place_of name xs < length xs → name_at xs (place_of name xs) ≡ name
  named xs h = sym ((bytes_eq-Decides name (name_at xs (place_of name xs))).0 (named_test xs h))

  put_at : (x file : Stored) (xs : List Stored) (rest : List (List ℕ × List ℕ)) (p : ℕ) (test : Bool) → file.name ≡ name → (p < length xs → map told_of (set xs p file) ≡ rest) → cond (not test) (1 + p) 0 < length (x ∷ xs)
      → map told_of (set (x ∷ xs) (cond (not test) (1 + p) 0) file) ≡ cond test ((name, file.bytes) ∷ map told_of xs) (told_of x ∷ rest)
  put_at x file xs rest p true e ih h = ap (λ (n : List ℕ). (n, file.bytes) ∷ map told_of xs) e
  put_at x file xs rest p false e ih h = let s : 1 + p ≡ suc p = omega arith in rw s (ap (λ (l : List (List ℕ × List ℕ)). told_of x ∷ l) (ih (omega arith)))

  -- writing it at its place
  pub put_found : (file : Stored) → file.name ≡ name → (xs : List Stored) → place_of name xs < length xs → map told_of (set xs (place_of name xs) file) ≡ put name file.bytes (map told_of xs)
  put_found file e [] h = absurd (omega arith)
  put_found file e (x ∷ xs) h = put_at x file xs (put name file.bytes (map told_of xs)) (place_of name xs) (bytes_eq name x.name) e (put_found file e xs) h

  push_at : (x file : Stored) (xs : List Stored) (rest : List (List ℕ × List ℕ)) (p : ℕ) (test : Bool) → (length xs ≤ p → map told_of (xs ++ file ∷ []) ≡ rest) → length (x ∷ xs) ≤ cond (not test) (1 + p) 0
      → told_of x ∷ map told_of (xs ++ file ∷ []) ≡ cond test ((name, file.bytes) ∷ map told_of xs) (told_of x ∷ rest)
  push_at x file xs rest p true ih h = absurd (omega arith)
  push_at x file xs rest p false ih h = ap (λ (l : List (List ℕ × List ℕ)). told_of x ∷ l) (ih (omega arith))

  -- adding it at the end
  pub put_missing : (file : Stored) → file.name ≡ name → (xs : List Stored) → length xs ≤ place_of name xs → map told_of (xs ++ file ∷ []) ≡ put name file.bytes (map told_of xs)
  put_missing file e [] h = ap (λ (n : List ℕ). (n, file.bytes) ∷ []) e
  put_missing file e (x ∷ xs) h = push_at x file xs (put name file.bytes (map told_of xs)) (place_of name xs) (bytes_eq name x.name) (put_missing file e xs) h

  -- its place afterwards
  pub place_set : (file : Stored) → file.name ≡ name → (xs : List Stored) → place_of name xs < length xs → place_of name (set xs (place_of name xs) file) ≡ place_of name xs
  place_set file e xs h = position_or_len-set (λ (f : Stored). bytes_eq name f.name) xs (place_of name xs) file no_file (ap (bytes_eq name) e ∙ bytes_eq-same name ∙ sym (named_test xs h))

  place_at : (x : Stored) (xs : List Stored) (p : ℕ) (test : Bool) → p ≤ length xs → cond (not test) (1 + p) 0 ≤ length (x ∷ xs)
  place_at x xs p true h = omega arith
  place_at x xs p false h = omega arith

  pub place_within : (xs : List Stored) → place_of name xs ≤ length xs
  place_within [] = omega arith
  place_within (x ∷ xs) = place_at x xs (place_of name xs) (bytes_eq name x.name) (place_within xs)

  push_place_at : (x file : Stored) (xs : List Stored) (p q : ℕ) (test : Bool) → (length xs ≤ p → q ≡ length xs) → length (x ∷ xs) ≤ cond (not test) (1 + p) 0 → cond (not test) (1 + q) 0 ≡ length (x ∷ xs)
  push_place_at x file xs p q true ih h = absurd (omega arith)
  push_place_at x file xs p q false ih h = let e : q ≡ length xs = ih (omega arith) in omega arith

  pub place_push : (file : Stored) → file.name ≡ name → (xs : List Stored) → length xs ≤ place_of name xs → place_of name (xs ++ file ∷ []) ≡ length xs
  place_push file e [] h = rw e (rw (bytes_eq-same name) refl)
  place_push file e (x ∷ xs) h = push_place_at x file xs (place_of name xs) (place_of name (xs ++ file ∷ [])) (bytes_eq name x.name) (place_push file e xs) h

  -- what a search for the first place says
  pub at_place : (xs : List Stored) → place_of name xs < length xs → IsAt name xs (place_of name xs)
  at_place xs h = record { there = h; first = refl; named = named xs h; told = found xs h }

  pub nowhere : (xs : List Stored) → length xs ≤ place_of name xs → IsNowhere name xs
  nowhere xs h = record { past = h; untold = missing xs h }

  by_test : (xs : List Stored) (test : Bool) → ltb (place_of name xs) (length xs) ≡ test → MatchOption (cond test (Some (place_of name xs)) None) (IsNowhere name xs) (IsAt name xs)
  by_test xs true e = at_place xs (grind (arith, nat_tests, e))
  by_test xs false e = nowhere xs (grind (arith, nat_tests, e))

  pub by_position : (xs : List Stored) (r : Option ℕ) → r ≡ position (λ (f : Stored). bytes_eq name f.name) xs → MatchOption r (IsNowhere name xs) (IsAt name xs)
  by_position xs r e = subst (λ (o : Option ℕ). MatchOption o (IsNowhere name xs) (IsAt name xs)) (sym e) (by_test xs (ltb (place_of name xs) (length xs)) refl)

-- the same of an equal name and list

pub at_same : (name other : List ℕ) (listed files : List Stored) (place : ℕ) → name ≡ other → listed ≡ files → IsAt name listed place → IsAt other files place
at_same name other listed files place n l h = subst (λ (xs : List Stored). IsAt other xs place) l (subst (λ (a : List ℕ). IsAt a listed place) n h)

pub nowhere_same : (name other : List ℕ) (listed files : List Stored) → name ≡ other → listed ≡ files → IsNowhere name listed → IsNowhere other files
nowhere_same name other listed files n l h = subst (λ (xs : List Stored). IsNowhere other xs) l (subst (λ (a : List ℕ). IsNowhere a listed) n h)

-- a file that is put where its name stands, or else at the end

module _ (file : Stored) (files : List Stored) where
  pub put_here : (place : ℕ) → IsAt file.name files place → map told_of (set files place file) ≡ put file.name file.bytes (map told_of files)
  put_here place h =
      subst (λ (p : ℕ). map told_of (set files p file) ≡ put file.name file.bytes (map told_of files)) h.first
      (put_found file.name file refl files (let first : place_of file.name files ≡ place = h.first in let there : place < length files = h.there in omega arith))

  pub first_here : (place : ℕ) → IsAt file.name files place → place_of file.name (set files place file) ≡ place
  first_here place h =
      subst (λ (p : ℕ). place_of file.name (set files p file) ≡ p) h.first
      (place_set file.name file refl files (let first : place_of file.name files ≡ place = h.first in let there : place < length files = h.there in omega arith))

  pub put_last : (new : List Stored) → new ≡ files ++ file ∷ [] → IsNowhere file.name files → map told_of new ≡ put file.name file.bytes (map told_of files)
  put_last new e h = ap (map told_of) e ∙ put_missing file.name file refl files h.past

  pub first_last : (new : List Stored) (size : ℕ) → new ≡ files ++ file ∷ [] → size ≡ length files → IsNowhere file.name files → place_of file.name new ≡ size
  first_last new size e s h = ap (place_of file.name) e ∙ place_push file.name file refl files h.past ∙ sym s

-- the files of a list in which one was put

put_named_at : (name bytes : List ℕ) (x : List ℕ × List ℕ) (rest : List (List ℕ × List ℕ)) (test : Bool) → bytes_eq name x.0 ≡ test → (xs : List (List ℕ × List ℕ)) → lookup (bytes_eq name) rest ≡ Some bytes → lookup (bytes_eq name) (cond test ((name, bytes) ∷ xs) (x ∷ rest)) ≡ Some bytes
put_named_at name bytes x rest true e xs ih = rw (bytes_eq-same name) refl
put_named_at name bytes x rest false e xs ih = rw e ih

-- the file of the name holds the bytes
pub put_named : (name bytes : List ℕ) (xs : List (List ℕ × List ℕ)) → lookup (bytes_eq name) (put name bytes xs) ≡ Some bytes
put_named name bytes [] = rw (bytes_eq-same name) refl
put_named name bytes (x ∷ xs) = put_named_at name bytes x (put name bytes xs) (bytes_eq name x.0) refl xs (put_named name bytes xs)

put_other_at : (name bytes other : List ℕ) → other ≢ name → (x : List ℕ × List ℕ) (rest : List (List ℕ × List ℕ)) (test : Bool) → bytes_eq name x.0 ≡ test → (xs : List (List ℕ × List ℕ)) → lookup (bytes_eq other) rest ≡ lookup (bytes_eq other) xs
    → lookup (bytes_eq other) (cond test ((name, bytes) ∷ xs) (x ∷ rest)) ≡ lookup (bytes_eq other) (x ∷ xs)
put_other_at name bytes other apart x rest true e xs ih =
    let here : name ≡ x.0 = (bytes_eq-Decides name x.0).0 e in
    let first : bytes_eq other name ≡ false = bytes_eq-other other name apart in
    let second : bytes_eq other x.0 ≡ false = bytes_eq-other other x.0 (λ (same : other ≡ x.0). apart (same ∙ sym here)) in
    rw (first, second) refl
put_other_at name bytes other apart x rest false e xs ih = ap (λ (o : Option (List ℕ)). cond (bytes_eq other x.0) (Some x.1) o) ih

-- each other file holds what it held
pub put_other : (name bytes other : List ℕ) → other ≢ name → (xs : List (List ℕ × List ℕ)) → lookup (bytes_eq other) (put name bytes xs) ≡ lookup (bytes_eq other) xs
put_other name bytes other apart [] = rw (bytes_eq-other other name apart) refl
put_other name bytes other apart (x ∷ xs) = put_other_at name bytes other apart x (put name bytes xs) (bytes_eq name x.0) refl xs (put_other name bytes other apart xs)

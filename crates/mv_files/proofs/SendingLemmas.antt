-- Sending a text in parts.
use Rattle.std.proofs.Common.{◌≡◌, ◌≢◌, ℕ, List, [], ◌++◌, take, drop, Option, refl, sym, ap, ◌∙◌, subst, append_assoc}
use Rattle.std.proofs.lemmas.List.{take-append-drop, append-nil}
use Rattle.mv_files.specs.Told.{WhereTold}
use Rattle.mv_files.specs.Sending.{Adds, AddsPart}
use Rattle.mv_files.proofs.ToldLemmas.{told_then, told_same}

-- what was sent, and what is not, are the bytes
pub record Partway (bytes unsent : List ℕ) (old now : Option (List ℕ)) : Type 0 where
  pub sent : List ℕ
  pub parts : bytes ≡ sent ++ unsent
  pub added : WhereTold (Adds sent) old now

module _ (bytes : List ℕ) where
  -- nothing was sent
  pub begun : (a b : Option (List ℕ)) → b ≡ a → Partway bytes bytes a b
  begun a b e = record { sent = []; parts = refl; added = told_same (Adds []) (λ (x : List ℕ). sym (append-nil x)) a b e }

  adds_both : (sent more x y z : List ℕ) → Adds sent x y → Adds more y z → Adds (sent ++ more) x z
  adds_both sent more x y z f s = s ∙ ap (λ (l : List ℕ). l ++ more) f ∙ append_assoc x sent more

  -- one more part was sent
  pub wrote : (unsent : List ℕ) (n : ℕ) (a b c : Option (List ℕ)) → Partway bytes unsent a b → WhereTold (Adds (take n unsent)) b c → Partway bytes (drop n unsent) a c
  wrote unsent n a b c h w = record {
    sent = h.sent ++ take n unsent;
    parts = h.parts ∙ ap (λ (l : List ℕ). h.sent ++ l) (sym (take-append-drop n unsent)) ∙ sym (append_assoc h.sent (take n unsent) (drop n unsent));
    added = told_then (Adds h.sent) (Adds (take n unsent)) (Adds (h.sent ++ take n unsent)) (adds_both h.sent (take n unsent)) a b c h.added w;
  }

  -- all was sent
  pub sent_all : (a b : Option (List ℕ)) → Partway bytes [] a b → WhereTold (Adds bytes) a b
  sent_all a b h = subst (λ (l : List ℕ). WhereTold (Adds l) a b) (sym (h.parts ∙ append-nil h.sent)) h.added

  -- a first part was, and some was not
  pub sent_part : (unsent : List ℕ) (a b c : Option (List ℕ)) → Partway bytes unsent a b → c ≡ b → unsent ≢ [] → AddsPart bytes a c
  sent_part unsent a b c h e some = record {
    sent = h.sent;
    unsent = unsent;
    parts = h.parts;
    some_unsent = some;
    added = subst (λ (d : Option (List ℕ)). WhereTold (Adds h.sent) a d) (sym e) h.added;
  }

-- Taking a hull and cuts.
use Rattle.std.proofs.Common.{◌≡◌, ℕ, ◌+◌, Bool, true, false, cond, List, [], ◌∷◌, ◌++◌, length, reverse, Option, Some, None, ap, sym, ◌∙◌, subst}
use Rattle.std.specs.Prelude.{All}
use Rattle.std.proofs.lemmas.List.{append-nil, reverse-append}
use Rattle.std.proofs.lemmas.List.Elements.{All-append, All-head, All-tail}
use Rattle.expr_table.specs.declared.instance.Instance.{Instance}
use Rattle.probe_family.specs.declared.family.Family.{Family}
use Rattle.probe_family.specs.Families.{IsFamily}
use Rattle.family_split.specs.Children.{children_of}
use Rattle.certificate.specs.declared.fault.Why.{Why}
use Rattle.certificate.specs.declared.fault.Why.TheVariants as why
use Rattle.cert_check.specs.declared.due.Due.{Due}
use Rattle.cert_check.specs.declared.due.Due.TheVariants as due
use Rattle.live_rows.specs.State.{IsClear}
use Rattle.cert_check.specs.declared.state.State.{State}
use Rattle.cert_check.specs.Closing.{hull_set, is_hull_for}
use Rattle.cert_check.specs.Sound.{FitsDue, IsSound}
use Rattle.cert_check.specs.Stages.{Stage, cuts_fault, hull_for, on_cuts, on_hull, stage, unless}
use Rattle.cert_check.proofs.Outcomes.{right, wrong}

-- ---- the stack, from the top down

-- the last of a list is on top
pub on_top : {X : Type 0} (xs rest : List X) (x : X) → xs ≡ rest ++ x ∷ [] → reverse xs ≡ x ∷ reverse rest
on_top xs rest x e = ap reverse e ∙ reverse-append rest (x ∷ [])

pub begun_stack : {X : Type 0} (new old roots : List X) → reverse new ≡ roots ++ reverse old → old ≡ [] → reverse new ≡ roots
begun_stack new old roots e none = e ∙ ap (λ l. roots ++ reverse l) none ∙ append-nil roots

pub all_on_top : (n : ℕ) (xs rest : List Family) (family : Family) → xs ≡ rest ++ family ∷ [] → All (IsFamily n) (reverse xs) → All (IsFamily n) (family ∷ reverse rest)
all_on_top n xs rest family e h = subst (All (IsFamily n)) (on_top xs rest family e) h

pub top_is : (n : ℕ) (xs rest : List Family) (family : Family) → xs ≡ rest ++ family ∷ [] → All (IsFamily n) (reverse xs) → IsFamily n family
top_is n xs rest family e h = All-head (IsFamily n) family (reverse rest) (all_on_top n xs rest family e h)

pub rest_are : (n : ℕ) (xs rest : List Family) (family : Family) → xs ≡ rest ++ family ∷ [] → All (IsFamily n) (reverse xs) → All (IsFamily n) (reverse rest)
rest_are n xs rest family e h = All-tail (IsFamily n) family (reverse rest) (all_on_top n xs rest family e h)

pub more_are : (n : ℕ) (new old more : List Family) → reverse new ≡ more ++ reverse old → All (IsFamily n) more → All (IsFamily n) (reverse old) → All (IsFamily n) (reverse new)
more_are n new old more e h g = subst (All (IsFamily n)) (sym e) (All-append (IsFamily n) more (reverse old) h g)

-- ---- a hull

module _ (x : Instance) (s : Stage) (hull : List ℕ) (is_due : s.due ≡ due.Hull) where
  as_due : on_hull x s s.due hull ≡ hull_for x s.waiting s.closed hull
  as_due = ap (λ (d : Due). on_hull x s d hull) is_due

  pub no_family : s.waiting ≡ [] → on_hull x s s.due hull ≡ wrong why.Extra
  no_family none = as_due ∙ ap (λ (w : List Family). hull_for x w s.closed hull) none

  pub bad_hull : (family : Family) (rest : List Family) → s.waiting ≡ family ∷ rest → is_hull_for family hull ≡ false → on_hull x s s.due hull ≡ wrong why.Hull
  bad_hull family rest e f =
      as_due ∙ ap (λ (w : List Family). hull_for x w s.closed hull) e
      ∙ ap (λ (b : Bool). cond b (right (stage (due.Cuts family (hull_set (length x.probes) hull)) rest s.closed)) (wrong why.Hull)) f

  pub good_hull : (family : Family) (rest : List Family) → s.waiting ≡ family ∷ rest → is_hull_for family hull ≡ true
      → on_hull x s s.due hull ≡ right (stage (due.Cuts family (hull_set (length x.probes) hull)) rest s.closed)
  good_hull family rest e t =
      as_due ∙ ap (λ (w : List Family). hull_for x w s.closed hull) e
      ∙ ap (λ (b : Bool). cond b (right (stage (due.Cuts family (hull_set (length x.probes) hull)) rest s.closed)) (wrong why.Hull)) t

-- ---- cuts

module _ (x : Instance) (s : Stage) (rows : List ℕ) (family : Family) (hull : List Bool) (is_due : s.due ≡ due.Cuts family hull) where
  as_cuts : on_cuts x s s.due rows ≡ unless (cuts_fault x hull family.bound rows) (stage due.Hull (children_of family hull ++ s.waiting) (s.closed + 1))
  as_cuts = ap (λ (d : Due). on_cuts x s d rows) is_due

  pub bad_cuts : (reason : Why) → Some reason ≡ cuts_fault x hull family.bound rows → on_cuts x s s.due rows ≡ wrong reason
  bad_cuts reason e = as_cuts ∙ ap (λ (o : Option Why). unless o (stage due.Hull (children_of family hull ++ s.waiting) (s.closed + 1))) (sym e)

  pub good_cuts : (waiting : List Family) → None ≡ cuts_fault x hull family.bound rows → waiting ≡ children_of family hull ++ s.waiting
      → on_cuts x s s.due rows ≡ right (stage due.Hull waiting (s.closed + 1))
  good_cuts waiting e w =
      as_cuts ∙ ap (λ (o : Option Why). unless o (stage due.Hull (children_of family hull ++ s.waiting) (s.closed + 1))) (sym e)
      ∙ ap (λ (l : List Family). right (stage due.Hull l (s.closed + 1))) (sym w)

-- ---- the state stays sound

pub hull_sound : (x : Instance) (old new : State) (rest : List Family) (family : Family) (hull : List Bool) → IsSound x old → old.waiting.items ≡ rest ++ family ∷ [] → new.waiting.items ≡ rest
    → new.due ≡ due.Cuts family hull → length hull ≡ length x.probes → new.live ≡ old.live → IsSound x new
hull_sound x old new rest family hull h e w d l v = record {
  waiting = subst (λ (xs : List Family). All (IsFamily (length x.probes)) (reverse xs)) (sym w) (rest_are (length x.probes) old.waiting.items rest family e h.waiting);
  due = subst (FitsDue (length x.probes)) (sym d) (top_is (length x.probes) old.waiting.items rest family e h.waiting, l);
  clear = subst IsClear (sym v) h.clear;
  rows = ap (λ r. length r.marks) v ∙ h.rows;
}

pub cuts_sound : (x : Instance) (old new : State) (children : List Family) → IsSound x old → reverse new.waiting.items ≡ children ++ reverse old.waiting.items → All (IsFamily (length x.probes)) children
    → new.due ≡ due.Hull → IsClear new.live → length new.live.marks ≡ length old.live.marks → IsSound x new
cuts_sound x old new children h w a d c l = record {
  waiting = more_are (length x.probes) new.waiting.items old.waiting.items children w a h.waiting;
  due = subst (FitsDue (length x.probes)) (sym d) tt;
  clear = c;
  rows = l ∙ h.rows;
}

pub kids_fit : (n : ℕ) (d : Due) (family : Family) (hull : List Bool) (items : List Family) → FitsDue n d → d ≡ due.Cuts family hull → All (IsFamily (length hull)) items → All (IsFamily n) items
kids_fit n d family hull items h e k =
    let fits : FitsDue n (due.Cuts family hull) = subst (FitsDue n) e h in
    subst (λ (m : ℕ). All (IsFamily m) items) fits.1 k

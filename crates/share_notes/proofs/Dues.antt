-- Which refusal is due, and the roles where none is.
use Rattle.std.proofs.Common.{◌≡◌, ℕ, List, [], ◌∷◌, ◌++◌, map, Some, None, Result, Ok, Err, refl, sym, ap, ◌∙◌, subst, inl, inr}
use Rattle.std.specs.Prelude.{Contains, IfOk, MatchResult}
use Rattle.std.specs.List.{range_with_len}
use Rattle.std.proofs.lemmas.List.FromFn.{map-range_with_len_more}
use Rattle.std.proofs.Common.{append_assoc, ◌+◌, arith}
use Rattle.circuit_types.specs.Causes.{IsRefusal}
use Rattle.circuit_types.specs.Due.{Cause, Never, IsLeast, IsClear, IsDue}
use Rattle.circuit_types.specs.declared.nets.Nets.{Nets}
use Rattle.circuit_types.specs.declared.refusal.Stop.{Stop}
use Rattle.circuit_types.specs.declared.refusal.Stop.TheVariants.{Refused, NoMemory}
use Rattle.circuit_types.specs.declared.refusal.Refusal.TheVariants.{NoteForm, NoteMissing, ShareGap, ShareDouble, ClockUse}
use Rattle.circuit_types.specs.declared.roles.InputRole.{InputRole}
use Rattle.circuit_types.specs.declared.roles.OutputShare.{OutputShare}
use Rattle.circuit_types.specs.declared.roles.Roles.{Roles}
use Rattle.circuit_types.specs.declared.roles.Secret.{Secret}
use Rattle.circuit_types.specs.declared.tree.Item.{Item}
use Rattle.share_notes.specs.declared.direction.Direction.TheVariants.{Input, Output}
use Rattle.share_notes.specs.declared.mark.MarkedWire.{MarkedWire}
use Rattle.share_notes.specs.declared.shares.NumberedShare.{NumberedShare}
use Rattle.share_notes.specs.Causes.{form_lines, missing_lines, gap_lines, double_lines, share_causes, role_causes}
use Rattle.share_notes.specs.Clocks.{clock_lines}
use Rattle.share_notes.specs.Lines.{IsLeastLine}
use Rattle.share_notes.specs.Marks.{marked_wires}
use Rattle.share_notes.specs.PortOrder.{in_port_order}
use Rattle.share_notes.specs.Roles.{input_roles, output_share, roles_by, roles_of}
use Rattle.share_notes.specs.Shares.{share_count, given, secrets, numbered_shares, single_lines}

pub silent : (xs lines : List ℕ) → xs ≡ lines → IsLeastLine (Contains xs) None → Never (Contains lines)
silent xs lines e h = subst (λ (ys : List ℕ). Never (Contains ys)) e h

least_at : (xs lines : List ℕ) (l : ℕ) → xs ≡ lines → IsLeastLine (Contains xs) (Some l) → IsLeast (Contains lines) l
least_at xs lines l e h = subst (λ (ys : List ℕ). IsLeast (Contains ys) l) e h

-- ---- the notes

pub form_due : (items : List Item) (nets : Nets) (xs : List ℕ) (l : ℕ) → xs ≡ form_lines (marked_wires items) → IsLeastLine (Contains xs) (Some l) → IsDue (role_causes items nets) (NoteForm l)
unfolding role_causes
form_due items nets xs l e h = inl (l, least_at xs (form_lines (marked_wires items)) l e h, refl)

pub missing_due : (items : List Item) (nets : Nets) (xs : List ℕ) (l : ℕ) → Never (Contains (form_lines (marked_wires items))) → xs ≡ missing_lines (marked_wires items)
    → IsLeastLine (Contains xs) (Some l) → IsDue (role_causes items nets) (NoteMissing l)
unfolding role_causes
missing_due items nets xs l never e h = inr (never, inl (l, least_at xs (missing_lines (marked_wires items)) l e h, refl))

pub gap_due : (d : ℕ) (single clocks xs : List ℕ) (ins outs : List NumberedShare) (l : ℕ) → xs ≡ gap_lines d single ins outs → IsLeastLine (Contains xs) (Some l)
    → IsDue (share_causes d single clocks ins outs) (ShareGap l)
gap_due d single clocks xs ins outs l e h = inl (l, least_at xs (gap_lines d single ins outs) l e h, refl)

pub double_due : (d : ℕ) (single clocks xs : List ℕ) (ins outs : List NumberedShare) (l : ℕ) → Never (Contains (gap_lines d single ins outs)) → xs ≡ double_lines ins outs
    → IsLeastLine (Contains xs) (Some l) → IsDue (share_causes d single clocks ins outs) (ShareDouble l)
double_due d single clocks xs ins outs l gaps e h = inr (gaps, inl (l, least_at xs (double_lines ins outs) l e h, refl))

pub clock_due : (d : ℕ) (single clocks : List ℕ) (ins outs : List NumberedShare) (l : ℕ) → Never (Contains (gap_lines d single ins outs)) → Never (Contains (double_lines ins outs))
    → IsLeastLine (Contains clocks) (Some l) → IsDue (share_causes d single clocks ins outs) (ClockUse l)
clock_due d single clocks ins outs l gaps doubles h = inr (gaps, inr (doubles, inl (l, h, refl)))

pub none_due : (d : ℕ) (single clocks : List ℕ) (ins outs : List NumberedShare) → Never (Contains (gap_lines d single ins outs)) → Never (Contains (double_lines ins outs))
    → IsLeastLine (Contains clocks) None → IsClear (share_causes d single clocks ins outs)
none_due d single clocks ins outs gaps doubles h = (gaps, (doubles, (h, tt)))

-- the same shares
pub gaps_same : (d : ℕ) (single xs : List ℕ) (i o ins outs : List NumberedShare) → xs ≡ gap_lines d single i o → i ≡ ins → o ≡ outs → xs ≡ gap_lines d single ins outs
gaps_same d single xs i o ins outs e a b = e ∙ (ap (λ (ts : List NumberedShare). gap_lines d single ts o) a ∙ ap (λ (ts : List NumberedShare). gap_lines d single ins ts) b)

pub doubles_same : (xs : List ℕ) (i o ins outs : List NumberedShare) → xs ≡ double_lines i o → i ≡ ins → o ≡ outs → xs ≡ double_lines ins outs
doubles_same xs i o ins outs e a b = e ∙ (ap (λ (ts : List NumberedShare). double_lines ts o) a ∙ ap (λ (ts : List NumberedShare). double_lines ins ts) b)

-- ---- the whole

module _ (items : List Item) (nets : Nets) (ws ordered : List MarkedWire) (count : ℕ) (single clocks : List ℕ)
    (w : ws ≡ marked_wires items) (o : ordered ≡ in_port_order ws) (c : count ≡ share_count ws) (s : single ≡ single_lines count ws) (k : clocks ≡ clock_lines ws nets) where
  ordered_is : ordered ≡ in_port_order (marked_wires items)
  ordered_is = o ∙ ap in_port_order w

  count_is : count ≡ share_count (marked_wires items)
  count_is = c ∙ ap share_count w

  single_is : single ≡ single_lines (share_count (marked_wires items)) (marked_wires items)
  single_is = s ∙ (ap (λ (d : ℕ). single_lines d ws) count_is ∙ ap (single_lines (share_count (marked_wires items))) w)

  clocks_are : clocks ≡ clock_lines (marked_wires items) nets
  clocks_are = k ∙ ap (λ (v : List MarkedWire). clock_lines v nets) w

  causes_are : share_causes count single clocks (numbered_shares Input ordered) (numbered_shares Output ordered)
      ≡ share_causes (share_count (marked_wires items)) (single_lines (share_count (marked_wires items)) (marked_wires items)) (clock_lines (marked_wires items) nets)
      (numbered_shares Input (in_port_order (marked_wires items))) (numbered_shares Output (in_port_order (marked_wires items)))
  causes_are =
      ap (λ (d : ℕ). share_causes d single clocks (numbered_shares Input ordered) (numbered_shares Output ordered)) count_is
      ∙ (ap (λ (ls : List ℕ). share_causes (share_count (marked_wires items)) ls clocks (numbered_shares Input ordered) (numbered_shares Output ordered)) single_is
      ∙ (ap (λ (ls : List ℕ). share_causes (share_count (marked_wires items)) (single_lines (share_count (marked_wires items)) (marked_wires items)) ls (numbered_shares Input ordered) (numbered_shares Output ordered)) clocks_are
      ∙ ap (λ (v : List MarkedWire). share_causes (share_count (marked_wires items)) (single_lines (share_count (marked_wires items)) (marked_wires items)) (clock_lines (marked_wires items) nets) (numbered_shares Input v) (numbered_shares Output v)) ordered_is))

  pub causes_pass : Never (Contains (form_lines (marked_wires items))) → Never (Contains (missing_lines (marked_wires items))) → (r : Result Roles Stop)
      → MatchResult r (λ x. IsClear (share_causes count single clocks (numbered_shares Input ordered) (numbered_shares Output ordered))) (IsRefusal (IsDue (share_causes count single clocks (numbered_shares Input ordered) (numbered_shares Output ordered))))
      → MatchResult r (λ x. IsClear (role_causes items nets)) (IsRefusal (IsDue (role_causes items nets)))
  unfolding role_causes
  causes_pass forms missings (Ok x) h = (forms, (missings, subst IsClear causes_are h))
  causes_pass forms missings (Err (Refused r)) h = inr (forms, inr (missings, subst (λ (cs : List Cause). IsDue cs r) causes_are h))
  causes_pass forms missings (Err NoMemory) h = tt

  pub roles_pass : (r : Result Roles Stop) → IfOk r (λ x. x ≡ roles_by count ordered) → IfOk r (λ x. x ≡ roles_of items)
  unfolding roles_of
  roles_pass (Ok x) h = h ∙ (ap (λ (d : ℕ). roles_by d ordered) count_is ∙ ap (roles_by (share_count (marked_wires items))) ordered_is)
  roles_pass (Err e) h = tt

pub roles_made : (ws : List MarkedWire) (d : ℕ) (ss : List Secret) (ins : List InputRole) (os : List Secret) (outs : List OutputShare) → ss ≡ secrets (given Input ws) → ins ≡ input_roles ss ws
    → os ≡ secrets (given Output ws) → outs ≡ map output_share (numbered_shares Output ws)
    → record { shares = d; secrets = ss; inputs = ins; output_secrets = os; outputs = outs } ≡ roles_by d ws
roles_made ws d ss ins os outs a b c e =
    let all = b ∙ ap (λ (ts : List Secret). input_roles ts ws) a in
    ap (λ (ts : List Secret). record { shares = d; secrets = ts; inputs = ins; output_secrets = os; outputs = outs }) a
    ∙ (ap (λ (is : List InputRole). record { shares = d; secrets = secrets (given Input ws); inputs = is; output_secrets = os; outputs = outs }) all
    ∙ (ap (λ (ts : List Secret). record { shares = d; secrets = secrets (given Input ws); inputs = input_roles (secrets (given Input ws)) ws; output_secrets = ts; outputs = outs }) c
    ∙ ap (λ (ts : List OutputShare). record { shares = d; secrets = secrets (given Input ws); inputs = input_roles (secrets (given Input ws)) ws; output_secrets = secrets (given Output ws); outputs = ts }) e))

-- what is made of one place more
pub range_step : {X : Type 0} (f : ℕ → X) (n : ℕ) (x : X) (old made new : List X) → made ≡ old ++ map f (range_with_len 0 n) → new ≡ made ++ x ∷ [] → x ≡ f n
    → new ≡ old ++ map f (range_with_len 0 (n + 1))
range_step f n x old made new e step at =
    let same : 0 + n ≡ n = omega arith in
    step ∙ (ap (λ ys. ys ++ x ∷ []) e ∙ (append_assoc old (map f (range_with_len 0 n)) (x ∷ []) ∙ ap (λ ys. old ++ ys) (ap (λ y. map f (range_with_len 0 n) ++ y ∷ []) at ∙ sym (map-range_with_len_more f 0 n n same))))

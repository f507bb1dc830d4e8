-- How far a check has come, and what it then answers.
use Rattle.std.proofs.Common.{◌≡◌, ℕ, ◌+◌, ◌<◌, Bool, true, false, inl, inr, List, length, refl, sym, ap, ◌∙◌, subst}
use Rattle.std.specs.Prelude.{Ok, Err}
use Rattle.std.proofs.lemmas.Bool.{false≢true}
use Rattle.circuit_types.specs.declared.probes.Model.{Model}
use Rattle.expr_table.specs.declared.instance.Instance.{Instance}
use Rattle.certificate.specs.declared.fault.Why.{Why}
use Rattle.certificate.specs.declared.fault.Why.TheVariants as why
use Rattle.certificate.specs.declared.line.Line.{Line}
use Rattle.certificate.specs.Lines.{HasNoLineAt, StandsAt}
use Rattle.cert_check.specs.declared.checked.Checked.TheVariants.{Accepted, Rejected}
use Rattle.cert_check.specs.Closing.{header_of}
use Rattle.cert_check.specs.Outcome.{AreRight, IsDue, IsWrong}
use Rattle.cert_check.specs.Stages.{Stage, first_stage, is_done, judge, last_stage}
use Rattle.cert_check.proofs.Accepted.{last_of}
use Rattle.cert_check.proofs.RightLines.{goes_on}

module _ (x : Instance) (model : Model) (order : ℕ) (bytes : List ℕ) where
  -- so many lines are right, up to the place, and lead to the stage
  pub record Halfway (number place : ℕ) (t : Stage) : Type 0 where
    pub right : AreRight x (header_of x model order) bytes number 0 (first_stage x order) place t
    pub last : is_done t.due ≡ true → t ≡ last_stage t.closed

  pub begun : (t : Stage) → t ≡ first_stage x order → Halfway 0 0 t
  begun t e = record { right = (refl, sym e); last = λ done. absurd (false≢true (ap (λ (s : Stage). is_done s.due) (sym e) ∙ done)) }

  pub one_further : (number place : ℕ) (t : Stage) (line : Line) (after : ℕ) (u : Stage) → Halfway number place t → StandsAt bytes place line after
      → judge x (header_of x model order) t line ≡ Ok u → Halfway (number + 1) after u
  one_further number place t line after u h stands is = record {
    right = goes_on x (header_of x model order) bytes number 0 (first_stage x order) place t line after u h.right stands is;
    last = λ done. last_of x (header_of x model order) bytes t.due t.waiting t.closed line u is done;
  }

  -- what is wrong, where a line is due
  at_line : (place : ℕ) (t : Stage) (reason : Why) (done : Bool) → done ≡ false → IsWrong false x (header_of x model order) bytes place t reason → IsWrong done x (header_of x model order) bytes place t reason
  at_line place t reason done e h = subst (λ (b : Bool). IsWrong b x (header_of x model order) bytes place t reason) (sym e) h

  pub no_line : (number place : ℕ) (t : Stage) → Halfway number place t → is_done t.due ≡ false → HasNoLineAt bytes place → IsDue x model order bytes (Rejected (number + 1) why.Form)
  no_line number place t h more none = record {
    before = number;
    place = place;
    reached = t;
    right = h.right;
    wrong = at_line place t why.Form (is_done t.due) more (inl record { none = none; form = refl });
    at = refl;
  }

  pub bad_line : (number place : ℕ) (t : Stage) (line : Line) (after : ℕ) (reason : Why) → Halfway number place t → is_done t.due ≡ false → StandsAt bytes place line after
      → judge x (header_of x model order) t line ≡ Err reason → IsDue x model order bytes (Rejected (number + 1) reason)
  bad_line number place t line after reason h more stands is = record {
    before = number;
    place = place;
    reached = t;
    right = h.right;
    wrong = at_line place t reason (is_done t.due) more (inr record { line = line; after = after; stands = stands; wrong = is });
    at = refl;
  }

  pub more_follows : (number place : ℕ) (t : Stage) → Halfway number place t → is_done t.due ≡ true → place < length bytes → IsDue x model order bytes (Rejected (number + 1) why.Extra)
  more_follows number place t h done more = record {
    before = number;
    place = place;
    reached = t;
    right = h.right;
    wrong = subst (λ (b : Bool). IsWrong b x (header_of x model order) bytes place t why.Extra) (sym done) record { more = more; extra = refl };
    at = refl;
  }

  pub all_right : (number place : ℕ) (t : Stage) → Halfway number place t → is_done t.due ≡ true → place ≡ length bytes → IsDue x model order bytes (Accepted t.closed)
  all_right number place t h done end = record {
    lines = number;
    right = subst (λ (s : Stage). AreRight x (header_of x model order) bytes number 0 (first_stage x order) (length bytes) s) (h.last done)
        (subst (λ (p : ℕ). AreRight x (header_of x model order) bytes number 0 (first_stage x order) p t) end h.right);
  }

-- What a checker answers for some bytes: accepted, or the first line with which something is wrong, and what it is.
use Rattle.std.specs.Prelude.{ℕ, zero, suc, ◌+◌, ◌<◌, ◌≡◌, Bool, true, false, ◌⊎◌, Ok, Err, List, length}
use Rattle.circuit_types.specs.declared.probes.Model.{Model}
use Rattle.expr_table.specs.declared.instance.Instance.{Instance}
use Rattle.certificate.specs.declared.entries.Header.{Header}
use Rattle.certificate.specs.declared.fault.Why.{Why}
use Rattle.certificate.specs.declared.fault.Why.TheVariants as why
use Rattle.certificate.specs.declared.line.Line.{Line}
use Rattle.certificate.specs.Lines.{HasNoLineAt, StandsAt}
use Rattle.cert_check.specs.declared.checked.Checked.{Checked}
use Rattle.cert_check.specs.declared.checked.Checked.TheVariants.{Accepted, Rejected}
use Rattle.cert_check.specs.Closing.{header_of}
use Rattle.cert_check.specs.Stages.{Stage, first_stage, is_done, judge, last_stage}

-- From this place and stage, so many lines are right, one after the other, and lead to the other place and stage.
abbrev pub AreRight : Instance → Header → List ℕ → ℕ → ℕ → Stage → ℕ → Stage → Type 0
AreRight x header bytes zero place s after last = (place ≡ after) × (s ≡ last)
AreRight x header bytes (suc n) place s after last =
    (line : Line) × (next : ℕ) × (between : Stage)
    × StandsAt bytes place line next × (judge x header s line ≡ Ok between) × AreRight x header bytes n next between after last

-- All lines of the bytes are right, and the last one says that so many families are closed.
pub record IsAccepted (x : Instance) (model : Model) (order : ℕ) (bytes : List ℕ) (families : ℕ) : Type 0 where
  pub lines : ℕ
  pub right : AreRight x (header_of x model order) bytes lines 0 (first_stage x order) (length bytes) (last_stage families)

-- no line stands at the place
pub record IsNoLine (bytes : List ℕ) (place : ℕ) (reason : Why) : Type 0 where
  pub none : HasNoLineAt bytes place
  pub form : reason ≡ why.Form

-- the line that stands at the place is wrong
pub record IsBadLine (x : Instance) (header : Header) (bytes : List ℕ) (place : ℕ) (s : Stage) (reason : Why) : Type 0 where
  pub line : Line
  pub after : ℕ
  pub stands : StandsAt bytes place line after
  pub wrong : judge x header s line ≡ Err reason

-- bytes follow the last line
pub record HasMore (bytes : List ℕ) (place : ℕ) (reason : Why) : Type 0 where
  pub more : place < length bytes
  pub extra : reason ≡ why.Extra

-- what is wrong at the place, once all lines are read or not
abbrev pub IsWrong : Bool → Instance → Header → List ℕ → ℕ → Stage → Why → Type 0
IsWrong true x header bytes place s reason = HasMore bytes place reason
IsWrong false x header bytes place s reason = IsNoLine bytes place reason ⊎ IsBadLine x header bytes place s reason

-- The lines before the one of this number are right, and this is wrong with it.
pub record IsFirstFault (x : Instance) (model : Model) (order : ℕ) (bytes : List ℕ) (number : ℕ) (reason : Why) : Type 0 where
  pub before : ℕ
  pub place : ℕ
  pub reached : Stage
  pub right : AreRight x (header_of x model order) bytes before 0 (first_stage x order) place reached
  pub wrong : IsWrong (is_done reached.due) x (header_of x model order) bytes place reached reason
  pub at : number ≡ before + 1

-- this is the answer that is due
abbrev pub IsDue : Instance → Model → ℕ → List ℕ → Checked → Type 0
IsDue x model order bytes (Accepted families) = IsAccepted x model order bytes families
IsDue x model order bytes (Rejected number reason) = IsFirstFault x model order bytes number reason

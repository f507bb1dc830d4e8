-- The state of a check, as the code keeps it. Private contracts cite this.
use Rattle.std.specs.Prelude.{ℕ, ◌≡◌, nat_lt, slice_set, if◌then◌else◌, true, Bool, Option, Some, None, Result, Ok, Err, All, List, length, reverse}
use Rattle.expr_table.specs.declared.instance.Instance.{Instance}
use Rattle.live_rows.specs.State.{IsClear}
use Rattle.probe_family.specs.Families.{IsFamily}
use Rattle.certificate.specs.declared.fault.Why.{Why}
use Rattle.cert_check.specs.declared.due.Due.{Due}
use Rattle.cert_check.specs.declared.due.Due.TheVariants as due
use Rattle.cert_check.specs.declared.state.State.{State}
use Rattle.cert_check.specs.Stages.{Stage, stage}

abbrev pub stage_of : State → Stage
stage_of s = stage s.due (reverse s.waiting.items) s.closed

-- a hull that waits for its cuts is a set of probes, and its family is one
abbrev pub FitsDue : ℕ → Due → Type 0
FitsDue n (due.Cuts family hull) = IsFamily n family × (length hull ≡ n)
FitsDue n due.Title = Unit {0}
FitsDue n due.Run = Unit {0}
FitsDue n due.Counts = Unit {0}
FitsDue n due.Hull = Unit {0}
FitsDue n due.Nothing = Unit {0}

-- what waits is a family, and the marks are clear
pub record IsSound (x : Instance) (s : State) : Type 0 where
  pub waiting : All (IsFamily (length x.probes)) (reverse s.waiting.items)
  pub due : FitsDue (length x.probes) s.due
  pub clear : IsClear s.live
  pub rows : length s.live.marks ≡ length x.table.nodes

-- the stage is the one that a line leads to, or this is wrong with the line
abbrev pub Judged : Result Stage Why → Stage → Option Why → Type 0
Judged judgement now None = judgement ≡ Ok now
Judged judgement now (Some reason) = judgement ≡ Err reason

-- a state that took a line is sound
abbrev pub KeepsSound : Instance → State → Option Why → Type 0
KeepsSound x now None = IsSound x now
KeepsSound x now (Some reason) = Unit {0}

-- the set with the number, where that is below its length
abbrev pub with_number : List Bool → ℕ → List Bool
with_number set p = if nat_lt p (length set) then slice_set set p true else set

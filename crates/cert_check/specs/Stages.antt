-- What may be said of each line of a certificate, once those before it are right. The clauses are tried from the first to
-- the last.
use Rattle.std.specs.Prelude.{ℕ, ◌+◌, ◌==◌, Bool, true, false, ◌&&◌, if◌then◌else◌, Option, Some, None, Result, Ok, Err}
use Rattle.std.specs.Prelude.{List, [], ◌∷◌, ◌++◌, length}
use Rattle.circuit_types.specs.declared.probes.Model.{Model}
use Rattle.circuit_types.specs.declared.probes.Model.TheVariants.{Value, Glitch}
use Rattle.expr_table.specs.declared.instance.Instance.{Instance}
use Rattle.expr_table.specs.declared.instance.Notion.{Notion}
use Rattle.expr_table.specs.declared.instance.Notion.TheVariants.{Probing, Ni, Sni}
use Rattle.probe_family.specs.declared.family.Family.{Family}
use Rattle.probe_family.specs.Roots as root
use Rattle.family_split.specs.Children.{children_of}
use Rattle.certificate.specs.declared.entries.Header.{Header}
use Rattle.certificate.specs.declared.fault.Why.{Why}
use Rattle.certificate.specs.declared.fault.Why.TheVariants as why
use Rattle.certificate.specs.declared.line.Line.{Line}
use Rattle.certificate.specs.declared.line.Line.TheVariants as line
use Rattle.cert_check.specs.declared.due.Due.{Due}
use Rattle.cert_check.specs.declared.due.Due.TheVariants as due
use Rattle.cert_check.specs.Closing.{hull_set, is_bounded, is_chain_for, is_hull_for}

-- how far the lines are read
pub record Stage : Type 0 where
  -- which line is due
  pub due : Due
  -- the families that wait, the next one first
  pub waiting : List Family
  -- how many families were closed
  pub closed : ℕ

abbrev pub stage : Due → List Family → ℕ → Stage
stage d waiting closed = record { due = d; waiting = waiting; closed = closed }

-- before the first line the roots wait
abbrev pub first_stage : Instance → ℕ → Stage
first_stage x order = stage due.Title (root.roots_of x order) 0

-- after the last line none waits
abbrev pub last_stage : ℕ → Stage
last_stage closed = stage due.Nothing [] closed

-- no further line is due
abbrev pub is_done : Due → Bool
is_done due.Nothing = true
is_done due.Title = false
is_done due.Run = false
is_done due.Counts = false
is_done due.Hull = false
is_done (due.Cuts family hull) = false

abbrev pub same_notion : Notion → Notion → Bool
same_notion Probing Probing = true
same_notion Ni Ni = true
same_notion Sni Sni = true
same_notion a b = false

abbrev pub same_model : Model → Model → Bool
same_model Value Value = true
same_model Glitch Glitch = true
same_model a b = false

-- The stage after a line, or what is wrong with the line.

abbrev pub on_title : Stage → Due → ℕ → Result Stage Why
on_title s due.Title version = if version == 1 then Ok (stage due.Run s.waiting s.closed) else Err why.Header
on_title s d version = Err why.Form

abbrev pub on_run : Header → Stage → Due → Notion → ℕ → Model → Result Stage Why
on_run header s due.Run notion order model =
    if same_notion notion header.notion && (order == header.order && same_model model header.model)
    then Ok (stage due.Counts s.waiting s.closed)
    else Err why.Header
on_run header s d notion order model = Err why.Form

abbrev pub on_counts : Header → Stage → Due → ℕ → ℕ → ℕ → Result Stage Why
on_counts header s due.Counts probes rows tuples =
    if probes == header.probes && (rows == header.rows && tuples == header.tuples)
    then Ok (stage due.Hull s.waiting s.closed)
    else Err why.Header
on_counts header s d probes rows tuples = Err why.Form

-- a hull for the first of the families that wait
abbrev pub hull_for : Instance → List Family → ℕ → List ℕ → Result Stage Why
hull_for x [] closed hull = Err why.Extra
hull_for x (family ∷ waiting) closed hull =
    if is_hull_for family hull
    then Ok (stage (due.Cuts family (hull_set (length x.probes) hull)) waiting closed)
    else Err why.Hull

abbrev pub on_hull : Instance → Stage → Due → List ℕ → Result Stage Why
on_hull x s due.Hull hull = hull_for x s.waiting s.closed hull
on_hull x s d hull = Err why.Form

-- what is wrong with cuts for the set of a hull, within a bound
abbrev pub cuts_fault : Instance → List Bool → ℕ → List ℕ → Option Why
cuts_fault x hull bound rows =
    if is_chain_for x hull rows then (if is_bounded x hull bound rows then None else Some why.Bound) else Some why.Cuts

-- the stage, unless something is wrong
abbrev pub unless : Option Why → Stage → Result Stage Why
unless None s = Ok s
unless (Some reason) s = Err reason

abbrev pub on_cuts : Instance → Stage → Due → List ℕ → Result Stage Why
on_cuts x s (due.Cuts family hull) rows =
    unless (cuts_fault x hull family.bound rows) (stage due.Hull (children_of family hull ++ s.waiting) (s.closed + 1))
on_cuts x s d rows = Err why.Form

-- the last line, where no family waits
abbrev pub end_at : List Family → ℕ → ℕ → Result Stage Why
end_at (family ∷ waiting) closed number = Err why.Open
end_at [] closed number = if number == closed then Ok (last_stage closed) else Err why.Count

abbrev pub on_end : Stage → Due → ℕ → Result Stage Why
on_end s due.Hull number = end_at s.waiting s.closed number
on_end s d number = Err why.Form

abbrev pub judge : Instance → Header → Stage → Line → Result Stage Why
judge x header s (line.Title version) = on_title s s.due version
judge x header s (line.Run notion order model) = on_run header s s.due notion order model
judge x header s (line.Counts probes rows tuples) = on_counts header s s.due probes rows tuples
judge x header s (line.Hull hull) = on_hull x s s.due hull
judge x header s (line.Cuts rows) = on_cuts x s s.due rows
judge x header s (line.End number) = on_end s s.due number

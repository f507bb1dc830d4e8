use Rattle.std.proofs.Common.{◌≡◌, ◌∙◌, [], ◌∷◌}
use Rattle.std.proofs.lemmas.Result.{err_from_is_err_and}
use Rattle.certificate.specs.declared.line.Line.TheVariants.{Title, Run, Counts}
use Rattle.certificate.proofs.ReadLines.{title_fault, title_read, run_fault, counts_fault, reads_in, two_lines}
use Rattle.certificate.proofs.reader.Reader.header.Goals as goal

pub returns-in_err-title-clause-lines : goal.returns-in_err-title-clause-lines
returns-in_err-title-clause-lines c =
    let self = c.args.self.now in
    let p = err_from_is_err_and c.from_residual.result c.from_residual.ensures.1 in
    rw (p.1, p.2)
    (title_fault self.bytes.now self.place self.number c.in_err-title.field-0.0 c.requires.start c.requires.none c.in_err-title.ensures.line)

pub returns-in_err-notion-clause-lines : goal.returns-in_err-notion-clause-lines
returns-in_err-notion-clause-lines c =
    let self = c.args.self.now in
    let first = c.title.new.self in
    let p = err_from_is_err_and c.from_residual-in_err-notion.result c.from_residual-in_err-notion.ensures.1 in
    rw (p.1, p.2)
    (run_fault self.bytes.now first.bytes.now first.place first.number c.in_err-notion.field-0.0 c.title.ensures.input first.within
    (title_read self.bytes.now self.place self.number first.place first.number c.requires.start c.requires.none c.in_ok-title.ensures.line)
    c.in_err-notion.ensures.line)

pub returns-in_err-probes-clause-lines : goal.returns-in_err-probes-clause-lines
returns-in_err-probes-clause-lines c =
    let self = c.args.self.now in
    let first = c.title.new.self in
    let second = c.run.new.self in
    let p = err_from_is_err_and c.from_residual-in_err-probes.result c.from_residual-in_err-probes.ensures.1 in
    rw (p.1, p.2)
    (counts_fault self.bytes.now second.bytes.now second.place second.number c.in_ok-notion.notion c.in_ok-notion.order c.in_ok-notion.model
    c.in_err-probes.field-0.0 (c.run.ensures.input ∙ c.title.ensures.input) second.within
    (reads_in self.bytes.now first.bytes.now first.place first.number (Title 1 ∷ [])
    (Run c.in_ok-notion.notion c.in_ok-notion.order c.in_ok-notion.model) second.place second.number c.title.ensures.input
    (title_read self.bytes.now self.place self.number first.place first.number c.requires.start c.requires.none c.in_ok-title.ensures.line)
    c.in_ok-notion.ensures.line)
    c.in_err-probes.ensures.line)

pub returns-clause-lines : goal.returns-clause-lines
returns-clause-lines c =
    let self = c.args.self.now in
    let first = c.title.new.self in
    let second = c.run.new.self in
    let third = c.counts.new.self in
    reads_in self.bytes.now second.bytes.now second.place second.number
    (two_lines c.in_ok-notion.notion c.in_ok-notion.order c.in_ok-notion.model)
    (Counts c.in_ok-probes.probes c.in_ok-probes.rows c.in_ok-probes.tuples) third.place third.number
    (c.run.ensures.input ∙ c.title.ensures.input)
    (reads_in self.bytes.now first.bytes.now first.place first.number (Title 1 ∷ [])
    (Run c.in_ok-notion.notion c.in_ok-notion.order c.in_ok-notion.model) second.place second.number c.title.ensures.input
    (title_read self.bytes.now self.place self.number first.place first.number c.requires.start c.requires.none c.in_ok-title.ensures.line)
    c.in_ok-notion.ensures.line)
    c.in_ok-probes.ensures.line

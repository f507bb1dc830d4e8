use Rattle.std.proofs.Common.{◌≡◌, ◌∙◌, ap, arith, length}
use Rattle.std.proofs.lemmas.Result.{err_from_is_err_and}
use Rattle.certificate.proofs.ReadLines.{entries_begun, entry_in, hull_fault, cuts_in_fault, more_in_fault, all_read, reads_on, header_fault}
use Rattle.certificate.proofs.reading.read.Goals as goal

pub returns-in_err-header : goal.returns-in_err-header
returns-in_err-header c =
    let p = err_from_is_err_and c.from_residual.result c.from_residual.ensures.1 in
    rw (p.1, p.2) (header_fault c.args.bytes.now c.new-reader.result.bytes.now c.in_err-header.field-0.0 c.new-reader.ensures.input c.in_err-header.ensures.lines)

pub loop-list-init : goal.loop-list-init
loop-list-init c = record {
  input = c.header.ensures.input ∙ c.new-reader.ensures.input;
  read = entries_begun c.args.bytes.now c.new-reader.result.bytes.now c.header.new.self.place c.header.new.self.number c.in_ok-header.header
      c.new-list.result.items c.new-reader.ensures.input c.new-list.ensures.items c.in_ok-header.ensures.lines;
}

pub returns-in_err-hull : goal.returns-in_err-hull
returns-in_err-hull c =
    let old = c.loop-list.reader in
    let counted : c.len.result ≡ length c.loop-list.list.items = omega (arith, c.loop-list.list.ok.0) in
    let p = err_from_is_err_and c.from_residual-in_err-hull.result c.from_residual-in_err-hull.ensures.1 in
    rw (p.1, p.2)
    (hull_fault c.args.bytes.now old.bytes.now old.place old.number c.len.result c.in_ok-header.header c.loop-list.list.items c.in_err-hull.field-0.0
    c.loop-list.invariant.input old.within counted c.loop-list.invariant.read c.in_err-hull.ensures.line)

pub returns-in_err-cuts : goal.returns-in_err-cuts
returns-in_err-cuts c =
    let old = c.loop-list.reader in
    let first = c.hull.new.self in
    let p = err_from_is_err_and c.from_residual-in_err-cuts.result c.from_residual-in_err-cuts.ensures.1 in
    rw (p.1, p.2)
    (cuts_in_fault c.args.bytes.now old.bytes.now first.bytes.now old.place old.number c.len.result c.in_ok-header.header c.loop-list.list.items
    c.in_ok-hull.field-0 c.in-Some.hull first.place first.number c.in_err-cuts.field-0.0 c.loop-list.invariant.input c.hull.ensures.input first.within
    c.in-Some.is c.loop-list.invariant.read c.in_ok-hull.ensures.line c.in_err-cuts.ensures.line)

pub loop-list-preserved : goal.loop-list-preserved
loop-list-preserved c =
    let old = c.loop-list.reader in
    let first = c.hull.new.self in
    let second = c.cuts.new.self in
    record {
      input = c.cuts.ensures.input ∙ c.hull.ensures.input ∙ c.loop-list.invariant.input;
      read = entry_in c.args.bytes.now old.bytes.now first.bytes.now old.place old.number c.len.result c.in_ok-header.header c.loop-list.list.items
          c.in_ok-hull.field-0 c.in-Some.hull c.in_ok-cuts.cuts first.place first.number second.place second.number c.push.new.self.items
          c.loop-list.invariant.input c.hull.ensures.input c.in-Some.is c.loop-list.invariant.read c.in_ok-hull.ensures.line
          c.in_ok-cuts.ensures.line c.in_ok-push.ensures.items;
    }

pub loop-list-smaller : goal.loop-list-smaller
loop-list-smaller c =
    let old = c.loop-list.reader in
    let first = c.hull.new.self in
    let second = c.cuts.new.self in
    omega (
      arith,
      reads_on _ _ _ _ _ _ c.in_ok-hull.ensures.line,
      reads_on _ _ _ _ _ _ c.in_ok-cuts.ensures.line,
      second.within,
      ap length c.cuts.ensures.input,
      ap length c.hull.ensures.input,
      ap length c.loop-list.invariant.input,
    )

pub returns-in_err-finish : goal.returns-in_err-finish
returns-in_err-finish c =
    let old = c.loop-list.reader in
    let first = c.hull.new.self in
    let counted : c.len.result ≡ length c.loop-list.list.items = omega (arith, c.loop-list.list.ok.0) in
    let p = err_from_is_err_and c.from_residual-in_err-finish.result c.from_residual-in_err-finish.ensures.1 in
    rw (p.1, p.2)
    (more_in_fault c.args.bytes.now old.bytes.now first.bytes.now old.place old.number c.len.result c.in_ok-header.header c.loop-list.list.items
    c.in_ok-hull.field-0 first.place first.number c.in_err-finish.field-0.0 c.loop-list.invariant.input c.hull.ensures.input c.in_default.is counted
    c.loop-list.invariant.read c.in_ok-hull.ensures.line c.in_err-finish.ensures.0 c.in_err-finish.ensures.1)

pub returns : goal.returns
returns c =
    let old = c.loop-list.reader in
    let first = c.hull.new.self in
    let counted : c.len.result ≡ length c.loop-list.list.items = omega (arith, c.loop-list.list.ok.0) in
    all_read c.args.bytes.now old.bytes.now first.bytes.now old.place old.number c.len.result c.in_ok-header.header c.loop-list.list.items
    c.from_vec.result c.in_ok-hull.field-0 first.place first.number c.loop-list.invariant.input c.hull.ensures.input c.in_default.is counted
    c.loop-list.invariant.read c.in_ok-hull.ensures.line c.in_ok-finish.ensures c.from_vec.ensures

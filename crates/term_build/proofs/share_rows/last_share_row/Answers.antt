use Rattle.std.proofs.Common.{◌+◌, ◌*◌, ℕ, get_or, sym, subst, arith}
use Rattle.std.proofs.lemmas.Result.{err_from_is_err_and}
use Rattle.circuit_types.specs.Worlds.{secrets, secret, input}
use Rattle.expr_table.specs.Table.{IsRowOf}
use Rattle.expr_table.specs.Term.{Term}
use Rattle.expr_table.proofs.Facts.{Extends-row}
use Rattle.term_build.specs.Building.{row_at}
use Rattle.term_build.specs.Leaves.{drawn_term, given_term}
use Rattle.term_build.proofs.Counted.{secrets-first}
use Rattle.term_build.proofs.LastShare.{join-more, join-stop, secret-term}
use Rattle.term_build.proofs.Making.{Grows-none}
use Rattle.term_build.proofs.share_rows.last_share_row.Goals as goal

pub input-row-requires : goal.input-row-requires
input-row-requires c = omega (arith, c.requires.secret, c.requires.inputs, secrets-first c.args.roles.now c.args.timing)

pub loop-share-init : goal.loop-share-init
loop-share-init c = record {
  grows = Grows-none c.args.table.now;
  row_is = subst (IsRowOf c.args.table.now.nodes c.input-row.result.0) (sym (secret-term c.args.roles.now c.args.timing c.args.secret c.requires.secret)) c.input-row.ensures.row;
}

pub returns-in_err-row : goal.returns-in_err-row
returns-in_err-row c =
    let roles = c.args.roles.now in
    let old = c.args.table.now in
    let mid = c.loop-share.table in
    let term : ℕ → Term = λ b. drawn_term secrets roles c.args.timing (input b 0) in
    let leaf = given_term secrets roles c.args.timing (secret c.args.secret) in
    let so_far = c.loop-share.invariant in
    let bit = get_or c.args.bits.now (c.args.secret * roles.shares + c.loop-share.share) 0 in
    let is = subst (λ k. IsRowOf mid.nodes k (term bit)) (sym c.row_or_zero.ensures) (Extends-row old mid so_far.grows.kept (row_at c.args.drawn.now bit) (term bit) (c.requires.drawn.each bit)) in
    let p = err_from_is_err_and c.from_residual.result c.from_residual.ensures.1 in
    rw (p.1, p.2) (join-stop roles term leaf c.args.secret c.args.bits.now c.requires.bits c.requires.secret old mid c.loop-share.share c.loop-share.row c.row_or_zero.result c.loop-share-test.true so_far is c.in_err-row.field-0.0 c.in_err-row.ensures)

pub loop-share-preserved : goal.loop-share-preserved
loop-share-preserved c =
    let roles = c.args.roles.now in
    let old = c.args.table.now in
    let mid = c.loop-share.table in
    let term : ℕ → Term = λ b. drawn_term secrets roles c.args.timing (input b 0) in
    let leaf = given_term secrets roles c.args.timing (secret c.args.secret) in
    let so_far = c.loop-share.invariant in
    let bit = get_or c.args.bits.now (c.args.secret * roles.shares + c.loop-share.share) 0 in
    let is = subst (λ k. IsRowOf mid.nodes k (term bit)) (sym c.row_or_zero.ensures) (Extends-row old mid so_far.grows.kept (row_at c.args.drawn.now bit) (term bit) (c.requires.drawn.each bit)) in
    join-more roles term leaf c.args.secret c.args.bits.now c.requires.bits c.requires.secret old mid c.loop-share.share c.loop-share.row c.row_or_zero.result c.loop-share-test.true so_far is c.differ.new.table c.in_ok-row.row c.in_ok-row.ensures

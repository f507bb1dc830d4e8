use Rattle.std.proofs.Common.{◌+◌, ◌∙◌, List, length, take, sym, ap, subst, All, length-set}
use Rattle.std.specs.List.{flat_map}
use Rattle.std.specs.declared.alloc.Global.{Global}
use Rattle.std.specs.declared.vec.Vec.{Vec}
use Rattle.std.proofs.lemmas.Result.{err_from_is_err_and}
use Rattle.circuit_types.specs.declared.roles.InputRole.{InputRole}
use Rattle.circuit_types.specs.Worlds.{secrets, input}
use Rattle.expr_table.specs.declared.node.Row.{Row}
use Rattle.expr_table.specs.Table.{Table}
use Rattle.term_build.specs.Building.{Grows, IsShownShare}
use Rattle.term_build.specs.InputTerms.{role_joins}
use Rattle.term_build.specs.Leaves.{drawn_term, given_term}
use Rattle.term_build.proofs.Making.{ShowBits-kept}
use Rattle.term_build.proofs.SharesMade.{other-grows, other-shows, share-grows, share-shows, share-stops, shares-made}
use Rattle.term_build.proofs.share_rows.share_rows.Goals.{in-Share+in_ok-row, in_default}
use Rattle.term_build.proofs.share_rows.share_rows.Goals as goal

pub share_row-requires-clause-drawn : goal.share_row-requires-clause-drawn
share_row-requires-clause-drawn c =
    ShowBits-kept c.args.table.now c.loop-input.table c.loop-input.invariant.grows.kept c.args.drawn.now (λ b. drawn_term secrets c.args.roles.now c.args.timing (input b 0)) c.requires.drawn

pub returns-in_err-row : goal.returns-in_err-row
returns-in_err-row c =
    let p = err_from_is_err_and c.from_residual-in_err-row.result c.from_residual-in_err-row.ensures.1 in
    rw (p.1, p.2) (share-stops c.args.roles.now c.args.timing c.args.table.now c.loop-input.table c.as_slice-input-items.result.now c.loop-input.input-index _ c.loop-input.rows.items c.loop-input-test.true
    c.loop-input.invariant.grows c.loop-input.invariant.shows c.in-Share.secret c.in-Share.share c.in-Share.is c.in_err-row.field-0.0 c.as_slice-input-items.ensures c.in_err-row.ensures)

pub loop-input-preserved : goal.loop-input-preserved
loop-input-preserved c =
    let roles = c.args.roles.now in
    let timing = c.args.timing in
    let old = c.args.table.now in
    let mid = c.loop-input.table in
    let inputs = c.as_slice-input-items.result.now in
    let i = c.loop-input.input-index in
    let rows = c.loop-input.rows.items in
    let lt = c.loop-input-test.true in
    let grows = c.loop-input.invariant.grows in
    let shows = c.loop-input.invariant.shows in
    elim c.match-input.branch [
      | in-Share+in_ok-row w ↦
          let new = w.share_row.new.table in
          let rows_is = ap (λ (v : Vec Row Global). v.items) w.rows-is in
          let one = w.in_ok-row.ensures in
          record {
            count = ap length rows_is ∙ length-set rows _ w.in_ok-row.row ∙ c.loop-input.invariant.count;
            grows = subst (λ (t : Table). Grows old t (flat_map (λ (x : InputRole). role_joins roles (given_term secrets roles timing) (drawn_term secrets roles timing) x.role) (take (i + 1) inputs))) (sym w.table-is)
                (share-grows roles timing old mid inputs i _ rows lt grows shows w.in-Share.secret w.in-Share.share w.in-Share.is new one.grows);
            shows = subst (λ (t : Table). All (λ (x : InputRole). IsShownShare secrets roles timing t.nodes c.match-input.rows.items x x.role) (take (i + 1) inputs)) (sym w.table-is)
                (subst (λ (r : List Row). All (λ (x : InputRole). IsShownShare secrets roles timing new.nodes r x x.role) (take (i + 1) inputs)) (sym rows_is)
                (share-shows roles timing old mid inputs i _ rows lt grows shows w.in-Share.secret w.in-Share.share w.in-Share.is new c.args.count w.in_ok-row.row c.requires.roles c.as_slice-input-items.ensures
                c.loop-input.invariant.count one.grows.kept one.row_is));
          }
      | in_default w ↦
          let rows_is = ap (λ (v : Vec Row Global). v.items) w.rows-is in
          let none = w.in_default.not-Share in
          record {
            count = ap length rows_is ∙ c.loop-input.invariant.count;
            grows = subst (λ (t : Table). Grows old t (flat_map (λ (x : InputRole). role_joins roles (given_term secrets roles timing) (drawn_term secrets roles timing) x.role) (take (i + 1) inputs))) (sym w.table-is)
                (other-grows roles timing old mid inputs i _ rows lt grows shows none);
            shows = subst (λ (t : Table). All (λ (x : InputRole). IsShownShare secrets roles timing t.nodes c.match-input.rows.items x x.role) (take (i + 1) inputs)) (sym w.table-is)
                (subst (λ (r : List Row). All (λ (x : InputRole). IsShownShare secrets roles timing mid.nodes r x x.role) (take (i + 1) inputs)) (sym rows_is)
                (other-shows roles timing old mid inputs i _ rows lt grows shows none));
          }
    ]

pub returns : goal.returns
returns c =
    shares-made c.args.roles.now c.args.timing c.args.table.now c.loop-input.table c.as_slice-input-items.result.now c.loop-input.input-index c.loop-input.rows.items c.as_slice-input-items.ensures
    c.loop-input-test.false c.loop-input.invariant.grows c.loop-input.invariant.shows

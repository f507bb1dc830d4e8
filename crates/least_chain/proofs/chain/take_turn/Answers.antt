use Rattle.std.proofs.Common.{◌≡◌, ◌<◌, ◌∷◌, length, refl, sym, ap, subst, ◌∙◌, List, arith}
use Rattle.expr_table.specs.declared.node.Node.TheVariants as node
use Rattle.once_random.specs.Cuts.{cuts_of}
use Rattle.once_random.proofs.Facts.{node_read}
use Rattle.live_rows.specs.declared.mark.Mark.{Mark}
use Rattle.live_rows.specs.Marks.{queued_count}
use Rattle.live_rows.specs.Shown.{Shows}
use Rattle.least_chain.proofs.Turns.{turn_row, turn_no_xor, turn_cut, cut_waits}
use Rattle.least_chain.proofs.chain.take_turn.Goals as goal

pub is_live-requires : goal.is_live-requires
is_live-requires g c =
    let turn = c.requires.turn in
    let lt : c.args.row.0 < length c.args.table.now.nodes = turn_row c.args.table.now.nodes c.requires.table.earlier turn.0 c.args.chain.now.items c.args.live.now c.args.waiting.now c.args.row turn.1 in
    omega (arith, turn.1.cutting.shows.rows)

pub returns-in_default : goal.returns-in_default
returns-in_default g c = record {
  rows = refl;
  turn = λ roots turn.
      turn_no_xor c.args.table.now.nodes c.requires.table.earlier roots c.args.chain.now.items c.args.live.now c.args.waiting.now c.args.row turn
      c.node.result (node_read c.args.table.now.nodes c.args.row.0 c.node.result c.node.ensures) c.in_default.not-Xor;
  smaller = omega arith;
}

pub cut-requires-clause-xor : goal.cut-requires-clause-xor
cut-requires-clause-xor g c = node_read c.args.table.now.nodes c.args.row.0 (node.Xor c.in-Xor.a c.in-Xor.b) c.in-Xor.ensures

pub offer_parents-requires-clause-shown : goal.offer_parents-requires-clause-shown
offer_parents-requires-clause-shown g c =
    let turn = c.requires.turn in
    record { roots = turn.0; cuts = c.args.row.0 ∷ cuts_of c.args.chain.now.items; shown = c.cut.ensures.shows turn.0 (cuts_of c.args.chain.now.items) turn.1.cutting.shows }

pub returns-clause-rows : goal.returns-clause-rows
returns-clause-rows g c =
    let turn = c.requires.turn in
    ap length c.offer_parents.ensures.marks ∙ (c.cut.ensures.shows turn.0 (cuts_of c.args.chain.now.items) turn.1.cutting.shows).rows ∙ sym turn.1.cutting.shows.rows

pub returns-clause-turn : goal.returns-clause-turn
returns-clause-turn g c roots turn =
    let nodes = c.args.table.now.nodes in
    let done = cuts_of c.args.chain.now.items in
    let live = sym c.is_live.ensures ∙ c.if-not-is_live.false in
    let uncut = sym c.is_cut.ensures ∙ c.if-is_cut.false in
    let shows = c.cut.ensures.shows roots done turn.cutting.shows in
    turn_cut nodes c.requires.table.earlier roots c.args.chain.now.items c.args.live.now c.args.waiting.now c.args.row turn live uncut
    c.push.new.self.items c.offer_parents.new.live c.offer_parents.new.waiting c.in_ok-push.ensures.items
    (subst (λ (ms : List Mark). Shows nodes roots (c.args.row.0 ∷ done) ms) (sym c.offer_parents.ensures.marks) shows)
    (c.in_ok-offer_parents.ensures.waiting roots (c.args.row.0 ∷ done) shows
    (cut_waits nodes c.requires.table.earlier roots c.args.chain.now.items c.args.live.now c.args.waiting.now c.args.row turn live uncut c.cut.new.self.alone
    (c.cut.ensures.served roots done turn.cutting.shows)))
    c.in_ok-offer_parents.ensures.alone
    (let queued : queued_count c.offer_parents.new.live.marks ≡ queued_count c.cut.new.self.marks = ap queued_count c.offer_parents.ensures.marks in
    let found : length c.offer_parents.new.live.found ≡ length c.cut.new.self.found = ap length c.offer_parents.ensures.found in
    omega (arith, c.cut.ensures.few))

pub returns-in_err-offer_parents-clause-rows : goal.returns-in_err-offer_parents-clause-rows
returns-in_err-offer_parents-clause-rows g c =
    let turn = c.requires.turn in
    ap length c.offer_parents.ensures.marks ∙ (c.cut.ensures.shows turn.0 (cuts_of c.args.chain.now.items) turn.1.cutting.shows).rows ∙ sym turn.1.cutting.shows.rows

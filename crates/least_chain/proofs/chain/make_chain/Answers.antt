use Rattle.std.proofs.Common.{◌≡◌, [], List, ℕ, length, sym, ap, subst, arith}
use Rattle.bit_rows.specs.Sets.{members}
use Rattle.once_random.specs.Tuples.{roots_of, roots_over}
use Rattle.live_rows.specs.declared.mark.Mark.{Mark}
use Rattle.live_rows.specs.Marks.{queued_count}
use Rattle.live_rows.specs.Shown.{Shows}
use Rattle.live_rows.proofs.Facts.{roots_within}
use Rattle.least_chain.specs.Waiting.{AreWaiting}
use Rattle.least_chain.proofs.Turns.{begun, turned, done}
use Rattle.least_chain.proofs.Waits.{waiting_begun}
use Rattle.least_chain.proofs.chain.make_chain.Goals as goal

pub loop-row-init : goal.loop-row-init
loop-row-init g c =
    let x = c.args.instance.now in
    let nodes = x.table.nodes in
    let tuple = members c.args.probes.now in
    let roots = roots_over c.as_slice.result.now tuple in
    let offered = c.in_ok-offer_parents.ensures in
    begun x c.as_slice.result.now tuple c.new-chain.result.items c.offer_parents.new.live c.offer_parents.new.waiting c.as_slice.ensures c.new-chain.ensures.items
    (subst (λ (ms : List Mark). Shows nodes roots [] ms) (sym offered.marks) c.begin.ensures.shows)
    (offered.waiting roots [] c.begin.ensures.shows
    (subst (λ (w : List ℕ). AreWaiting nodes roots [] c.begin.new.self.alone w) (sym c.new-waiting.ensures)
    (waiting_begun nodes c.requires.table.earlier roots (roots_within nodes roots [] c.begin.new.self.marks c.begin.ensures.shows) [] c.begin.new.self.alone c.begin.ensures.alone)))
    offered.alone
    (let queued : queued_count c.offer_parents.new.live.marks ≡ queued_count c.begin.new.self.marks = ap queued_count offered.marks in
    let found : length c.offer_parents.new.live.found ≡ length c.begin.new.self.found = ap length offered.found in
    omega (arith, c.begin.ensures.few))

pub loop-row-preserved : goal.loop-row-preserved
loop-row-preserved g c =
    let roots = roots_of c.args.instance.now (members c.args.probes.now) in
    c.in_ok-take_turn.ensures.turn roots
    (turned c.args.instance.now.table.nodes c.requires.table.earlier roots c.loop-row.chain.items c.loop-row.live c.loop-row.waiting c.pop.new.self c.in-Some.row
    c.in-Some.ensures.has c.in-Some.ensures.least c.loop-row.invariant)

pub returns-clause-least : goal.returns-clause-least
returns-clause-least g c =
    done c.args.instance.now.table.nodes c.requires.table.earlier (roots_of c.args.instance.now (members c.args.probes.now)) c.loop-row.chain.items c.loop-row.live c.loop-row.waiting
    c.in_default.ensures.has c.loop-row.invariant

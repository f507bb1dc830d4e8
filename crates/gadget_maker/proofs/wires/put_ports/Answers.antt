use Rattle.std.proofs.Common.{ℕ, ap, codes, [], ◌∷◌}
use Rattle.std.proofs.lemmas.Result.{on_ok_weaker}
use Rattle.circuit_types.specs.declared.tree.Port.TheVariants as port
use Rattle.gadget_maker.proofs.CellsPut.{five_put}
use Rattle.gadget_maker.proofs.Placing.{put_same}
use Rattle.gadget_maker.specs.Gadget.{pair_count, port_wire}
use Rattle.gadget_maker.proofs.wires.put_ports.Goals as goal

pub returns : goal.returns
returns c =
    let d = c.args.shares in
    let r = c.pair_count-randoms.result in
    let randoms = λ (n : ℕ). port_wire (codes "\\r") n (port.Input 4) (codes "random") in
    on_ok_weaker c.put_port-5.result
    (five_put c.args.listing.now c.put_port.new.self c.put_port-2.new.self c.put_port-3.new.self c.put_port-4.new.self c.put_port-5.new.self
    (port_wire (codes "\\clk") 1 (port.Input 1) (codes "clock")) (port_wire (codes "\\a") d (port.Input 2) (codes "shares a"))
    (port_wire (codes "\\b") d (port.Input 3) (codes "shares b")) (randoms (pair_count d)) (port_wire (codes "\\c") d (port.Output 5) (codes "shares c"))
    c.in_ok-put_port.ensures c.in_ok-put_port-2.ensures c.in_ok-put_port-3.ensures
    (put_same c.put_port-3.new.self c.put_port-4.new.self 1 (randoms r ∷ []) (randoms (pair_count d) ∷ []) (ap (λ n. randoms n ∷ []) c.pair_count-randoms.ensures)
    c.in_ok-put_port-4.ensures))
    c.put_port-5.ensures

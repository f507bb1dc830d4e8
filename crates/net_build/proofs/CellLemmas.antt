-- Cells with what their inputs read, by where bits end.
use Rattle.std.proofs.Common.{◌≡◌, ℕ, ◌+◌, ◌<◌, ◌≤◌, List, [], ◌∷◌, ◌++◌, length, take, map, get_or, Some, None, sym, ap, subst, ◌∙◌, arith}
use Rattle.std.specs.List.{AllZip, flat_map}
use Rattle.std.proofs.lemmas.List.{append-nil, take_all}
use Rattle.cell_kinds.specs.Names.{kind_named}
use Rattle.cell_kinds.specs.declared.kind.CellKind.{CellKind}
use Rattle.circuit_types.specs.Drives.{output_connect}
use Rattle.circuit_types.specs.Nets.{pin_of, first_net, output_net, net_cell, net_cell_of}
use Rattle.circuit_types.specs.Reads.{cell_reads}
use Rattle.circuit_types.specs.declared.nets.NetCell.{NetCell}
use Rattle.circuit_types.specs.declared.nets.NetWire.{NetWire}
use Rattle.circuit_types.specs.declared.nets.Pin.{Pin}
use Rattle.circuit_types.specs.declared.nets.SignalBit.{SignalBit}
use Rattle.circuit_types.specs.declared.nets.Source.{Source}
use Rattle.circuit_types.specs.declared.tree.Cell.{Cell}
use Rattle.net_build.specs.Ports.{port_bit, pin_at, output_bits, IsPortCell, KnowsPorts}
use Rattle.net_build.specs.declared.ports.PortBit.{PortBit}
use Rattle.net_build.specs.declared.ports.PortCell.{PortCell}
use Rattle.net_build.specs.declared.ports.Ports.{Ports}
use Rattle.net_build.proofs.PortLemmas.{zip_at, zip_length, pins_read, output_of_cell}
use Rattle.net_build.proofs.ReadLemmas.{flat-append}

-- a cell of a known kind
one_net_cell : (ws : List NetWire) (sources : List Source) (c : Cell) (kind : CellKind) (line : ℕ) (pins : List Pin) (output : ℕ) → kind_named c.kind ≡ Some kind → line ≡ c.line
    → pins ≡ map (pin_of sources) (cell_reads ws c) → output ≡ output_net ws (output_connect c (kind_named c.kind))
    → net_cell ws sources c ≡ record { line = line; kind = kind; pins = pins; output = output } ∷ []
unfolding net_cell
one_net_cell ws sources c kind line pins output k l p o =
    let made : ℕ → List Pin → ℕ → List NetCell = λ x y z. record { line = x; kind = kind; pins = y; output = z } ∷ [] in
    ap (net_cell_of ws sources c) k
    ∙ (ap (λ x. made x (map (pin_of sources) (cell_reads ws c)) (output_net ws (output_connect c (Some kind)))) (sym l)
    ∙ (ap (λ x. made line x (output_net ws (output_connect c (Some kind)))) (sym p)
    ∙ ap (made line pins) (sym (o ∙ ap (λ v. output_net ws (output_connect c v)) k))))

no_net_cell : (ws : List NetWire) (sources : List Source) (c : Cell) → kind_named c.kind ≡ None → net_cell ws sources c ≡ []
unfolding net_cell
no_net_cell ws sources c e = ap (net_cell_of ws sources c) e

pub none_made : (ws : List NetWire) (sources : List Source) (reads : List PortBit) (outputs : List SignalBit) (c : Cell) (p : PortCell) (old : List NetCell) → IsPortCell ws reads outputs c p → p.kind ≡ None
    → old ≡ old ++ net_cell ws sources c
none_made ws sources reads outputs c p old h e = sym (ap (λ v. old ++ v) (no_net_cell ws sources c (sym h.kind ∙ e)) ∙ append-nil old)

pub one_made : (ws : List NetWire) (sources : List Source) (reads : List PortBit) (outputs : List SignalBit) (c : Cell) (p : PortCell) (kind : CellKind) (ins : List PortBit) (outs : List SignalBit)
    → (pins : List Pin) (output : ℕ) (old new : List NetCell)
    → IsPortCell ws reads outputs c p → p.kind ≡ Some kind → ins ≡ map port_bit (cell_reads ws c) → outs ≡ output_bits ws (output_connect c (kind_named c.kind))
    → pins ≡ map (pin_at sources) ins → output ≡ first_net outs → new ≡ old ++ record { line = p.line; kind = kind; pins = pins; output = output } ∷ []
    → new ≡ old ++ net_cell ws sources c
one_made ws sources reads outputs c p kind ins outs pins output old new h k i o e q n =
    n ∙ ap (λ v. old ++ v)
    (sym (one_net_cell ws sources c kind p.line pins output (sym h.kind ∙ k) h.line
    (e ∙ (ap (map (pin_at sources)) i ∙ pins_read sources (cell_reads ws c)))
    (q ∙ (ap first_net o ∙ output_of_cell ws (output_connect c (kind_named c.kind))))))

-- one cell more
pub cell_made : (ws : List NetWire) (sources : List Source) (cs : List Cell) (ports : Ports) (list : List PortCell) (i : ℕ) (p : PortCell) (now new : List NetCell)
    → list ≡ ports.cells.items → KnowsPorts ws cs ports → i < length list → p ≡ get_or list i p → now ≡ flat_map (net_cell ws sources) (take i cs)
    → ((c : Cell) → IsPortCell ws ports.reads.items ports.outputs.items c p → new ≡ now ++ net_cell ws sources c)
    → new ≡ flat_map (net_cell ws sources) (take (i + 1) cs)
cell_made ws sources cs ports list i p now new q h lt e n f =
    let R = IsPortCell ws ports.reads.items ports.outputs.items in
    let r = zip_at R cs list i p (subst (AllZip R cs) (sym q) h) lt e in
    let x = r.next in
    f x r.fits ∙ (ap (λ v. v ++ net_cell ws sources x) n
    ∙ sym (ap (flat_map (net_cell ws sources)) r.more ∙ (flat-append (net_cell ws sources) (take i cs) (x ∷ []) ∙ ap (λ v. flat_map (net_cell ws sources) (take i cs) ++ v) (append-nil (net_cell ws sources x)))))

pub all_made : (ws : List NetWire) (sources : List Source) (cs : List Cell) (ports : Ports) (list : List PortCell) (i : ℕ) (now : List NetCell) → list ≡ ports.cells.items → KnowsPorts ws cs ports
    → length list ≤ i → now ≡ flat_map (net_cell ws sources) (take i cs) → now ≡ flat_map (net_cell ws sources) cs
all_made ws sources cs ports list i now q h lt n =
    let size = zip_length (IsPortCell ws ports.reads.items ports.outputs.items) cs ports.cells.items h in
    let same : length list ≡ length ports.cells.items = ap length q in
    n ∙ ap (flat_map (net_cell ws sources)) (take_all i cs (omega (arith, size, lt, same)))

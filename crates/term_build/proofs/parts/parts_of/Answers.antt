use Rattle.cell_kinds.specs.declared.kind.GateKind.TheVariants.{Buf, Not, And, Nand, Or, Nor, Xor, Xnor, Andnot, Ornot, Mux, Nmux, Aoi3, Oai3, Aoi4, Oai4}
use Rattle.std.proofs.Common.{ap, ◌∙◌, sym}
use Rattle.term_build.specs.GateTerms.{gate_parts}
use Rattle.term_build.proofs.GateParts.{parts-at}
use Rattle.term_build.proofs.parts.parts_of.Goals as goal

pub returns-in-Buf : goal.returns-in-Buf
returns-in-Buf c pins = parts-at Buf pins ∙ ap (λ kind. gate_parts kind pins) (sym c.in-Buf.is)

pub returns-in-Not : goal.returns-in-Not
returns-in-Not c pins = parts-at Not pins ∙ ap (λ kind. gate_parts kind pins) (sym c.in-Not.is)

pub returns-in-And : goal.returns-in-And
returns-in-And c pins = parts-at And pins ∙ ap (λ kind. gate_parts kind pins) (sym c.in-And.is)

pub returns-in-Nand : goal.returns-in-Nand
returns-in-Nand c pins = parts-at Nand pins ∙ ap (λ kind. gate_parts kind pins) (sym c.in-Nand.is)

pub returns-in-Or : goal.returns-in-Or
returns-in-Or c pins = parts-at Or pins ∙ ap (λ kind. gate_parts kind pins) (sym c.in-Or.is)

pub returns-in-Nor : goal.returns-in-Nor
returns-in-Nor c pins = parts-at Nor pins ∙ ap (λ kind. gate_parts kind pins) (sym c.in-Nor.is)

pub returns-in-Xor : goal.returns-in-Xor
returns-in-Xor c pins = parts-at Xor pins ∙ ap (λ kind. gate_parts kind pins) (sym c.in-Xor.is)

pub returns-in-Xnor : goal.returns-in-Xnor
returns-in-Xnor c pins = parts-at Xnor pins ∙ ap (λ kind. gate_parts kind pins) (sym c.in-Xnor.is)

pub returns-in-Andnot : goal.returns-in-Andnot
returns-in-Andnot c pins = parts-at Andnot pins ∙ ap (λ kind. gate_parts kind pins) (sym c.in-Andnot.is)

pub returns-in-Ornot : goal.returns-in-Ornot
returns-in-Ornot c pins = parts-at Ornot pins ∙ ap (λ kind. gate_parts kind pins) (sym c.in-Ornot.is)

pub returns-in-Mux : goal.returns-in-Mux
returns-in-Mux c pins = parts-at Mux pins ∙ ap (λ kind. gate_parts kind pins) (sym c.in-Mux.is)

pub returns-in-Nmux : goal.returns-in-Nmux
returns-in-Nmux c pins = parts-at Nmux pins ∙ ap (λ kind. gate_parts kind pins) (sym c.in-Nmux.is)

pub returns-in-Aoi3 : goal.returns-in-Aoi3
returns-in-Aoi3 c pins = parts-at Aoi3 pins ∙ ap (λ kind. gate_parts kind pins) (sym c.in-Aoi3.is)

pub returns-in-Oai3 : goal.returns-in-Oai3
returns-in-Oai3 c pins = parts-at Oai3 pins ∙ ap (λ kind. gate_parts kind pins) (sym c.in-Oai3.is)

pub returns-in-Aoi4 : goal.returns-in-Aoi4
returns-in-Aoi4 c pins = parts-at Aoi4 pins ∙ ap (λ kind. gate_parts kind pins) (sym c.in-Aoi4.is)

pub returns-in-Oai4 : goal.returns-in-Oai4
returns-in-Oai4 c pins = parts-at Oai4 pins ∙ ap (λ kind. gate_parts kind pins) (sym c.in-Oai4.is)

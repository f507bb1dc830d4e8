use Rattle.std.proofs.lemmas.List.{take_rest}
use Rattle.rtlil_tree.proofs.PartLemmas.{is_cut}
use Rattle.rtlil_tree.proofs.lines.Lines.next_bytes.Goals as goal

pub returns : goal.returns
returns c =
    let lines = c.args.self.now in
    is_cut lines _ c.part_size.result (take_rest lines.bytes.now lines.place) c.requires c.part_size.ensures.order c.part_size.ensures.some c.part_size.ensures.ends

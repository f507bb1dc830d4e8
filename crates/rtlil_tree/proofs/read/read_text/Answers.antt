use Rattle.rtlil_tree.proofs.TextMoves.{text_read, text_refused, text_without_memory}
use Rattle.rtlil_tree.proofs.read.read_text.Goals as goal

pub returns-in-Ok : goal.returns-in-Ok
returns-in-Ok c = text_read c.in-Ok.tree c.args.bytes.now c.new-lines.result c.read_file.new.lines c.new-lines.ensures c.in-Ok.ensures.file c.in-Ok.ensures.whole

pub returns-in-Err-Refused : goal.returns-in-Err-Refused
returns-in-Err-Refused c =
    text_refused c.refused.result c.in-Err-Refused.field-0 c.in-Err-Refused.refusal c.args.bytes.now c.new-lines.result c.new-lines.ensures c.in-Err-Refused.ensures.file c.in-Err-Refused.field-0-is c.refused.ensures

pub returns : goal.returns
returns c = text_without_memory c.args.bytes.now

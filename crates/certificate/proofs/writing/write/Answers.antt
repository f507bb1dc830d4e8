use Rattle.std.proofs.Common.{take}
use Rattle.std.proofs.lemmas.List.{take_all}
use Rattle.certificate.proofs.WrittenLines.{header_written, entries_more, all_written}
use Rattle.certificate.proofs.writing.write.Goals as goal

pub loop-entry-init : goal.loop-entry-init
loop-entry-init c = header_written c.args.header.now c.in_ok-text.text.items c.in_ok-text.ensures.forms c.in_ok-text.ensures.text

pub loop-entry-preserved : goal.loop-entry-preserved
loop-entry-preserved c =
    entries_more c.args.header.now c.args.list.now c.loop-entry.entry-index c.entry-item.result c.loop-entry.text.items
    c.push_entry.new.text.items c.loop-entry-test.true c.entry-item.is c.loop-entry.invariant c.in_ok-push_entry.ensures.forms
    c.in_ok-push_entry.ensures.text

pub returns : goal.returns
returns c =
    all_written c.args.header.now c.args.list.now (take c.loop-entry.entry-index c.args.list.now) c.loop-entry.text.items
    c.push_end.new.text.items (take_all c.loop-entry.entry-index c.args.list.now c.loop-entry-test.false) c.loop-entry.invariant
    c.in_ok-push_end.ensures.form c.in_ok-push_end.ensures.text

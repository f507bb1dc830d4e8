use Rattle.certificate.proofs.WrittenLines.{written_entry, entry_forms}
use Rattle.certificate.proofs.writing.push_entry.Goals as goal

pub returns-clause-text : goal.returns-clause-text
returns-clause-text c =
    written_entry c.args.entry.now c.args.text.now.items c.push_list.new.text.items c.push_list-2.new.text.items c.as_slice.result.now
    c.as_slice-2.result.now c.as_slice.ensures c.as_slice-2.ensures c.in_ok-push_list.ensures.text c.in_ok-push_list-2.ensures.text

pub returns-clause-forms : goal.returns-clause-forms
returns-clause-forms c =
    entry_forms c.args.entry.now c.as_slice.result.now c.as_slice-2.result.now c.as_slice.ensures c.as_slice-2.ensures c.requires
    c.in_ok-push_list.ensures.small c.in_ok-push_list-2.ensures.small

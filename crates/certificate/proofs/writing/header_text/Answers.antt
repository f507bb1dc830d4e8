use Rattle.certificate.proofs.WrittenLines.{header_text, header_forms}
use Rattle.certificate.proofs.writing.header_text.Goals as goal

pub returns-clause-text : goal.returns-clause-text
returns-clause-text c =
    header_text c.args.header.now c.new-text.result.items c.push_title.new.text.items c.push_run.new.text.items c.push_counts.new.text.items
    c.new-text.ensures.items c.in_ok-push_title.ensures c.in_ok-push_run.ensures.text c.in_ok-push_counts.ensures.text

pub returns-clause-forms : goal.returns-clause-forms
returns-clause-forms c = header_forms c.args.header.now c.in_ok-push_run.ensures.form c.in_ok-push_counts.ensures.form

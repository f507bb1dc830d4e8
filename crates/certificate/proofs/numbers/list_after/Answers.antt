use Rattle.certificate.proofs.NumberLists.{no_word, no_feed, list_found}
use Rattle.certificate.proofs.numbers.list_after.Goals as goal

pub returns-in_default : goal.returns-in_default
returns-in_default c = no_word c.args.word.now c.args.bytes.now c.in_default.ensures

pub returns-in_default-after : goal.returns-in_default-after
returns-in_default-after c =
    no_feed c.args.word.now c.args.bytes.now c.in-Some.text.now c.in_ok-numbers.numbers.items c.in_ok-numbers.rest.now c.in-Some.ensures
    c.in_ok-numbers.ensures.first c.in_ok-numbers.ensures.all c.in_default-after.ensures

pub returns : goal.returns
returns c =
    list_found c.args.word.now c.args.bytes.now c.in-Some.text.now c.in_ok-numbers.numbers.items c.in_ok-numbers.rest.now
    c.in-Some-after.rest.now c.in-Some.ensures c.in_ok-numbers.ensures.first c.in-Some-after.ensures

use Rattle.share_notes.specs.Known.{seen_given}
use Rattle.share_notes.proofs.Places.{place_pushed}
use Rattle.share_notes.proofs.secrets.Secrets.add_place.Goals as goal

pub returns-clause-list : goal.returns-clause-list
returns-clause-list c = λ gs e.
    place_pushed gs c.args.wire.now c.args.place (seen_given c.in-Some.given) c.args.self.now.list.items c.add.new.self.list.items c.in-Some.ensures e c.in_ok-add.ensures.list

use Rattle.std.proofs.Common.{sym, ◌∙◌}
use Rattle.share_notes.proofs.Places.{place_some, place_none}
use Rattle.share_notes.proofs.secrets.Secrets.place.Goals as goal

pub returns-in-Some : goal.returns-in-Some
returns-in-Some c =
    place_some c.args.self.now.list.items (record { name = c.args.name.now; bit = c.args.bit }) c.in-Some.place.now
    (sym (c.requires (record { name = c.args.name.now; bit = c.args.bit })) ∙ sym c.in-Some.ensures.value)

pub returns-in-None : goal.returns-in-None
returns-in-None c =
    place_none c.args.self.now.list.items (record { name = c.args.name.now; bit = c.args.bit })
    (sym (c.requires (record { name = c.args.name.now; bit = c.args.bit })) ∙ sym c.in-None.ensures.value)

use Rattle.once_random.proofs.LiveRows.{live-least}
use Rattle.once_random.proofs.laws.live_is_least.Goals as goal

pub returns : goal.returns
returns c table roots cuts is_table within = live-least table.nodes is_table.earlier roots within cuts

use Rattle.deque_reach.proofs.Kept.{splits}
use Rattle.deque_reach.proofs.begin.new_lane.Goals as goal

pub another-pass-requires : goal.another-pass-requires
another-pass-requires c = splits _ _ c.requires.0 c.requires.1

use Rattle.std.proofs.Common.{◌≡◌, ◌∙◌, ◌<◌, length, get_or, ap, arith}
use Rattle.extend_set.proofs.RunSets.{length-without}
use Rattle.extend_set.proofs.runs.reset_run.Goals as goal

pub add_numbers-requires : goal.add_numbers-requires
add_numbers-requires c k d lt =
    let long : length c.clear_run.new.set ≡ length c.args.set.now = ap length c.clear_run.ensures ∙ length-without c.args.set.now c.args.start c.args.end in
    let below : get_or c.args.kept.now k d < length c.args.set.now = c.requires.kept k d lt in
    omega arith

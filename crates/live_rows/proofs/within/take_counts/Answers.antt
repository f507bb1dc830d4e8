use Rattle.std.proofs.Common.{◌<◌, ◌&&◌, ◌∙◌, nat_le, get_or, set, length, sym, ap, length-set}
use Rattle.once_random.specs.Numbers.{all_below}
use Rattle.live_rows.proofs.Tally.{last_within, tally_less, one_taken, few_left}
use Rattle.live_rows.proofs.within.take_counts.Goals as goal

pub bounds-leaves-group : goal.bounds-leaves-group
bounds-leaves-group c = last_within c.loop-group.leaves c.loop-group.counted.numbers c.loop-group.invariant.tally c.pop.new.self.numbers c.in-Some.group c.in-Some.ensures.last

pub bounds-leaves-group-in-Some : goal.bounds-leaves-group-in-Some
bounds-leaves-group-in-Some c = last_within c.loop-group.leaves c.loop-group.counted.numbers c.loop-group.invariant.tally c.pop.new.self.numbers c.in-Some.group c.in-Some.ensures.last

pub loop-group-preserved : goal.loop-group-preserved
loop-group-preserved c =
    let leaves = c.loop-group.leaves in
    let group = c.in-Some.group in
    let within : group < length leaves = last_within leaves c.loop-group.counted.numbers c.loop-group.invariant.tally c.pop.new.self.numbers group c.in-Some.ensures.last in
    record {
      tally = tally_less leaves c.loop-group.counted.numbers c.loop-group.invariant.tally group within c.pop.new.self.numbers c.in-Some.ensures.last;
      within = ap (λ n. (c.loop-group.few && nat_le (get_or leaves group 0) c.args.bound) && all_below n (λ r. nat_le (get_or (set leaves group 0) r 0) c.args.bound)) (length-set leaves group 0)
          ∙ one_taken leaves c.args.bound group within c.loop-group.few
          ∙ c.loop-group.invariant.within;
      room = c.in-Some.ensures.room ∙ c.loop-group.invariant.room;
    }

pub returns-clause-within : goal.returns-clause-within
returns-clause-within c =
    sym (few_left c.loop-group.few c.loop-group.leaves c.loop-group.counted.numbers c.args.bound c.loop-group.invariant.tally c.in_default.ensures.last.0) ∙ c.loop-group.invariant.within

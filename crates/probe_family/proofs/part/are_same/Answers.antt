use Rattle.std.proofs.Common.{◌≡◌, length, refl, arith}
use Rattle.std.proofs.lemmas.List.{same_lists}
use Rattle.probe_family.proofs.part.are_same.Goals as goal

pub returns : goal.returns
returns c =
    let long : length c.args.parts.now ≡ length c.args.others.now = omega arith in
    ((λ is. same_lists c.args.parts.now c.args.others.now long (λ k d lt. c.loop-i.invariant k d (omega arith))), λ same. refl)

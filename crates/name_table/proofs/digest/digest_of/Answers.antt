use Rattle.std.proofs.Common.{◌/◌, ◌^◌, ap, ◌∙◌}
use Rattle.std.specs.Hash.FoldHasher.{write, finish}
use Rattle.name_table.specs.Digests.{digest_of}
use Rattle.name_table.proofs.digest.digest_of.Goals as goal

pub returns : goal.returns
unfolding digest_of
returns c = ap (λ n. n / 2 ^ 32) (c.finish.ensures ∙ ap finish (c.write.ensures ∙ ap (λ h. write h c.args.name.now) c.default-hasher.ensures))

use Rattle.std.proofs.Common.{Err}
use Rattle.maskverif_cli.proofs.Replies.{long-counts, long-lacks, long-no_fault, missing-lacks, other-no_fault}
use Rattle.mv_files.specs.declared.whole.ReadStop.TheVariants as read
use Rattle.maskverif_cli.proofs.files.read_file.Goals as goal

pub returns-in-Err-Missing-clause-lacks : goal.returns-in-Err-Missing-clause-lacks
returns-in-Err-Missing-clause-lacks g c =
    let end = c.in-Err-Missing.ensures in
    missing-lacks (g.F.Files.disk c.args.files.now) c.args.name.now c.args.limit c.args.which c.no_file.result c.no_file.ensures.status c.no_file.ensures.text c.no_file.ensures.certificate
    (end.missing (λ i. Err (c.in-Err-Missing.field-0-is i)))

pub returns-in-Err-TooLong-clause-lacks : goal.returns-in-Err-TooLong-clause-lacks
returns-in-Err-TooLong-clause-lacks g c =
    let end = c.in-Err-TooLong.ensures in
    long-lacks (g.F.Files.disk c.args.files.now) c.args.name.now c.args.limit c.args.which c.refused.result c.refused.ensures
    (end.too_long (λ i. Err (c.in-Err-TooLong.field-0-is i)))

pub returns-in-Err-TooLong-clause-reads : goal.returns-in-Err-TooLong-clause-reads
returns-in-Err-TooLong-clause-reads g c =
    let end = c.in-Err-TooLong.ensures in
    long-counts (g.F.Files.disk c.args.files.now) c.args.name.now c.args.limit c.args.which c.refused.result _ _ c.refused.ensures
    (end.faultless (other-no_fault c.in-Err-TooLong.field-0 read.TooLong c.in-Err-TooLong.field-0-is long-no_fault))

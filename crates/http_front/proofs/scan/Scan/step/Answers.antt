use Rattle.std.proofs.Common.{take}
use Rattle.http_front.specs.declared.scan.Scan.TheVariants.{Target}
use Rattle.http_front.specs.private.Scans.{IsSeen}
use Rattle.http_front.proofs.ScanLemmas.{byte_at, drop_of_take, target_within}
use Rattle.http_front.proofs.scan.Scan.step.Goals as goal

pub returns-in-Target : goal.returns-in-Target
returns-in-Target c =
    let seen = take c.args.at c.args.bytes.now in
    let is : IsSeen (Target c.in-Target.start) seen = rw c.in-Target.is at c.requires.1 in
    rw (byte_at c.args.bytes.now c.args.at c.requires.0)
    (c.in_target.ensures seen is
    (drop_of_take c.args.bytes.now c.in-Target.start c.args.at
    (target_within c.args.bytes.now c.in-Target.start c.args.at is)))

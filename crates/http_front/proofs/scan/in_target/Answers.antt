use Rattle.http_front.proofs.ScanLemmas.{target_space}
use Rattle.http_front.proofs.scan.in_target.Goals as goal

pub returns-then-is_whole_target : goal.returns-then-is_whole_target
returns-then-is_whole_target c seen is same =
    target_space seen c.args.byte c.args.start c.args.target.now is same c.if-is_whole_target.ensures.0
    c.if-is_whole_target.ensures.1 c.if-byte-eq32.true

use Rattle.http_front.proofs.ScanLemmas.{blank_lf}
use Rattle.http_front.proofs.scan.in_blank.Goals as goal

pub returns-in-10 : goal.returns-in-10
returns-in-10 c seen is = blank_lf seen c.args.byte is c.in-10.is

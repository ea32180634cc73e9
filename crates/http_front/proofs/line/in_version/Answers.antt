use Rattle.std.proofs.Common.{arith}
use Rattle.http_front.proofs.ScanLemmas.{version_lf}
use Rattle.http_front.proofs.line.in_version.Goals as goal

pub returns-in-10 : goal.returns-in-10
returns-in-10 c more lines = version_lf c.args.count c.args.byte more (omega arith) c.in-10.is lines

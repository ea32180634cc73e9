use Rattle.http_front.proofs.ScanLemmas.{line_goes_on}
use Rattle.http_front.proofs.line.LineScan.is_open.Goals as goal

pub returns-in_default : goal.returns-in_default
returns-in_default c = line_goes_on c.args.self c.in_default.not-Stop

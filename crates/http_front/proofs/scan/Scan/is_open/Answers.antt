use Rattle.http_front.proofs.ScanLemmas.{line_open, on_true_weaker, seen_open}
use Rattle.http_front.proofs.scan.Scan.is_open.Goals as goal

pub returns-in-Behind : goal.returns-in-Behind
returns-in-Behind c bytes seen =
    on_true_weaker c.is_open.result c.is_open.ensures (line_open c.in-Behind.line bytes (rw c.in-Behind.is at seen))

pub returns-in_default : goal.returns-in_default
returns-in_default c bytes seen = seen_open c.args.self bytes c.in_default.not-Behind seen

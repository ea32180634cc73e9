use Rattle.http_front.proofs.ScanLemmas.{blank_crlf}
use Rattle.http_front.proofs.scan.in_blank_end.Goals as goal

pub returns-then-byte-eq10 : goal.returns-then-byte-eq10
returns-then-byte-eq10 c seen is = blank_crlf seen c.args.byte is c.if-byte-eq10.true

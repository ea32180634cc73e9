use Rattle.std.proofs.Common.{take}
use Rattle.http_front.specs.private.Scans.{IsSeen}
use Rattle.http_front.proofs.scan.Scan.go_on.Given as goal

abbrev pub invariant-loop-at : goal.invariant-loop-at
invariant-loop-at l = IsSeen l.scan (take l.at l.bytes)

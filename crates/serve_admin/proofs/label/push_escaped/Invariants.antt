use Rattle.std.proofs.Common.{◌≡◌, ◌++◌, take}
use Rattle.serve_admin.specs.Labels.{escaped}
use Rattle.serve_admin.proofs.label.push_escaped.Given as goal

abbrev pub invariant-loop-byte : goal.invariant-loop-byte
invariant-loop-byte l = l.text.items ≡ l.initial.text.items ++ escaped (take l.byte-index l.value)

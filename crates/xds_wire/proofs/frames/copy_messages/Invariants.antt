use Rattle.std.proofs.Common.{◌≡◌, map}
use Rattle.xds_wire.proofs.frames.copy_messages.Given as goal

abbrev pub invariant-loop-message : goal.invariant-loop-message
invariant-loop-message l = l.copies.items ≡ map (λ message. message.now) l.yielded

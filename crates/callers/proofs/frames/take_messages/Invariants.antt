use Rattle.std.proofs.Common.{◌≡◌, ◌++◌, length}
use Rattle.callers.proofs.frames.take_messages.Given as goal

abbrev pub invariant-loop-message : goal.invariant-loop-message
invariant-loop-message l =
    (l.frames.max ≡ l.initial.frames.max) × (l.frames.tail ≡ l.initial.frames.tail)
    × (l.messages.items ++ l.frames.messages ≡ l.initial.messages.items ++ l.initial.frames.messages)

abbrev pub decreases-loop-message : goal.decreases-loop-message
decreases-loop-message l = length l.frames.messages

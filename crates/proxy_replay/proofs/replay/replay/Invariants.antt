-- The lines so far were read and answered, and the next has the next number.
use Rattle.std.proofs.Common.{◌≡◌, ◌+◌, List, ℕ, length}
use Rattle.proxy_core.specs.Proxies.{proxy_view}
use Rattle.proxy_core.specs.Step.{EventCall}
use Rattle.proxy_replay.specs.Replays.{Replayed}
use Rattle.proxy_replay.proofs.replay.replay.Given as goal

abbrev pub invariant-loop-number : goal.invariant-loop-number
invariant-loop-number g l = (lines : List (List ℕ)) × (calls : List EventCall)
    × Replayed l.fn.config l.fn.only (g.R.Read.remaining l.fn.input) (g.W.Write.contents l.fn.out) lines calls
    (proxy_view l.core.proxy) (g.R.Read.remaining l.input) (g.W.Write.contents l.out)
    × (l.number ≡ length lines + 1) × (l.core.only ≡ l.fn.only)

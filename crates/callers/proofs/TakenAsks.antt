-- Asks are taken from a front in order.
use Rattle.std.proofs.Common.{◌≡◌, ◌<◌, List, [], ◌++◌, ℕ, Some, None, refl, append-nil}
use Rattle.http_front.specs.Front.{FrontValue, TakesNext, keeping}
use Rattle.http_front.specs.Heads.{Kept, TakesAll, fed, size_of_kept}
use Rattle.http_front.specs.declared.ask.Ask.{Ask}
use Rattle.http_front.proofs.Resuming.{takes_falls}

-- what was taken so far from a front after further bytes
pub record TakenSoFar (start : FrontValue) (bytes : List ℕ) (now : FrontValue) (asks : List Ask) : Type 0 where
  pub same : now ≡ keeping start now.kept
  pub takes : (more : List Ask) (end : Kept) → TakesAll start.limits start.facts now.kept more end
      → TakesAll start.limits start.facts (fed start.kept bytes) (asks ++ more) end

-- all were taken if there is no next one
pub taken_all : (start : FrontValue) (bytes : List ℕ) (now : FrontValue) (asks : List Ask)
    → TakenSoFar start bytes now asks → (next : FrontValue) → TakesNext now None next
    → TakesAll start.limits start.facts (fed start.kept bytes) asks next.kept
taken_all start bytes now asks so_far next (none, same) =
    rw same (rw (append-nil asks) at (so_far.takes [] now.kept refl))

-- each one makes what is kept smaller
pub falls : (now next : FrontValue) (ask : Ask) → TakesNext now (Some ask) next
    → size_of_kept next.kept < size_of_kept now.kept
falls now next ask (takes, made) = takes_falls now.limits now.facts now.kept next.kept ask takes

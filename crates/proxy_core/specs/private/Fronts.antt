-- Fronts in their places (this project's own).
use Rattle.std.specs.Prelude.{◌≡◌, ℕ, false, Option, Some, List, IfSome}
use Rattle.attributes.specs.Limits.{LimitsValue}
use Rattle.http_front.specs.Front.{FrontValue, HasNoAsk, fed_front}
use Rattle.http_front.specs.Heads.{is_closed}
use Rattle.proxy_core.specs.Step.{ProxyValue, front_at, with_conn}

-- the front, if there is one, has these limits, and its connection is not closed
abbrev pub IsOpenFor : LimitsValue → Option FrontValue → Type 0
IsOpenFor limits front = IfSome front (λ f. (f.limits ≡ limits) × (is_closed f.kept ≡ false))

-- the front in a place, whose connection is not closed, takes bytes that complete no ask
abbrev pub KeepsAt : ProxyValue → ℕ → List ℕ → ProxyValue → Type 0
KeepsAt old k bytes new = (front : FrontValue) × (front_at old k ≡ Some front) × (is_closed front.kept ≡ false)
    × HasNoAsk (fed_front front bytes) × (new ≡ with_conn old k (Some (fed_front front bytes)))

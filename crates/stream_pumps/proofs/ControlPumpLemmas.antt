-- One call more of the pump of a control plane.
use Rattle.std.proofs.Common.{◌≡◌, ◌++◌, ℕ, Bool, true, false, not, List, [], ◌∷◌, Option, append-nil, refl, ap, ◌∙◌, take}
use Rattle.std.specs.Prelude.{is_some}
use Rattle.std.proofs.KnownBytes.{Consumes-trans}
use Rattle.std.specs.Io.KnownBytes.{Consumes}
use Rattle.ads.specs.Control.{ControlValue}
use Rattle.stream_pumps.specs.ControlPump.{FeedCall, FeedDoes, FeedsDo}

pub feeds_more : (a b c : ControlValue) (calls : List FeedCall) (call : FeedCall) → FeedsDo a calls b
    → FeedDoes b call c → FeedsDo a (calls ++ call ∷ []) c
feeds_more a b c [] call done does = (c, rw done at does, refl)
feeds_more a b c (first ∷ calls) call (next, here, rest) does = (next, here, feeds_more next b c calls call rest does)

-- a stream that has no reason to end
pub goes_on : {A : Type 0} (ended : Option A) (whole : Bool) → is_some ended ≡ not whole → whole ≡ true
    → is_some ended ≡ false
goes_on ended whole reported is = reported ∙ ap not is

-- a read that gives nothing
pub read_none : (before now after : Option (List ℕ)) (read room : List ℕ) (count : ℕ) → count ≡ 0
    → Consumes before now read → Consumes now after (take count room) → Consumes before after read
read_none before now after read room count none so_far last =
    rw append-nil at (Consumes-trans before now after read [] so_far (rw none at last))

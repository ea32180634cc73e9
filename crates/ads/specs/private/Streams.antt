-- A stream that is up, as its reader of frames keeps it (this project's own).
use Rattle.std.specs.Prelude.{◌≡◌, ℕ, Bool, true, false, Option, Some, None, List, []}
use Rattle.xds_wire.specs.Frames.{Tail, unfinished, broken}
use Rattle.xds_wire.specs.Stream.{Kept, IsUnfinished}
use Rattle.ads.specs.Client.{most_bytes}

-- the bytes after the whole frames
abbrev pub rest_of : Tail → List ℕ
rest_of (unfinished rest) = rest
rest_of (broken fault) = []

-- the frames of a stream that is up: all its messages were taken, and it is not broken
pub record IsUp (kept : Kept) : Type 0 where
  pub max : kept.max ≡ most_bytes
  pub taken : kept.messages ≡ []
  pub whole : IsUnfinished kept.tail

-- the unfinished bytes of a stream, unless it ended
abbrev pub kept_of : Bool → Tail → Option (List ℕ)
kept_of false tail = Some (rest_of tail)
kept_of true tail = None

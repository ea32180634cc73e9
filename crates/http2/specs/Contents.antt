-- Whose data the content of a call is (RFC 9113, 6.1 and 8.1): that of its own stream, up to its end.
use Rattle.std.specs.Prelude.{◌≡◌, ℕ, ◌==◌, Bool, true, false, List, [], ◌∷◌, ◌++◌, if◌then◌else◌}
use Rattle.http2.specs.Frame.{kind_of, stream_of, ends_stream}
use Rattle.http2.specs.Trail.{Step, got, put, data_got}
use Rattle.http2.specs.Streams.{CallValue}

-- DATA or HEADERS with END_STREAM, which ends its stream
abbrev pub is_last : List ℕ → Bool
is_last frame = if kind_of frame == 0 then ends_stream frame else if kind_of frame == 1 then ends_stream frame else false

-- the last frame that came is such a one, or it continues the header block of one (6.10)
abbrev pub has_ended : List Step → Bool
has_ended [] = false
has_ended (got frame ∷ trail) = if kind_of frame == 9 then has_ended trail else is_last frame
has_ended (put frame ∷ trail) = has_ended trail

-- the call came whole with a frame of its own stream, which ended it. Its content is what the DATA frames of that stream brought
-- until then, that one too: without padding, in order
abbrev pub HasItsData : List Step → CallValue → Type 0
HasItsData trail call = (later before : List Step) × (frame : List ℕ) × (trail ≡ later ++ got frame ∷ before)
    × (stream_of frame ≡ call.stream) × (has_ended (got frame ∷ before) ≡ true)
    × (call.request.content ≡ data_got call.stream (got frame ∷ before))

-- A server's control of the code, as the definitions see it.
use Rattle.std.specs.Prelude.{map}
use Rattle.std.specs.Option.{option_map}
use Rattle.hpack.specs.Field.{line_of, lines_of}
use Rattle.http2.specs.Gathering.{BlockValue, Gathered, heavy, part, garbled, whole}
use Rattle.http2.specs.Serving.{ServingValue}
use Rattle.http2.specs.declared.gathering.Gathering.{Gathering}
use Rattle.http2.specs.declared.gathering.Progress.{Progress}
use Rattle.http2.specs.declared.gathering.Progress.TheVariants as progress
use Rattle.http2.specs.declared.serving.Serving.{Serving}

-- the header block that one of the code means
abbrev pub block_view : Gathering → BlockValue
block_view g = record { octets = g.block.items; weight = g.weight; table = g.decoder.table }

-- the control that one of the code means
abbrev pub serving_view : Serving → ServingValue
serving_view s = record {
  phase = s.phase;
  unfinished = s.unfinished;
  ends = s.ends;
  block = block_view s.block;
  number = s.number;
  last = s.last;
  left = s.left;
  request = map line_of s.request.items;
  refused = s.refused;
}

-- what a part makes of a block, that a value of the code means
abbrev pub gathered_of : Progress → Gathered
gathered_of progress.Heavy = heavy
gathered_of progress.More = part
gathered_of progress.Garbled = garbled
gathered_of (progress.Whole fields) = whole (option_map lines_of fields)

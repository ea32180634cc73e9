-- Streams and calls of the code, as the definitions see them.
use Rattle.std.specs.Option.{option_map}
use Rattle.hpack.specs.Field.{lines_of}
use Rattle.http2.specs.Streams.{RequestValue, CallValue, StreamValue}
use Rattle.http2.specs.declared.stream.Call.{Call}
use Rattle.http2.specs.declared.stream.Request.{Request}
use Rattle.http2.specs.declared.stream.Stream.{Stream}

-- the request that one of the code means
abbrev pub request_view : Request → RequestValue
request_view r = record { fields = lines_of r.fields; content = r.content.items }

-- the call that one of the code means
abbrev pub call_view : Call → CallValue
call_view c = record { stream = c.stream; request = request_view c.request }

-- the stream that one of the code means
abbrev pub stream_view : Stream → StreamValue
stream_view s = record {
  number = s.number;
  request = option_map request_view s.request;
  left = s.left;
  begun = s.begun;
  raised = s.raised;
  used = s.used;
}

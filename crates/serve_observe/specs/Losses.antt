-- Why an update stream was lost, for its log (this project's own; docs/OPERATING.md, "The logs of a server").
use Rattle.std.specs.Prelude.{Option, None, Some}
use Rattle.ads.specs.declared.ended.Ended.{Ended}
use Rattle.serve_core.specs.declared.other_protocol.OtherProtocol.{OtherProtocol}
use Rattle.serve_loop.specs.declared.stream.CloseReason.{CloseReason}
use Rattle.serve_loop.specs.declared.stream.CloseReason.TheVariants as reasons
use Rattle.serve_observe.specs.declared.update_log.BytesEnd.{BytesEnd}
use Rattle.serve_observe.specs.declared.update_log.BytesEnd.TheVariants as ends
use Rattle.serve_observe.specs.declared.update_log.Loss.{Loss}
use Rattle.serve_observe.specs.declared.update_log.Loss.TheVariants as losses

-- why bytes end the stream: they are of another protocol, or they are no response; none if they do not
abbrev pub end_by : Option OtherProtocol → Option Ended → Option BytesEnd
end_by (Some protocol) ended = Some (ends.OtherProtocol protocol)
end_by None (Some ended) = Some (ends.Ended ended)
end_by None None = None

-- the loss of a stream that the loop closed for this reason, after its bytes ended it for that one
abbrev pub loss : CloseReason → Option BytesEnd → Loss
loss reasons.Served (Some end) = losses.Bytes end
loss reasons.Served None = losses.Closed
loss reasons.Foreign (Some end) = losses.Bytes end
loss reasons.Foreign None = losses.Closed
loss reasons.Left end = losses.Closed
loss reasons.Idle end = losses.Closed
loss reasons.Drained end = losses.Closed
loss reasons.Full end = losses.Closed
loss reasons.Silent end = losses.Silence
loss reasons.Reset end = losses.Reset
loss reasons.Slow end = losses.NoResponse
loss reasons.Blocked end = losses.NotTaken
loss reasons.Memory end = losses.Memory

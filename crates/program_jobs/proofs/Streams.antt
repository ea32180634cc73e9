-- The streams that a control plane serves.
use Rattle.std.proofs.Common.{Bool, true, false, Option, inl, inr}
use Rattle.ads.specs.Control.{ControlValue}
use Rattle.stream_pumps.specs.Rounds.{Link, ServesOneStream}
use Rattle.program_jobs.specs.Jobs.{streams_of}

-- a stream that a listener accepts is accepted at its address
pub accepted_at : (grpc : Bool) (Accepts At : Option Link → Type 0) (old new : ControlValue)
    → ((link : Option Link) → Accepts link → At link) → ServesOneStream (streams_of grpc Accepts) old new
    → ServesOneStream (streams_of grpc At) old new
accepted_at true Accepts At old new there serves = serves
accepted_at false Accepts At old new there (inl (none, same)) = inl (there _ none, same)
accepted_at false Accepts At old new there (inr (link, some, served)) = inr (link, there _ some, served)

use Rattle.std.proofs.Common.{None, inr}
use Rattle.program_jobs.proofs.serve.serve_call.Goals as goal

pub returns : goal.returns
returns g c = inr ((None, None), tt, (_, _, c.serve_stream.ensures))

use Rattle.ads.proofs.ServeStreams.{serves_whole}
use Rattle.ads.proofs.laws.control_serves.Goals as goal

pub returns : goal.returns
returns c = serves_whole

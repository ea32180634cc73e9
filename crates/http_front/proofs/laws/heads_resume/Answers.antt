use Rattle.http_front.proofs.Resuming.{takes_resume}
use Rattle.http_front.proofs.laws.heads_resume.Goals as goal

pub returns : goal.returns
returns c = takes_resume

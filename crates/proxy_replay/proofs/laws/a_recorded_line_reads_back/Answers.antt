use Rattle.proxy_replay.proofs.RecordLaws.{line_reads_back}
use Rattle.proxy_replay.proofs.laws.a_recorded_line_reads_back.Goals as goal

pub returns : goal.returns
returns c = line_reads_back

use Rattle.proxy_replay.proofs.RecordLaws.{are_lines, calls_of_lines, lines_have_calls}
use Rattle.proxy_replay.proofs.laws.a_recorded_file_reads_back.Goals as goal

pub returns-clause-lines : goal.returns-clause-lines
returns-clause-lines c = are_lines

pub returns-clause-events : goal.returns-clause-events
returns-clause-events c = λ events calls h. (calls_of_lines events calls h, lines_have_calls events calls h)

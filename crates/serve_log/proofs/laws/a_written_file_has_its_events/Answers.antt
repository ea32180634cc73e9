use Rattle.serve_log.proofs.FileLemmas.{written_all, written_events}
use Rattle.serve_log.proofs.laws.a_written_file_has_its_events.Goals as goal

pub returns-clause-first : goal.returns-clause-first
returns-clause-first g c = λ old new events lost empty none done h.
    written_events g.W.Write.contents old new events lost empty none done h

pub returns-clause-all : goal.returns-clause-all
returns-clause-all g c = λ old new events empty none done h.
    written_all g.W.Write.contents old new events empty none done h

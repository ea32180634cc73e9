use Rattle.serve_log.proofs.StayLemmas.{stay_later, stay_same}
use Rattle.serve_log.proofs.open_files.OpenFiles.close_oldest.Goals as goal

pub returns-then-len-lt-MOST_OLD-clause-older : goal.returns-then-len-lt-MOST_OLD-clause-older
returns-then-len-lt-MOST_OLD-clause-older g c = stay_same g.W.Write.contents c.args.self.now.older.items

pub returns-clause-older : goal.returns-clause-older
returns-clause-older g c = rw c.remove-oldest.ensures.items (stay_later g.W.Write.contents c.args.self.now.older.items)

use Rattle.http_front.specs.Heads.{size_of_kept}
use Rattle.serve_core.specs.ClientRequests.{rule_view}
use Rattle.serve_core.specs.Cores.{core_view}
use Rattle.serve_core.proofs.Reading.{ReadSoFar}
use Rattle.serve_core.proofs.front_connection.FrontConnection.receive.Given as goal

abbrev pub invariant-answering : goal.invariant-answering
invariant-answering l = ReadSoFar (rule_view l.at.rule) l.at.place l.fn.self l.bytes (core_view l.fn.core) l.fn.answers.items
    l.self (core_view l.core) l.answers.items

abbrev pub decreases-answering : goal.decreases-answering
decreases-answering l = size_of_kept l.self.front.kept

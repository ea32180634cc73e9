-- Its parts are those of a head.
use Rattle.serve_core.proofs.MappedAsks.{mapped_asks, mapped_starts}
use Rattle.serve_core.proofs.laws.a_mapped_head_asks_for_the_mapped_request.Goals as goal

pub returns-clause-whole : goal.returns-clause-whole
returns-clause-whole c = mapped_starts

pub returns-clause-asks : goal.returns-clause-asks
returns-clause-asks c = mapped_asks

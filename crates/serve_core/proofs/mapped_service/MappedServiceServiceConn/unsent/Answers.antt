-- What waits for the stream waits by the history.
use Rattle.std.proofs.Common.{sym, ◌∙◌}
use Rattle.std.proofs.Math.Logic.{∥∥₁_elim}
use Rattle.std.specs.Coded.{coded_list, coded_ℕ}
use base.Stored.{Coded-set}
use Rattle.serve_core.proofs.mapped_service.MappedServiceServiceConn.unsent.Goals as goal

pub returns : goal.returns
returns c = c.unsent.ensures
    ∙ ∥∥₁_elim c.args.self.now.waits (Coded-set (coded_list coded_ℕ) _ _) (λ waits. sym (waits c.args.stream))

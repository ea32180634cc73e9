use Rattle.std.specs.String.{string_bytes}
use Rattle.ads.specs.Views.{policies_view}
use Rattle.ads.proofs.AnswerLemmas.{same_draft}
use Rattle.ads.proofs.accepted.Draft.new.Goals as goal

pub returns-clause-same : goal.returns-clause-same
returns-clause-same c =
    same_draft (policies_view c.args.state.now.policies.items) (string_bytes c.in_ok-clone.field-0)
    (string_bytes c.args.state.now.version) c.new.result.items c.args.state.now.generation
    c.in_ok-clone.ensures.cases c.new.ensures.items

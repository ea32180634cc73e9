use Rattle.std.proofs.Common.{◌∙◌}
use Rattle.serve_observe.proofs.GapLemmas.{asked_by}
use Rattle.serve_observe.proofs.gaps.has_filter.Goals as goal

pub returns : goal.returns
returns c = rw (← c.filters.ensures) (c.contains_key.ensures ∙ asked_by c.args.name.now c.filters.result.now.entries)

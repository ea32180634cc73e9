use Rattle.std.proofs.Common.{ap, ◌∙◌}
use Rattle.std.proofs.lemmas.Result.{IfOk-weaker}
use Rattle.cel_ops.specs.Collections.{keyed}
use Rattle.cel_value.proofs.Views.{seen_entries}
use Rattle.cel_meaning.specs.private.Plain.{keyed_turns}
use Rattle.cel_meaning.proofs.elements.map_turns.Goals as goal

pub returns-in-Entries : goal.returns-in-Entries
returns-in-Entries c =
    IfOk-weaker c.entry_turns.result _ _
    (λ turns same. same ∙ ap (λ es. keyed_turns (keyed es))
    (seen_entries c.args.entries.now c.in-Entries.pairs c.deref.result.now _ c.in-Entries.is
    c.deref.ensures
    c.deref-in-Entries.ensures.value)) c.entry_turns.ensures

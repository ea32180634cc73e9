use Rattle.std.proofs.Common.{◌∙◌, ap}
use Rattle.std.proofs.lemmas.Result.{IfOk-weaker}
use Rattle.std.specs.Prelude.{slice_get}
use Rattle.std.specs.Option.{option_map}
use Rattle.cel_ops.specs.Collections.{keyed}
use Rattle.cel_value.proofs.Views.{seen_entries}
use Rattle.stack_machine.specs.private.Pairs.{pair_answers}
use Rattle.stack_machine.proofs.pairs.map_pair.Goals as goal

pub returns-in-Entries : goal.returns-in-Entries
returns-in-Entries c =
    IfOk-weaker c.entry_pair.result _ _
    (λ found same. same ∙ ap (λ es. option_map pair_answers (slice_get (keyed es) c.args.index))
    (seen_entries c.args.map.now c.in-Entries.entries c.deref.result.now _ c.in-Entries.is
    c.deref.ensures
    c.deref-in-Entries.ensures.value)) c.entry_pair.ensures

use Rattle.std.proofs.Common.{◌∙◌, ap}
use Rattle.std.proofs.lemmas.Result.{IfOk-weaker}
use Rattle.cel_value.specs.Items.{item_at, key_items}
use Rattle.cel_value.proofs.Views.{seen_entries}
use Rattle.cel_value.proofs.value.Map.key_at.Goals as goal

pub returns-in-Entries : goal.returns-in-Entries
returns-in-Entries c =
    IfOk-weaker c.entry_key.result _ _
    (λ found same. same ∙ ap (λ es. item_at (key_items es) c.args.index)
    (seen_entries c.args.self.now c.in-Entries.entries c.deref.result.now _ c.in-Entries.is
    c.deref.ensures
    c.deref-in-Entries.ensures.value)) c.entry_key.ensures

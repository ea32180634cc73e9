use Rattle.std.proofs.Common.{◌∙◌, ap}
use Rattle.cel_value.specs.Masses.{entry_count}
use Rattle.cel_value.proofs.Views.{seen_entries}
use Rattle.cel_value.proofs.value.Map.len.Goals as goal

pub returns-in-Entries : goal.returns-in-Entries
returns-in-Entries c =
    c.entry_count.ensures ∙ ap entry_count (seen_entries c.args.self.now c.in-Entries.entries
    c.deref.result.now _ c.in-Entries.is c.deref.ensures c.deref-in-Entries.ensures.value)

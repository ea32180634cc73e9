use Rattle.std.proofs.Common.{rules, sym}
use Rattle.cel_value.specs.View.{lent_view}
use Rattle.cel_value.proofs.MapSearching.{entry_found, entry_absent}
use Rattle.cel_value.proofs.map.find_entry.Goals as goal

pub returns-in-Ok : goal.returns-in-Ok
returns-in-Ok c =
    sym (entry_found (lent_view c.args.key) (λ a r f' k. search rules) c.args.entries.now _
    c.index-entries-index.result c.requires c.in-Ok.ensures.bound c.in-Ok.ensures.position)

pub returns-in-Err : goal.returns-in-Err
returns-in-Err c =
    sym (entry_absent (lent_view c.args.key) (λ a r f' k. search rules) c.args.entries.now _
    c.requires c.in-Err.ensures.position)

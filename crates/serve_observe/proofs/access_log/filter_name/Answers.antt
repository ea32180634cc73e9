use Rattle.std.proofs.Common.{◌≡◌, None, Some, ap, refl, slice_get}
use Rattle.serve_observe.proofs.Names.{name_at}
use Rattle.serve_observe.proofs.access_log.filter_name.Goals as goal

pub returns-in-Some : goal.returns-in-Some
returns-in-Some c =
    let entries = c.filters.result.now.entries in
    let entry : Some (c.in-Some.name.now, c.in-Some.field-0-1.now) ≡ slice_get entries c.args.place = c.in-Some.ensures.entry in
    rw (name_at entries c.args.config.now.filters c.args.place c.filters.ensures, ← entry) (ap Some c.as_str.ensures.value)

pub returns-in-None : goal.returns-in-None
returns-in-None c =
    let entries = c.filters.result.now.entries in
    let entry : None ≡ slice_get entries c.args.place = c.in-None.ensures.entry in
    rw (name_at entries c.args.config.now.filters c.args.place c.filters.ensures, ← entry) refl

use Rattle.std.proofs.Common.{◌≡◌, length, sym, ◌∙◌, ap, Some, None, option_map, get_or}
use Rattle.std.proofs.lemmas.List.{length-map}
use Rattle.ads.specs.Views.{admitted_view, policies_view}
use Rattle.ads.specs.Views.{entry_view}
use Rattle.ads.proofs.AdmittedLemmas.{merely_found, merely_limits}
use Rattle.ads.proofs.CurrentLemmas.{found_at, not_found}
use Rattle.ads.proofs.client.Client.current.Goals as goal

pub returns-in_default-clause-found : goal.returns-in_default-clause-found
returns-in_default-clause-found c =
    rw (← c.filters.ensures) (not_found c.args.name.now c.filters.result.now.entries
    c.args.self.now.accepted.policies.items c.in_default.ensures.index)

pub returns-in-Some-Some-clause-found : goal.returns-in-Some-Some-clause-found
returns-in-Some-Some-clause-found c =
    let es = c.filters.result.now.entries in
    let ps = c.args.self.now.accepted.policies.items in
    let sized : length ps ≡ length es =
    c.args.self.now.sized ∙ ap length (sym c.filters.ensures) ∙ length-map es entry_view in
    let at = c.in-Some-Some.ensures.lookup in
    let found = c.in-Some-Some.field-0 in
    let here : get_or ps c.in-Some.place found.now ≡ Some c.in-Some-Some.admitted =
    rw (← c.deref.ensures.value) (sym at.1 ∙ c.in-Some-Some.field-0-is) in
    rw (← c.filters.ensures) (found_at c.args.name.now es ps c.in-Some.place found.now sized
    c.in-Some.ensures.index ∙ ap (option_map admitted_view) here)

pub returns-in-Some-Some-clause-admitted : goal.returns-in-Some-Some-clause-admitted
returns-in-Some-Some-clause-admitted c =
    merely_found c.args.self.now.config c.args.name.now (policies_view c.args.self.now.accepted.policies.items)
    (admitted_view c.in-Some-Some.admitted) (returns-in-Some-Some-clause-found c) c.args.self.now.admitted

pub returns-in-Some-Some-clause-limits : goal.returns-in-Some-Some-clause-limits
returns-in-Some-Some-clause-limits c =
    merely_limits c.args.self.now.config c.args.name.now (admitted_view c.in-Some-Some.admitted)
    (returns-in-Some-Some-clause-admitted c)

pub returns-in-Some-None-clause-found : goal.returns-in-Some-None-clause-found
returns-in-Some-None-clause-found c =
    let es = c.filters.result.now.entries in
    let ps = c.args.self.now.accepted.policies.items in
    let sized : length ps ≡ length es =
    c.args.self.now.sized ∙ ap length (sym c.filters.ensures) ∙ length-map es entry_view in
    let at = c.in-Some-None.ensures.lookup in
    let found = c.in-Some-None.field-0 in
    let here : get_or ps c.in-Some.place found.now ≡ None =
    rw (← c.deref.ensures.value) (sym at.1 ∙ c.in-Some-None.field-0-is) in
    rw (← c.filters.ensures) (found_at c.args.name.now es ps c.in-Some.place found.now sized
    c.in-Some.ensures.index ∙ ap (option_map admitted_view) here)

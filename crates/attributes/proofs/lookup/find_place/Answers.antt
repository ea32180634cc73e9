-- The closure compares with the name, so the search is one by name.
use Rattle.std.proofs.Common.{rules}
use Rattle.attributes.specs.private.Parts.{entry_in}
use Rattle.attributes.proofs.Searching.{is_place_searched}
use Rattle.attributes.proofs.lookup.find_place.Goals as goal

pub returns-clause-place : goal.returns-clause-place
returns-clause-place c =
    is_place_searched (entry_in c.args.text.now) c.args.name.now (λ a r f' k. search rules)
    c.args.fields.now c.binary_search_by.result c.binary_search_by.ensures.bound
    c.binary_search_by.ensures.position

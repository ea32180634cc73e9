-- The closure compares by name, so the sort is a stable one by name.
use Rattle.std.proofs.Common.{rules}
use Rattle.std.proofs.lemmas.List.Sorted.{All-permutation}
use Rattle.attributes.specs.private.Parts.{IsField, entry_in}
use Rattle.attributes.proofs.Sorting.{are_sorted_from_clause, values_of_from_clause}
use Rattle.attributes.proofs.headers.sort_by_name.Goals as goal

pub returns-clause-sorted : goal.returns-clause-sorted
returns-clause-sorted c =
    are_sorted_from_clause (entry_in c.args.text.now) (λ a r f' k. search rules) _ _
    c.sort_by.ensures.sorted

pub returns-clause-stable : goal.returns-clause-stable
returns-clause-stable c =
    λ name. values_of_from_clause (entry_in c.args.text.now) (λ a r f' k. search rules) name _ _
    c.sort_by.ensures.permutation c.sort_by.ensures.stable

pub returns-clause-parts : goal.returns-clause-parts
returns-clause-parts c =
    λ all. All-permutation (IsField c.args.text.now) _ _ c.sort_by.ensures.permutation all

-- The slices are those of the text and the fields.
use Rattle.attributes.proofs.headers.join_sorted.Goals as goal

pub are_distinct-requires-clause-parts : goal.are_distinct-requires-clause-parts
are_distinct-requires-clause-parts c =
    rw (c.as_slice.ensures.value, c.as_slice-2.ensures.value) c.requires.parts

pub join_neighbours-requires-clause-parts : goal.join_neighbours-requires-clause-parts
join_neighbours-requires-clause-parts c = rw c.as_slice-3.ensures.value c.requires.parts

-- Headers as they are kept lie in their text.
use Rattle.attributes.proofs.lookup.Headers.to_pairs.Goals as goal

pub copy_fields-requires : goal.copy_fields-requires
copy_fields-requires c =
    rw (c.as_slice.ensures.value, c.as_slice-2.ensures.value) c.self.invariant.parts

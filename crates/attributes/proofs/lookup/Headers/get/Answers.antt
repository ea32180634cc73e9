-- Headers as they are kept lie in their text.
use Rattle.attributes.proofs.lookup.Headers.get.Goals as goal

pub get_field-requires : goal.get_field-requires
get_field-requires c =
    rw (c.as_slice.ensures.value, c.as_slice-2.ensures.value) c.self.invariant.parts

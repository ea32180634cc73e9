use Rattle.std.proofs.Common.{refl}
use Rattle.std.proofs.lemmas.Str.Ascii.{trim_ascii_is}
use Rattle.head_map.proofs.Forwarding.{forwarded_of}
use Rattle.head_map.proofs.field_claim.forwarded.Goals as goal

pub returns : goal.returns
returns c =
    forwarded_of c.args.place c.args.value.now c.in_ok-part_from_right.field-0.now c.trim_ascii.result.now c.client_ip.result
    c.in_ok-part_from_right.ensures
    (trim_ascii_is _ _ _ refl c.trim_ascii.ensures.value) c.client_ip.ensures

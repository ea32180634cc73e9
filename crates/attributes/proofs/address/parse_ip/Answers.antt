-- A text spells one address, so what is read is exactly that.
use Rattle.attributes.proofs.OneAddress.{exactly_read}
use Rattle.attributes.proofs.address.parse_ip.Goals as goal

pub returns-then-contains : goal.returns-then-contains
returns-then-contains c =
    exactly_read c.args.text.now c.parse_dotted.result
    (rw c.as_bytes-bytes.ensures.value at c.parse_dotted.ensures)

pub returns-else-contains : goal.returns-else-contains
returns-else-contains c =
    exactly_read c.args.text.now c.parse_colons.result
    (rw c.as_bytes-bytes.ensures.value at c.parse_colons.ensures)

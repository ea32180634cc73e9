-- The headers as they are kept are the map's entries in order.
use Rattle.std.proofs.Common.{refl}
use Rattle.attributes.proofs.HeaderMaps.{from_sorted_entries, is_sorted_entries}
use Rattle.attributes.proofs.request.Request.attr.Goals as goal

pub returns-in-RequestHeaders-clause-value : goal.returns-in-RequestHeaders-clause-value
returns-in-RequestHeaders-clause-value c =
    rw (
      c.in-RequestHeaders.is,
      c.headers.ensures.value,
      from_sorted_entries c.args.self.now.headers,
    ) refl

pub returns-in-RequestHeaders-clause-ordered : goal.returns-in-RequestHeaders-clause-ordered
returns-in-RequestHeaders-clause-ordered c =
    rw c.headers.ensures.value (is_sorted_entries c.args.self.now.headers)

pub returns-in-RequestId-clause-value : goal.returns-in-RequestId-clause-value
returns-in-RequestId-clause-value c =
    rw c.in-RequestId.is
    (rw c.header-in-RequestId.ensures at c.text_value-in-RequestId.ensures.value)

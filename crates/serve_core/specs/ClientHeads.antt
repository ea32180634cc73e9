-- The head of a client's request as values (this project's own; RFC 9112, section 2.1).
use Rattle.std.specs.Prelude.{Bool}
use Rattle.head_map.specs.Mapped.{PartsValue}
use Rattle.http_front.specs.Head.{HeadValue}

-- the head of a client's request: its method, its target, and its lines as the fields
abbrev pub head_of_client : PartsValue → Bool → HeadValue
head_of_client client http11 =
    record { method = client.method; target = client.target; http11 = http11; fields = client.lines }

-- What the code holds of a client, and what it does to it.
use Rattle.std.specs.Prelude.{◌≡◌, List, option_map}
use Rattle.std.specs.List.{AllZip}
use Rattle.std.specs.String.{string_bytes}
use Rattle.attributes.specs.Conn.{conn_view}
use Rattle.attributes.specs.Headers.{Entry}
use Rattle.head_map.specs.declared.client.Client.{Client}
use Rattle.head_map.specs.declared.fact.NamedFact.{NamedFact}
use Rattle.head_map.specs.Claims.{Claim}
use Rattle.head_map.specs.Mapped.{ClientValue, Says, put_all}

-- the client that a `Client` of the code means
abbrev pub client_view : Client → ClientValue
client_view c = record {
  method = string_bytes c.method;
  target = string_bytes c.target;
  host = option_map string_bytes c.host;
  facts = conn_view c.conn;
}

-- `new` is the client `old`, after the named fields of these lines said what they say
pub record IsClaimedBy (lines : List Entry) (named : List NamedFact) (old new : ClientValue) : Type 0 where
  pub claims : List Claim
  pub say : AllZip (Says lines) named claims
  pub value : new ≡ put_all claims old

-- Frames as the gRPC over HTTP/2 document gives them ("Length-Prefixed-Message"), and discovery messages as the Protocol
-- Buffers encoding guide spells them, so that a wrong rule in the specs does not check.
use Rattle.std.proofs.Common.{ℕ, ◌+◌, ◌*◌, ◌<◌, ◌≤◌, List, [], ◌∷◌, ◌++◌, None, codes, length, refl, arith, lit<, lit≤}
use Rattle.std.specs.Prelude.{IsUtf8}
use Rattle.proto_wire.specs.Fields.{Wire, len}
use Rattle.proto_wire.specs.Shortest.{ShortestVarint, ShortestField, Shortest, field_of}
use Rattle.proto_wire.proofs.ShortestLemmas.{begun_none, begun_done}
use Rattle.xds_wire.specs.Discovery.{AnyMessage, IsAny, RequestMessage, IsRequest, ResponseMessage, IsResponse}
use Rattle.xds_wire.specs.Frames.{nothing, part_of_head, part_of_message, compressed, too_long, unfinished, broken, Cut}
use Rattle.xds_wire.specs.Written.{AnyWritten, RequestWritten, ResponseWritten}
use Rattle.xds_wire.specs.declared.fault.FrameFault.TheVariants.{Compressed, TooLong}
use Rattle.xds_wire.proofs.ReadBack.{merges_one}

-- ---- gRPC over HTTP/2, "Length-Prefixed-Message": a flag of one byte, four bytes of length, the highest first, and the
-- message

-- the limit of a message
abbrev limit : ℕ
limit = 1048576

-- the head of a message of 258 bytes, and the first two of them
abbrev half : List ℕ
half = 0 ∷ 0 ∷ 0 ∷ 1 ∷ 2 ∷ codes "wo"

-- the frame of the message `hello`, and that half of a frame
abbrev pub one_and_a_half : List ℕ
one_and_a_half = 0 ∷ 0 ∷ 0 ∷ 0 ∷ 5 ∷ (codes "hello" ++ half)

-- the heads of messages of 1,048,576 bytes and of one more
abbrev longest_head : List ℕ
longest_head = 0 ∷ 0 ∷ 16 ∷ 0 ∷ 0 ∷ []

abbrev longer_head : List ℕ
longer_head = 0 ∷ 0 ∷ 16 ∷ 0 ∷ 1 ∷ []

pub record AreCut : Type 0 where
  -- "Length-Prefixed-Message": one frame and a half give one message, and the half is kept
  pub stream : Cut one_and_a_half limit (codes "hello" ∷ []) (unfinished half)
  -- "Message-Length": a message of no bytes has a frame of five
  pub empty : Cut (0 ∷ 0 ∷ 0 ∷ 0 ∷ 0 ∷ []) limit ([] ∷ []) (unfinished [])
  -- "Compressed-Flag": 1 says that the message is compressed, which the first byte tells
  pub flag : Cut (1 ∷ []) limit [] (broken Compressed)
  -- "Message-Length": the fifth byte tells the length, and four bytes do not
  pub longer : Cut longer_head limit [] (broken TooLong)
  pub four_bytes : Cut (0 ∷ 0 ∷ 16 ∷ 0 ∷ []) limit [] (unfinished (0 ∷ 0 ∷ 16 ∷ 0 ∷ []))
  pub longest : Cut longest_head limit [] (unfinished longest_head)

pub are_cut : AreCut
are_cut = record {
  stream = record {
    rest = half;
    whole = refl;
    allowed = ((lit< tt, lit≤ tt), tt);
    ends = (refl, part_of_message 258 (codes "wo") (lit< tt, lit≤ tt) refl (lit< tt));
  };
  empty = record {
    rest = [];
    whole = refl;
    allowed = ((lit< tt, lit≤ tt), tt);
    ends = (refl, nothing refl);
  };
  flag = record {
    rest = 1 ∷ [];
    whole = refl;
    allowed = tt;
    ends = compressed 1 [] refl (λ e. omega (arith, e)) refl;
  };
  longer = record {
    rest = longer_head;
    whole = refl;
    allowed = tt;
    ends = too_long 1048577 [] refl (lit< tt) (lit< tt) refl;
  };
  four_bytes = record {
    rest = 0 ∷ 0 ∷ 16 ∷ 0 ∷ [];
    whole = refl;
    allowed = tt;
    ends = (refl, part_of_head (0 ∷ 16 ∷ 0 ∷ []) refl (lit< tt));
  };
  longest = record {
    rest = longest_head;
    whole = refl;
    allowed = tt;
    ends = (refl, part_of_message 1048576 [] (lit< tt, lit≤ tt) refl (lit< tt));
  };
}

-- ---- "Base 128 Varints", "Length-Delimited Records"

-- a number below 128 is one byte
one_byte : (b : ℕ) → b < 128 → ShortestVarint (b ∷ []) b
one_byte b small = begun_done b b [] (begun_none b) small (omega arith)

-- a field whose tag and size are one byte each
one_len : (k : ℕ) (bytes : List ℕ) → 1 ≤ k → 8 * k + 2 < 128 → length bytes < 128
    → ShortestField ((8 * k + 2) ∷ length bytes ∷ bytes) (field_of k (len bytes))
one_len k bytes some small short = record {
  tag = (8 * k + 2) ∷ [];
  behind = length bytes ∷ bytes;
  numbered = (some, omega arith);
  shortest_tag = one_byte (8 * k + 2) small;
  shortest_payload = (length bytes ∷ [], one_byte (length bytes) short, refl);
  whole = refl;
}

-- such a field before others
before : (k : ℕ) (bytes rest : List ℕ) (fs : List Wire) → 1 ≤ k → 8 * k + 2 < 128
    → length bytes < 128 → Shortest fs rest
    → Shortest (field_of k (len bytes) ∷ fs) ((8 * k + 2) ∷ length bytes ∷ (bytes ++ rest))
before k bytes rest fs some small short later = (
  (8 * k + 2) ∷ length bytes ∷ bytes,
  rest,
  one_len k bytes some small short,
  later,
  refl,
)

-- ---- what requests and responses share: the type in field 4, and a nonce in field 5

-- a type of 61 bytes
abbrev type_text : List ℕ
type_text = codes "type.googleapis.com/envoy.config.core.v3.TypedExtensionConfig"

abbrev nonce_bytes : List ℕ
nonce_bytes = 42 ∷ 2 ∷ codes "n1"

abbrev nonce_fields : List Wire
nonce_fields = field_of 5 (len (codes "n1")) ∷ []

abbrev type_bytes : List ℕ
type_bytes = 34 ∷ 61 ∷ (type_text ++ nonce_bytes)

abbrev type_fields : List Wire
type_fields = field_of 4 (len type_text) ∷ nonce_fields

type_spelt : Shortest type_fields type_bytes
type_spelt = before 4 type_text nonce_bytes nonce_fields (lit≤ tt) (lit< tt) (lit< tt)
    (before 5 (codes "n1") [] [] (lit≤ tt) (lit< tt) (lit< tt) refl)

-- the texts are UTF-8
version_reads : IsUtf8 (codes "1")
unfolding lib.Utf8.encode
version_reads = (codes "1", (refl, refl))

name_reads : IsUtf8 (codes "f")
unfolding lib.Utf8.encode
name_reads = (codes "f", (refl, refl))

nonce_reads : IsUtf8 (codes "n1")
unfolding lib.Utf8.encode
nonce_reads = (codes "n1", (refl, refl))

type_reads : IsUtf8 type_text
unfolding lib.Utf8.encode
type_reads = (type_text, (refl, refl))

-- ---- a DiscoveryRequest: the version `1` in field 1, the name `f` in field 3

abbrev pub request : RequestMessage
request = record {
  version_info = codes "1";
  node = None;
  resource_names = codes "f" ∷ [];
  type_url = type_text;
  response_nonce = codes "n1";
  error_detail = None;
}

abbrev pub request_bytes : List ℕ
request_bytes = 10 ∷ 1 ∷ 49 ∷ 26 ∷ 1 ∷ 102 ∷ type_bytes

abbrev request_fields : List Wire
request_fields = field_of 1 (len (codes "1")) ∷ field_of 3 (len (codes "f")) ∷ type_fields

request_spelt : Shortest request_fields request_bytes
request_spelt =
    before 1 (codes "1") (26 ∷ 1 ∷ 102 ∷ type_bytes) (field_of 3 (len (codes "f")) ∷ type_fields) (lit≤ tt)
    (lit< tt) (lit< tt)
    (before 3 (codes "f") type_bytes type_fields (lit≤ tt) (lit< tt) (lit< tt) type_spelt)

-- "Message Structure", "Repeated Elements": these bytes are read as the request
pub request_read : IsRequest request_bytes request
request_read = (
  request_fields,
  merges_one request_fields request_bytes request_spelt,
  record {
    version_info = (refl, version_reads);
    node = refl;
    resource_names = (refl, (name_reads, tt));
    type_url = (refl, type_reads);
    response_nonce = (refl, nonce_reads);
    error_detail = refl;
  },
)

-- "Message Structure", "Default Field Values": the request is written as these bytes
pub request_written : RequestWritten request request_bytes
request_written = record {
  node = [];
  error_detail = [];
  node_fields = refl;
  error_fields = refl;
  spells = request_spelt;
}

-- ---- a DiscoveryResponse: the version `1` in field 1, and in field 2 a resource: an Any of that type, whose value is the
-- guide's first message, `08 96 01`

abbrev any : AnyMessage
any = record { type_url = type_text; value = 8 ∷ 150 ∷ 1 ∷ [] }

abbrev any_bytes : List ℕ
any_bytes = 10 ∷ 61 ∷ (type_text ++ 18 ∷ 3 ∷ 8 ∷ 150 ∷ 1 ∷ [])

abbrev any_fields : List Wire
any_fields = field_of 1 (len type_text) ∷ field_of 2 (len (8 ∷ 150 ∷ 1 ∷ [])) ∷ []

any_written : AnyWritten any any_bytes
any_written =
    before 1 type_text (18 ∷ 3 ∷ 8 ∷ 150 ∷ 1 ∷ []) (field_of 2 (len (8 ∷ 150 ∷ 1 ∷ [])) ∷ []) (lit≤ tt)
    (lit< tt) (lit< tt)
    (before 2 (8 ∷ 150 ∷ 1 ∷ []) [] [] (lit≤ tt) (lit< tt) (lit< tt) refl)

any_read : IsAny (any_bytes ∷ []) any
any_read = (
  any_fields,
  merges_one any_fields any_bytes any_written,
  record { type_url = (refl, type_reads); value = refl },
)

abbrev pub response : ResponseMessage
response = record {
  version_info = codes "1";
  resources = any ∷ [];
  type_url = type_text;
  nonce = codes "n1";
}

abbrev resource_bytes : List ℕ
resource_bytes = 18 ∷ 68 ∷ (any_bytes ++ type_bytes)

abbrev pub response_bytes : List ℕ
response_bytes = 10 ∷ 1 ∷ 49 ∷ resource_bytes

abbrev response_fields : List Wire
response_fields = field_of 1 (len (codes "1")) ∷ field_of 2 (len any_bytes) ∷ type_fields

response_spelt : Shortest response_fields response_bytes
response_spelt =
    before 1 (codes "1") resource_bytes (field_of 2 (len any_bytes) ∷ type_fields) (lit≤ tt) (lit< tt)
    (lit< tt)
    (before 2 any_bytes type_bytes type_fields (lit≤ tt) (lit< tt) (lit< tt) type_spelt)

-- "Message Structure", "Submessages": these bytes are read as the response
pub response_read : IsResponse response_bytes response
response_read = (
  response_fields,
  merges_one response_fields response_bytes response_spelt,
  record {
    version_info = (refl, version_reads);
    resources = (any_read, tt);
    type_url = (refl, type_reads);
    nonce = (refl, nonce_reads);
  },
)

-- "Message Structure", "Submessages": the response is written as these bytes
pub response_written : ResponseWritten response response_bytes
response_written = record {
  resources = field_of 2 (len any_bytes) ∷ [];
  resource_fields = (any_bytes, [], any_written, refl, refl);
  spells = response_spelt;
}

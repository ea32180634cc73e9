-- The one message of a unary call (gRPC's PROTOCOL-HTTP2, Length-Prefixed-Message), and how a call ends without one (gRPC's status
-- codes). A compression or a number of messages that is not served is UNIMPLEMENTED, a broken message is INTERNAL.
use Rattle.std.specs.Prelude.{ℕ, ◌==◌, nat_lt, Result, Ok, Err, List, [], ◌∷◌, length, drop, codes, if◌then◌else◌}
use Rattle.hpack.specs.Field.{Line, line}
use Rattle.http2.specs.Frame.{word_at}
use Rattle.grpc_server.specs.declared.message.StatusCode.{StatusCode}
use Rattle.grpc_server.specs.declared.message.StatusCode.TheVariants.{Done, Cancelled, Unknown, InvalidArgument, DeadlineExceeded, NotFound, AlreadyExists, PermissionDenied, ResourceExhausted, FailedPrecondition, Aborted, OutOfRange, Unimplemented, Internal, Unavailable, DataLoss, Unauthenticated}

-- the message of these octets, if its length is so much; what follows it is another message
abbrev pub sized : ℕ → List ℕ → Result (List ℕ) StatusCode
sized size octets =
    if length octets == size then Ok octets else if nat_lt size (length octets) then Err Unimplemented else Err Internal

-- a message that is not compressed: its length in four octets, and then the message
abbrev pub plain : List ℕ → Result (List ℕ) StatusCode
plain octets = if nat_lt (length octets) 4 then Err Internal else sized (word_at octets 0) (drop 4 octets)

-- the one message of a request's content; its first octet says whether it is compressed
abbrev pub message_in : List ℕ → Result (List ℕ) StatusCode
message_in [] = Err Unimplemented
message_in (flag ∷ octets) = if flag == 0 then plain octets else if flag == 1 then Err Unimplemented else Err Internal

-- the number of a code, in decimal
abbrev pub code_text : StatusCode → List ℕ
code_text Done = codes "0"
code_text Cancelled = codes "1"
code_text Unknown = codes "2"
code_text InvalidArgument = codes "3"
code_text DeadlineExceeded = codes "4"
code_text NotFound = codes "5"
code_text AlreadyExists = codes "6"
code_text PermissionDenied = codes "7"
code_text ResourceExhausted = codes "8"
code_text FailedPrecondition = codes "9"
code_text Aborted = codes "10"
code_text OutOfRange = codes "11"
code_text Unimplemented = codes "12"
code_text Internal = codes "13"
code_text Unavailable = codes "14"
code_text DataLoss = codes "15"
code_text Unauthenticated = codes "16"

-- the fields that end the answer of a unary call
abbrev pub ending : StatusCode → List Line
ending code = line (codes "grpc-status") (code_text code) ∷ []

-- The answers of a front (RFC 9110, section 15; RFC 6585, section 5; RFC 9112, sections 4, 5 and 9.6).
use Rattle.std.specs.Prelude.{ℕ, ◌==◌, Bool, true, false, Option, Some, None, List, [], ◌∷◌, ◌++◌, codes, decimal, length, if◌then◌else◌}
use Rattle.std.specs.List.{flat_map}
use Rattle.httparse.specs.Ascii.{comma, crlf_bytes}
use Rattle.http_front.specs.declared.answer.Case.{Case}
use Rattle.http_front.specs.declared.answer.Case.TheVariants as cases
use Rattle.http_front.specs.declared.answer.Reply.{Reply}
use Rattle.http_front.specs.Head.{fault_status}

-- a reply: its row in the table below, and for each filter that was tried the number of the policy that matched.
-- Also the policies' generation, whether the connection closes, and whether the method was HEAD
pub record ReplyValue : Type 0 where
  pub case : Case
  pub matches : List (Option ℕ)
  pub generation : ℕ
  pub closes : Bool
  pub is_head : Bool

-- the reply that a `Reply` of the code means
abbrev pub reply_view : Reply → ReplyValue
reply_view reply = record {
  case = reply.case;
  matches = reply.matches.items;
  generation = reply.generation;
  closes = reply.closes;
  is_head = reply.is_head;
}

-- a row: the status and its phrase, the word of the verdict, whether the answer shows the matches, and the body
pub record RowValue : Type 0 where
  pub status : ℕ
  pub phrase : List ℕ
  pub verdict : List ℕ
  pub tells_matches : Bool
  pub body : List ℕ

-- the phrase of a fault's status
abbrev pub fault_phrase : ℕ → List ℕ
fault_phrase status = if status == 431 then codes "Request Header Fields Too Large"
    else (if status == 501 then codes "Not Implemented" else codes "Bad Request")

-- the row of a fault
abbrev pub fault_row : ℕ → RowValue
fault_row status = record {
  status = status;
  phrase = fault_phrase status;
  verdict = codes "none";
  tells_matches = false;
  body = [];
}

-- the row of a case
abbrev pub row_of : Case → RowValue
row_of cases.Allow = record {
  status = 200;
  phrase = codes "OK";
  verdict = codes "allow";
  tells_matches = true;
  body = [];
}
row_of cases.Deny = record {
  status = 403;
  phrase = codes "Forbidden";
  verdict = codes "deny";
  tells_matches = true;
  body = codes "RBAC: access denied";
}
row_of cases.Steps = record {
  status = 403;
  phrase = codes "Forbidden";
  verdict = codes "steps";
  tells_matches = false;
  body = codes "RBAC: access denied";
}
row_of cases.Unready = record {
  status = 503;
  phrase = codes "Service Unavailable";
  verdict = codes "unready";
  tells_matches = false;
  body = [];
}
row_of cases.Memory = record {
  status = 503;
  phrase = codes "Service Unavailable";
  verdict = codes "memory";
  tells_matches = false;
  body = [];
}
row_of (cases.Fault fault) = fault_row (fault_status fault)

-- the number of a match, or a dash
abbrev pub match_text : Option ℕ → List ℕ
match_text (Some number) = decimal number
match_text None = codes "-"

-- the numbers of all matches, or dashes, with commas between
abbrev pub match_list : List (Option ℕ) → List ℕ
match_list [] = []
match_list (found ∷ others) = match_text found ++ flat_map (λ other. comma ∷ match_text other) others

-- the matches, if the row shows them; otherwise a dash
abbrev pub matches_text : RowValue → List (Option ℕ) → List ℕ
matches_text row matches = if row.tells_matches then match_list matches else codes "-"

-- the status line, and the fields that every answer has
abbrev pub lines_of_row : RowValue → List (Option ℕ) → ℕ → List ℕ
lines_of_row row matches generation =
    codes "HTTP/1.1 " ++ decimal row.status ++ codes " " ++ row.phrase ++ crlf_bytes
    ++ codes "x-rbac-verdict: " ++ row.verdict ++ crlf_bytes
    ++ codes "x-rbac-match: " ++ matches_text row matches ++ crlf_bytes
    ++ codes "x-rbac-generation: " ++ decimal generation ++ crlf_bytes
    ++ codes "content-length: " ++ decimal (length row.body) ++ crlf_bytes

-- the field for a connection that closes
abbrev pub closing_field : List ℕ
closing_field = codes "connection: close" ++ crlf_bytes

-- the bytes of an answer by its row: its lines, the closing field if the connection closes, an empty line, and the
-- body. If the method was HEAD, the body is not sent
abbrev pub answer_by : RowValue → ReplyValue → List ℕ
answer_by row reply =
    lines_of_row row reply.matches reply.generation ++ (if reply.closes then closing_field else [])
    ++ crlf_bytes ++ (if reply.is_head then [] else row.body)

-- the bytes of an answer
abbrev pub answer_of : ReplyValue → List ℕ
answer_of reply = answer_by (row_of reply.case) reply

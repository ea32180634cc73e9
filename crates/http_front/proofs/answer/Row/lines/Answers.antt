use Rattle.std.proofs.Common.{◌≡◌, ◌∙◌, List, ℕ, ◌++◌, codes, decimal, ap, length, refl}
use Rattle.std.specs.String.{string_bytes}
use Rattle.httparse.specs.Ascii.{crlf_bytes}
use Rattle.http_front.specs.Answer.{matches_text}
use Rattle.http_front.specs.private.Rows.{row_view}
use Rattle.http_front.proofs.Answering.{line_after}
use Rattle.http_front.proofs.answer.Row.lines.Goals as goal

pub returns : goal.returns
returns c =
    let row = c.args.self.now in
    let reply = c.args.reply.now in
    let start : List ℕ = codes "HTTP/1.1 " ++ decimal row.status ++ codes " " ++ row.phrase.now ++ crlf_bytes in
    let list : List ℕ = matches_text (row_view row) reply.matches.items in
    let told : c.as_str.result.now ≡ list =
    c.as_str.ensures.value ∙ c.in_ok-matches.ensures ∙ ap (matches_text (row_view row)) c.deref.ensures.value in
    let first : List ℕ = start ++ codes "x-rbac-verdict: " ++ row.verdict.now ++ crlf_bytes in
    let second : List ℕ = first ++ codes "x-rbac-match: " ++ list ++ crlf_bytes in
    let third : List ℕ = second ++ codes "x-rbac-generation: " ++ decimal reply.generation ++ crlf_bytes in
    let one : string_bytes c.push_line.new.text ≡ first =
    line_after (string_bytes c.push_line.new.text) (string_bytes c.in_ok-text.text) start (codes "x-rbac-verdict: ")
    row.verdict.now row.verdict.now c.in_ok-push_line.ensures c.in_ok-text.ensures refl in
    let two : string_bytes c.push_line-2.new.text ≡ second =
    line_after (string_bytes c.push_line-2.new.text) (string_bytes c.push_line.new.text) first (codes "x-rbac-match: ")
    c.as_str.result.now list c.in_ok-push_line-2.ensures one told in
    let three : string_bytes c.push_line-3.new.text ≡ third =
    line_after (string_bytes c.push_line-3.new.text) (string_bytes c.push_line-2.new.text) second
    (codes "x-rbac-generation: ") c.as_str-2.result.now (decimal reply.generation) c.in_ok-push_line-3.ensures two
    (c.as_str-2.ensures.value ∙ c.in_ok-generation.ensures) in
    line_after (string_bytes c.push_line-4.new.text) (string_bytes c.push_line-3.new.text) third
    (codes "content-length: ") c.as_str-3.result.now (decimal (length row.body.now)) c.in_ok-push_line-4.ensures three
    (c.as_str-3.ensures.value ∙ c.in_ok-size.ensures)

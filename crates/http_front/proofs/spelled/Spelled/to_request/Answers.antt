use Rattle.std.proofs.Common.{map}
use Rattle.std.proofs.lemmas.Result.{IfOk-weaker}
use Rattle.attributes.specs.Conn.{conn_view}
use Rattle.attributes.specs.Request.{IsTextEntry}
use Rattle.http_front.specs.Parts.{field_view}
use Rattle.http_front.specs.private.Parsed.{HasAsciiName}
use Rattle.http_front.specs.private.Parts.{head_in}
use Rattle.http_front.proofs.FieldNames.{names_are_ascii}
use Rattle.http_front.proofs.SpelledAsks.{back_has, front_has, spelled_request}
use Rattle.http_front.proofs.spelled.Spelled.to_request.Goals as goal

pub draft_lines-requires-clause-texts : goal.draft_lines-requires-clause-texts
draft_lines-requires-clause-texts c =
    let s = c.args.self.now in
    front_has s.method.now s.target.now s.is_http11 (map field_view s.front.now) (map field_view s.back.now) IsTextEntry
    c.requires.texts.fields

pub draft_lines-requires-clause-names : goal.draft_lines-requires-clause-names
draft_lines-requires-clause-names c =
    let s = c.args.self.now in
    front_has s.method.now s.target.now s.is_http11 (map field_view s.front.now) (map field_view s.back.now) HasAsciiName
    (names_are_ascii (head_in s) c.requires.shape)

pub draft_lines-requires-2-clause-texts : goal.draft_lines-requires-2-clause-texts
draft_lines-requires-2-clause-texts c =
    let s = c.args.self.now in
    back_has s.method.now s.target.now s.is_http11 (map field_view s.front.now) (map field_view s.back.now) IsTextEntry
    c.requires.texts.fields

pub draft_lines-requires-2-clause-names : goal.draft_lines-requires-2-clause-names
draft_lines-requires-2-clause-names c =
    let s = c.args.self.now in
    back_has s.method.now s.target.now s.is_http11 (map field_view s.front.now) (map field_view s.back.now) HasAsciiName
    (names_are_ascii (head_in s) c.requires.shape)

pub returns : goal.returns
returns c =
    let s = c.args.self.now in
    IfOk-weaker c.finish.result _ _
    (λ r made. spelled_request s.method.now s.target.now s.is_http11 (map field_view s.front.now)
    (map field_view s.back.now) c.in_ok-draft.draft c.draft_lines.new.draft c.draft_lines-2.new.draft r
    (conn_view c.args.conn.value)
    (rw (c.text_of.ensures, c.text_of-2.ensures) at c.in_ok-draft.ensures) c.in_ok-draft_lines.ensures
    c.in_ok-draft_lines-2.ensures made)
    (rw c.of_head.ensures at c.finish.ensures)

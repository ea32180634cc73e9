use Rattle.std.proofs.Common.{map, refl}
use Rattle.std.proofs.lemmas.Option.{IfSome_then}
use Rattle.http_front.specs.Parts.{field_view}
use Rattle.http_front.proofs.Spelling.{back_in_head, head_shape, if_none_then, not_token, token_from_test}
use Rattle.http_front.proofs.spelled.Spelled.malformed.Goals as goal

pub returns-then-not-is_token-clause-part : goal.returns-then-not-is_token-clause-part
returns-then-not-is_token-clause-part c token = not_token c.args.self.now.method.now c.if-not-is_token.ensures token

pub returns-clause-none : goal.returns-clause-none
returns-clause-none c =
    let s = c.args.self.now in
    if_none_then c.malformed_line-2.result c.malformed_line-2.ensures.none
    (λ back. head_shape s.method.now s.target.now s.is_http11 (map field_view s.front.now) (map field_view s.back.now)
    (token_from_test s.method.now c.if-not-is_token.ensures) (c.if-not-is_target.ensures.0 refl)
    c.in_default.ensures.none back)

pub returns-clause-part : goal.returns-clause-part
returns-clause-part c =
    let s = c.args.self.now in
    IfSome_then c.malformed_line-2.result c.malformed_line-2.ensures.part
    (λ part bad. back_in_head s.method.now s.target.now s.is_http11 (map field_view s.front.now)
    (map field_view s.back.now) part bad)

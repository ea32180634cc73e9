use Rattle.httparse.specs.Grammar.{IsToken}
use Rattle.http_front.proofs.Spelling.{not_token, not_value}
use Rattle.http_front.proofs.spelled.malformed_in.Goals as goal

pub returns-then-not-is_token-clause-part : goal.returns-then-not-is_token-clause-part
returns-then-not-is_token-clause-part c token =
    let is : IsToken c.head_name.result.now = rw c.head_name.ensures token in
    not_token c.head_name.result.now c.if-not-is_token.ensures is

pub returns-then-not-is_header_value-clause-part :
    goal.returns-then-not-is_header_value-clause-part
returns-then-not-is_header_value-clause-part c all =
    not_value c.args.line.now.value.now c.if-not-is_header_value.ensures all

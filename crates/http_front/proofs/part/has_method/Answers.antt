use Rattle.std.proofs.Common.{rules}
use Rattle.http_front.proofs.Stopping.{method_test, no_method}
use Rattle.http_front.proofs.part.has_method.Goals as goal

pub returns-in-Some : goal.returns-in-Some
returns-in-Some c =
    method_test c.args.bytes.now c.skip_ends-line.result.now c.skip_ends-line.ensures c.in-Some.end (search rules) (search rules) (search rules)
    c.is_token.result c.is_token.ensures

pub returns-in-None : goal.returns-in-None
returns-in-None c = no_method c.args.bytes.now c.skip_ends-line.result.now c.skip_ends-line.ensures (search rules)

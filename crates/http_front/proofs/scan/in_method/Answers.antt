use Rattle.std.proofs.Common.{◌∙◌, sym}
use Rattle.http_front.proofs.ScanLemmas.{method_byte}
use Rattle.http_front.proofs.scan.in_method.Goals as goal

pub returns-then-is_method_token : goal.returns-then-is_method_token
returns-then-is_method_token c seen long is =
    method_byte seen c.args.byte is (sym c.is_method_token.ensures ∙ c.if-is_method_token.true)

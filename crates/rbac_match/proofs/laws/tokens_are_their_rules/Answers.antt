use Rattle.rbac_match.proofs.Tokens.{decode_tokens}
use Rattle.rbac_match.proofs.laws.tokens_are_their_rules.Goals as goal

pub returns : goal.returns
returns c = decode_tokens

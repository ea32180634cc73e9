use Rattle.rbac_match.proofs.Decimals.{int64_is}
use Rattle.rbac_match.proofs.laws.decimal_text_is_its_number.Goals as goal

pub returns : goal.returns
returns c = int64_is

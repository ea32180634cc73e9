use Rattle.attributes.proofs.Joining.{same_headers}
use Rattle.attributes.proofs.laws.joined_headers_unique.Goals as goal

pub returns : goal.returns
returns c = same_headers

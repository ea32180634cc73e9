use Rattle.std.proofs.lemmas.Str.{encodes-chars, chars-encodes, scalars-chars}
use Rattle.cel_value.proofs.laws.texts_are_their_bytes.Goals as goal

pub returns-clause-bytes : goal.returns-clause-bytes
returns-clause-bytes c = encodes-chars

pub returns-clause-points : goal.returns-clause-points
returns-clause-points c = chars-encodes

pub returns-clause-scalars : goal.returns-clause-scalars
returns-clause-scalars c = scalars-chars

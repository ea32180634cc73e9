use Rattle.std.proofs.Common.{ℕ, List, ◌∷◌, ap}
use Rattle.proto_wire.proofs.Places.{first_five}
use Rattle.proto_wire.proofs.place.with_first.Goals as goal

pub returns : goal.returns
returns c = ap (λ (words : List ℕ). c.args.word ∷ words) (first_five c.args.words.now c.told-words)

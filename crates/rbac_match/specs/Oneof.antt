-- Members of a oneof that hold a message: Protocol Buffers encoding guide, "Oneofs".
use Rattle.std.specs.Prelude.{◌≡◌}

-- the member means `m`, which is made of the value `v` that its message means
abbrev pub MadeOf : {V M : Type 0} → (V → Type 0) → (V → M) → M → Type 0
MadeOf {V} Is make m = (v : V) × Is v × (m ≡ make v)

-- The run of a oneof's last member, field by field.
use Rattle.std.specs.Prelude.{◌==◌, cond, List, [], ◌∷◌, ◌++◌}
use Rattle.proto_wire.specs.Fields.{Wire}

-- the trailing run after one more field
abbrev pub run_with : List Wire → Wire → List Wire
run_with [] f = f ∷ []
run_with (g ∷ gs) f = cond (g.number == f.number) (g ∷ (gs ++ f ∷ [])) (f ∷ [])

-- A label's value reads back.
use Rattle.std.proofs.Common.{◌≡◌, ◌++◌, ◌∙◌, ℕ, false, List, [], ◌∷◌, Some, refl, ap, append_assoc, arith}
use Rattle.serve_admin.specs.Labels.{before, escaped, escaped_byte, read_value}

pub byte_reads : (byte : ℕ) (bytes : List ℕ) → read_value false (escaped_byte byte ++ bytes) ≡ before byte (read_value false bytes)
byte_reads byte bytes = grind arith

pub value_reads : (value rest : List ℕ) → read_value false (escaped value ++ 34 ∷ rest) ≡ Some (value, rest)
value_reads [] rest = refl
value_reads (byte ∷ value) rest =
    ap (read_value false) (append_assoc (escaped_byte byte) (escaped value) (34 ∷ rest))
    ∙ byte_reads byte (escaped value ++ 34 ∷ rest) ∙ ap (before byte) (value_reads value rest)

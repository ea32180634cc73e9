-- The values of labels in Prometheus' text format (Exposition formats, "Text format details").
use Rattle.std.specs.Prelude.{ℕ, Bool, true, false, List, [], ◌∷◌, ◌==◌, if◌then◌else◌, Option, None, Some, option_map}
use Rattle.std.specs.List.{flat_map}

-- the bytes that mean one byte of a value: a backslash, a quote and a newline are written with a backslash before
abbrev pub escaped_byte : ℕ → List ℕ
escaped_byte byte =
    if byte == 92 then 92 ∷ 92 ∷ []
    else if byte == 34 then 92 ∷ 34 ∷ []
    else if byte == 10 then 92 ∷ 110 ∷ []
    else byte ∷ []

-- the bytes that mean a value
abbrev pub escaped : List ℕ → List ℕ
escaped value = flat_map escaped_byte value

-- what a byte after a backslash means: an `n` is a newline, any other byte is itself
abbrev pub meant : ℕ → ℕ
meant byte = if byte == 110 then 10 else byte

-- a byte before what was read
abbrev pub before : ℕ → Option (List ℕ × List ℕ) → Option (List ℕ × List ℕ)
before byte read = option_map (λ p. (byte ∷ p.0, p.1)) read

-- the value that a reader finds before the quote that ends it, and the bytes after that quote. The flag says whether the
-- last byte was a backslash that escapes this one.
abbrev pub read_value : Bool → List ℕ → Option (List ℕ × List ℕ)
read_value escape [] = None
read_value true (byte ∷ bytes) = before (meant byte) (read_value false bytes)
read_value false (byte ∷ bytes) =
    if byte == 34 then Some ([], bytes)
    else if byte == 92 then read_value true bytes
    else before byte (read_value false bytes)

-- Texts as code points and as UTF-8 bytes: RFC 3629, and CEL language definition, "String and Bytes
-- Values".
use Rattle.std.specs.Prelude.{ℕ, ◌≡◌, true, List}
use Rattle.std.specs.Str.{chars, encode_utf8_all, all_scalars}
use Rattle.std.specs.Arc.{arc_str_bytes}
use Rattle.std.specs.declared.sync.ArcStr.{ArcStr}
use Rattle.std.specs.declared.alloc.Global.{Global}

-- the code points that UTF-8 bytes spell
abbrev pub points_of : List ℕ → List ℕ
points_of bs = chars bs

-- the UTF-8 bytes of code points; if these are scalars, `points_of` gives them back
abbrev pub utf8_of : List ℕ → List ℕ
utf8_of cs = encode_utf8_all cs

-- each code point is a scalar: below 1114112, and no surrogate
abbrev pub AreScalars : List ℕ → Type 0
AreScalars cs = all_scalars cs ≡ true

-- the code points of a shared text
abbrev pub text_view : ArcStr Global → List ℕ
text_view t = points_of (arc_str_bytes t)

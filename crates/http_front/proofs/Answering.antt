-- A field line behind what is written already.
use Rattle.std.proofs.Common.{◌≡◌, ◌∙◌, ℕ, List, ◌++◌, ap₂}
use Rattle.httparse.specs.Ascii.{crlf_bytes}

pub line_after : (now before text name value said : List ℕ) → now ≡ before ++ name ++ value ++ crlf_bytes
    → before ≡ text → value ≡ said → now ≡ text ++ name ++ said ++ crlf_bytes
line_after now before text name value said is whole told =
    is ∙ ap₂ (λ (b v : List ℕ). b ++ name ++ v ++ crlf_bytes) whole told

-- How far a head was scanned, and which bytes may follow to make it whole (RFC 9112, sections 2 to 5). The definitions
-- of what may follow begin with its first byte, so that a scan can take one more byte off its front.
use Rattle.std.specs.Prelude.{◌≡◌, ℕ, ◌+◌, ◌≤◌, List, [], ◌∷◌, ◌++◌, drop, length, take, All}
use Rattle.httparse.specs.Ascii.{carriage_return, colon, line_feed, space}
use Rattle.httparse.specs.Grammar.{AllPass, Field, IsField, IsRequestHead, IsToken, LineEnd, RequestHead, is_token_byte, is_uri_byte, is_value_byte, print_blank, print_end, print_request, print_section, print_version}
use Rattle.http_front.specs.declared.line.LineScan.{LineScan}
use Rattle.http_front.specs.declared.line.LineScan.TheVariants as lines
use Rattle.http_front.specs.declared.scan.Scan.{Scan}
use Rattle.http_front.specs.declared.scan.Scan.TheVariants as scans

-- one whole head
abbrev pub IsHead : List ℕ → Type 0
IsHead bytes = (h : RequestHead) × IsRequestHead h × (bytes ≡ print_request h)

-- lines of fields, and the empty line
abbrev pub EndsLine : List ℕ → Type 0
EndsLine bytes =
    (fields : List Field) × (last : LineEnd) × All IsField fields × (bytes ≡ print_section fields last)

-- the rest of a value and its line, and further lines
abbrev pub EndsValue : List ℕ → Type 0
EndsValue bytes =
    (raw : List ℕ) × (end : LineEnd) × (rest : List ℕ) × AllPass is_value_byte raw × EndsLine rest
    × (bytes ≡ raw ++ (print_end end ++ rest))

-- the rest of a name, and its value
abbrev pub EndsName : List ℕ → Type 0
EndsName bytes =
    (name : List ℕ) × (rest : List ℕ) × AllPass is_token_byte name × EndsValue rest
    × (bytes ≡ name ++ colon ∷ rest)

-- the rest of a version after `count` of its bytes, the end of its line, and further lines
abbrev pub EndsVersion : ℕ → List ℕ → Type 0
EndsVersion count bytes =
    (minor : ℕ) × (end : LineEnd) × (rest : List ℕ) × (minor ≤ 1) × EndsLine rest
    × (bytes ≡ drop count (print_version minor) ++ (print_end end ++ rest))

-- the second byte of CR LF, and further lines
abbrev pub EndsCrLf : List ℕ → Type 0
EndsCrLf [] = ⊥
EndsCrLf (b ∷ rest) = (b ≡ line_feed) × EndsLine rest

-- the bytes may follow a scan that is past the target
abbrev pub Ends : LineScan → List ℕ → Type 0
Ends (lines.Version count) bytes = EndsVersion count bytes
Ends lines.LineEnd bytes = EndsCrLf bytes
Ends lines.Line bytes = EndsLine bytes
Ends lines.Name bytes = EndsName bytes
Ends lines.Value bytes = EndsValue bytes
Ends lines.HeadEnd bytes = bytes ≡ line_feed ∷ []
Ends lines.Stop bytes = ⊥

-- at least one byte may follow
abbrev pub GoesOn : LineScan → Type 0
GoesOn scan = (first : ℕ) × (rest : List ℕ) × Ends scan (first ∷ rest)

-- the bytes end in a target, which begins at the index `start`
pub record IsInTarget (start : ℕ) (bytes : List ℕ) : Type 0 where
  pub blank : List LineEnd
  pub method : List ℕ
  pub target : List ℕ
  pub token : IsToken method
  pub uri : AllPass is_uri_byte target
  pub begins : start ≡ length (print_blank blank) + length method + 1
  pub whole : bytes ≡ print_blank blank ++ (method ++ space ∷ target)

-- the scan is the state after these bytes
abbrev pub IsSeen : Scan → List ℕ → Type 0
IsSeen scans.Blank bytes = (blank : List LineEnd) × (bytes ≡ print_blank blank)
IsSeen scans.BlankEnd bytes =
    (blank : List LineEnd) × (bytes ≡ print_blank blank ++ carriage_return ∷ [])
IsSeen scans.Method bytes =
    (blank : List LineEnd) × (method : List ℕ) × IsToken method × (bytes ≡ print_blank blank ++ method)
IsSeen (scans.Target start) bytes = IsInTarget start bytes
IsSeen (scans.Behind line) bytes = (more : List ℕ) → Ends line more → IsHead (bytes ++ more)

-- the scan is the state after the first `seen` of the bytes
abbrev pub AreSeen : Scan → ℕ → List ℕ → Type 0
AreSeen scan seen bytes = (seen ≤ length bytes) × IsSeen scan (take seen bytes)

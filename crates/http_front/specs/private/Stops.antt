-- The part of a head at which its parser stopped. A method is a token (RFC 9112, section 3; RFC 9110, section 5.6.2).
-- Folded lines are those of RFC 9112, section 5.2. Empty lines before a head are no part of it (section 2.2).
use Rattle.std.specs.Prelude.{◌≡◌, ◌⊎◌, ℕ, Bool, ◌||◌, ◌==◌, List, [], ◌∷◌, ◌++◌, IsTrue, if◌then◌else◌}
use Rattle.http_header.specs.Token.{IsToken}
use Rattle.httparse.specs.Ascii.{carriage_return, line_feed, space}
use Rattle.httparse.specs.Grammar.{LineEnd, is_ows, print_end}
use Rattle.httparse.specs.declared.Error.{Error}
use Rattle.httparse.specs.declared.Error.TheVariants as errors
use Rattle.http_front.specs.declared.fault.HeadPart.{HeadPart}
use Rattle.http_front.specs.declared.fault.HeadPart.TheVariants as parts

-- a byte of a line's end
abbrev pub is_end_byte : ℕ → Bool
is_end_byte b = b == carriage_return || b == line_feed

-- the bytes without the ends of lines that they begin with
abbrev pub skip_ends : List ℕ → List ℕ
skip_ends [] = []
skip_ends (b ∷ bytes) = if is_end_byte b then skip_ends bytes else b ∷ bytes

-- the first line begins with a method and a space
pub record BeginsWithMethod (bytes : List ℕ) : Type 0 where
  pub method : List ℕ
  pub rest : List ℕ
  pub token : IsToken method
  pub whole : skip_ends bytes ≡ method ++ space ∷ rest

-- an end of a line, and more
abbrev pub BeginsWithEnd : List ℕ → Type 0
BeginsWithEnd bytes = (end : LineEnd) × (rest : List ℕ) × (bytes ≡ print_end end ++ rest)

-- a space or a tab, and more
abbrev pub BeginsWithBlank : List ℕ → Type 0
BeginsWithBlank [] = ⊥
BeginsWithBlank (b ∷ bytes) = IsTrue (is_ows b)

-- after a line there is an empty one
pub record HasEmptyLine (bytes : List ℕ) : Type 0 where
  pub before : List ℕ
  pub next : List ℕ
  pub empty : BeginsWithEnd next
  pub whole : bytes ≡ before ++ line_feed ∷ next

-- after a line, one begins with white space, and none before is empty
pub record FoldsIn (bytes : List ℕ) : Type 0 where
  pub before : List ℕ
  pub next : List ℕ
  pub blank : BeginsWithBlank next
  pub whole : bytes ≡ before ++ line_feed ∷ next
  pub inside : ¬ (HasEmptyLine (before ++ line_feed ∷ []))

-- a line of the head begins with white space
abbrev pub HasFoldedLine : List ℕ → Type 0
HasFoldedLine bytes = FoldsIn (skip_ends bytes)

-- this is the first part if that holds, else the second
abbrev pub IsFirstIf : Type 0 → HeadPart → HeadPart → HeadPart → Type 0
IsFirstIf holds first second part = (holds × (part ≡ first)) ⊎ ((¬ holds) × (part ≡ second))

-- the part that an error of the parser means for these bytes
abbrev pub IsPartOf : Error → List ℕ → HeadPart → Type 0
IsPartOf errors.Token bytes part = IsFirstIf (BeginsWithMethod bytes) parts.Target parts.Method part
IsPartOf errors.Status bytes part = IsFirstIf (BeginsWithMethod bytes) parts.Target parts.Method part
IsPartOf errors.Version bytes part = part ≡ parts.Version
IsPartOf errors.NewLine bytes part = part ≡ parts.LineEnd
IsPartOf errors.HeaderName bytes part = IsFirstIf (HasFoldedLine bytes) parts.FoldedLine parts.FieldName part
IsPartOf errors.TooManyHeaders bytes part = IsFirstIf (HasFoldedLine bytes) parts.FoldedLine parts.FieldName part
IsPartOf errors.HeaderValue bytes part = part ≡ parts.FieldValue

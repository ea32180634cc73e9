-- The head that the code spells of parts, and why it is none.
use Rattle.std.specs.Prelude.{◌<◌, ◌++◌, List, IsUtf8, length, map}
use Rattle.attributes.specs.Headers.{Entry}
use Rattle.httparse.specs.Grammar.{Field, IsRequestHead, IsToken, AllPass, RequestHead, is_value_byte, print_request}
use Rattle.httparse.specs.Spans.{name_and_value}
use Rattle.http_front.specs.declared.fault.HeadFault.{HeadFault}
use Rattle.http_front.specs.declared.fault.HeadFault.TheVariants.{Malformed, TooLong}
use Rattle.http_front.specs.declared.fault.HeadPart.{HeadPart}
use Rattle.http_front.specs.declared.fault.HeadPart.TheVariants.{FieldName, FieldValue}
use Rattle.http_front.specs.declared.spelled.Spelled.{Spelled}
use Rattle.http_front.specs.Head.{head_room}
use Rattle.http_front.specs.Parts.{IsMalformedIn, field_view, head_with, line_of}

-- the head that is spelled
abbrev pub head_in : Spelled → RequestHead
head_in s = head_with s.method.now s.target.now s.is_http11 (map field_view s.front.now ++ map field_view s.back.now)

-- the fields of a head that these fields spell
abbrev pub head_fields : List Entry → List Entry
head_fields fields = map name_and_value (map line_of fields)

-- the value of the field is UTF-8
abbrev pub HasTextValue : Entry → Type 0
HasTextValue field = IsUtf8 field.1

-- the line is malformed in its name or its value
abbrev pub IsLineMalformedIn : Field → HeadPart → Type 0
IsLineMalformedIn f FieldName = ¬ (IsToken f.name)
IsLineMalformedIn f FieldValue = ¬ (AllPass is_value_byte f.raw)
IsLineMalformedIn f part = ⊥

-- the head is malformed, or it is too long
abbrev pub IsSpellingFault : RequestHead → HeadFault → Type 0
IsSpellingFault h (Malformed part) = IsMalformedIn h part
IsSpellingFault h TooLong = IsRequestHead h × (head_room < length (print_request h))
IsSpellingFault h fault = ⊥

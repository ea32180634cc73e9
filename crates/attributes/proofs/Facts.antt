-- Texts are UTF-8.
use Rattle.std.proofs.Common.{Option, Some, None, IfSome}
use Rattle.std.proofs.lemmas.Str.{IsUtf8-string_bytes}
use Rattle.std.specs.Str.{IsUtf8}
use Rattle.std.specs.Arc.{arc_str_bytes}
use Rattle.std.specs.declared.sync.ArcStr.{ArcStr}
use Rattle.std.specs.declared.alloc.Global.{Global}
use Rattle.attributes.specs.Conn.{text_view}

-- a shared text is UTF-8
pub is_utf8_rc_str_bytes : (text : ArcStr Global) → IsUtf8 (arc_str_bytes text)
is_utf8_rc_str_bytes text = IsUtf8-string_bytes text.text.value

-- a text that may be absent is UTF-8
pub is_utf8_text_view : (found : Option (ArcStr Global)) → IfSome (text_view found) IsUtf8
is_utf8_text_view None = tt
is_utf8_text_view (Some text) = is_utf8_rc_str_bytes text

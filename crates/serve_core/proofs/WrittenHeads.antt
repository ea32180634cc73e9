-- The head of a client's request, as a tree of the grammar.
use Rattle.std.proofs.Common.{◌≡◌, ◌∙◌, ℕ, Bool, true, false, List, [], ◌∷◌, ◌++◌, ap, ap₂, append_assoc, codes, map, refl}
use Rattle.std.specs.List.{flat_map}
use Rattle.std.specs.Prelude.{if◌then◌else◌}
use Rattle.attributes.specs.Headers.{Entry}
use Rattle.attributes.specs.Request.{head_protocol, protocol_of}
use Rattle.httparse.specs.Ascii.{crlf_bytes}
use Rattle.httparse.specs.Grammar.{Field, RequestHead, crlf, print_field, print_request, print_version}
use Rattle.httparse.proofs.GrammarLemmas.{cons-append}
use Rattle.head_map.specs.Heads.{field_lines, head_of}
use Rattle.head_map.specs.Mapped.{PartsValue}

-- a line of the head: one space is before the value
abbrev pub client_line : Entry → Field
client_line line = record { name = line.0; raw = 32 ∷ line.1; end = crlf }

-- the head
abbrev pub client_tree : PartsValue → Bool → RequestHead
client_tree p http11 = record {
  blank = [];
  method = p.method;
  target = p.target;
  minor = if http11 then 1 else 0;
  line_end = crlf;
  fields = map client_line p.lines;
  last = crlf;
}

line_parts : (n v c : List ℕ) → n ++ codes ": " ++ v ++ c ≡ n ++ 58 ∷ (32 ∷ v) ++ c
line_parts n v c = simp (append_assoc, cons-append)

same_lines : (lines : List Entry) → field_lines lines ≡ flat_map print_field (map client_line lines)
same_lines [] = refl
same_lines (line ∷ lines) =
    ap₂ (λ (a b : List ℕ). a ++ b) (line_parts line.0 line.1 crlf_bytes) (same_lines lines)

version_text : (http11 : Bool) → protocol_of (head_protocol http11) ≡ print_version (if http11 then 1 else 0)
version_text true = refl
version_text false = refl

regroup : (m t v c f : List ℕ)
    → (m ++ codes " " ++ t ++ codes " " ++ v ++ c) ++ f ++ c ≡ m ++ 32 ∷ t ++ 32 ∷ v ++ c ++ (f ++ c)
regroup m t v c f = simp (append_assoc, cons-append)

-- what is written is that head
pub head_written : (p : PartsValue) (http11 : Bool) → head_of p http11 ≡ print_request (client_tree p http11)
unfolding print_request
head_written p http11 =
    let version : List ℕ = print_version (if http11 then 1 else 0) in
    ap (λ (v : List ℕ). (p.method ++ codes " " ++ p.target ++ codes " " ++ v ++ crlf_bytes) ++ field_lines p.lines ++ crlf_bytes)
    (version_text http11)
    ∙ ap (λ (f : List ℕ). (p.method ++ codes " " ++ p.target ++ codes " " ++ version ++ crlf_bytes) ++ f ++ crlf_bytes)
    (same_lines p.lines)
    ∙ regroup p.method p.target version crlf_bytes (flat_map print_field (map client_line p.lines))

use Rattle.std.proofs.Common.{◌≡◌, ◌<◌, ◌+◌, ℕ, List, length, take, inl, inr, sym, subst, arith, ◌∙◌}
use Rattle.std.proofs.lemmas.Bool.{cases_Bool}
use Rattle.std.proofs.lemmas.List.{length-map}
use Rattle.std.specs.Char.{to_ascii_lowercase}
use Rattle.std.specs.Str.{str_to_ascii_lowercase}
use Rattle.rbac_match.specs.Text.{is_substring}
use Rattle.rbac_match.specs.private.Search.{EndsWithFirst, EndsWithMost}
use Rattle.rbac_match.proofs.Borders.{text_more, whole_part, substring_ends, none_more}
use Rattle.rbac_match.proofs.search.contains_ignore_case.Goals as goal

pub returns-then-matched-part : goal.returns-then-matched-part
returns-then-matched-part c =
    let part : List ℕ = str_to_ascii_lowercase c.args.part.now in
    let text : List ℕ = str_to_ascii_lowercase c.args.text.now in
    let i : ℕ = c.loop-byte.byte-index in
    let size : c.advance-matched.result ≡ length part =
    c.if-matched-part.true ∙ sym (length-map c.args.part.now to_ascii_lowercase) in
    let most : EndsWithMost part (take (i + 1) text) c.advance-matched.result =
    rw (text_more c.args.text.now i c.loop-byte-test.true)
    (c.advance-matched.ensures (take i text) c.loop-byte.invariant.most) in
    let P : ℕ → Type 0 = EndsWithFirst part (take (i + 1) text) in
    sym (whole_part part text (i + 1)
    (omega (arith, c.loop-byte-test.true, length-map c.args.text.now to_ascii_lowercase)) (subst P size most.ends))

pub loop-byte-preserved : goal.loop-byte-preserved
loop-byte-preserved c =
    let part : List ℕ = str_to_ascii_lowercase c.args.part.now in
    let text : List ℕ = str_to_ascii_lowercase c.args.text.now in
    let i : ℕ = c.loop-byte.byte-index in
    let most : EndsWithMost part (take (i + 1) text) c.advance-matched.result =
    rw (text_more c.args.text.now i c.loop-byte-test.true)
    (c.advance-matched.ensures (take i text) c.loop-byte.invariant.most) in
    let size : length part ≡ length c.args.part.now = length-map c.args.part.now to_ascii_lowercase in
    let below : c.advance-matched.result < length c.args.part.now =
    omega (arith, most.ends.in_part, size, c.if-matched-part.false) in
    record {
      below = below;
      most = most;
      none = none_more part text i c.advance-matched.result (omega (arith, below, size)) most c.loop-byte.invariant.none;
    }

pub returns : goal.returns
returns c =
    let part : List ℕ = str_to_ascii_lowercase c.args.part.now in
    let text : List ℕ = str_to_ascii_lowercase c.args.text.now in
    elim (cases_Bool (is_substring part text)) [
      | inr other ↦ sym other
      | inl stands ↦
          let found = substring_ends part text stands in
          absurd (c.loop-byte.invariant.none found.0
          (omega (arith, found.1, c.loop-byte-test.false, length-map c.args.text.now to_ascii_lowercase)) found.2)
    ]

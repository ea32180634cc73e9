-- What is read of an input as one line.
use Rattle.std.proofs.Common.{◌≡◌, ◌≢◌, ◌<◌, ◌≤◌, ◌∙◌, ℕ, List, [], Option, Some, None, ap, arith, length, refl, sym}
use Rattle.std.specs.Prelude.{IfSome}
use Rattle.std.proofs.BufReadLemmas.{take_through-nil, take_through_nonempty}
use Rattle.std.specs.Io.BufRead.{DropsThrough, drop_through, take_through}
use Rattle.std.specs.Io.Iter.{u64_saturate}
use Rattle.program_texts.specs.InputLines.{ReadsLine}
use Rattle.rbac_judge.specs.private.Batching.{IsHeadLineOf, IsSomeHeadLine}
use Rattle.rbac_judge.specs.declared.head_lines.HeadLine.{HeadLine}
use Rattle.rbac_judge.specs.declared.head_lines.HeadLine.TheVariants.{TooLong, Whole}

-- bytes that are there are a line
reads_line : (input input_new : Option (List ℕ)) (line : List ℕ) → 0 < length line
    → IfSome input (λ xs. line ≡ take_through 10 xs) → DropsThrough input input_new 10 → ReadsLine input line input_new
reads_line None input_new line some is rest = tt
reads_line (Some xs) input_new line some is rest =
    let more = take_through_nonempty 10 xs (omega (arith, some, ap length is)) in
    (λ none. omega (arith, more, ap length none), is, rest)

-- no bytes are the end of the input
at_end : (input input_new : Option (List ℕ)) (line : List ℕ) → length line ≡ 0
    → IfSome input (λ xs. line ≡ take_through 10 xs) → DropsThrough input input_new 10
    → IfSome input (λ bytes. (bytes ≡ []) × (input_new ≡ Some []))
at_end None input_new line none is rest = tt
at_end (Some xs) input_new line none is rest =
    let empty = take_through-nil 10 xs (sym (ap length is) ∙ none) in
    (empty, rest ∙ ap (λ l. Some (drop_through 10 l)) empty)

pub some_head_line : (found : Option HeadLine) (input input_new : Option (List ℕ)) (kept : List ℕ) (count : ℕ)
    (line : List ℕ) → count ≡ u64_saturate (length line) → (length line ≤ 1048576 → kept ≡ line)
    → IfSome input (λ xs. line ≡ take_through 10 xs) → DropsThrough input input_new 10
    → IsHeadLineOf kept count found → IsSomeHeadLine found input input_new
some_head_line None input input_new kept count line counted same is rest of =
    at_end input input_new line (omega (arith, counted, of)) is rest
some_head_line (Some (Whole bytes)) input input_new kept count line counted same is rest (items, some, few) = (
  line,
  (sym (items ∙ same (omega (arith, counted, few))), λ long. omega (arith, counted, few, long)),
  reads_line input input_new line (omega (arith, counted, some)) is rest,
)
some_head_line (Some TooLong) input input_new kept count line counted same is rest of =
    (line, omega (arith, counted, of), reads_line input input_new line (omega (arith, counted, of)) is rest)

-- What is left of a text when its writer fails is not empty.
use Rattle.std.proofs.Common.{◌≡◌, ◌<◌, ◌-◌, ◌++◌, ◌∙◌, ℕ, List, [], ap, arith, drop, drop_of_length-le, length, refl, rules, sym, take, append-nil, append_assoc, take-append-drop}
use Rattle.std.proofs.lemmas.Grind.{common_steps}
use Rattle.std.proofs.lemmas.List.{take_rest}
use Rattle.std.proofs.KnownBytes.{Appends-kept, Appends-nil, Appends-trans}
use Rattle.program_texts.proofs.Writing.{part_of_taken, whole_of_taken}
use Rattle.program_texts.proofs.output.write_whole.Goals.{in-Ok, in-Err+else-ne}
use Rattle.program_texts.proofs.output.write_whole.Goals as goal

moves_front : (all done rest : List ℕ) (n : ℕ) → all ≡ done ++ rest
    → all ≡ (done ++ take n rest) ++ take (length rest - n) (drop n rest)
moves_front all done rest n e =
    e ∙ ap (λ l. done ++ l) (sym (take-append-drop n rest))
    ∙ sym (append_assoc done (take n rest) (drop n rest))
    ∙ ap (λ l. (done ++ take n rest) ++ l) (sym (take_rest rest n))

pub loop-init : goal.loop-init
loop-init g c = ([], refl, Appends-nil _)

pub returns-in-Ok-eq0-clause-part : goal.returns-in-Ok-eq0-clause-part
returns-in-Ok-eq0-clause-part g c =
    let (done, split, took) = c.loop.invariant in
    let more : 0 < length c.loop.rest.now = grind (arith, common_steps) in
    let none = rw c.in-Ok-eq0.field-0-test at c.in-Ok-eq0.ensures.bytes in
    let same = rw append-nil at (Appends-trans _ _ _ done [] took none) in
    part_of_taken _ _ _ done c.loop.rest.now split same more

pub returns-then-ne-clause-part : goal.returns-then-ne-clause-part
returns-then-ne-clause-part g c =
    let (done, split, took) = c.loop.invariant in
    let more : 0 < length c.loop.rest.now = grind (arith, common_steps) in
    part_of_taken _ _ _ done c.loop.rest.now split (Appends-kept _ _ _ done took c.in-Err.ensures.bytes) more

pub loop-preserved : goal.loop-preserved
loop-preserved g c =
    let (done, split, took) = c.loop.invariant in
    elim c.match-write.branch [
      | in-Ok w ↦
          rw w.rest-is (
            done ++ take w.in-Ok.count c.loop.rest.now,
            moves_front _ done _ w.in-Ok.count split,
            Appends-trans _ _ _ done _ took w.in-Ok.ensures.bytes,
          )
      | in-Err+else-ne w ↦ rw w.rest-is (done, split, Appends-kept _ _ _ done took w.in-Err.ensures.bytes)
    ]

pub returns-then-is_empty-clause-whole : goal.returns-then-is_empty-clause-whole
returns-then-is_empty-clause-whole g c =
    let (done, split, took) = c.loop.invariant in
    let empty = drop_of_length-le c.loop.rest.now {i = 0} (search rules) in
    whole_of_taken _ _ _ done c.loop.rest.now split took empty

pub returns-then-is_empty-2-clause-whole : goal.returns-then-is_empty-2-clause-whole
returns-then-is_empty-2-clause-whole g c =
    let (done, split, took) = c.loop.invariant in
    let empty = drop_of_length-le c.loop.rest.now {i = 0} (search rules) in
    whole_of_taken _ _ _ done c.loop.rest.now split took empty

pub returns-clause-part : goal.returns-clause-part
returns-clause-part g c =
    let (done, split, took) = c.loop.invariant in
    let more : 0 < length c.loop.rest.now = grind (arith, common_steps) in
    part_of_taken _ _ _ done c.loop.rest.now split took more

-- The greatest boundary that leaves a byte of the room; a zero is written there.
use Rattle.std.proofs.Common.{◌≡◌, ◌∙◌, ◌<◌, ◌≤◌, ◌-◌, ℕ, List, ap, arith, inl, inr, length, take}
use Rattle.std.proofs.lemmas.Bool.{cases_lt}
use Rattle.std.proofs.lemmas.Grind.{common_steps}
use Rattle.vupresal_c.proofs.Writing.{text_written}
use Rattle.vupresal_c.proofs.copying.copy_text.Goals as goal

pub returns : goal.returns
returns c =
    let count : ℕ = c.floor_char_boundary-count.result in
    let text : List ℕ = c.args.text.now in
    let room : List ℕ = c.args.room.now in
    let some : 0 < length room = grind (arith, common_steps) in
    let bound : count ≤ length room - 1 = c.floor_char_boundary-count.ensures.bound in
    let inside : count < length room = omega (arith, some, bound) in
    let within : count ≤ length text = c.floor_char_boundary-count.ensures.boundary.0 in
    let front : c.copy_from_slice.new.self ≡ take count text =
    c.copy_from_slice.ensures.after ∙ ap (take count) c.as_bytes.ensures.value in
    inr (
      count,
      record {
        within = inside;
        boundary = c.floor_char_boundary-count.ensures.boundary;
        most = λ n below whole. elim (cases_lt count n) [
          | inl over ↦ absurd (c.floor_char_boundary-count.ensures.nearest n over (omega (arith, below)) whole)
          | inr least ↦ least
        ];
      },
      rw front (text_written text room count within inside),
    )

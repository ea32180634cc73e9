use Rattle.std.proofs.Common.{ap, Some}
use Rattle.cel_value.proofs.Views.{view_text_type}
use Rattle.machine_code.specs.Slots.{of}
use Rattle.std.proofs.lemmas.Str.{IsUtf8-string_bytes, scalars-chars}
use Rattle.code_verifier.proofs.sources.text_slot.Goals as goal

pub returns : goal.returns
returns c = rw (scalars-chars _ (IsUtf8-string_bytes c.args.value.now.text.value)) (ap (λ t. Some (of t)) view_text_type)

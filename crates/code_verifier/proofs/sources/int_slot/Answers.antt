use Rattle.std.proofs.Common.{ap, Some}
use Rattle.cel_value.proofs.Views.{view_int_type}
use Rattle.machine_code.specs.Slots.{of}
use Rattle.cel_ops.proofs.Numbers.{fits_int64}
use Rattle.code_verifier.proofs.sources.int_slot.Goals as goal

pub returns : goal.returns
returns c = rw (fits_int64 c.args.number c.ranges.number) (ap (λ t. Some (of t)) view_int_type)

use Rattle.std.proofs.Common.{ap, Some}
use Rattle.cel_value.proofs.Views.{view_uint_type}
use Rattle.machine_code.specs.Slots.{of}
use Rattle.cel_ops.proofs.Numbers.{below_uint64}
use Rattle.code_verifier.proofs.sources.uint_slot.Goals as goal

pub returns : goal.returns
returns c = rw (below_uint64 c.args.number c.ranges.number.fits) (ap (λ t. Some (of t)) view_uint_type)

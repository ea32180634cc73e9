use Rattle.rbac_policy.specs.Admission.{in_message}
use Rattle.rbac_policy.specs.Places.{of_filter}
use Rattle.rbac_policy.proofs.Places.{has_fault}
use Rattle.rbac_policy.proofs.laws.fault_at_a_place_is_a_fault.Goals as goal

pub returns : goal.returns
returns c = λ bytes limits budget steps e bad. in_message (has_fault steps (of_filter bytes) e bad)

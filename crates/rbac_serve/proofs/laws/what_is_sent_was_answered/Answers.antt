use Rattle.rbac_serve.proofs.Order.{answers_in_order, requests_in_order}
use Rattle.rbac_serve.proofs.laws.what_is_sent_was_answered.Goals as goal

pub returns-clause-answers : goal.returns-clause-answers
returns-clause-answers c = answers_in_order

pub returns-clause-requests : goal.returns-clause-requests
returns-clause-requests c = requests_in_order

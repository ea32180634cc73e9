use Rattle.serve_admin.proofs.LabelLemmas.{value_reads}
use Rattle.serve_admin.proofs.laws.a_label_reads_back.Goals as goal

pub returns : goal.returns
returns c = value_reads

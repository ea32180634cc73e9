use Rattle.std.proofs.Common.{◌+◌, ◌*◌}
use Rattle.cel_read.proofs.type_entry.+type_entry.Given as goal

abbrev pub decreases-read_type : goal.decreases-read_type
decreases-read_type l = 3 * l.depth

abbrev pub decreases-read_list : goal.decreases-read_list
decreases-read_list l = 3 * l.depth + 1

abbrev pub decreases-read_map : goal.decreases-read_map
decreases-read_map l = 3 * l.depth + 1

abbrev pub decreases-read_inner : goal.decreases-read_inner
decreases-read_inner l = 3 * l.depth + 2

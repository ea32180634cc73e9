use Rattle.head_map.proofs.PathFaults.{none_by_either, none_of_all}
use Rattle.head_map.proofs.path.path_is_strict.Goals as goal

pub returns-in-None-clause-sound : goal.returns-in-None-clause-sound
returns-in-None-clause-sound c =
    let first = none_of_all c.first_fault.result c.before_query-path.result.now c.first_fault.ensures in
    none_by_either c.first_fault-in-None.result c.args.target.now
    (rw (← c.before_query-path.ensures) (rw c.in-None.is at first))
    (rw (← c.before_query-path.ensures)
    (rw (← c.before_fragment.ensures)
    (none_of_all c.first_fault-in-None.result c.before_fragment.result.now c.first_fault-in-None.ensures)))

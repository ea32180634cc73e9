use Rattle.std.proofs.Common.{◌≡◌, ◌∙◌, ◌++◌, ◌∷◌, None, Some, [], ap, get_or, sym}
use Rattle.serde_json.specs.View.{view}
use Rattle.serve_config.specs.Maps.{member_name}
use Rattle.serve_config.specs.Members.{data_of, member_of}
use Rattle.serve_config.specs.declared.map.Member.TheVariants as members
use Rattle.serve_config.proofs.Present.{absent_more, present_more}
use Rattle.serve_config.proofs.map.named_by.Goals as goal
use Rattle.serve_config.proofs.map.named_by.Goals.{in-Some+in_ok-one+else-is_named+in_ok-push, in_default}

pub loop-member-preserved : goal.loop-member-preserved
loop-member-preserved c =
    let d = data_of c.args.map in
    let at = get_or c.args.members.now c.loop-member.member-index members.Method in
    elim c.match-get.branch [
      | in-Some+in_ok-one+else-is_named+in_ok-push w ↦
          let some : member_of (member_name at) d ≡ Some (view w.in-Some.value.now) =
          rw c.name-name.ensures at (sym w.in-Some.ensures) in
          let pushed : c.match-get.named.items ≡ c.loop-member.named.items ++ w.in_ok-one.one ∷ [] =
          ap (λ v. v.items) w.named-is ∙ w.in_ok-push.ensures.items in
          present_more d c.args.members.now c.loop-member.member-index members.Method c.loop-member-test.true
          (view w.in-Some.value.now) c.loop-member.named.items c.match-get.named.items w.in_ok-one.one some
          c.loop-member.invariant w.in_ok-one.ensures pushed
      | in_default w ↦
          let none : member_of (member_name at) d ≡ None = rw c.name-name.ensures at (sym w.in_default.ensures) in
          rw w.named-is
          (absent_more d c.args.members.now c.loop-member.member-index members.Method c.loop-member-test.true
          c.loop-member.named.items none c.loop-member.invariant)
    ]

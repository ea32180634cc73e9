-- One level of a type, where a level is left.
use Rattle.std.proofs.Common.{◌≡◌, ◌-◌, ◌<◌, ℕ, zero, suc, List, arith}
use Rattle.proto_wire.specs.declared.refusal.Refusal.{Refusal}
use Rattle.cel_tree.specs.Checked.{CelTypeEntry}
use Rattle.cel_tree.specs.TypeEntries.{TypeNode, IsTypeNode, MeansEntry, IsTypeEntry, TypeNodeFault, in_type, in_inner, TypeEntryFault}
use Rattle.cel_read.specs.private.InnerTypes.{HoldsFault}
use Rattle.cel_read.proofs.InnerLaws.{inner_fault}

pub type_found : (depth : ℕ) (parts : List (List ℕ)) (node : TypeNode) (entry : CelTypeEntry) → 0 < depth
    → IsTypeNode parts node → MeansEntry (IsTypeEntry (depth - 1)) node entry → IsTypeEntry depth parts entry
type_found zero parts node entry more is holds = absurd (omega arith)
type_found (suc depth) parts node entry more is holds =
    let less : suc depth - 1 ≡ depth = omega arith in (node, is, rw less at holds)

pub type_own : (depth : ℕ) (parts : List (List ℕ)) (e : Refusal) → 0 < depth → TypeNodeFault parts e
    → TypeEntryFault depth parts e
type_own zero parts e more bad = absurd (omega arith)
type_own (suc depth) parts e more bad = in_type bad

pub type_inner : (depth : ℕ) (parts : List (List ℕ)) (node : TypeNode) (e : Refusal) → 0 < depth
    → IsTypeNode parts node → HoldsFault (TypeEntryFault (depth - 1)) node e → TypeEntryFault depth parts e
type_inner zero parts node e more is bad = absurd (omega arith)
type_inner (suc depth) parts node e more is bad =
    let less : suc depth - 1 ≡ depth = omega arith in
    let here = inner_fault (TypeEntryFault depth) parts node e is (rw less at bad) in
    in_inner here.0 here.1 here.2

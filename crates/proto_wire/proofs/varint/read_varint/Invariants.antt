use Rattle.std.proofs.Common.{◌≡◌, ◌≤◌, take}
use Rattle.proto_wire.specs.Varint.{value_of}
use Rattle.proto_wire.proofs.VarintLemmas.{AllMore}
use Rattle.proto_wire.proofs.varint.read_varint.Given as goal

abbrev pub invariant-loop-index : goal.invariant-loop-index
invariant-loop-index l =
    record {
      short : l.index ≤ 9;
      more : AllMore (take l.index l.bytes);
      value : l.value ≡ value_of (take l.index l.bytes);
    }

-- The fields so far stand behind the others, and there is room for those that are left and the last one.
use Rattle.std.proofs.Common.{◌≡◌, ◌+◌, ◌<◌, ◌++◌, length, map, take}
use Rattle.std.specs.Vec.{vec_len, vec_capacity}
use Rattle.merc_heap.specs.Functors.{inner_number}
use Rattle.merc_heap.specs.Fields.{field_with}
use Rattle.merc_heap.proofs.heap.push_inner.Given as goal

abbrev pub invariant-loop-field : goal.invariant-loop-field
invariant-loop-field l = record {
  items : l.slots.items ≡ l.fn.slots.items ++ map (field_with inner_number) (take l.field-index l.fields);
  room : vec_len l.slots + length l.fields < vec_capacity l.slots + l.field-index;
}

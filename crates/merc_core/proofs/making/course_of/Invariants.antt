-- The table is right from a place on.
use Rattle.std.proofs.Common.{◌≡◌, length}
use Rattle.merc_core.proofs.StartPlaces.{IsPastFrom}
use Rattle.merc_core.proofs.making.course_of.Given as goal

abbrev pub invariant-loop-place : goal.invariant-loop-place
invariant-loop-place l = record {
  items : l.course.items.items ≡ l.fn.items.items;
  long : length l.course.past.items ≡ length l.course.items.items;
  past : IsPastFrom l.place l.course.items.items l.course.past.items;
}

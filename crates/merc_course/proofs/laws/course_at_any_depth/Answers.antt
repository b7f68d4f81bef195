use Rattle.merc_course.proofs.laws.course_at_any_depth.Goals as goal
use Rattle.merc_course.proofs.Depths.{course-at_depth}

abbrev pub returns : goal.returns
returns c = course-at_depth

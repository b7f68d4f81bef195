use Rattle.std.proofs.Common.{◌≡◌, length}
use Rattle.merc_answer_variables.proofs.TrailLaws.{trail_step, place_step, shown_step}
use Rattle.merc_answer_variables.proofs.reader.put_all.Goals as goal

pub loop-last-preserved : goal.loop-last-preserved
loop-last-preserved c = record {
  trail = trail_step c.loop-last.found.items c.pop.new.self.items c.loop-last.trail.items c.push.new.self.items c.in-Some.last _ c.in-Some.ensures.items c.in_ok-push.ensures.items c.loop-last.invariant.trail;
  places = λ name. place_step name c.loop-last.found.items c.pop.new.self.items c.loop-last.trail.items c.push.new.self.items c.in-Some.last c.len.result _ _ _
      c.in-Some.ensures.items c.in_ok-push.ensures.items (let e : c.len.result ≡ length c.loop-last.trail.items = cc (c.loop-last.trail.ok.0, c.len.ensures) in e) (c.in_ok-put.ensures.places name) (c.loop-last.invariant.places name);
  shown = λ name. shown_step name c.loop-last.found.items c.pop.new.self.items c.loop-last.trail.items c.push.new.self.items c.in-Some.last _ _ _
      c.in-Some.ensures.items c.in_ok-push.ensures.items (c.in_ok-put.ensures.shown name) (c.loop-last.invariant.shown name);
}

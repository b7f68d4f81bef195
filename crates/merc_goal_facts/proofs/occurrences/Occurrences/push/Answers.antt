use Rattle.std.proofs.Common.{◌≡◌, ◌<◌, ◌∙◌, ◌∷◌, [], ap, sym, subst, length, None, arith}
use Rattle.std.specs.List.{slice_index_or}
use Rattle.std.proofs.lemmas.List.{length-append}
use Rattle.merc_goal_facts.proofs.Reaches.{occurrence_more, earlier_pushed}
use Rattle.merc_goal_facts.proofs.occurrences.Occurrences.push.Goals as goal

pub invariant_of-self-2 : goal.invariant_of-self-2
invariant_of-self-2 c =
    let e : c.reach_at-reach.result ≡ slice_index_or c.make_room.new.reaches.items c.number-3.result None = cc (c.reach_at-reach.ensures, c.deref.ensures.value, c.number-2.ensures, c.number-3.ensures) in (
      rw c.extended.ensures
          (occurrence_more c.self.inside.reaches.items c.make_room.new.reaches.items c.self.inside.all.items c.put.new.all.items c.args.variable c.number-3.result c.len.result c.reach_at-reach.result
          c.number-3.ensures c.in_ok-put.ensures.all c.make_room.ensures.same
          (subst (λ number. number < length c.make_room.new.reaches.items) (c.number.ensures ∙ sym c.number-3.ensures) c.in_ok-make_room.ensures.room)
          e
          (omega (arith, c.len.ensures, c.put.new.all.ok.0, ap length c.in_ok-put.ensures.all, length-append c.self.inside.all.items (c.args.variable ∷ []))) c.self.invariant.0),
      earlier_pushed c.self.inside.reaches.items c.self.inside.earlier.items c.put.new.earlier.items c.self.inside.all.items c.put.new.all.items c.args.variable c.reach_at-reach.result c.end_of.result
          c.self.invariant c.in_ok-put.ensures.all c.in_ok-put.ensures.earlier c.end_of.ensures
          (e ∙ ap (λ number. slice_index_or c.make_room.new.reaches.items number None) c.number-3.ensures ∙ c.make_room.ensures.same c.args.variable),
    )

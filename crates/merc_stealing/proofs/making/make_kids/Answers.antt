use Rattle.std.proofs.Common.{rules, subst, sym, ap, ◌∙◌, ◌≡◌, ◌++◌, [], refl}
use Rattle.std.proofs.lemmas.List.{append_assoc, append-nil}
use Rattle.merc_board.specs.Rights.{no_rights}
use Rattle.merc_held_branches.specs.Kids.{AreFor}
use Rattle.merc_held_branches.specs.Owning.{HasBerth}
use Rattle.merc_held_branches.proofs.Lists.{nothing, all_more}
use Rattle.merc_stealing.proofs.Dealing.{one_more}
use Rattle.merc_stealing.proofs.making.make_kids.Goals as goal

pub loop-load-preserved : goal.loop-load-preserved
loop-load-preserved g c = let was = c.loop-load.invariant in record {
  passes = search rules;
  whole = append_assoc c.loop-load.yielded _ _ ∙ ap (λ l. c.loop-load.yielded ++ l) (sym c.in-Some.ensures.steps.0) ∙ was.whole;
  made = one_more g.N.Room.table c.args.room c.loop-load.yielded _ c.loop-load.kids.items _ (λ _. no_rights) c.in-Some.load c.in-Ok.kid refl c.push_reserved.ensures.items was.made (search rules);
  berths = all_more (λ kid. HasBerth g.N.Room.table kid.value.hold.berth) c.loop-load.kids.items _ c.in-Ok.kid c.push_reserved.ensures.items was.berths (search rules);
  capacity = search rules;
}

pub returns-clause-kids : goal.returns-clause-kids
returns-clause-kids g c = let was = c.loop-load.invariant in let none : c.loop-load.load-iterator.rest.items ≡ [] = nothing _ (search rules) in
    let all : c.loop-load.yielded ≡ c.args.loads.items = sym (append-nil c.loop-load.yielded) ∙ ap (λ l. c.loop-load.yielded ++ l) (sym none) ∙ was.whole in
    (subst (λ l. AreFor g.N.Room.table c.args.room l (λ _. no_rights) c.loop-load.kids.items) all was.made, was.berths)

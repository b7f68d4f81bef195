use Rattle.std.proofs.Common.{rules, arith, ℕ, length, subst, sym, ap, map, ◌∙◌, ◌≡◌, ◌+◌, ◌-◌, ◌++◌, [], ◌∷◌}
use Rattle.std.proofs.lemmas.List.{append_assoc, append-nil, map-append}
use Rattle.merc_cell.specs.Ends.{consumer_name}
use Rattle.merc_board.specs.Rights.{waits_kept}
use Rattle.merc_held_branches.specs.Beds.{IsNamed}
use Rattle.merc_held_branches.specs.Lying.{due_of}
use Rattle.merc_held_branches.specs.Kids.{AreFor, with_waits}
use Rattle.merc_held_branches.proofs.Lists.{nothing, all_at}
use Rattle.merc_held_branches.proofs.Handing.{begin_waits, fewer, as_waits}
use Rattle.merc_held_branches.proofs.moving.move_waits.Goals as goal

pub move_wait-requires-clause-named : goal.move_wait-requires-clause-named
move_wait-requires-clause-named g c = let was = c.loop-right.invariant in
    (all_at (λ right. IsNamed g.N.Room.table (consumer_name right.end)) c.loop-right.yielded _ _ _ c.in-Some.right was.whole c.in-Some.ensures.steps.0 c.requires.named.0, was.named)

pub move_wait-requires-clause-room : goal.move_wait-requires-clause-room
move_wait-requires-clause-room g c = let was = c.loop-right.invariant.room in let one = ap length c.in-Some.ensures.steps.0 in omega (arith, was, one)

pub move_wait-requires-clause-kids : goal.move_wait-requires-clause-kids
move_wait-requires-clause-kids g c = let are = c.requires.kids in let one = ap length c.in-Some.ensures.steps.0 in (
  length c.loop-right.right-iterator.rest.items - 1 + are.0,
  are.1,
  with_waits c.args.given.now (map due_of c.loop-right.yielded) are.2,
  subst (λ (n : ℕ). AreFor g.N.Room.table n are.1 (with_waits c.args.given.now (map due_of c.loop-right.yielded) are.2) c.loop-right.kids.items) (omega (arith, one)) (c.loop-right.invariant.given are.0 are.1 are.2 are.3),
)

pub loop-right-init : goal.loop-right-init
loop-right-init g c = record {
  whole = search rules;
  given = λ room loads has are. begin_waits g.N.Room.table room loads c.args.given.now has _ c.args.waits.items _ (search rules) are;
  kept = sym (append-nil (map due_of c.args.kept.now.items));
  named = search rules;
  room = search rules;
  berths = λ b. b;
}

pub loop-right-preserved : goal.loop-right-preserved
loop-right-preserved g c = let was = c.loop-right.invariant in let one = ap length c.in-Some.ensures.steps.0 in let more = map-append due_of c.loop-right.yielded (c.in-Some.right ∷ []) in record {
  whole = append_assoc c.loop-right.yielded _ _ ∙ ap (λ l. c.loop-right.yielded ++ l) (sym c.in-Some.ensures.steps.0) ∙ was.whole;
  given = λ room loads has are. as_waits g.N.Room.table _ loads c.args.given.now has _ _ _ (sym more)
      (c.move_wait.ensures.given _ loads has (map due_of c.loop-right.yielded) (fewer g.N.Room.table room loads _ _ _ _ _ c.in-Some.ensures.steps.0 (was.given room loads has are)));
  kept = c.move_wait.ensures.kept (map due_of c.args.kept.now.items) (map due_of c.loop-right.yielded) was.kept ∙ ap (λ l. map due_of c.args.kept.now.items ++ waits_kept c.args.given.now l) (sym more);
  named = c.move_wait.ensures.named;
  room = let r = c.move_wait.ensures.room in let w = was.room in omega (arith, one, r, w);
  berths = λ b. c.move_wait.ensures.berths (was.berths b);
}

pub returns-clause-given : goal.returns-clause-given
returns-clause-given g c = λ room loads has are. let was = c.loop-right.invariant in let none : c.loop-right.right-iterator.rest.items ≡ [] = nothing _ (search rules) in
    let all : c.loop-right.yielded ≡ c.args.waits.items = sym (append-nil c.loop-right.yielded) ∙ ap (λ l. c.loop-right.yielded ++ l) (sym none) ∙ was.whole in
    subst (λ l. AreFor g.N.Room.table room loads (with_waits c.args.given.now (map due_of l) has) c.loop-right.kids.items) all
    (subst (λ (n : ℕ). AreFor g.N.Room.table n loads (with_waits c.args.given.now (map due_of c.loop-right.yielded) has) c.loop-right.kids.items) (let zero = ap length none in omega (arith, zero)) (was.given room loads has are))

pub returns-clause-kept : goal.returns-clause-kept
returns-clause-kept g c = let was = c.loop-right.invariant in let none : c.loop-right.right-iterator.rest.items ≡ [] = nothing _ (search rules) in
    let all : c.loop-right.yielded ≡ c.args.waits.items = sym (append-nil c.loop-right.yielded) ∙ ap (λ l. c.loop-right.yielded ++ l) (sym none) ∙ was.whole in
    was.kept ∙ ap (λ l. map due_of c.args.kept.now.items ++ waits_kept c.args.given.now (map due_of l)) all

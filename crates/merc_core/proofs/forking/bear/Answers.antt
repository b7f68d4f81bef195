use Rattle.std.proofs.Common.{◌∙◌, ◌<◌, ◌+◌, ◌-◌, ◌∷◌, List, length, sym, ap, arith}
use Rattle.merc_core.specs.declared.branch.Branch.{Branch as CoreBranch}
use Rattle.merc_core.specs.Rights.{signals_at}
use Rattle.merc_core.specs.Forking.{born_from, newborn}
use Rattle.merc_core.proofs.ForkParts.{born-on, rights-on}
use Rattle.merc_core.proofs.forking.bear.Goals as goal

pub loop-left-preserved : goal.loop-left-preserved
loop-left-preserved c =
    let some : 0 < c.loop-left.left = c.loop-left-test.true in
    let r = rights-on c.args.fork.now.cells c.args.fork.now.moves c.loop-left.child c.loop-left.left some in
    let g = c.rights_of.ensures.spare in
    let i = c.loop-left.invariant.rights in
    record {
      born =
          ap (λ (l : List CoreBranch). born_from c.args.course.now.past.items c.args.join c.args.fork.now.cells c.args.fork.now.moves (c.loop-left.child + 1) c.past_script-at.result (c.loop-left.left - 1) l)
          (c.put_first.ensures.into ∙ ap (λ s. newborn c.args.join c.loop-left.child c.loop-left.at s ∷ c.loop-left.born) c.rights_of.ensures.rights)
          ∙ ap (λ p. born_from c.args.course.now.past.items c.args.join c.args.fork.now.cells c.args.fork.now.moves (c.loop-left.child + 1) p (c.loop-left.left - 1) (newborn c.args.join c.loop-left.child c.loop-left.at (signals_at c.loop-left.child c.args.fork.now.cells c.args.fork.now.moves) ∷ c.loop-left.born)) c.past_script-at.ensures
          ∙ sym (born-on c.args.course.now.past.items c.args.join c.args.fork.now.cells c.args.fork.now.moves c.loop-left.child c.loop-left.at c.loop-left.left c.loop-left.born some)
          ∙ c.loop-left.invariant.born;
      branches = let a = c.loop-left.invariant.branches in let b = c.put_first.ensures.spare in omega (arith, a, b, some);
      rights = omega (arith, r, g, i);
      fewer = let a = c.loop-left.invariant.fewer in omega (arith, a, g);
      room = let a = c.loop-left.invariant.room in let b = c.put_first.ensures.spare in let e = ap length c.put_first.ensures.into in omega (arith, a, b, e);
      child = let a = c.loop-left.invariant.child in omega (arith, a, some);
      outcomes = c.loop-left.invariant.outcomes;
    }

pub rights_of-requires-clause-room : goal.rights_of-requires-clause-room
rights_of-requires-clause-room c = let a = c.loop-left.invariant.fewer in let b = c.requires.few_rights in omega (arith, a, b)

pub put_first-requires-clause-room : goal.put_first-requires-clause-room
put_first-requires-clause-room c =
    let a = c.loop-left.invariant.room in let b = c.loop-left.invariant.branches in let n = c.requires.branches in let m = c.requires.few_branches in omega (arith, a, b, n, m, c.loop-left-test.true)

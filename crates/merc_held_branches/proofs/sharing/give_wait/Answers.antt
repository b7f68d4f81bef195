use Rattle.std.proofs.Common.{arith, ◌≡◌, inl, inr, ◌∙◌, length}
use Rattle.merc_held_branches.proofs.Giving.{has_room_wait, gives_wait_to, gives_none}
use Rattle.merc_held_branches.proofs.sharing.give_wait.Goals as goal

pub push_wait-requires : goal.push_wait-requires
push_wait-requires g c = let are = c.requires.kids in let count : c.len.result ≡ length c.args.kids.now.items = c.len.ensures ∙ c.args.kids.now.ok.0 in let near = c.if-child-len.true in
    has_room_wait g.N.Room.table are.0 are.1 are.2 c.args.child c.args.kids.now.items c.index_mut.result.now c.if-child-gt0.true (omega (arith, count, near)) c.index_mut.ensures.value are.3

pub returns-then-child-len-clause-given : goal.returns-then-child-len-clause-given
returns-then-child-len-clause-given g c = λ room loads has are. let count : c.len.result ≡ length c.args.kids.now.items = c.len.ensures ∙ c.args.kids.now.ok.0 in let near = c.if-child-len.true in
    gives_wait_to g.N.Room.table room loads has c.args.right c.args.child c.args.kids.now.items c.index_mut.result.now _ c.requires.named c.if-child-gt0.true (omega (arith, count, near)) c.index_mut.ensures.value c.push_wait.ensures are

pub returns-else-child-len-clause-given : goal.returns-else-child-len-clause-given
returns-else-child-len-clause-given g c = λ room loads has are. let count : c.len.result ≡ length c.args.kids.now.items = c.len.ensures ∙ c.args.kids.now.ok.0 in let far = c.if-child-len.false in
    gives_none g.N.Room.table room loads has _ c.args.child c.args.kids.now.items (inr (omega (arith, count, far))) are

pub returns-else-child-gt0-clause-given : goal.returns-else-child-gt0-clause-given
returns-else-child-gt0-clause-given g c = λ room loads has are. let none = c.if-child-gt0.false in
    gives_none g.N.Room.table room loads has _ c.args.child c.args.kids.now.items (inl (omega (arith, none))) are

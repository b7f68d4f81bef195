use Rattle.std.proofs.Common.{arith, ◌≡◌, ◌∙◌, ◌+◌, ◌*◌, ℕ, length, subst}
use Rattle.merc_board.specs.Rights.{no_rights}
use Rattle.merc_held_branches.specs.Kids.{AreFor}
use Rattle.merc_stealing.proofs.preparing.make_fork.Goals as goal

pub returns-in-Ok-clause-made : goal.returns-in-Ok-clause-made
returns-in-Ok-clause-made g c =
    let hold = c.args.hold.now in
    let w : c.len.result ≡ length hold.waits.items = c.len.ensures ∙ hold.waits.ok.0 in
    let s : c.len-2.result ≡ length hold.signals.items = c.len-2.ensures ∙ hold.signals.ok.0 in
    let room : c.in-Some.room ≡ 2 * length c.args.shared.now + (length hold.waits.items + (length hold.signals.items + 0)) = let is = c.in-Some.ensures in omega (arith, is, w, s) in
    let few = c.in-Ok.ensures.room in
    record {
      kids = c.in-Ok.ensures.given (length hold.waits.items + (length hold.signals.items + 0)) c.args.loads.items
          (subst (λ (n : ℕ). AreFor g.N.Room.table n c.args.loads.items (λ _. no_rights) c.in_ok-kids.kids.items) room c.in_ok-kids.ensures.kids.0);
      berths = c.in-Ok.ensures.berths c.in_ok-kids.ensures.kids.1;
      behind = c.in-Ok.ensures.behind;
      named = c.in-Ok.ensures.named;
      waits_room = let all = c.in_ok-behind.ensures.exact in omega (arith, few, all, room);
      none_kept = c.in_ok-kept.ensures.items;
      signals_room = let all = c.in_ok-kept.ensures.exact in omega (arith, all, room);
    }

use Rattle.std.proofs.Common.{rules, arith, ◌≡◌, ℕ, ◌+◌, ◌∷◌, [], ◌++◌, ap, ◌∙◌, refl, sym, subst, length}
use Rattle.std.proofs.lemmas.List.{length-append}
use Rattle.std.specs.Arc.{arc_value}
use Rattle.merc_join.specs.Tickets.{AreDealt}
use Rattle.merc_join.proofs.Lists.{all_front}
use Rattle.merc_join.proofs.Dealing.{next_view, more_dealt}
use Rattle.merc_join.proofs.making.deal.Goals as goal

pub loop-owner-preserved : goal.loop-owner-preserved
loop-owner-preserved g c =
    let was = c.loop-owner.invariant in
    let parent = c.args.room.seat.me.0.parent in
    let left : c.loop-owner.others.items ≡ c.pop.new.self.items ++ c.in-Some.owner ∷ [] = c.in-Some.ensures.items in
    let fewer : length c.loop-owner.others.items ≡ length c.pop.new.self.items + 1 = ap length left ∙ length-append c.pop.new.self.items (c.in-Some.owner ∷ []) in
    let dealt : c.push_reserved.new.self.items ≡ c.loop-owner.tickets.items ++ c.split_ticket.result ∷ [] = c.push_reserved.ensures.items in
    let more : length c.push_reserved.new.self.items ≡ length c.loop-owner.tickets.items + 1 = ap length dealt ∙ length-append c.loop-owner.tickets.items (c.split_ticket.result ∷ []) in
    let child : c.len-child.result ≡ length c.loop-owner.tickets.items = search rules in
    record {
      seated = search rules;
      slots = was.slots;
      owners = all_front (λ owner. arc_value owner ≡ arc_value c.args.room.table) c.loop-owner.others.items c.pop.new.self.items c.in-Some.owner left was.owners;
      count = omega (arith, was.count);
      view = next_view c.loop-owner.seat.me c.split_ticket.new.seat.me parent (length c.loop-owner.tickets.items) (length c.push_reserved.new.self.items) (length c.loop-owner.others.items) (length c.pop.new.self.items) c.len-child.result
          was.view c.split_ticket.ensures.seat.1 child more fewer;
      dealt = subst (AreDealt c.args.children parent c.split_ticket.new.seat.table_id) (sym dealt)
          (more_dealt c.args.children parent c.split_ticket.new.seat.table_id c.loop-owner.tickets.items c.split_ticket.result
          (subst (λ j. AreDealt c.args.children parent j c.loop-owner.tickets.items) (sym c.split_ticket.ensures.seat.0) was.dealt)
          (c.split_ticket.ensures.ticket.0 ∙ child)
          (c.split_ticket.ensures.ticket.1 ∙ ap (λ m. m.0.parent) was.view)
          (c.split_ticket.ensures.ticket.2 ∙ sym c.split_ticket.ensures.seat.0)
          (ap (λ j. j.slots) (c.split_ticket.ensures.seat.0 ∙ was.seated.0) ∙ was.slots));
      capacity = search rules;
    }

count_is : (left dealt children : ℕ) → left ≡ 0 → left + dealt + 1 ≡ children → dealt + 1 ≡ children
count_is left dealt children none_left all = omega arith

pub returns : goal.returns
returns g c =
    let was = c.loop-owner.invariant in
    let parent = c.args.room.seat.me.0.parent in
    let none_left : length c.loop-owner.others.items ≡ 0 = search rules in
    let child : c.len-child-2.result ≡ length c.loop-owner.tickets.items = search rules in
    let more = ap length c.push_reserved-2.ensures.items ∙ length-append c.loop-owner.tickets.items _ in
    record {
      join = c.loop-owner.seat.table_id;
      count = more ∙ count_is (length c.loop-owner.others.items) (length c.loop-owner.tickets.items) c.args.children none_left was.count;
      each = subst (AreDealt c.args.children parent c.loop-owner.seat.table_id) (sym c.push_reserved-2.ensures.items)
          (more_dealt c.args.children parent c.loop-owner.seat.table_id c.loop-owner.tickets.items _ was.dealt child (ap (λ m. m.0.parent) was.view) refl
          (ap (λ j. j.slots) was.seated.0 ∙ was.slots));
    }

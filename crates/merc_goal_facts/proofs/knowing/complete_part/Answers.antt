use Rattle.std.proofs.Common.{◌≡◌, ◌≤◌, ◌∙◌, ◌-◌, ◌++◌, ◌∷◌, [], length, take, drop, map, ap, sym, subst, refl}
use Rattle.std.specs.List.{slice_index_or}
use Rattle.std.proofs.lemmas.List.{take_rest}
use Rattle.merc_goal_tree.specs.Roots.{arity_of, joined}
use Rattle.merc_order.specs.Procedures.{modes_of}
use Rattle.merc_goal_facts.specs.Knowing.{AreThere}
use Rattle.merc_goal_facts.specs.declared.knowing.Known.{Known}
use Rattle.merc_goal_facts.proofs.CompleteGoals.{counted}
use Rattle.merc_goal_facts.proofs.Completing.{there_take, there_drop, there_after, completed_by}
use Rattle.merc_goal_facts.proofs.Keeping.{kept_length, written_kept, complete_kept}
use Rattle.merc_goal_facts.proofs.knowing.complete_part.Goals as goal

pub part_facts-requires-clause-there : goal.part_facts-requires-clause-there
part_facts-requires-clause-there c =
    there_take _ _ _ (there_drop (c.len.result - c.arity.result) _ _ (subst (AreThere (length c.args.known.now.facts.items)) (sym c.deref-2.ensures.value) c.requires.there))

pub returns-clause-there : goal.returns-clause-there
returns-clause-there c =
    let part_is : c.len-part.result ≡ length c.part_facts.new.facts.items = cc (c.part_facts.new.facts.ok.0, c.len-part.ensures) in
    subst (λ n. AreThere n c.push.new.self.items) (sym (kept_length c.push_facts.new.facts.items _
    (written_kept c.push_facts.new.facts.items c.deref_mut.result.now c.leave_out.new.facts c.push_facts.new.facts.len c.deref_mut.ensures.value c.push_facts.new.facts.ok.0 c.in_ok-leave_out.ensures.kept)))
    (there_after _ c.part_facts.new.facts.items c.push_facts.new.facts.items _ _ _ _ (c.len.result - c.arity.result) c.len-part.result c.start_at-start.result c.in_ok-found.ensures.same c.in_ok-push_facts.ensures part_is
    c.truncate.ensures.items c.in_ok-push.ensures.items c.requires.there)

pub returns-clause-completes : goal.returns-clause-completes
returns-clause-completes c = λ total heads after goals span total_is whole are.
    let old = c.args.known.now in
    let root = c.args.root.now in
    let modes = modes_of c.args.predicates.now in
    let kept = c.len.result - c.arity.result in
    let start = c.start_at-start.result in
    let long : c.len.result ≡ length old.complete.items = cc (old.complete.ok.0, c.len.ensures) in
    let part_is : c.len-part.result ≡ length c.part_facts.new.facts.items = cc (c.part_facts.new.facts.ok.0, c.len-part.ensures) in
    let many : arity_of root ≤ length goals = subst (λ n. arity_of root ≤ n) (counted total modes old.facts.items old.complete.items goals are.complete_are) c.requires.many in
    let pushed : Known = record { facts = c.push_facts.new.facts; complete = c.push.new.self; end = c.place_behind-known.result } in
    complete_kept total modes heads (joined root span goals) pushed _
    (completed_by total modes c.args.all.now heads after root span goals old pushed kept start c.in_ok-found.found _ (record { total_is = total_is; whole = whole; many = many })
    (record {
      kept_is = ap (λ n. n - c.arity.result) long ∙ ap (λ n. length old.complete.items - n) c.arity.ensures;
      start_is = c.start_at-start.ensures ∙ ap (λ l. slice_index_or (map (λ goal. goal.start) l) kept old.end) c.deref.ensures.value;
      end_is = c.place_behind-known.ensures;
      facts_are = c.in_ok-push_facts.ensures ∙ ap (λ l. l ++ c.in_ok-found.found ∷ []) c.in_ok-found.ensures.same;
      complete_are = c.in_ok-push.ensures.items ∙ ap (λ l. l ++ record { part = c.len-part.result; start = start } ∷ []) c.truncate.ensures.items
          ∙ ap (λ n. take kept old.complete.items ++ record { part = n; start = start } ∷ []) (part_is ∙ ap (λ l. length l) c.in_ok-found.ensures.same);
    })
    (take_rest c.deref-2.result.now kept ∙ ap (drop kept) c.deref-2.ensures.value)
    (λ joined known stretch. c.in_ok-found.ensures.facts total joined span known stretch) are)
    (written_kept c.push_facts.new.facts.items c.deref_mut.result.now c.leave_out.new.facts c.push_facts.new.facts.len c.deref_mut.ensures.value c.push_facts.new.facts.ok.0 c.in_ok-leave_out.ensures.kept) refl refl

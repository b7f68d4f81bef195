use Rattle.std.proofs.Common.{◌≡◌, ◌<◌, List, ◌∷◌, ◌++◌, [], length, refl, ap, sym, subst, ◌∙◌}
use Rattle.std.proofs.lemmas.List.{append-nil}
use Rattle.merc_tree.specs.Term.{Term}
use Rattle.merc_operands.specs.Members.{chain, stacked}
use Rattle.merc_operands.proofs.Chains.{stack_size, link_step, link_size, member_step, member_size, none_left}
use Rattle.merc_operands.proofs.listing.members.Goals as goal

pub loop-first-init : goal.loop-first-init
loop-first-init c =
    ap (λ (l : List Term). l ++ stacked c.args.operator (c.new-stack.result.items ++ c.copy-term.result ∷ [])) c.new-members.ensures.items
    ∙ ap (λ (l : List Term). stacked c.args.operator (l ++ c.copy-term.result ∷ [])) c.new-stack.ensures.items
    ∙ ap (chain c.args.operator) c.copy-term.ensures

pub loop-first-smaller-in-Some : goal.loop-first-smaller-in-Some
loop-first-smaller-in-Some c =
    link_size c.args.operator c.loop-first.members.items (c.loop-first.stack.items ++ c.loop-first.term ∷ []) c.loop-first.stack.items c.loop-first.term refl _ _
    c.in-Some.first c.in-Some.second c.in_ok-push-in-Some.ensures.items refl c.in-Some.ensures

pub loop-first-preserved-in-Some : goal.loop-first-preserved-in-Some
loop-first-preserved-in-Some c =
    link_step c.args.operator c.loop-first.members.items (c.loop-first.stack.items ++ c.loop-first.term ∷ []) c.loop-first.stack.items c.loop-first.term refl _ _
    c.in-Some.first c.in-Some.second c.in_ok-push-in-Some.ensures.items refl c.in-Some.ensures _ c.loop-first.invariant

pub loop-first-smaller : goal.loop-first-smaller
loop-first-smaller c =
    subst (λ (l : List Term). stack_size l < stack_size (c.loop-first.stack.items ++ c.loop-first.term ∷ [])) c.in-Some-pop.ensures.items
    (member_size (c.loop-first.stack.items ++ c.loop-first.term ∷ []) c.loop-first.stack.items c.loop-first.term refl)

pub loop-first-preserved : goal.loop-first-preserved
loop-first-preserved c =
    ap (λ (l : List Term). c.push-in-None.new.self.items ++ stacked c.args.operator l) (sym c.in-Some-pop.ensures.items)
    ∙ member_step c.args.operator c.loop-first.members.items (c.loop-first.stack.items ++ c.loop-first.term ∷ []) c.loop-first.stack.items c.loop-first.term refl _
    c.in_ok-push-in-None.ensures.items c.in-None.ensures _ c.loop-first.invariant

pub returns-in-None-pop : goal.returns-in-None-pop
returns-in-None-pop c =
    let empty : length c.loop-first.stack.items ≡ 0 = cc (c.loop-first.stack.ok.0, c.in-None-pop.ensures.cases.0) in
    sym (append-nil c.push-in-None.new.self.items)
    ∙ ap (λ (l : List Term). c.push-in-None.new.self.items ++ stacked c.args.operator l) (sym (none_left c.loop-first.stack.items empty))
    ∙ member_step c.args.operator c.loop-first.members.items (c.loop-first.stack.items ++ c.loop-first.term ∷ []) c.loop-first.stack.items c.loop-first.term refl _
    c.in_ok-push-in-None.ensures.items c.in-None.ensures _ c.loop-first.invariant

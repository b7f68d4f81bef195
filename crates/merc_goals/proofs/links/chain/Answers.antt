use Rattle.std.proofs.Common.{◌≡◌, ◌<◌, List, ◌∷◌, ◌++◌, [], length, Some, None, refl, ap, sym, subst, ◌∙◌}
use Rattle.std.proofs.lemmas.List.{append-nil}
use Rattle.merc_goals.specs.Numbers.{NumberedTerm}
use Rattle.merc_goals.specs.Links.{chain, link_of}
use Rattle.merc_goals.proofs.ChainLaws.{stacked, parts_all, link_step, link_size, member_step, member_size, none_left}
use Rattle.merc_goals.proofs.links.chain.Goals as goal

pub loop-link-init : goal.loop-link-init
loop-link-init c =
    ap (λ (l : List NumberedTerm). l ++ stacked c.args.kind (c.new-stack.result.items ++ c.copy-numbered.result ∷ [])) c.new-members.ensures.items
    ∙ ap (λ (l : List NumberedTerm). stacked c.args.kind (l ++ c.copy-numbered.result ∷ [])) c.new-stack.ensures.items
    ∙ ap (λ (n : NumberedTerm). chain c.args.kind n.at n.term) c.copy-numbered.ensures

pub loop-link-smaller-in-Some : goal.loop-link-smaller-in-Some
loop-link-smaller-in-Some c =
    let is : Some c.in-Some.link ≡ link_of c.args.kind c.loop-link.numbered = c.in-Some.ensures in
    link_size c.args.kind c.loop-link.members.items (c.loop-link.stack.items ++ c.loop-link.numbered ∷ []) c.loop-link.stack.items c.loop-link.numbered refl _ _
    c.in-Some.link c.in_ok-push-in-Some.ensures.items refl is

pub loop-link-preserved-in-Some : goal.loop-link-preserved-in-Some
loop-link-preserved-in-Some c =
    let is : Some c.in-Some.link ≡ link_of c.args.kind c.loop-link.numbered = c.in-Some.ensures in
    link_step c.args.kind c.loop-link.members.items (c.loop-link.stack.items ++ c.loop-link.numbered ∷ []) c.loop-link.stack.items c.loop-link.numbered refl _ _
    c.in-Some.link c.in_ok-push-in-Some.ensures.items refl is _ c.loop-link.invariant

pub loop-link-smaller : goal.loop-link-smaller
loop-link-smaller c =
    subst (λ (l : List NumberedTerm). parts_all l < parts_all (c.loop-link.stack.items ++ c.loop-link.numbered ∷ [])) c.in-Some-pop.ensures.items
    (member_size (c.loop-link.stack.items ++ c.loop-link.numbered ∷ []) c.loop-link.stack.items c.loop-link.numbered refl)

pub loop-link-preserved : goal.loop-link-preserved
loop-link-preserved c =
    let is : None ≡ link_of c.args.kind c.loop-link.numbered = c.in-None.ensures in
    ap (λ (l : List NumberedTerm). c.push-in-None.new.self.items ++ stacked c.args.kind l) (sym c.in-Some-pop.ensures.items)
    ∙ member_step c.args.kind c.loop-link.members.items (c.loop-link.stack.items ++ c.loop-link.numbered ∷ []) c.loop-link.stack.items c.loop-link.numbered refl _
    c.in_ok-push-in-None.ensures.items is _ c.loop-link.invariant

pub returns-in-None-pop : goal.returns-in-None-pop
returns-in-None-pop c =
    let is : None ≡ link_of c.args.kind c.loop-link.numbered = c.in-None.ensures in
    let empty : length c.loop-link.stack.items ≡ 0 = cc (c.loop-link.stack.ok.0, c.in-None-pop.ensures.cases.0) in
    sym (append-nil c.push-in-None.new.self.items)
    ∙ ap (λ (l : List NumberedTerm). c.push-in-None.new.self.items ++ stacked c.args.kind l) (sym (none_left c.loop-link.stack.items empty))
    ∙ member_step c.args.kind c.loop-link.members.items (c.loop-link.stack.items ++ c.loop-link.numbered ∷ []) c.loop-link.stack.items c.loop-link.numbered refl _
    c.in_ok-push-in-None.ensures.items is _ c.loop-link.invariant

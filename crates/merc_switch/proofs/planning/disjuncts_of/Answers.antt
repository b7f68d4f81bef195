use Rattle.std.proofs.Common.{◌≡◌, ◌∙◌, List, [], ◌∷◌, ◌++◌, ap, reverse, sym}
use Rattle.std.proofs.lemmas.List.{append_assoc, reverse-append}
use Rattle.merc_graded_tree.specs.Nodes.{Node}
use Rattle.merc_switch.proofs.planning.disjuncts_of.Goals as goal

reversed_step : (old new goals left : List Node) (last put : Node) (whole : List Node) → goals ≡ left ++ last ∷ [] → new ≡ old ++ put ∷ [] → put ≡ last
    → old ++ reverse goals ≡ whole → new ++ reverse left ≡ whole
reversed_step old new goals left last put whole taken more is same =
    ap (λ l. l ++ reverse left) (more ∙ ap (λ one. old ++ one ∷ []) is) ∙ append_assoc old (last ∷ []) (reverse left)
    ∙ ap (λ l. old ++ l) (sym (ap reverse taken ∙ reverse-append left (last ∷ []))) ∙ same

pub loop-last-preserved : goal.loop-last-preserved
loop-last-preserved c =
    reversed_step c.loop-last.disjuncts.items c.push.new.self.items c.loop-last.goals c.take_last.new.self c.in-Some.last _ _
    c.in-Some.ensures c.in_ok-push.ensures.items c.in_ok-of.ensures c.loop-last.invariant

use Rattle.std.proofs.Common.{ℕ, ◌+◌, ◌∷◌, [], ◌++◌, map, drop, ap, sym, ◌∙◌}
use Rattle.std.proofs.lemmas.List.{append_assoc}
use Rattle.merc_scopes.specs.declared.occurrence.Occurrence.{Occurrence}
use Rattle.merc_bodies.proofs.Parts.{item_left}
use Rattle.merc_check.proofs.checking.numbers_of.Goals as goal

pub loop-variable-preserved : goal.loop-variable-preserved
loop-variable-preserved c =
    let before = c.loop-variable.numbers.items in
    let at = λ (variable : Occurrence). variable.at in
    let later = map at (drop (c.loop-variable.variable-index + 1) c.args.variables.now) in
    ap (λ l. l ++ later) (c.in_ok-push.ensures.items ∙ ap (λ (n : ℕ). before ++ n ∷ []) c.new.ensures)
    ∙ append_assoc before (c.variable-item.result.at ∷ []) later
    ∙ ap (λ l. before ++ map at l) (sym (item_left c.args.variables.now c.loop-variable.variable-index c.variable-item.result c.loop-variable-test.true c.variable-item.is))
    ∙ c.loop-variable.invariant

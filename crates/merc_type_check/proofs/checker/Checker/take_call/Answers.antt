use Rattle.std.proofs.Common.{◌≡◌, ℕ, List, Some, ap, sym, subst, ◌∙◌}
use Rattle.std.specs.Prelude.{slice_get}
use Rattle.std.proofs.lemmas.Result.{IfOk-weaker}
use Rattle.merc_tree.specs.Types.{TypeExpr}
use Rattle.merc_tree.specs.declared.declarations.PredDecl.{PredDecl}
use Rattle.merc_type_check.specs.TypeNumbers.{AreNumbers, numbers_found}
use Rattle.merc_type_check.proofs.Numbers.{numbers_are, numbers_within}
use Rattle.merc_type_check.proofs.Serving.{called_so}
use Rattle.merc_type_check.proofs.checker.Checker.take_call.Goals as goal

pub serving_part-user-requires-clause-within : goal.serving_part-user-requires-clause-within
serving_part-user-requires-clause-within c =
    numbers_within c.args.self.now.graph.table c.of_predicate-numbers.result.now c.in-Some.pred.now.args
    (subst (λ (t : List TypeExpr). AreNumbers t c.of_predicate-numbers.result.now c.in-Some.pred.now.args) c.requires.table
    (subst (λ (l : List ℕ). AreNumbers c.args.declared.now.table l c.in-Some.pred.now.args)
    (sym (c.of_predicate-numbers.ensures ∙ ap (λ (n : ℕ). numbers_found (slice_get c.args.declared.now.predicates.items n)) c.number-in-Some.ensures))
    (numbers_are (λ (one : PredDecl). one.args) c.args.declared.now.table (slice_get c.args.declared.now.predicates.items c.args.predicate)
    (slice_get c.args.known.now.preds c.args.predicate) c.in-Some.pred.now (c.in-Some.ensures ∙ ap (slice_get c.args.known.now.preds) c.number.ensures)
    (c.requires.declared.predicates c.args.predicate))))

pub have_types-requires-clause-begun : goal.have_types-requires-clause-begun
have_types-requires-clause-begun c =
    (c.serving_part-user.ensures c.in-Some.pred.now.args
    (subst (λ (t : List TypeExpr). AreNumbers t c.of_predicate-numbers.result.now c.in-Some.pred.now.args) c.requires.table
    (subst (λ (l : List ℕ). AreNumbers c.args.declared.now.table l c.in-Some.pred.now.args)
    (sym (c.of_predicate-numbers.ensures ∙ ap (λ (n : ℕ). numbers_found (slice_get c.args.declared.now.predicates.items n)) c.number-in-Some.ensures))
    (numbers_are (λ (one : PredDecl). one.args) c.args.declared.now.table (slice_get c.args.declared.now.predicates.items c.args.predicate)
    (slice_get c.args.known.now.preds c.args.predicate) c.in-Some.pred.now (c.in-Some.ensures ∙ ap (slice_get c.args.known.now.preds) c.number.ensures)
    (c.requires.declared.predicates c.args.predicate))))).of_part

pub have_types-requires-clause-numbers : goal.have_types-requires-clause-numbers
have_types-requires-clause-numbers c =
    (subst (λ (t : List TypeExpr). AreNumbers t c.of_predicate-numbers.result.now c.in-Some.pred.now.args) c.requires.table
    (subst (λ (l : List ℕ). AreNumbers c.args.declared.now.table l c.in-Some.pred.now.args)
    (sym (c.of_predicate-numbers.ensures ∙ ap (λ (n : ℕ). numbers_found (slice_get c.args.declared.now.predicates.items n)) c.number-in-Some.ensures))
    (numbers_are (λ (one : PredDecl). one.args) c.args.declared.now.table (slice_get c.args.declared.now.predicates.items c.args.predicate)
    (slice_get c.args.known.now.preds c.args.predicate) c.in-Some.pred.now (c.in-Some.ensures ∙ ap (slice_get c.args.known.now.preds) c.number.ensures)
    (c.requires.declared.predicates c.args.predicate))))

pub returns-in-Some : goal.returns-in-Some
returns-in-Some c =
    let found : Some c.in-Some.pred.now ≡ slice_get c.args.known.now.preds c.args.predicate =
    c.in-Some.ensures ∙ ap (slice_get c.args.known.now.preds) c.number.ensures in
    IfOk-weaker c.have_types.result _ _
    (λ done takes. called_so done c.args.self.now c.have_types.new.self c.args.known.now c.args.predicate c.args.arguments.now c.in-Some.pred.now c.serving_part-user.result
    found c.requires.fresh
    (c.serving_part-user.ensures c.in-Some.pred.now.args
    (subst (λ (t : List TypeExpr). AreNumbers t c.of_predicate-numbers.result.now c.in-Some.pred.now.args) c.requires.table
    (subst (λ (l : List ℕ). AreNumbers c.args.declared.now.table l c.in-Some.pred.now.args)
    (sym (c.of_predicate-numbers.ensures ∙ ap (λ (n : ℕ). numbers_found (slice_get c.args.declared.now.predicates.items n)) c.number-in-Some.ensures))
    (numbers_are (λ (one : PredDecl). one.args) c.args.declared.now.table (slice_get c.args.declared.now.predicates.items c.args.predicate)
    (slice_get c.args.known.now.preds c.args.predicate) c.in-Some.pred.now (c.in-Some.ensures ∙ ap (slice_get c.args.known.now.preds) c.number.ensures)
    (c.requires.declared.predicates c.args.predicate)))))
    (takes c.args.known.now))
    c.have_types.ensures

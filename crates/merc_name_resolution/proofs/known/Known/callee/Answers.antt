use Rattle.std.proofs.Common.{ℕ, List, length, map, Bor, ap, sym, ◌∙◌}
use Rattle.merc_tree.specs.declared.declarations.PredDecl.{PredDecl}
use Rattle.merc_tree.specs.declared.declarations.Module.{Module}
use Rattle.merc_name_resolution.specs.Known.{callee_in, is_error}
use Rattle.merc_name_resolution.specs.Indexing.{first_allowed, predicate_seen}
use Rattle.merc_name_resolution.proofs.Looking.{callee_at}
use Rattle.merc_name_resolution.proofs.known.Known.callee.Goals as goal

pub returns : goal.returns
returns c =
    let source = c.self.inside.source.now in
    let no_error = ap (λ (found : Module). is_error found c.args.name c.args.qualifier c.args.arity) c.self.view_is ∙ sym c.is_error.ensures ∙ c.if-is_error.false in
    let place_is =
    c.new.ensures
    ∙ c.first_allowed.ensures
    ∙ ap (λ (preds : List PredDecl). first_allowed source.name c.args.qualifier (map predicate_seen c.at-found.result.now) (length preds)) c.as_slice-count.ensures
    ∙ ap (λ (found : List (ℕ × Bor PredDecl)). first_allowed source.name c.args.qualifier (map predicate_seen found) (length source.preds)) c.at-found.ensures
    ∙ ap (λ (found : List (ℕ × PredDecl)). first_allowed source.name c.args.qualifier found (length source.preds)) (c.self.invariant.predicates_are c.args.name c.args.arity) in
    callee_at source c.args.name c.args.qualifier c.args.arity c.new.result no_error place_is
    ∙ ap (λ (found : Module). callee_in found c.args.name c.args.qualifier c.args.arity) c.self.view_is

use Rattle.std.proofs.Common.{Bool, ap, ◌∙◌, [], ◌∷◌}
use Rattle.merc_graded_tree.specs.declared.basic.Procedure.{Procedure}
use Rattle.merc_code.specs.declared.instruction.Instruction.TheVariants.{Answer}
use Rattle.merc_gen.specs.Generated.{node_code}
use Rattle.merc_gen.specs.Sites.{conjuncts_at, forked_with}
use Rattle.merc_gen.proofs.Procedures.{procedures_generated, conjuncts_generated, singles_same}
use Rattle.merc_gen.proofs.program.generate.Goals as goal

pub returns-clause-procedures : goal.returns-clause-procedures
returns-clause-procedures c =
    procedures_generated c.args.predicates.now c.args.trees.now c.in_ok-singles.singles c.new.result c.in_ok-singles.ensures
    (c.new.ensures.procedures ∙ c.in_ok-procedures.ensures) (conjuncts_at (forked_with c.args.trees.now c.args.goal.now))

pub returns-clause-conjuncts : goal.returns-clause-conjuncts
returns-clause-conjuncts c =
    conjuncts_generated c.args.predicates.now c.args.trees.now c.in_ok-singles.singles c.new.result (forked_with c.args.trees.now c.args.goal.now) c.in_ok-singles.ensures
    (c.new.ensures.conjuncts ∙ c.in_ok-conjuncts.ensures)

pub returns-clause-query : goal.returns-clause-query
returns-clause-query c =
    c.new.ensures.query ∙ c.from_vec.ensures ∙ c.in_ok-query.ensures
    ∙ ap (λ (single : Procedure → Bool). node_code single c.args.goal.now 0 (Answer c.args.answers ∷ []))
    (singles_same c.args.predicates.now c.args.trees.now c.in_ok-singles.singles c.in_ok-singles.ensures)

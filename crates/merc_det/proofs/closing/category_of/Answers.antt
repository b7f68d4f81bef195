use Rattle.merc_order.specs.Procedures.{modes_of}
use Rattle.merc_det.proofs.RootCategories.{conjunction_gives, disjunction_gives, switch_gives, conditional_gives, negation_gives, quantified_gives}
use Rattle.merc_det.proofs.closing.category_of.Goals as goal

pub returns-in-Conjunction : goal.returns-in-Conjunction
returns-in-Conjunction c = λ types fits.
    conjunction_gives c.args.known.now.types (modes_of c.args.known.now.preds) types c.args.seen.now c.args.graded.now c.args.root.now c.in-Conjunction.field-0 c.in-Conjunction.joined
    c.len-count.result c.joined_category.result c.in-Conjunction.is c.len-count.ensures c.joined_category.ensures

pub returns-in-Disjunction : goal.returns-in-Disjunction
returns-in-Disjunction c = λ types fits.
    disjunction_gives c.args.known.now.types (modes_of c.args.known.now.preds) types c.args.seen.now c.args.graded.now c.args.root.now c.in-Disjunction.joined
    c.len-count.result c.joined_category-in-Disjunction.result c.in-Disjunction.is c.len-count.ensures c.joined_category-in-Disjunction.ensures

pub returns-in_ok-is_complete-in-Switch : goal.returns-in_ok-is_complete-in-Switch
returns-in_ok-is_complete-in-Switch c = λ types fits.
    switch_gives c.args.known.now.types (modes_of c.args.known.now.preds) types c.args.seen.now c.args.graded.now c.args.root.now c.in-Switch.field-0 c.in-Switch.symbols
    c.as_slice-symbols.result.now c.len-count.result c.in_ok-is_complete-in-Switch.is_complete c.joined_category-arms.result c.switch_category.result
    c.in-Switch.is c.as_slice-symbols.ensures c.len-count.ensures fits c.requires c.in_ok-is_complete-in-Switch.ensures c.joined_category-arms.ensures c.switch_category.ensures

pub returns-in-Conditional : goal.returns-in-Conditional
returns-in-Conditional c = λ types fits.
    conditional_gives c.args.known.now.types (modes_of c.args.known.now.preds) types c.args.seen.now c.args.graded.now c.args.root.now c.len-count.result
    c.category_at-condition.result c.category_at-then_part.result c.category_at-else_part.result c.conditional_category.result
    c.in-Conditional.is c.len-count.ensures c.requires c.category_at-condition.ensures c.category_at-then_part.ensures c.category_at-else_part.ensures c.conditional_category.ensures

pub returns-in-Negation : goal.returns-in-Negation
returns-in-Negation c = λ types fits.
    negation_gives c.args.known.now.types (modes_of c.args.known.now.preds) types c.args.seen.now c.args.graded.now c.args.root.now c.len-count.result
    c.category_at.result c.negation_category.result c.in-Negation.is c.len-count.ensures c.requires c.category_at.ensures c.negation_category.ensures

pub returns-in-Quantified : goal.returns-in-Quantified
returns-in-Quantified c = λ types fits.
    quantified_gives c.args.known.now.types (modes_of c.args.known.now.preds) types c.args.seen.now c.args.graded.now c.args.root.now c.in-Quantified.field-0 c.len-count.result
    c.category_at-in-Quantified.result c.in-Quantified.is c.len-count.ensures c.requires c.category_at-in-Quantified.ensures

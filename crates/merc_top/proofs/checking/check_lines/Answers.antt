use Rattle.std.proofs.Common.{◌≡◌, ◌∙◌, ◌<◌, ◌≤◌, ap, subst, take, length, get_or, List, arith, codes, ◌++◌}
use Rattle.std.specs.Fmt.{decimal}
use Rattle.merc_tree.specs.declared.declarations.PredDecl.{PredDecl}
use Rattle.merc_solving.specs.Lines.{line}
use Rattle.merc_top.proofs.CheckingLemmas.{own-fit, pred_lines-fit, pred_lines-step, check_lines-whole}
use Rattle.merc_top.proofs.checking.check_lines.Goals as goal

pub loop-declared-preserved : goal.loop-declared-preserved
loop-declared-preserved c = λ enough.
    let own = take c.args.module.now.own c.args.module.now.preds in
    let count = c.loop-declared.declared-index in
    let lines = c.loop-declared.lines in
    let declared = c.declared-item.result in
    let below : count < length own = subst (λ (some : List PredDecl). count < length some) c.own_predicates-declared-items.ensures c.loop-declared-test.true in
    let item : declared ≡ get_or own count declared = c.declared-item.is ∙ ap (λ (some : List PredDecl). get_or some count declared) c.own_predicates-declared-items.ensures in
    let so_far = c.loop-declared.invariant enough in
    let all = own-fit c.args.module.now c.args.trees.now enough in
    c.in_ok-push_modes.ensures (pred_lines-fit c.args.names.now own c.args.trees.now all lines count declared below item so_far)
    ∙ pred_lines-step c.args.names.now own c.args.trees.now all lines count declared below item so_far

pub returns : goal.returns
returns c = λ enough.
    let own = take c.args.module.now.own c.args.module.now.preds in
    let count = c.loop-declared.declared-index in
    let past : length own ≤ count = subst (λ (some : List PredDecl). length some ≤ count) c.own_predicates-declared-items.ensures (omega (arith, c.loop-declared-test.false)) in
    c.in_ok-push.ensures.ok
    ∙ check_lines-whole c.args.names.now c.args.module.now c.args.trees.now c.loop-declared.lines count c.in_ok-procedures_line.field-0 enough past
    (c.loop-declared.invariant enough)
    (c.in_ok-procedures_line.ensures ∙ ap (λ some. line (codes "procedures " ++ decimal (length some))) c.as_slice-count.ensures)

-- A mode's tree is the next one.
use Rattle.std.proofs.Common.{◌≡◌, ◌∙◌, ◌<◌, ap, sym, subst, length, get_or, List}
use Rattle.std.specs.Prelude.{slice_get}
use Rattle.merc_tree.specs.declared.declarations.ModeDecl.{ModeDecl}
use Rattle.merc_top.proofs.CheckingLemmas.{mode_lines-step, mode_lines-tree}
use Rattle.merc_top.proofs.checking.push_modes.Goals as goal
use Rattle.merc_top.proofs.checking.push_modes.Goals.{in-Some+in_ok-procedure_line+in_ok-push, in_default}

pub loop-mode-preserved : goal.loop-mode-preserved
loop-mode-preserved c = λ enough.
    let modes = c.args.declared.now.modes in
    let count = c.loop-mode.mode-index in
    let lines = c.loop-mode.lines in
    let below : count < length modes = subst (λ (some : List ModeDecl). count < length some) c.as_slice-mode-items.ensures c.loop-mode-test.true in
    let item : c.mode-item.result ≡ get_or modes count c.mode-item.result = c.mode-item.is ∙ ap (λ (some : List ModeDecl). get_or some count c.mode-item.result) c.as_slice-mode-items.ensures in
    let at : c.get.result ≡ slice_get c.args.trees.now (length lines) = c.get.ensures ∙ ap (λ some. slice_get c.args.trees.now (length some)) c.as_slice.ensures in
    let so_far = c.loop-mode.invariant enough in
    elim c.match-get.branch [
      | in-Some+in_ok-procedure_line+in_ok-push w ↦
          w.lines-is ∙ w.in_ok-push.ensures.ok
          ∙ mode_lines-step c.args.names.now c.args.declared.now modes c.args.trees.now c.args.lines.now enough lines count below so_far
          c.mode-item.result w.in-Some.tree w.in_ok-procedure_line.field-0 item (sym at ∙ w.in-Some.is) w.in_ok-procedure_line.ensures
      | in_default w ↦
          absurd (mode_lines-tree c.args.names.now c.args.declared.now modes c.args.trees.now c.args.lines.now enough lines count below so_far (sym at ∙ w.in_default.is))
    ]

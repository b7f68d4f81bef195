use Rattle.std.proofs.Common.{◌≡◌, ◌∙◌, ◌++◌, ap, sym, subst, length}
use Rattle.std.specs.Prelude.{◌==◌, true, false, ℕ, List}
use Rattle.merc_value.specs.Block.{root_values}
use Rattle.merc_solving.specs.Lines.{line_end, comma_list, joined}
use Rattle.merc_solving.specs.RunLines.{bindings}
use Rattle.merc_solving.proofs.LineLemmas.{empty_text, line-of_none, line-of_some, some_text}
use Rattle.merc_solving.proofs.lines.solution_line.Goals as goal
use Rattle.merc_solving.proofs.lines.solution_line.Goals.{then-is_empty+in_ok-push, else-is_empty}

pub returns : goal.returns
returns c =
    let names = c.args.names.now in
    let variables = c.args.variables.now in
    let values = root_values c.args.values.now in
    let text = c.push_bindings.new.line in
    let whole : c.if-is_empty.line ≡ comma_list (bindings names variables values) =
    elim c.if-is_empty.branch [
      | then-is_empty+in_ok-push w ↦
          w.line-is ∙ w.in_ok-push.ensures.ok
          ∙ line-of_none names variables values text (c.in_ok-push_bindings.ensures ∙ ap (λ (before : List ℕ). before ++ joined (bindings names variables values)) c.new-line.ensures)
          (empty_text text (subst (λ (l : List ℕ). (length l == 0) ≡ true) c.bytes.ensures (sym w.if-is_empty.ensures)))
      | else-is_empty w ↦
          w.line-is
          ∙ line-of_some names variables values text (c.in_ok-push_bindings.ensures ∙ ap (λ (before : List ℕ). before ++ joined (bindings names variables values)) c.new-line.ensures)
          (some_text text (subst (λ (l : List ℕ). (length l == 0) ≡ false) c.bytes.ensures (sym w.if-is_empty.ensures)))
    ] in
    c.in_ok-push-2.ensures.ok ∙ ap (λ (front : List ℕ). front ++ line_end) whole

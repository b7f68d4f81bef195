use Rattle.std.proofs.Common.{◌∙◌, subst, refl}
use Rattle.merc_rights.specs.Groups.{by_variable, held_variables, AreHeld}
use Rattle.merc_rights.proofs.JoinLaws.{are_held}
use Rattle.merc_rights.proofs.conjuncts.found_at.Goals as goal

pub returns : goal.returns
returns c =
    let groups = c.groups.result.now in
    let moved = by_variable c.args.signals in
    let held : AreHeld (held_variables groups) moved = subst (λ l. AreHeld (held_variables groups) (by_variable l)) c.groups.ensures (are_held groups) in
    let finds = c.in_ok-found.ensures (held_variables groups) c.in_ok-held.ensures moved held in
    record {
      moved = moved;
      by_variable = λ variable. refl;
      are_cells = finds.are_cells;
      are_moves = finds.are_moves;
      are_waits = finds.are_waits;
      are_signals = c.in_ok-with_moved.ensures ∙ finds.are_signals;
    }

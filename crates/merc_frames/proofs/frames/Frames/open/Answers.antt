use Rattle.std.proofs.Common.{ap, ◌∙◌}
use Rattle.merc_frames.specs.Held.{Passes}
use Rattle.merc_frames.specs.View.{data_of}
use Rattle.merc_frames.proofs.Moving.{on_err}
use Rattle.merc_frames.proofs.Opening.{opened_fine, opened_held, opened_needs, opened}
use Rattle.merc_frames.proofs.frames.Frames.open.Goals as goal

abbrev pub returns-in_err-make_empty-clause-err : goal.returns-in_err-make_empty-clause-err
returns-in_err-make_empty-clause-err c = on_err c.from_residual.result _
    (ap (λ x. data_of x c.self.inside.saved.items c.self.inside.choices.items c.self.inside.base c.self.inside.size c.self.inside.height) c.in_err-make_empty.ensures.err ∙ c.self.view_is)

abbrev pub invariant_of-self-2 : goal.invariant_of-self-2
invariant_of-self-2 c = (
  opened_fine _ _ _ c.args.size c.in_ok-make_empty.ensures.ok c.clear.ensures.items c.clear-2.ensures.items,
  opened_needs _ _ _ c.args.size c.in_ok-make_empty.ensures.ok c.clear.ensures.items c.clear-2.ensures.items,
)

abbrev pub returns-clause-ok : goal.returns-clause-ok
returns-clause-ok c = opened _ _ _ c.args.size c.in_ok-make_empty.ensures.ok c.clear.ensures.items c.clear-2.ensures.items

abbrev pub returns-clause-held : goal.returns-clause-held
returns-clause-held c = λ may_hold cells none. opened_held _ _ _ c.args.size c.in_ok-make_empty.ensures.ok c.clear.ensures.items c.clear-2.ensures.items (Passes may_hold) cells none

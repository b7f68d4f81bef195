use Rattle.std.proofs.Common.{List, ap, sym, ◌∙◌}
use Rattle.std.proofs.lemmas.Result.{IfOk-weaker}
use Rattle.merc_tree.specs.declared.declarations.ModeDecl.{ModeDecl}
use Rattle.merc_items.specs.DeclaredModes.{kept_modes, listed}
use Rattle.merc_entries.proofs.KeyLaws.{lookup-same, lookup-nothing}
use Rattle.merc_items.proofs.declared_modes.ModeTable.modes.Goals as goal

pub returns-in-None : goal.returns-in-None
returns-in-None c =
    c.new.ensures ∙ sym (ap listed (lookup-nothing c.args.self.now.by_key.entries)) ∙ ap (kept_modes c.args.self.now) c.in-None.ensures

pub returns-in-Some-get : goal.returns-in-Some-get
returns-in-Some-get c =
    IfOk-weaker c.copy_modes.result _ _
    (λ (modes : List ModeDecl) h.
    h ∙ ap listed c.in-Some-get.ensures.value ∙ ap listed (lookup-same c.in-Some.key c.args.self.now.by_key.entries) ∙ ap (kept_modes c.args.self.now) c.in-Some.ensures)
    c.copy_modes.ensures

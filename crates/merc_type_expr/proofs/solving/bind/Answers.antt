use Rattle.std.proofs.Common.{◌≡◌, ◌++◌, ◌∷◌, [], ap, sym, subst, ◌∙◌}
use Rattle.std.proofs.lemmas.List.{append_assoc}
use Rattle.merc_type_expr.specs.Unifier.{IsMostGeneral}
use Rattle.merc_type_expr.proofs.General.{inside_differs, outside_binds}
use Rattle.merc_type_expr.proofs.solving.bind.Goals as goal

pub returns-then-branch : goal.returns-then-branch
returns-then-branch c =
    inside_differs (c.args.under.now ++ c.args.found.now.items) c.args.name c.args.to c.requires.subst c.requires.root (sym c.if-is_variable.ensures)
    (λ values most. c.in_ok-occurs.ensures values (subst (λ l. IsMostGeneral values (c.args.under.now ++ l)) (sym c.deref.ensures.value) most) ∙ c.if-branch.true)

pub returns : goal.returns
returns c =
    let grown : c.args.under.now ++ c.push.new.self.items ≡ (c.args.under.now ++ c.args.found.now.items) ++ (c.args.name, c.args.to) ∷ [] =
    ap (λ l. c.args.under.now ++ l) c.in_ok-push.ensures.items ∙ sym (append_assoc c.args.under.now c.args.found.now.items ((c.args.name, c.args.to) ∷ [])) in
    outside_binds (c.args.under.now ++ c.args.found.now.items) (c.args.under.now ++ c.push.new.self.items) c.args.name c.args.to
    c.requires.subst c.requires.free c.requires.root (sym c.if-is_variable.ensures)
    (λ values most. c.in_ok-occurs.ensures values (subst (λ l. IsMostGeneral values (c.args.under.now ++ l)) (sym c.deref.ensures.value) most) ∙ c.if-branch.false)
    grown

use Rattle.std.proofs.Common.{◌≤◌, length, map, Result, Ok, Err, arith, ap, sym, subst, ◌∙◌}
use Rattle.std.proofs.lemmas.List.{length-map}
use Rattle.std.proofs.lemmas.Result.{on_ok_weaker}
use Rattle.std.specs.Result.{OnOk, OnErr}
use Rattle.merc_tree.specs.TypeShape.{types_applied}
use Rattle.merc_tree.specs.TypeTerms.{type_of, KeepTypes}
use Rattle.merc_tree.proofs.TypeLaws.{kept_applied, applied_kept}
use Rattle.merc_tree.proofs.types.TypeExprs.apply.Goals as goal

pub apply-requires : goal.apply-requires
apply-requires c = omega (arith, c.requires, ap length c.self.view_is, length-map c.self.inside.terms type_of)

pub returns-clause-ok : goal.returns-clause-ok
returns-clause-ok c =
    let enough : c.args.arity ≤ length c.self.inside.terms = omega (arith, c.requires, ap length c.self.view_is, length-map c.self.inside.terms type_of) in
    on_ok_weaker c.apply.result
    (λ same. ap (map type_of) same
    ∙ kept_applied c.args.name c.args.arity c.self.inside.terms enough (record { int = sym c.if-is_alone.ensures; text = sym c.if-is_alone-2.ensures })
    ∙ ap (types_applied c.args.name c.args.arity) c.self.view_is)
    c.apply.ensures.ok

either : {T E P Q R : Type 0} (r : Result T E) → OnOk r P → OnErr r Q → (P → R) → (Q → R) → R
either (Ok x) ok err f g = f ok
either (Err e) ok err f g = g err

pub invariant_of-self : goal.invariant_of-self
invariant_of-self c =
    either c.apply.result c.apply.ensures.ok c.apply.ensures.err
    (λ same. subst KeepTypes (sym same) (applied_kept c.args.name c.args.arity c.self.inside.terms c.self.invariant))
    (λ same. subst KeepTypes (sym same) c.self.invariant)

use Rattle.std.proofs.Common.{◌≡◌, List, ℕ, map, take, subst, ◌∙◌}
use Rattle.std.proofs.lemmas.List.{take_all}
use Rattle.std.proofs.lemmas.Result.{IfOk-weaker}
use Rattle.merc_type_check.specs.Progress.{AllStand}
use Rattle.merc_type_check.proofs.Steps.{grow_grow}
use Rattle.merc_type_check.proofs.Asked.{one_parameter, whole_placed}
use Rattle.merc_type_check.proofs.checker.Checker.whole.Goals as goal

pub loop-name-preserved : goal.loop-name-preserved
loop-name-preserved c = record {
  grows = grow_grow c.args.self.now c.loop-name.self c.type_variable.new.self c.loop-name.invariant.grows c.in_ok-type_variable.ensures.placed.grows;
  stand = one_parameter c.args.user c.loop-name.self c.type_variable.new.self c.as_slice-params.result.now c.loop-name.places.items c.push.new.self.items
      c.in_ok-type_variable.field-0 c.name-item.result c.loop-name.name-index c.in_ok-type_variable.ensures.placed c.in_ok-push.ensures.items c.loop-name-test.true c.name-item.is
      c.loop-name.invariant.stand;
}

pub returns : goal.returns
returns c =
    let params : List ℕ = c.as_slice-params.result.now in
    let whole : take c.loop-name.name-index params ≡ c.args.declared.now.params =
    take_all c.loop-name.name-index params c.loop-name-test.false ∙ c.as_slice-params.ensures in
    IfOk-weaker c.applied.result _ _
    (λ place applied. whole_placed c.args.user c.args.self.now c.loop-name.self c.applied.new.self place c.args.declared.now.name c.args.declared.now.params
    c.loop-name.places.items c.deref.result.now c.deref.ensures.value c.loop-name.invariant.grows
    (subst (λ (l : List ℕ). AllStand c.loop-name.self c.loop-name.places.items (λ types instance. map (instance c.args.user) l)) whole c.loop-name.invariant.stand) applied)
    c.applied.ensures.placed

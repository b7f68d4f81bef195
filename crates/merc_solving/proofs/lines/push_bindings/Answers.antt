-- A binding more, or no further one.
use Rattle.std.proofs.Common.{◌≡◌, ◌∙◌, ◌<◌, ℕ, suc, ap, sym, refl, subst, arith, length, rules, add-one}
use Rattle.std.proofs.lemmas.List.{append-nil, length-map}
use Rattle.std.specs.Prelude.{Some, slice_get}
use Rattle.merc_value.specs.Block.{root_values, value_of}
use Rattle.merc_solving.proofs.LineLemmas.{bindings-step, bindings-variables_end, bindings-values_end, item_there, some_holds, value_there}
use Rattle.merc_solving.proofs.lines.push_bindings.Goals as goal

pub loop-variable-init : goal.loop-variable-init
loop-variable-init c = record { line = sym (append-nil c.args.line.now); separator = search rules; root = refl }

pub returns-then-is_none : goal.returns-then-is_none
returns-then-is_none c =
    let block = c.args.values.now in
    let kept = c.loop-variable.invariant in
    let past = c.root.ensures.none.0 (search rules) in
    bindings-values_end c.args.names.now c.args.variables.now (root_values block) c.args.line.now c.loop-variable.line c.loop-variable.variable-index kept.line
    (omega (arith, past, kept.root, length-map block.roots (value_of block.cells)))

pub loop-variable-preserved : goal.loop-variable-preserved
loop-variable-preserved c =
    let block = c.args.values.now in
    let kept = c.loop-variable.invariant in
    let k = c.loop-variable.variable-index in
    let below : c.loop-variable.root < length block.roots = search rules in
    let there = value_there (root_values block) c.loop-variable.root (omega (arith, below, length-map block.roots (value_of block.cells))) in
    let at : slice_get (root_values block) k ≡ Some there.0 = subst (λ (n : ℕ). slice_get (root_values block) n ≡ Some there.0) kept.root there.1 in
    record {
      line =
          bindings-step c.args.names.now c.args.variables.now (root_values block) c.args.line.now c.loop-variable.line k kept.line
          c.variable-item.result there.0 c.loop-variable.separator.now _ _
          (item_there c.args.variables.now k c.variable-item.result c.loop-variable-test.true c.variable-item.is) at kept.separator c.in_ok-push.ensures.ok
          (some_holds _ _ there.0 there.1 c.in_ok-push_binding.ensures);
      separator = rw add-one;
      root = c.in_ok-root.ensures ∙ ap suc kept.root ∙ omega arith;
    }

pub returns : goal.returns
returns c =
    bindings-variables_end c.args.names.now c.args.variables.now (root_values c.args.values.now) c.args.line.now c.loop-variable.line c.loop-variable.variable-index c.loop-variable.invariant.line
    (omega (arith, c.loop-variable-test.false))

use Rattle.std.proofs.Common.{◌≡◌, ℕ, ◌-◌, ◌<◌, List, ◌∷◌, ◌++◌, [], take, ◌⊎◌, inl, inr, true, None, Some, Option, refl, ap, sym, subst, ◌∙◌, reverse, vec_len}
use Rattle.std.proofs.lemmas.List.{reverse-append}
use Rattle.merc_tree.specs.Types.{TypeExpr}
use Rattle.merc_type_table.specs.declared.node.TypeNode.{TypeNode}
use Rattle.merc_type_table.specs.declared.node.TypeNode.TheVariants.{Variable, Int, Text, Name, With}
use Rattle.merc_type_table.specs.Table.{type_at, made, is_application}
use Rattle.merc_type_check.specs.declared.building.Frame.{Frame}
use Rattle.merc_type_check.specs.Building.{frames_weight, IsUnderWay, Finds}
use Rattle.merc_type_check.proofs.Steps.{keeps_on}
use Rattle.merc_type_check.proofs.Built.{none_built, under_way_first, under_way_finished, under_way_last, less_finished, begun_there, begun_parts, begun_named, begun_split, begun_filled}
use Rattle.merc_type_check.proofs.checker.Checker.declared.Goals as goal

popped : (below now : List Frame) (frame : Frame) → below ≡ now ++ frame ∷ [] → reverse below ≡ frame ∷ reverse now
popped below now frame items = ap reverse items ∙ reverse-append now (frame ∷ [])

none_left : (below now : List Frame) (count : ℕ) → count ≡ 0 → now ≡ take (count - 1) below → below ≡ now ++ [] → reverse below ≡ []
none_left below now count none now_is items = ap reverse (items ∙ ap (λ (l : List Frame). l ++ []) (now_is ∙ ap (λ (n : ℕ). take (n - 1) below) none))

no_some : (o : Option ℕ) → ((place : ℕ) → o ≡ Some place → ⊥) → o ≡ None
no_some None apart = refl
no_some (Some place) apart = absurd (apart place refl)

not_named : (table : List TypeExpr) (node : TypeNode) → is_application (made table node) ≡ true
    → ((name : ℕ) × (node ≡ Variable name)) ⊎ ((node ≡ Int) ⊎ (node ≡ Text)) → ⊥
not_named table (Variable name) app other = cc
not_named table Int app other = cc
not_named table Text app other = cc
not_named table (Name name) app other = elim other [
  | inl found ↦ let e = found.1 in absurd (cc)
  | inr found ↦ elim found [
    | inl e ↦ absurd (cc)
    | inr e ↦ absurd (cc)
  ]
]
not_named table (With first rest) app other = elim other [
  | inl found ↦ let e = found.1 in absurd (cc)
  | inr found ↦ elim found [
    | inl e ↦ absurd (cc)
    | inr e ↦ absurd (cc)
  ]
]

pub returns-in-None-clause-placed : goal.returns-in-None-clause-placed
returns-in-None-clause-placed c =
    under_way_last c.args.user c.args.self.now c.loop-first.self c.finish.new.self c.loop-first.built c.finish.new.built c.loop-first.top (reverse c.loop-first.below.items)
    c.in_ok-place-in-Name.place (type_at c.args.self.now.graph.table c.args.number)
    (none_left c.loop-first.below.items c.pop.new.self.items (vec_len c.loop-first.below) c.in-None.ensures.cases.0 c.pop.ensures.rest c.in-None.ensures.items)
    (c.in_ok-place-in-Name.ensures.finished c.args.user (begun_parts c.args.user c.args.self.now c.loop-first.self c.loop-first.built c.loop-first.top (reverse c.loop-first.below.items)
    (type_at c.args.self.now.graph.table c.args.number) c.loop-first.invariant.way)
    (begun_filled c.args.user c.args.self.now c.loop-first.self c.loop-first.built c.loop-first.top (reverse c.loop-first.below.items)
    (type_at c.args.self.now.graph.table c.args.number) c.in-Name.name c.loop-first.invariant.way c.in-Name.ensures.is)) c.loop-first.invariant.way

pub loop-first-preserved : goal.loop-first-preserved
loop-first-preserved c = record {
  kept = keeps_on c.args.self.now c.loop-first.self c.finish.new.self c.loop-first.invariant.kept c.in_ok-place-in-Name.ensures.kept;
  way =
      under_way_finished c.args.user c.args.self.now c.loop-first.self c.finish.new.self c.loop-first.built c.finish.new.built c.loop-first.top c.in-Some-pop.frame c.in_ok-top-in-Some-pop.top
      (reverse c.pop.new.self.items) c.in_ok-place-in-Name.place (type_at c.args.self.now.graph.table c.args.number) (c.in_ok-place-in-Name.ensures.finished c.args.user (begun_parts c.args.user c.args.self.now c.loop-first.self c.loop-first.built c.loop-first.top (reverse c.loop-first.below.items)
      (type_at c.args.self.now.graph.table c.args.number) c.loop-first.invariant.way)
      (begun_filled c.args.user c.args.self.now c.loop-first.self c.loop-first.built c.loop-first.top (reverse c.loop-first.below.items)
      (type_at c.args.self.now.graph.table c.args.number) c.in-Name.name c.loop-first.invariant.way c.in-Name.ensures.is)) c.in_ok-top-in-Some-pop.ensures
      (subst (λ (l : List Frame). IsUnderWay c.args.user c.args.self.now c.loop-first.self c.loop-first.built c.loop-first.top l (type_at c.args.self.now.graph.table c.args.number))
      (popped c.loop-first.below.items c.pop.new.self.items c.in-Some-pop.frame c.in-Some-pop.ensures.items) c.loop-first.invariant.way);
}

pub loop-first-smaller : goal.loop-first-smaller
loop-first-smaller c =
    let table : List TypeExpr = c.args.self.now.graph.table in
    subst (λ (l : List Frame). frames_weight table c.in_ok-top-in-Some-pop.top (reverse c.pop.new.self.items) < frames_weight table c.loop-first.top l)
    (sym (popped c.loop-first.below.items c.pop.new.self.items c.in-Some-pop.frame c.in-Some-pop.ensures.items))
    (less_finished table c.loop-first.top c.in-Some-pop.frame c.in_ok-top-in-Some-pop.top (reverse c.pop.new.self.items) c.in_ok-place-in-Name.place c.in_ok-top-in-Some-pop.ensures)

pub part-requires-clause-built : goal.part-requires-clause-built
part-requires-clause-built c = none_built c.args.user c.args.self.now.graph.table c.args.self.now c.new-built.result c.new-built.ensures.empty

pub argument-requires-clause-built : goal.argument-requires-clause-built
argument-requires-clause-built c =
    begun_parts c.args.user c.args.self.now c.loop-first.self c.loop-first.built c.loop-first.top (reverse c.loop-first.below.items) (type_at c.args.self.now.graph.table c.args.number) c.loop-first.invariant.way

pub argument-requires-clause-split : goal.argument-requires-clause-split
argument-requires-clause-split c =
    begun_split c.args.user c.args.self.now c.loop-first.self c.loop-first.built c.loop-first.top (reverse c.loop-first.below.items) (type_at c.args.self.now.graph.table c.args.number)
    c.in-With.first c.in-With.rest c.loop-first.invariant.way c.in-With.ensures.is c.in-With.ensures.before c.in-With.ensures.complete

pub finish-requires-clause-within : goal.finish-requires-clause-within
finish-requires-clause-within c = c.loop-first.invariant.way.filled.stand.there

pub node-requires-clause-declared : goal.node-requires-clause-declared
node-requires-clause-declared c =
    begun_there c.args.user c.args.self.now c.loop-first.self c.loop-first.built c.loop-first.top (reverse c.loop-first.below.items) (type_at c.args.self.now.graph.table c.args.number) c.loop-first.invariant.way

pub unreachable-requires : goal.unreachable-requires
unreachable-requires c =
    let named = begun_named c.args.user c.args.self.now c.loop-first.self c.loop-first.built c.loop-first.top (reverse c.loop-first.below.items) (type_at c.args.self.now.graph.table c.args.number)
    c.loop-first.invariant.way in
    not_named c.loop-first.self.graph.table c.node.result (sym (ap is_application c.node.ensures.is) ∙ named) c.in-Variable.is

pub loop-first-init : goal.loop-first-init
loop-first-init c = record {
  kept = c.in_ok-place.ensures.kept;
  way =
      let top : Frame = record { number = c.args.number; rest = c.args.number; places = c.new.result } in
      subst (λ (l : List Frame). IsUnderWay c.args.user c.args.self.now c.part.new.self c.part.new.built top l (type_at c.args.self.now.graph.table c.args.number))
      (sym (ap reverse c.new-below.ensures.items))
      (under_way_first c.args.user c.args.self.now c.part.new.self c.part.new.built top c.args.number c.requires.there
      (subst (λ (o : Option ℕ). Finds c.args.user c.args.self.now c.part.new.self c.part.new.built c.args.number o) (no_some c.in_ok-place.field-0 c.in_default.not-Some) c.in_ok-place.ensures.found)
      refl refl c.new.ensures.items);
}

pub returns-in-None-clause-kept : goal.returns-in-None-clause-kept
returns-in-None-clause-kept c = keeps_on c.args.self.now c.loop-first.self c.finish.new.self c.loop-first.invariant.kept c.in_ok-place-in-Name.ensures.kept

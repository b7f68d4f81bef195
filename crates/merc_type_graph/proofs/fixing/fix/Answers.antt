use Rattle.std.proofs.Common.{List, [], ◌∷◌, ◌++◌, length, refl, sym, ap}
use Rattle.merc_type_table.specs.Table.{type_at}
use Rattle.merc_type_graph.specs.declared.fixing.Fixing.{Fixing}
use Rattle.merc_type_graph.proofs.Fixings.{last_there, fixing_differs, fixing_first, fixing_on}
use Rattle.merc_type_graph.proofs.fixing.fix.Goals as goal

pub fix_one-requires-clause-there : goal.fix_one-requires-clause-there
fix_one-requires-clause-there c = (c.requires.there, c.requires.declared, tt)

pub fix_one-requires-clause-fixings : goal.fix_one-requires-clause-fixings
fix_one-requires-clause-fixings c = rw (c.new-fixings.ensures.items) tt

pub returns-then-not-branch-clause-made : goal.returns-then-not-branch-clause-made
returns-then-not-branch-clause-made c =
    let first : Fixing = record { place = c.args.place; whole = c.args.whole } in
    fixing_differs c.args.store.now c.args.cells.now c.args.cells.now c.fix_one.new.cells (first ∷ []) c.new-fixings.result.items c.fix_one.new.fixings.items first c.args.place
    (type_at c.args.store.now.table.now c.args.whole) c.in_ok-fix_one.field-0
    (fixing_first c.args.store.now c.args.cells.now (first ∷ []) c.args.place c.args.whole c.requires.sound c.requires.there c.requires.declared refl)
    (ap (λ (l : List Fixing). l ++ first ∷ []) (sym c.new-fixings.ensures.items)) c.if-not-branch.true c.in_ok-fix_one.ensures.made

pub loop-fixing-init : goal.loop-fixing-init
loop-fixing-init c =
    let first : Fixing = record { place = c.args.place; whole = c.args.whole } in
    (fixing_on c.args.store.now c.args.cells.now c.args.cells.now c.fix_one.new.cells (first ∷ []) c.new-fixings.result.items c.fix_one.new.fixings.items first c.args.place
    (type_at c.args.store.now.table.now c.args.whole) c.in_ok-fix_one.field-0
    (fixing_first c.args.store.now c.args.cells.now (first ∷ []) c.args.place c.args.whole c.requires.sound c.requires.there c.requires.declared refl)
    (ap (λ (l : List Fixing). l ++ first ∷ []) (sym c.new-fixings.ensures.items)) c.if-not-branch.false c.in_ok-fix_one.ensures.made).0

pub fix_one-requires-in-Some-clause-there : goal.fix_one-requires-in-Some-clause-there
fix_one-requires-in-Some-clause-there c = (last_there c.args.store.now.table.now (length c.loop-fixing.cells) c.loop-fixing.fixings.items c.pop.new.self.items c.in-Some.fixing c.in-Some.ensures.items c.loop-fixing.invariant.there).1

pub fix_one-requires-in-Some-clause-fixings : goal.fix_one-requires-in-Some-clause-fixings
fix_one-requires-in-Some-clause-fixings c = (last_there c.args.store.now.table.now (length c.loop-fixing.cells) c.loop-fixing.fixings.items c.pop.new.self.items c.in-Some.fixing c.in-Some.ensures.items c.loop-fixing.invariant.there).0

pub returns-then-not-branch-2-clause-made : goal.returns-then-not-branch-2-clause-made
returns-then-not-branch-2-clause-made c = fixing_differs c.args.store.now c.args.cells.now c.loop-fixing.cells c.fix_one-in-Some.new.cells c.loop-fixing.fixings.items c.pop.new.self.items c.fix_one-in-Some.new.fixings.items c.in-Some.fixing c.args.place (type_at c.args.store.now.table.now c.args.whole) c.in_ok-fix_one-2.field-0 c.loop-fixing.invariant c.in-Some.ensures.items c.if-not-branch-2.true c.in_ok-fix_one-2.ensures.made

pub loop-fixing-preserved : goal.loop-fixing-preserved
loop-fixing-preserved c = (fixing_on c.args.store.now c.args.cells.now c.loop-fixing.cells c.fix_one-in-Some.new.cells c.loop-fixing.fixings.items c.pop.new.self.items c.fix_one-in-Some.new.fixings.items c.in-Some.fixing c.args.place (type_at c.args.store.now.table.now c.args.whole) c.in_ok-fix_one-2.field-0 c.loop-fixing.invariant c.in-Some.ensures.items c.if-not-branch-2.false c.in_ok-fix_one-2.ensures.made).0

pub loop-fixing-smaller : goal.loop-fixing-smaller
loop-fixing-smaller c = (fixing_on c.args.store.now c.args.cells.now c.loop-fixing.cells c.fix_one-in-Some.new.cells c.loop-fixing.fixings.items c.pop.new.self.items c.fix_one-in-Some.new.fixings.items c.in-Some.fixing c.args.place (type_at c.args.store.now.table.now c.args.whole) c.in_ok-fix_one-2.field-0 c.loop-fixing.invariant c.in-Some.ensures.items c.if-not-branch-2.false c.in_ok-fix_one-2.ensures.made).1

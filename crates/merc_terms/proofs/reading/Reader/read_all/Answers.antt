use Rattle.std.proofs.Common.{◌<◌, ◌≤◌, length, refl, arith}
use Rattle.merc_terms.proofs.ItemLaws.{items_start, items_grow, items_end, items_refused}
use Rattle.merc_terms.proofs.reading.Reader.read_all.Goals as goal

pub loop-alloc-init : goal.loop-alloc-init
loop-alloc-init c = items_start c.args.self.now.progress.rest.now c.args.self.now.progress c.requires.terms c.requires.great refl

pub returns-in-Some-clause-refused : goal.returns-in-Some-clause-refused
returns-in-Some-clause-refused c =
    let some : 0 < length c.loop-alloc.self.progress.rest.now = omega arith in
    items_refused c.args.self.now.progress.rest.now c.loop-alloc.self.progress c.read_item.new.self.progress c.in_ok-found.found c.in-Some.rule c.in-Some.detail c.place-place.result c.loop-alloc.invariant
    c.in_ok-found.ensures.there (rw c.in-Some.is at c.in_ok-rule.ensures) some c.place-place.ensures.value

pub loop-alloc-preserved : goal.loop-alloc-preserved
loop-alloc-preserved c =
    items_grow c.args.self.now.progress.rest.now c.loop-alloc.self.progress c.read_item.new.self.progress c.in_ok-found.found c.loop-alloc.invariant c.in_ok-found.ensures.there (rw c.in_default.is at c.in_ok-rule.ensures)

pub returns-clause-found : goal.returns-clause-found
returns-clause-found c =
    let empty : length c.loop-alloc.self.progress.rest.now ≤ 0 = omega arith in
    items_end c.args.self.now.progress.rest.now c.loop-alloc.self.progress c.loop-alloc.invariant empty

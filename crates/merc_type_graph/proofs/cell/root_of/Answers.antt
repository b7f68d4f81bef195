use Rattle.std.proofs.Common.{◌≡◌, ◌∙◌, ◌<◌, sym, subst, length, arith}
use Rattle.merc_type_graph.specs.Solutions.{Agrees}
use Rattle.merc_type_graph.specs.Cells.{entry_of, known_at}
use Rattle.merc_type_graph.specs.declared.cell.Known.{Known}
use Rattle.merc_type_graph.specs.declared.cell.Known.TheVariants.{SameAs}
use Rattle.merc_type_graph.proofs.Entries.{solves_at, known_any}
use Rattle.merc_type_graph.proofs.cell.root_of.Goals as goal

pub loop-at-preserved : goal.loop-at-preserved
loop-at-preserved c =
    let link : known_at c.args.cells.now c.loop-at.at ≡ SameAs c.in-SameAs.next =
    known_any c.args.cells.now c.loop-at.at _ (SameAs c.in-SameAs.next) c.loop-at.invariant.here c.in-SameAs.is in
    record {
      here = c.requires.forest.near c.loop-at.at c.in-SameAs.next link;
      same = λ store types solves.
          sym (subst (λ (k : Known). Agrees types c.loop-at.at (entry_of store k)) link (solves_at store c.args.cells.now types solves c.loop-at.at))
          ∙ c.loop-at.invariant.same store types solves;
    }

pub loop-at-smaller : goal.loop-at-smaller
loop-at-smaller c =
    let link : known_at c.args.cells.now c.loop-at.at ≡ SameAs c.in-SameAs.next =
    known_any c.args.cells.now c.loop-at.at _ (SameAs c.in-SameAs.next) c.loop-at.invariant.here c.in-SameAs.is in
    let near : c.in-SameAs.next < length c.args.cells.now = c.requires.forest.near c.loop-at.at c.in-SameAs.next link in
    let up = c.requires.forest.rising c.loop-at.at c.in-SameAs.next link in
    let room = c.requires.forest.room c.in-SameAs.next near in
    omega arith

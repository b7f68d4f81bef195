use Rattle.std.proofs.Common.{refl, sym, ◌∙◌}
use Rattle.std.specs.Ordering.{nat_cmp}
use Rattle.std.specs.BTreeMap.{get}
use Rattle.merc_type_matching.proofs.Linking.{falls_to, links_through, same_links, step_same}
use Rattle.merc_type_matching.proofs.linked.LinkedNames.least.Goals as goal

pub loop-next-init : goal.loop-next-init
loop-next-init c = record { links = same_links c.args.self.now c.requires; same = λ one other agree. refl }

pub shorten-requires-clause-falling : goal.shorten-requires-clause-falling
shorten-requires-clause-falling c = c.loop-next.invariant.links.falling

pub shorten-requires-clause-next : goal.shorten-requires-clause-next
shorten-requires-clause-next c = sym c.get.ensures.value ∙ sym c.in-Some.ensures

pub loop-next-preserved : goal.loop-next-preserved
loop-next-preserved c = record {
  links = links_through c.args.self.now c.loop-next.self c.shorten.new.self c.loop-next.invariant.links c.in_ok-shorten.ensures;
  same = step_same c.args.self.now c.loop-next.self c.args.name c.loop-next.at c.in-Some.next c.loop-next.invariant.links (sym c.get.ensures.value ∙ sym c.in-Some.ensures)
      c.loop-next.invariant.same;
}

pub loop-next-smaller : goal.loop-next-smaller
loop-next-smaller c =
    falls_to (get nat_cmp c.loop-next.self.lesser) c.loop-next.at c.in-Some.next c.loop-next.invariant.links.falling (sym c.get.ensures.value ∙ sym c.in-Some.ensures)

pub returns : goal.returns
returns c = record {
  links = c.loop-next.invariant.links;
  is_least = sym c.get.ensures.value ∙ sym c.copied.ensures ∙ c.in_default.is;
  same = c.loop-next.invariant.same;
}

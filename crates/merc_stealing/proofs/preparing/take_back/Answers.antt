use Rattle.std.proofs.Common.{rules, ◌∷◌, [], ◌∙◌, sym, ap, refl, subst}
use Rattle.std.specs.List.{All}
use Rattle.merc_cell.specs.Ends.{consumer_name, producer_name}
use Rattle.merc_held_branches.specs.Beds.{IsNamed}
use Rattle.merc_held_branches.specs.Lying.{AreNamed}
use Rattle.merc_held_branches.specs.Owning.{HasBerth}
use Rattle.merc_held_branches.proofs.Lists.{all_at, all_front}
use Rattle.merc_stealing.proofs.preparing.take_back.Goals as goal

pub take_rights-requires-clause-from : goal.take_rights-requires-clause-from
take_rights-requires-clause-from g c =
    let named = all_at (λ kid. AreNamed g.N.Room.table kid.value.hold) c.pop.new.self.items (c.in-Some.kid ∷ []) [] c.loop-kid.kids.items c.in-Some.kid (sym c.in-Some.ensures.items) refl c.loop-kid.invariant.named in
    let waits = ap (λ (b : _). b.hold.waits) c.deref_mut-in-Some.ensures.value ∙ ap (λ (b : _). b.hold.waits) c.deref_mut.ensures.value in
    let signals = ap (λ (b : _). b.hold.signals) c.deref_mut-in-Some.ensures.value ∙ ap (λ (b : _). b.hold.signals) c.deref_mut.ensures.value in record {
      waits = subst (λ (v : _). All (λ right. IsNamed g.N.Room.table (consumer_name right.end)) v.items) (sym waits) named.waits;
      signals = subst (λ (v : _). All (λ right. IsNamed g.N.Room.table (producer_name right.end)) v.items) (sym signals) named.signals;
    }

pub loop-kid-preserved : goal.loop-kid-preserved
loop-kid-preserved g c = let was = c.loop-kid.invariant in record {
  passes = search rules;
  runs = c.take_rights.ensures;
  berths = all_front (λ kid. HasBerth g.N.Room.table kid.value.hold.berth) c.pop.new.self.items c.loop-kid.kids.items c.in-Some.kid c.in-Some.ensures.items was.berths;
  named = all_front (λ kid. AreNamed g.N.Room.table kid.value.hold) c.pop.new.self.items c.loop-kid.kids.items c.in-Some.kid c.in-Some.ensures.items was.named;
}

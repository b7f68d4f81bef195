use Rattle.std.proofs.Common.{◌≡◌, ◌∙◌, ◌∷◌, ◌++◌, [], ap, length, rules, subst, sym}
use Rattle.std.specs.Vec.Iter.{into_iter_items, into_iter_len}
use Rattle.std.proofs.lemmas.List.{append-nil, append_assoc}
use Rattle.merc_layout.specs.KnownConjuncts.{AreKnownConjuncts}
use Rattle.merc_layout.proofs.ConjunctEntries.{sites-more}
use Rattle.merc_layout.proofs.KnownProcedures.{added_more, added_none}
use Rattle.merc_layout.proofs.Lists.{none_left}
use Rattle.merc_layout.proofs.conjuncts.place_conjuncts.Goals as goal

pub loop-those-init : goal.loop-those-init
loop-those-init c =
    let all : into_iter_items c.into_iter-those-iterator.result ≡ c.args.conjuncts = search rules in
    record {
      added = added_none c.args.pieces.now;
      left = all;
      known = λ codes lent. subst (λ table. AreKnownConjuncts codes c.args.pieces.now table []) (sym c.new-table.ensures) tt;
    }

pub loop-those-preserved : goal.loop-those-preserved
loop-those-preserved c =
    let before = c.args.pieces.now in
    let middle = c.loop-those.pieces in
    let after = c.place_those.new.pieces in
    let placed = c.loop-those.yielded in
    let those = c.in-Some.those in
    let rest = into_iter_items c.next.new.self in
    let left : into_iter_items c.loop-those.those-iterator ≡ those ∷ rest = c.in-Some.ensures.steps.0 in
    let whole : c.args.conjuncts ≡ placed ++ those ∷ rest = sym c.loop-those.invariant.left ∙ ap (λ l. placed ++ l) left in
    let more = c.in_ok-place_those.ensures.known in
    record {
      added = added_more before middle after c.loop-those.invariant.added c.in_ok-place_those.ensures.added;
      left = append_assoc placed (those ∷ []) rest ∙ sym whole;
      known = λ codes lent.
          subst (λ table. AreKnownConjuncts codes after table (placed ++ those ∷ [])) (sym more.1)
          (sites-more codes middle after c.loop-those.table placed more.0 those c.in_ok-place_those.ensures.added (c.loop-those.invariant.known codes lent) (more.2 codes lent));
    }

pub returns : goal.returns
returns c =
    let it = c.loop-those.those-iterator in
    let placed = c.loop-those.yielded in
    let counted : length (into_iter_items it) ≡ into_iter_len it = search rules in
    let ended : into_iter_items it ≡ [] = none_left (into_iter_items it) (counted ∙ c.in-None.ensures.steps.0) in
    let all : placed ≡ c.args.conjuncts = sym (append-nil placed) ∙ ap (λ l. placed ++ l) (sym ended) ∙ c.loop-those.invariant.left in
    record {
      added = c.loop-those.invariant.added;
      known = λ codes lent. subst (AreKnownConjuncts codes c.loop-those.pieces c.loop-those.table) all (c.loop-those.invariant.known codes lent);
    }

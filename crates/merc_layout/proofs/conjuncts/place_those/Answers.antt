use Rattle.std.proofs.Common.{◌≡◌, ◌∙◌, ◌∷◌, ◌++◌, [], ap, length, rules, subst, sym}
use Rattle.std.specs.Vec.Iter.{into_iter_items, into_iter_len}
use Rattle.std.proofs.lemmas.List.{append-nil, append_assoc}
use Rattle.std.proofs.lemmas.Result.{on_ok_weaker}
use Rattle.merc_layout.specs.Entries.{Each}
use Rattle.merc_layout.specs.KnownConjuncts.{IsKnownConjunct}
use Rattle.merc_layout.proofs.ConjunctEntries.{those-more}
use Rattle.merc_layout.proofs.KnownProcedures.{added_more, added_none}
use Rattle.merc_layout.proofs.Lists.{none_left}
use Rattle.merc_layout.proofs.conjuncts.place_those.Goals as goal

pub loop-conjunct-init : goal.loop-conjunct-init
loop-conjunct-init c =
    let all : into_iter_items c.into_iter-conjunct-iterator.result ≡ c.args.those = search rules in
    record {
      added = added_none c.args.pieces.now;
      left = all;
      known = λ codes lent. subst (λ known. Each (IsKnownConjunct codes c.args.pieces.now) known []) (sym c.new-known.ensures) tt;
    }

pub loop-conjunct-preserved : goal.loop-conjunct-preserved
loop-conjunct-preserved c =
    let before = c.args.pieces.now in
    let middle = c.loop-conjunct.pieces in
    let after = c.add_conjunct.new.pieces in
    let placed = c.loop-conjunct.yielded in
    let conjunct = c.in-Some.conjunct in
    let rest = into_iter_items c.next.new.self in
    let left : into_iter_items c.loop-conjunct.conjunct-iterator ≡ conjunct ∷ rest = c.in-Some.ensures.steps.0 in
    let whole : c.args.those ≡ placed ++ conjunct ∷ rest = sym c.loop-conjunct.invariant.left ∙ ap (λ l. placed ++ l) left in
    let more = c.in_ok-add_conjunct.ensures.known in
    record {
      added = added_more before middle after c.loop-conjunct.invariant.added c.in_ok-add_conjunct.ensures.added;
      left = append_assoc placed (conjunct ∷ []) rest ∙ sym whole;
      known = λ codes lent.
          subst (λ known. Each (IsKnownConjunct codes after) known (placed ++ conjunct ∷ [])) (sym more.1)
          (those-more codes middle after c.loop-conjunct.known placed more.0 conjunct c.in_ok-add_conjunct.ensures.added (c.loop-conjunct.invariant.known codes lent) (more.2 codes lent));
    }

pub returns : goal.returns
returns c =
    let it = c.loop-conjunct.conjunct-iterator in
    let placed = c.loop-conjunct.yielded in
    let counted : length (into_iter_items it) ≡ into_iter_len it = search rules in
    let ended : into_iter_items it ≡ [] = none_left (into_iter_items it) (counted ∙ c.in-None.ensures.steps.0) in
    let all : placed ≡ c.args.those = sym (append-nil placed) ∙ ap (λ l. placed ++ l) (sym ended) ∙ c.loop-conjunct.invariant.left in
    record {
      added = on_ok_weaker c.push.result (λ ok. c.loop-conjunct.invariant.added) c.push.ensures.ok;
      known = on_ok_weaker c.push.result (λ ok. (c.loop-conjunct.known, ok, (λ codes lent. subst (Each (IsKnownConjunct codes c.loop-conjunct.pieces) c.loop-conjunct.known) all (c.loop-conjunct.invariant.known codes lent)))) c.push.ensures.ok;
    }

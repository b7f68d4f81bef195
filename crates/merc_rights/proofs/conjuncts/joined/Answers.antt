use Rattle.std.proofs.Common.{◌∙◌, ◌≡◌, ◌∷◌, ◌++◌, ◌+◌, [], length, reverse, ap, sym, subst, refl, arith}
use Rattle.std.proofs.lemmas.List.{append_assoc, append-nil, length-append}
use Rattle.merc_rights.specs.Groups.{by_variable, numbered, numbered_with, rights_in, AllFor}
use Rattle.merc_rights.specs.Rights.{with_rights}
use Rattle.merc_rights.specs.Rows.{row_of}
use Rattle.merc_rights.proofs.JoinLaws.{all_own, joined_more}
use Rattle.merc_rights.proofs.SignalLaws.{none_left}
use Rattle.merc_rights.proofs.conjuncts.joined.Goals as goal

pub loop-item-init : goal.loop-item-init
loop-item-init c = record {
  rest = [];
  are = sym (append-nil c.args.own.items);
  in_order = c.requires;
  same = λ number less. refl;
  done = λ signals at. ap (λ l. numbered_with (by_variable signals) c.args.own.items ++ numbered (reverse l)) c.new-all.ensures.items ∙ append-nil (numbered_with (by_variable signals) c.args.own.items);
}

pub loop-item-preserved : goal.loop-item-preserved
loop-item-preserved c =
    let whole = c.loop-item.invariant in
    let left = c.pop.new.self.items in
    let item = c.in-Some.item in
    let number : c.len.result ≡ length left = cc (c.pop.new.self.ok.0, c.len.ensures) in
    let longer : length c.loop-item.left.items ≡ length left + 1 = ap length c.in-Some.ensures.items ∙ length-append left (item ∷ []) in
    let are = whole.are ∙ ap (λ l. l ++ whole.rest) c.in-Some.ensures.items ∙ append_assoc left (item ∷ []) whole.rest in
    record {
      rest = item ∷ whole.rest;
      are = are;
      in_order = c.in_ok-others.ensures.in_order;
      same = λ other less. c.in_ok-others.ensures.rest other (omega (arith, number, less)) ∙ whole.same other (omega (arith, less, longer));
      done = λ signals at.
          let moved = by_variable signals in
          let variable = item.group.variable in
          let row = c.in_ok-others.ensures.row ∙ whole.same c.len.result (omega (arith, number, longer)) ∙ ap (λ n. row_of n (numbered c.args.moved.items)) number ∙ at left item whole.rest are in
          let group = c.in_ok-with_others.ensures (subst (AllFor variable) (sym row) (all_own variable signals)) ∙ ap (λ l. with_rights l (rights_in item.group)) row in
          joined_more moved c.loop-item.left.items left item c.loop-item.all.items c.push.new.self.items c.in_ok-with_others.field-0 (numbered_with moved c.args.own.items)
          c.in-Some.ensures.items group c.in_ok-push.ensures.items (whole.done signals at);
    }

pub returns : goal.returns
returns c signals at =
    let moved = by_variable signals in
    let all = numbered (reverse c.loop-item.all.items) in
    let none : c.loop-item.left.items ≡ [] = none_left c.loop-item.left.items (cc (c.loop-item.left.ok.0, c.in_default.ensures.cases.0)) in
    ap numbered c.reverse.ensures.items ∙ ap (λ l. numbered_with moved l ++ all) (sym none) ∙ c.loop-item.invariant.done signals at

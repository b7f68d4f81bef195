use Rattle.std.proofs.Common.{◌≡◌, ◌∙◌, ◌++◌, ap, map, sym, length}
use Rattle.std.specs.Vec.{vec_len}
use Rattle.std.proofs.lemmas.List.{append-nil}
use Rattle.std.proofs.lemmas.Result.{on_ok_weaker}
use Rattle.merc_rights.proofs.JoinLaws.{held_none, held_some}
use Rattle.merc_rights.proofs.conjuncts.put_held.Goals as goal

pub returns-then-is_empty : goal.returns-then-is_empty
returns-then-is_empty c =
    let group = c.args.group.now in
    let size : vec_len group.conjuncts ≡ length group.conjuncts.items = cc (group.conjuncts.ok.0) in
    let none = held_none group.variable group.conjuncts.items (vec_len group.conjuncts) size (sym c.is_empty.ensures ∙ c.if-is_empty.true) in
    sym (append-nil c.args.pairs.now.items) ∙ ap (λ l. c.args.pairs.now.items ++ map (λ variable. (variable, 0)) l) (sym none)

pub returns : goal.returns
returns c =
    let group = c.args.group.now in
    let size : vec_len group.conjuncts ≡ length group.conjuncts.items = cc (group.conjuncts.ok.0) in
    let some = held_some group.variable group.conjuncts.items (vec_len group.conjuncts) size (sym c.is_empty.ensures ∙ c.if-is_empty.false) in
    on_ok_weaker c.put.result (λ put. put ∙ ap (λ l. c.args.pairs.now.items ++ map (λ variable. (variable, 0)) l) (sym some)) c.put.ensures

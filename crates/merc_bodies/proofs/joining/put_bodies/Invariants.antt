use Rattle.std.proofs.Common.{◌≡◌, ◌++◌, length, map, drop}
use Rattle.merc_base.specs.Groups.{kept}
use Rattle.merc_tree.specs.declared.declarations.PredDecl.{PredDecl}
use Rattle.merc_bodies.specs.Grouping.{body_of_pairs, formed_seen}
use Rattle.merc_bodies.proofs.joining.put_bodies.Given as goal

abbrev pub invariant-loop-declared : goal.invariant-loop-declared
invariant-loop-declared l =
    let body = λ (declared : PredDecl). body_of_pairs (length declared.args) (map formed_seen (kept l.groups declared.name (length declared.args))) in
    l.nodes ++ map body (drop l.declared-index l.preds) ≡ l.fn.nodes ++ map body l.preds

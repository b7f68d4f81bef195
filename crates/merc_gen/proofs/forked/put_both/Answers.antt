use Rattle.std.proofs.Common.{◌∙◌, ◌++◌, ap, sym, map}
use Rattle.std.proofs.lemmas.List.{map-append}
use Rattle.std.proofs.lemmas.Result.{on_ok_weaker}
use Rattle.merc_graded_tree.specs.Nodes.{nodes_of}
use Rattle.merc_gen.specs.Generated.{conjunct_codes}
use Rattle.merc_gen.specs.Singles.{contained}
use Rattle.merc_gen.specs.Sites.{forked_in, forked_in_all}
use Rattle.merc_gen.proofs.forked.put_both.Goals as goal

pub returns : goal.returns
returns c =
    let code = conjunct_codes (contained c.args.singles.now) in
    on_ok_weaker c.put_forked.result (λ put. put ∙ (ap (λ l. l ++ map code (forked_in c.args.goal.now)) c.in_ok-put_trees.ensures
    ∙ sym (map-append code (forked_in_all (nodes_of c.args.trees.now)) (forked_in c.args.goal.now)))) c.put_forked.ensures

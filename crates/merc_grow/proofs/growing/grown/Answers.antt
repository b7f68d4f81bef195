-- One predicate more, and all of them.
use Rattle.std.proofs.Common.{◌≡◌, ◌∙◌, ◌+◌, ℕ, List, ◌++◌, codes, ap, arith}
use Rattle.merc_grow.specs.Grown.{grown, declaration, clause, predicates}
use Rattle.merc_grow.proofs.GrownLemmas.{predicates-more}
use Rattle.merc_grow.proofs.growing.grown.Goals as goal

pub loop-before-preserved : goal.loop-before-preserved
loop-before-preserved c =
    let count = c.args.count in
    let before = c.loop-before.before in
    c.in_ok-push_clause.ensures ∙ ap (λ (text : List ℕ). text ++ clause count (before + 1)) c.in_ok-push_declaration.ensures
    ∙ ap (λ (text : List ℕ). text ++ declaration (before + 1) ++ clause count (before + 1)) c.loop-before.invariant
    ∙ predicates-more (codes ":- module grown.\n:- import_module int.\n") count before

pub returns : goal.returns
unfolding grown
returns c =
    let all : c.loop-before.before ≡ c.args.count = omega arith in
    c.loop-before.invariant ∙ ap (λ (number : ℕ). codes ":- module grown.\n:- import_module int.\n" ++ predicates c.args.count number) all

use Rattle.std.proofs.Common.{◌≡◌, Bool, true, ap, subst, ◌∙◌, ◌-◌, ◌∷◌, [], List, ℕ, ◌++◌, take, vec_len}
use Rattle.merc_tree.specs.Types.{TypeExpr}
use Rattle.merc_type_matching.specs.Matching.{Matches, MatchesIf}
use Rattle.merc_type_matching.specs.declared.matching.NumberPair.{NumberPair}
use Rattle.merc_type_matching.specs.declared.matching.IndependentPairs.{IndependentPairs}
use Rattle.merc_type_matching.proofs.Pairings.{found_all, found_first, found_more, less_left, part_there}
use Rattle.merc_type_matching.proofs.matching.pairs_between.Goals as goal

pub loop-part-init : goal.loop-part-init
loop-part-init c =
    found_first c.args.table.now (record { pairs = c.new.result; linked = c.new-2.result }) c.push.new.self.items c.args.whole c.new.ensures c.new-2.ensures.falling c.new-2.ensures.free
    (c.in_ok-push.ensures.items ∙ ap (λ (l : List NumberPair). l ++ c.args.whole ∷ []) c.new-parts.ensures.items) c.requires.one c.requires.other

pub match_part-requires-clause-one : goal.match_part-requires-clause-one
match_part-requires-clause-one c = (part_there c.args.table.now c.loop-part.found c.loop-part.parts.items c.pop.new.self.items c.in-Some.part c.args.whole c.in-Some.ensures.items c.loop-part.invariant).0

pub match_part-requires-clause-other : goal.match_part-requires-clause-other
match_part-requires-clause-other c = (part_there c.args.table.now c.loop-part.found c.loop-part.parts.items c.pop.new.self.items c.in-Some.part c.args.whole c.in-Some.ensures.items c.loop-part.invariant).1

pub match_part-requires-clause-met : goal.match_part-requires-clause-met
match_part-requires-clause-met c = c.loop-part.invariant.met

matched : (table : List TypeExpr) (same : Bool) (part : NumberPair) (old new : IndependentPairs) (before after : List NumberPair) → same ≡ true
    → MatchesIf table same part old new before after → Matches table part old new before after
matched table same part old new before after e matches = subst (λ (b : Bool). MatchesIf table b part old new before after) e matches

pub loop-part-smaller : goal.loop-part-smaller
loop-part-smaller c =
    less_left c.args.table.now c.loop-part.found c.match_part.new.found c.loop-part.parts.items c.pop.new.self.items c.match_part.new.parts.items c.in-Some.part c.in-Some.ensures.items
    (matched c.args.table.now c.in_ok-match_part.field-0 c.in-Some.part c.loop-part.found c.match_part.new.found c.pop.new.self.items c.match_part.new.parts.items
    c.if-not-branch.false c.in_ok-match_part.ensures)

pub loop-part-preserved : goal.loop-part-preserved
loop-part-preserved c =
    found_more c.args.table.now c.loop-part.found c.match_part.new.found c.loop-part.parts.items c.pop.new.self.items c.match_part.new.parts.items c.in-Some.part c.args.whole c.in-Some.ensures.items
    (matched c.args.table.now c.in_ok-match_part.field-0 c.in-Some.part c.loop-part.found c.match_part.new.found c.pop.new.self.items c.match_part.new.parts.items
    c.if-not-branch.false c.in_ok-match_part.ensures) c.loop-part.invariant

none_left : (parts now : List NumberPair) (count : ℕ) → count ≡ 0 → now ≡ take (count - 1) parts → parts ≡ now ++ [] → parts ≡ []
none_left parts now count none now_is items = items ∙ ap (λ (l : List NumberPair). l ++ []) (now_is ∙ ap (λ (n : ℕ). take (n - 1) parts) none)

pub returns : goal.returns
returns c =
    found_all c.args.table.now c.loop-part.found c.loop-part.parts.items c.args.whole
    (none_left c.loop-part.parts.items c.pop.new.self.items (vec_len c.loop-part.parts) c.in_default.ensures.cases.0 c.pop.ensures.rest c.in_default.ensures.items)
    c.loop-part.invariant

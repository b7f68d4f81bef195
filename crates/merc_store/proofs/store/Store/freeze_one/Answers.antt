use Rattle.std.proofs.Common.{◌≡◌, [], ◌∷◌, length, map, sym, subst, ◌∙◌}
use Rattle.std.specs.List.{All}
use Rattle.std.proofs.lemmas.List.Elements.{All-nil, All-cons}
use Rattle.std.proofs.lemmas.Result.{IfOk-weaker}
use Rattle.merc_value.specs.Block.{IsBelow, value_of}
use Rattle.merc_segments.specs.Segments.{AreWordsFor}
use Rattle.merc_store.specs.Data.{StoreData, IsBelowIf}
use Rattle.merc_store.proofs.FreezingLemmas.{copied_one, is_held}
use Rattle.merc_store.proofs.store.Store.freeze_one.Goals as goal

pub unreachable-requires : goal.unreachable-requires
unreachable-requires c = is_held c.args.self.now.cells c.args.self.now.stacks.current c.args.variable c.word.result c.word.ensures.word c.requires.has c.in_default.not-Some

pub freeze-requires : goal.freeze-requires
freeze-requires c =
    let place = length c.args.self.now.cells in
    subst (λ (s : StoreData). All (IsBelow (length s.cells)) (c.in-Some.word ∷ [])) (sym c.self.view_is)
    (All-cons (IsBelow place) c.in-Some.word [] (subst (IsBelowIf place) c.in-Some.is c.word.ensures.below) (All-nil (IsBelow place)))

pub returns : goal.returns
returns c =
    IfOk-weaker c.freeze.result _ _
    (λ block copied. copied_one c.args.self.now c.args.variable c.in-Some.word block (sym c.word.ensures.word ∙ c.in-Some.is)
    (subst (λ (s : StoreData). AreWordsFor block.cells (map (value_of s.cells) (c.in-Some.word ∷ [])) block.roots) c.self.view_is copied))
    c.freeze.ensures.roots

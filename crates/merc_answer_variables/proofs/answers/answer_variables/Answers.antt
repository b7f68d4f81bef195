use Rattle.std.proofs.Common.{◌≡◌, ◌<◌, List, [], ◌∷◌, ◌++◌, length, refl, ap, sym, subst, ◌∙◌, arith}
use Rattle.std.proofs.lemmas.List.{append-nil}
use Rattle.std.proofs.lemmas.Result.{IfOk-weaker}
use Rattle.merc_goals.specs.Written.{Written}
use Rattle.merc_goals.specs.Entries.{entries_of, goals_in}
use Rattle.merc_goals.specs.EntryCode.{goals_in-entries_of}
use Rattle.merc_goals.specs.Entries.{GoalEntry}
use Rattle.merc_value.specs.Text.{is_blank}
use Rattle.merc_answer_variables.specs.Reading.{IsRead}
use Rattle.merc_answer_variables.proofs.answers.answer_variables.Goals as goal

none_left : (rest : List GoalEntry) → length rest < 1 → rest ≡ []
none_left [] less = refl
none_left (first ∷ rest) less = absurd (omega (arith, less))

-- All entries are read: they stand for the goal alone.
whole_goal : (goal : Written) (rest behind : List GoalEntry) → length rest < 1 → rest ++ behind ≡ entries_of goal → goals_in behind ≡ goal ∷ []
whole_goal goal rest behind less whole =
    ap goals_in (ap (λ (l : List GoalEntry). l ++ behind) (sym (none_left rest less)) ∙ whole ∙ sym (append-nil (entries_of goal))) ∙ goals_in-entries_of goal []

pub loop-rest-init : goal.loop-rest-init
loop-rest-init c = record {
  behind = [];
  whole = append-nil c.entries-rest.result.now ∙ c.entries-rest.ensures;
  read = c.new-reader.ensures (is_blank c.args.names.now);
}

pub returns : goal.returns
returns c =
    let all = whole_goal c.args.goal.now c.loop-rest.rest.now c.loop-rest.invariant.behind c.in_default.len_below c.loop-rest.invariant.whole in
    IfOk-weaker c.answers.result _ _
    (λ found answers. answers c.args.goal.now (subst (λ (l : List Written). IsRead (is_blank c.args.names.now) l c.loop-rest.reader) all c.loop-rest.invariant.read))
    c.answers.ensures

-- What tasks write behind the entries that are there already.
use Rattle.std.proofs.Common.{◌≡◌, ℕ, ◌+◌, ◌-◌, Bool, true, false, List, [], ◌∷◌, ◌++◌, length, map, reverse, if◌then◌else◌, refl, ap, sym, ◌∙◌, arith}
use Rattle.std.proofs.lemmas.List.{append_assoc, append-nil, reverse-append, reverse-reverse, length-append, length-reverse}
use Rattle.merc_base.specs.declared.place.Span.{Span}
use Rattle.merc_goals.specs.Written.{Written}
use Rattle.merc_goals.specs.Entries.{entry_before, entries_of, all_entries}
use Rattle.merc_goals.proofs.RoleLaws.{goal_at}
use Rattle.merc_goals.proofs.ChainGoals.{goals_for}
use Rattle.merc_goals.specs.Numbers.{NumberedTerm}
use Rattle.merc_goals.specs.declared.planning.Task.{Task}
use Rattle.merc_goals.specs.declared.planning.Task.TheVariants.{Read, Put}
use Rattle.merc_goals.specs.declared.goal.Form.{Form}
use Rattle.merc_goals.specs.Entries.{GoalEntry}

-- what entries become by one task, and by all tasks, the last of them first

abbrev pub act : Task → List GoalEntry → List GoalEntry
act (Read numbered) entries = entries ++ reverse (entries_of (goal_at numbered))
act (Put form at span start) entries = entries ++ record { form = form; at = at; span = span; size = length entries - start + 1 } ∷ []

abbrev pub run : List Task → List GoalEntry → List GoalEntry
run [] entries = entries
run (task ∷ tasks) entries = act task (run tasks entries)

pub run-append : (front back : List Task) (entries : List GoalEntry) → run (front ++ back) entries ≡ run front (run back entries)
run-append [] back entries = refl
run-append (task ∷ tasks) back entries = ap (act task) (run-append tasks back entries)

-- Tasks write these entries, in reverse order, where there are `start` entries already.
pub record Writes (start : ℕ) (tasks : List Task) (written : List GoalEntry) : Type 0 where
  pub from : (entries : List GoalEntry) → length entries ≡ start → run tasks entries ≡ entries ++ reverse written

pub writes_read : (start : ℕ) (numbered : NumberedTerm) → Writes start (Read numbered ∷ []) (entries_of (goal_at numbered))
writes_read start numbered = record { from = λ entries is. refl }

pub writes_before : (start : ℕ) (numbered : NumberedTerm) (tasks : List Task) (written : List GoalEntry)
    → Writes start tasks written → Writes start (Read numbered ∷ tasks) (entries_of (goal_at numbered) ++ written)
writes_before start numbered tasks written writes =
    record {
      from = λ entries is.
          ap (λ l. l ++ reverse (entries_of (goal_at numbered))) (writes.from entries is)
          ∙ append_assoc entries (reverse written) (reverse (entries_of (goal_at numbered)))
          ∙ ap (λ l. entries ++ l) (sym (reverse-append (entries_of (goal_at numbered)) written));
    }

put_size : (entries inner : List GoalEntry) (start : ℕ) → length entries ≡ start → length (entries ++ reverse inner) - start + 1 ≡ length inner + 1
put_size entries inner start is = omega (arith, length-append entries (reverse inner), length-reverse inner)

pub writes_put : (start : ℕ) (form : Form) (at : ℕ) (span : Span) (tasks : List Task) (inner : List GoalEntry)
    → Writes start tasks inner → Writes start (Put form at span start ∷ tasks) (entry_before form at span inner)
writes_put start form at span tasks inner writes =
    record {
      from = λ entries is.
          ap (act (Put form at span start)) (writes.from entries is)
          ∙ ap (λ n. (entries ++ reverse inner) ++ record { form = form; at = at; span = span; size = n } ∷ []) (put_size entries inner start is)
          ∙ append_assoc entries (reverse inner) (record { form = form; at = at; span = span; size = length inner + 1 } ∷ [])
          ∙ ap (λ l. entries ++ l) (sym (reverse-append (record { form = form; at = at; span = span; size = length inner + 1 } ∷ []) inner));
    }

pub writes_none : (start : ℕ) → Writes start [] []
writes_none start = record { from = λ entries is. sym (append-nil entries) }

-- an entry without sub-goals
pub writes_leaf : (start : ℕ) (form : Form) (at : ℕ) (span : Span) → Writes start (Put form at span start ∷ []) (entry_before form at span [])
writes_leaf start form at span = writes_put start form at span [] [] (writes_none start)

pub writes_if : (start : ℕ) (test : Bool) (tasks others : List Task) (goal other : Written) → Writes start tasks (entries_of goal) → Writes start others (entries_of other)
    → Writes start (if test then tasks else others) (entries_of (if test then goal else other))
writes_if start true tasks others goal other a b = a
writes_if start false tasks others goal other a b = b

pub writes_members : (start : ℕ) (members : List NumberedTerm) → Writes start (map (λ n. Read n) members) (all_entries (goals_for members))
writes_members start [] = writes_none start
writes_members start (first ∷ rest) = writes_before start first (map (λ n. Read n) rest) (all_entries (goals_for rest)) (writes_members start rest)

-- one step of the loop over tasks

pub read_step : (start : ℕ) (tasks popped planned plan : List Task) (numbered : NumberedTerm) (entries : List GoalEntry) → length entries ≡ start
    → tasks ≡ popped ++ Read numbered ∷ [] → planned ≡ popped ++ plan → Writes start plan (entries_of (goal_at numbered))
    → (whole : List GoalEntry) → run tasks entries ≡ whole → run planned entries ≡ whole
read_step start tasks popped planned plan numbered entries starting popping planning writes whole before =
    ap (λ l. run l entries) planning
    ∙ run-append popped plan entries
    ∙ ap (run popped) (writes.from entries starting)
    ∙ sym (run-append popped (Read numbered ∷ []) entries)
    ∙ ap (λ l. run l entries) (sym popping)
    ∙ before

pub put_step : (tasks popped : List Task) (form : Form) (at : ℕ) (span : Span) (start size : ℕ) (entries pushed : List GoalEntry)
    → tasks ≡ popped ++ Put form at span start ∷ [] → size ≡ length entries - start + 1
    → pushed ≡ entries ++ record { form = form; at = at; span = span; size = size } ∷ []
    → (whole : List GoalEntry) → run tasks entries ≡ whole → run popped pushed ≡ whole
put_step tasks popped form at span start size entries pushed popping sizing pushing whole before =
    ap (run popped) (pushing ∙ ap (λ n. entries ++ record { form = form; at = at; span = span; size = n } ∷ []) sizing)
    ∙ sym (run-append popped (Put form at span start ∷ []) entries)
    ∙ ap (λ l. run l entries) (sym popping)
    ∙ before

-- the entries in order
pub turned : (goal : Written) (backward forward : List GoalEntry) → backward ≡ reverse (entries_of goal) → forward ≡ reverse backward → forward ≡ entries_of goal
turned goal backward forward is turning = turning ∙ ap reverse is ∙ reverse-reverse (entries_of goal)

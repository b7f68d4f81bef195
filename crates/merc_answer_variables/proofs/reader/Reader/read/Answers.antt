use Rattle.std.proofs.Common.{List, ◌∙◌, take}
use Rattle.std.proofs.lemmas.Result.{on_ok_weaker}
use Rattle.merc_goals.specs.Written.{Written, Equal, Compared, Conjunction, Parallel, Disjunction}
use Rattle.merc_goals.specs.Entries.{goals_of, called}
use Rattle.merc_value.specs.Text.{is_blank}
use Rattle.merc_answer_variables.specs.Reading.{IsRead}
use Rattle.merc_answer_variables.proofs.ReadLaws.{plain_equal, plain_compared, plain_called, free-called, beside_conjunction, beside_parallel, beside_disjunction, no_variables}
use Rattle.merc_answer_variables.proofs.reader.Reader.read.Goals as goal

pub returns-in_ok-found-in-Equal : goal.returns-in_ok-found-in-Equal
returns-in_ok-found-in-Equal c =
    rw (← c.entry.view_is)
    (on_ok_weaker c.put.result
    (λ put goals read. rw c.in-Equal.is
    (put (is_blank c.args.names.now) goals (Equal c.entry.inside.at c.in-Equal.left c.in-Equal.right c.entry.inside.span)
    (plain_equal (is_blank c.args.names.now) c.entry.inside.at c.in-Equal.left c.in-Equal.right c.entry.inside.span) c.in_ok-found-in-Equal.ensures read))
    c.put.ensures)

pub returns-in_ok-found-in-Compared : goal.returns-in_ok-found-in-Compared
returns-in_ok-found-in-Compared c =
    rw (← c.entry.view_is)
    (on_ok_weaker c.put-in-Compared.result
    (λ put goals read. rw c.in-Compared.is
    (put (is_blank c.args.names.now) goals (Compared c.entry.inside.at c.in-Compared.field-0 c.in-Compared.left c.in-Compared.right c.entry.inside.span)
    (plain_compared (is_blank c.args.names.now) c.entry.inside.at c.in-Compared.field-0 c.in-Compared.left c.in-Compared.right c.entry.inside.span)
    c.in_ok-found-in-Compared.ensures read))
    c.put-in-Compared.ensures)

pub returns-in_ok-found-in-Called : goal.returns-in_ok-found-in-Called
returns-in_ok-found-in-Called c =
    rw (← c.entry.view_is)
    (on_ok_weaker c.put-in-Called.result
    (λ put goals read. rw c.in-Called.is
    (put (is_blank c.args.names.now) goals (called c.entry.inside.at c.in-Called.term c.entry.inside.span)
    (plain_called (is_blank c.args.names.now) c.entry.inside.at c.in-Called.term c.entry.inside.span)
    (c.in_ok-found-in-Called.ensures ∙ free-called (is_blank c.args.names.now) c.entry.inside.at c.in-Called.term c.entry.inside.span) read))
    c.put-in-Called.ensures)

pub returns-in-Conjunction : goal.returns-in-Conjunction
returns-in-Conjunction c =
    rw (← c.entry.view_is)
    (on_ok_weaker c.join.result
    (λ join goals read. rw c.in-Conjunction.is
    (join (is_blank c.args.names.now) goals (Conjunction (goals_of (take c.in-Conjunction.count goals)) c.entry.inside.span)
    (beside_conjunction (is_blank c.args.names.now) (goals_of (take c.in-Conjunction.count goals)) c.entry.inside.span) read))
    c.join.ensures)

pub returns-in-Parallel : goal.returns-in-Parallel
returns-in-Parallel c =
    rw (← c.entry.view_is)
    (on_ok_weaker c.join-in-Parallel.result
    (λ join goals read. rw c.in-Parallel.is
    (join (is_blank c.args.names.now) goals (Parallel (goals_of (take c.in-Parallel.count goals)) c.entry.inside.span)
    (beside_parallel (is_blank c.args.names.now) (goals_of (take c.in-Parallel.count goals)) c.entry.inside.span) read))
    c.join-in-Parallel.ensures)

pub returns-in-Disjunction : goal.returns-in-Disjunction
returns-in-Disjunction c =
    rw (← c.entry.view_is)
    (on_ok_weaker c.join-in-Disjunction.result
    (λ join goals read. rw c.in-Disjunction.is
    (join (is_blank c.args.names.now) goals (Disjunction (goals_of (take c.in-Disjunction.count goals)) c.entry.inside.span)
    (beside_disjunction (is_blank c.args.names.now) (goals_of (take c.in-Disjunction.count goals)) c.entry.inside.span) read))
    c.join-in-Disjunction.ensures)

pub returns-in-Truth : goal.returns-in-Truth
returns-in-Truth c =
    rw (← c.entry.view_is)
    (on_ok_weaker c.put-in-Truth.result
    (λ put goals read.
    no_variables (is_blank c.args.names.now) (λ (l : List Written). IsRead (is_blank c.args.names.now) l c.put-in-Truth.new.self) c.entry.inside.form c.entry.inside.at
    c.entry.inside.span goals c.new.result.items c.new.ensures.items c.in-Truth.is (λ goal plain found. put (is_blank c.args.names.now) goals goal plain found read))
    c.put-in-Truth.ensures)

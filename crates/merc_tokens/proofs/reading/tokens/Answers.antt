use Rattle.std.proofs.Common.{sym, subst}
use Rattle.merc_tokens.specs.Outcomes.{ReadsRightly}
use Rattle.merc_tokens.specs.declared.reading.Reading.{Reading}
use Rattle.merc_tokens.proofs.FirstFaults.{IsRight, right-utf8, right-other}
use Rattle.merc_tokens.proofs.reading.tokens.Goals as goal

pub returns-in-Faulty-clause-refused : goal.returns-in-Faulty-clause-refused
returns-in-Faulty-clause-refused c =
    right-utf8 c.args.text.now c.in-Faulty.refusal c.in-None.ensures
    (subst (λ (reading : Reading). ReadsRightly c.args.text.now c.args.names.now c.read_all.new.names reading) c.in-Faulty.is c.in_ok-reading.ensures.reading)

pub returns-in-Some-clause-refused : goal.returns-in-Some-clause-refused
returns-in-Some-clause-refused c =
    let bad = c.in-Some.ensures in
    subst (IsRight c.args.text.now) (sym c.earlier-refusal.ensures)
    (right-other c.args.text.now c.in-Some.at bad.0 bad.1 c.args.names.now c.read_all.new.names c.in_ok-reading.reading c.in_ok-reading.ensures.reading)

pub returns-in-All-clause-found : goal.returns-in-All-clause-found
returns-in-All-clause-found c =
    let reads = subst (λ (reading : Reading). ReadsRightly c.args.text.now c.args.names.now c.read_all.new.names reading) c.in-All.is c.in_ok-reading.ensures.reading in
    record {
      spelled = reads.spelled;
      has = record { utf8 = c.in-None.ensures; all = reads.all };
      named = reads.texts;
      table = reads.table;
    }

use Rattle.std.proofs.Common.{length, refl}
use Rattle.std.proofs.lemmas.Result.{on_ok_weaker}
use Rattle.merc_par_split.proofs.PerformLaws.{place_step, enter_step, enter_lies, close_enough, waits_step, signals_step, close_step}
use Rattle.merc_par_split.proofs.StepLaws.{at_with}
use Rattle.merc_par_split.proofs.splitting.perform.Goals as goal

pub enter-requires : goal.enter-requires
enter-requires c = enter_lies c.args.occurrences.now c.args.task c.in-Enter.placing c.in-Enter.is c.requires.lies

pub put-requires : goal.put-requires
put-requires c = close_enough c.args.task c.in-Close.label c.args.tasks.now (length c.args.nodes.now) c.in-Close.is c.requires.enough

pub returns-in-Place : goal.returns-in-Place
returns-in-Place c =
    on_ok_weaker c.place.result (λ left. place_step c.args.occurrences.now c.args.task c.in-Place.placing c.args.tasks.now c.place.new.tasks
    (at_with c.args.nodes.now c.args.sites.now.items) c.in-Place.is left) c.place.ensures

pub returns-in-Enter : goal.returns-in-Enter
returns-in-Enter c =
    on_ok_weaker c.enter.result (λ done. enter_step c.args.occurrences.now c.args.task c.in-Enter.placing c.args.tasks.now c.enter.new.tasks
    c.args.nodes.now c.args.sites.now.items c.enter.new.sites.items c.in-Enter.is done) c.enter.ensures

pub returns-in-Waits : goal.returns-in-Waits
returns-in-Waits c =
    on_ok_weaker c.put_waits.result (λ put. waits_step c.args.occurrences.now c.args.task c.in-Waits.rights c.as_slice.result.now c.in-Waits.span c.args.tasks.now
    c.args.nodes.now c.put_waits.new.nodes c.args.sites.now.items c.in-Waits.is c.as_slice.ensures put) c.put_waits.ensures

pub returns-in-Signals : goal.returns-in-Signals
returns-in-Signals c =
    on_ok_weaker c.put_signals.result (λ put. signals_step c.args.occurrences.now c.args.task c.in-Signals.signals c.in-Signals.signals c.in-Signals.span c.args.tasks.now
    c.args.nodes.now c.put_signals.new.nodes c.args.sites.now.items c.in-Signals.is refl put) c.put_signals.ensures

pub returns-in-Close : goal.returns-in-Close
returns-in-Close c =
    on_ok_weaker c.put.result (λ put. close_step c.args.occurrences.now c.args.task c.in-Close.label c.args.tasks.now
    c.args.nodes.now c.put.new.self c.args.sites.now.items c.in-Close.is put) c.put.ensures.ok

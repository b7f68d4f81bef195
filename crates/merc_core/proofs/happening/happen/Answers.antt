use Rattle.std.proofs.Common.{◌≡◌, ◌∙◌, ap, subst, sym}
use Rattle.merc_core.specs.declared.event.Event.{Event}
use Rattle.merc_core.specs.declared.event.Event.TheVariants.{Tick, Fork, Pop, Steal, Signal, Wait, End, Resume, Lost}
use Rattle.merc_core.specs.Events.{worker_of}
use Rattle.merc_core.specs.Stepping.{Keeps}
use Rattle.merc_core.proofs.happening.happen.Goals as goal

pub returns-in-Tick : goal.returns-in-Tick
returns-in-Tick c =
    let same : Tick c.worker-worker.result ≡ c.args.event = ap Tick (c.worker-worker.ensures ∙ ap worker_of c.in-Tick.is) ∙ sym c.in-Tick.is in
    subst (λ (e : Event). Keeps c.args.course.now.items.items c.args.course.now.past.items e c.args.state.now c.tick.result c.tick.new.state) same c.tick.ensures

pub returns-in-Fork : goal.returns-in-Fork
returns-in-Fork c =
    let same : Fork c.worker-worker.result ≡ c.args.event = ap Fork (c.worker-worker.ensures ∙ ap worker_of c.in-Fork.is) ∙ sym c.in-Fork.is in
    subst (λ (e : Event). Keeps c.args.course.now.items.items c.args.course.now.past.items e c.args.state.now c.fork.result c.fork.new.state) same c.fork.ensures

pub returns-in-Pop : goal.returns-in-Pop
returns-in-Pop c =
    let same : Pop c.worker-worker.result ≡ c.args.event = ap Pop (c.worker-worker.ensures ∙ ap worker_of c.in-Pop.is) ∙ sym c.in-Pop.is in
    subst (λ (e : Event). Keeps c.args.course.now.items.items c.args.course.now.past.items e c.args.state.now c.pop.result c.pop.new.state) same c.pop.ensures

pub returns-in-Signal : goal.returns-in-Signal
returns-in-Signal c =
    let same : Signal c.worker-worker.result ≡ c.args.event = ap Signal (c.worker-worker.ensures ∙ ap worker_of c.in-Signal.is) ∙ sym c.in-Signal.is in
    subst (λ (e : Event). Keeps c.args.course.now.items.items c.args.course.now.past.items e c.args.state.now c.signal.result c.signal.new.state) same c.signal.ensures

pub returns-in-Wait : goal.returns-in-Wait
returns-in-Wait c =
    let same : Wait c.worker-worker.result ≡ c.args.event = ap Wait (c.worker-worker.ensures ∙ ap worker_of c.in-Wait.is) ∙ sym c.in-Wait.is in
    subst (λ (e : Event). Keeps c.args.course.now.items.items c.args.course.now.past.items e c.args.state.now c.wait.result c.wait.new.state) same c.wait.ensures

pub returns-in-End : goal.returns-in-End
returns-in-End c =
    let same : End c.worker-worker.result ≡ c.args.event = ap End (c.worker-worker.ensures ∙ ap worker_of c.in-End.is) ∙ sym c.in-End.is in
    subst (λ (e : Event). Keeps c.args.course.now.items.items c.args.course.now.past.items e c.args.state.now c.end.result c.end.new.state) same c.end.ensures

pub returns-in-Resume : goal.returns-in-Resume
returns-in-Resume c =
    let same : Resume c.worker-worker.result ≡ c.args.event = ap Resume (c.worker-worker.ensures ∙ ap worker_of c.in-Resume.is) ∙ sym c.in-Resume.is in
    subst (λ (e : Event). Keeps c.args.course.now.items.items c.args.course.now.past.items e c.args.state.now c.resume.result c.resume.new.state) same c.resume.ensures

pub returns-in-Lost : goal.returns-in-Lost
returns-in-Lost c =
    let same : Lost c.worker-worker.result ≡ c.args.event = ap Lost (c.worker-worker.ensures ∙ ap worker_of c.in-Lost.is) ∙ sym c.in-Lost.is in
    subst (λ (e : Event). Keeps c.args.course.now.items.items c.args.course.now.past.items e c.args.state.now c.lose.result c.lose.new.state) same c.lose.ensures

pub returns-in-Steal : goal.returns-in-Steal
returns-in-Steal c =
    let same : Steal c.worker-worker.result c.in-Steal.victim ≡ c.args.event =
    ap (λ n. Steal n c.in-Steal.victim) (c.worker-worker.ensures ∙ ap worker_of c.in-Steal.is) ∙ sym c.in-Steal.is in
    subst (λ (e : Event). Keeps c.args.course.now.items.items c.args.course.now.past.items e c.args.state.now c.steal_from.result c.steal_from.new.state) same c.steal_from.ensures

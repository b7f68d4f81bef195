-- What is wrong with a goal that cannot be ordered.
use Rattle.std.specs.Prelude.{ℕ, Option, Some}
use Rattle.merc_base.specs.Places.{place_of}
use Rattle.merc_base.specs.declared.place.Span.{Span}
use Rattle.merc_base.specs.declared.refusal.Refusal.{Refusal}
use Rattle.merc_base.specs.declared.refusal.Rule.{Rule}
use Rattle.merc_base.specs.declared.refusal.Rule.TheVariants.{NeverReady, BindsOuter, UnboundOutput}
use Rattle.merc_base.specs.declared.refusal.Detail.{Detail}
use Rattle.merc_base.specs.declared.refusal.Detail.TheVariants.{Plain, Pair}

-- a goal of which no part is left to look at
abbrev pub never_ready : Span → Refusal
never_ready span = record { rule = NeverReady; place = place_of span; detail = Plain }

-- a negated goal or a condition binds a variable that occurs outside
abbrev pub binds_outer : Span → Refusal
binds_outer span = record { rule = BindsOuter; place = place_of span; detail = Plain }

-- arms bind different variables, or an output is unbound at the end
abbrev pub unbound_output : Span → Refusal
unbound_output span = record { rule = UnboundOutput; place = place_of span; detail = Plain }

-- where a parallel conjunct that is never ready would be behind another, its number and that one's
abbrev pub needing : Rule → ℕ → Option ℕ → Detail → Detail
needing NeverReady number (Some other) detail = Pair number other
needing rule number other detail = detail

-- the fault of a parallel conjunct with this number: the fault inside it, told at the conjunct
abbrev pub conjunct_fault : ℕ → Span → Option ℕ → Refusal → Refusal
conjunct_fault number span other fault = record { rule = fault.rule; place = place_of span; detail = needing fault.rule number other fault.detail }

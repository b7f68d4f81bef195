-- Tables, clauses with and without faults, and a module whose only clause is the file's.
use Rattle.std.proofs.Common.{◌≡◌, ℕ, ◌+◌, inl, List, [], ◌∷◌, Some, None, codes, refl}
use Rattle.merc_base.specs.Names.{colon_minus_name, fixed_names}
use Rattle.merc_base.proofs.NameLaws.{fixed_names-distinct}
use Rattle.merc_base.specs.declared.place.Span.{Span}
use Rattle.merc_base.specs.declared.refusal.Refusal.{Refusal}
use Rattle.merc_tree.specs.Term.{Term, Application, none, more}
use Rattle.merc_tree.specs.Types.{IntType}
use Rattle.merc_tree.specs.declared.declarations.Clause.{Clause}
use Rattle.merc_tree.specs.declared.declarations.Module.{Module}
use Rattle.merc_flat.specs.GoalFaults.{unknown_name}
use Rattle.merc_program_laws.specs.ClauseFaults.{IsAmong, name, names as names_fault, names_phase}
use Rattle.merc_program_laws.specs.UnitClauses.{HasFaultlessUnits, IsFaultless, IsFileFault, IsTable}

pub IsTable-constants : IsTable fixed_names
IsTable-constants = record { fixed = record { text = λ number text is. is }; distinct = fixed_names-distinct }

-- a table without the constants
pub IsTable-empty : IsTable [] → ⊥
unfolding fixed_names
IsTable-empty table = let wrong = table.fixed.text 0 (codes "division by zero") refl in cc

abbrev at : ℕ → Span
at first = record { first = first; past = first + 1; line = 1 }

abbrev atom : ℕ → ℕ → Term
atom word first = Application word None none (at first)

-- the predicate p/0 with its clause `p.`

abbrev p_name : ℕ
p_name = 200

abbrev q_name : ℕ
q_name = 201

abbrev fact : Clause
fact = record { head = atom p_name 10; body = None; span = at 10 }

-- `p :- q.`, where there is no q
abbrev rule : Clause
rule = record { head = atom p_name 20; body = Some (atom q_name 25); span = at 20 }

abbrev example : List Clause → Module
example clauses = record {
  name = 99;
  units = [];
  types = [];
  preds = record { name = p_name; args = []; modes = []; span = at 0; unit = None } ∷ [];
  own = 1;
  clauses = clauses;
}

pub IsFaultless-fact : IsFaultless [] (example (fact ∷ [])) fact
IsFaultless-fact = record { form = refl; named = refl; typed = (λ n. IntType, record { head = tt; parts = (tt, tt) }) }

pub IsFaultless-unknown : IsFaultless [] (example (rule ∷ [])) rule → ⊥
IsFaultless-unknown faultless = let none = faultless.named in cc

-- a clause that is not the file's, and has a fault
pub HasFaultlessUnits-faulty : HasFaultlessUnits [] [] (example (rule ∷ [])) → ⊥
HasFaultlessUnits-faulty units = of units.unit_clauses units.whole units.faultless
  where
    of : (clauses : List Clause) → rule ∷ [] ≡ clauses → ((clause : Clause) → IsAmong clause clauses → IsFaultless [] (example (rule ∷ [])) clause) → ⊥
    of [] same all = cc
    of (first ∷ rest) same all = let is : rule ≡ first = cc in IsFaultless-unknown (all rule (inl is))

-- the item of `p :- q.`
abbrev rule_item : Term
rule_item = Application colon_minus_name None (more rule.head (more (atom q_name 25) none)) (at 20)

pub IsFileFault-rule : IsFileFault [] (rule_item ∷ []) (example (rule ∷ [])) (unknown_name (example (rule ∷ [])) (at 25))
IsFileFault-rule = record { phase = names_phase; clause = rule; among = inl refl; fault = names_fault _ (name (at 25) (inl refl)) }

-- a fault of a clause that is not the file's
pub IsFileFault-unit : (told : Refusal) → IsFileFault [] [] (example (rule ∷ [])) told → ⊥
IsFileFault-unit told is = is.among

-- The first fault of a small module, of which two items go together with no other.
use Rattle.std.proofs.Common.{ℕ, ◌+◌, List, [], ◌∷◌, None, Some, refl, arith}
use Rattle.merc_base.specs.Names.{colon_minus_name, module_name, colon_colon_name, pred_name, is_name, in_name, int_name, det_name}
use Rattle.merc_base.specs.FirstFault.{AtPlaces, HasNone, IsFirst, IsFirstOf}
use Rattle.merc_base.specs.declared.refusal.Rule.TheVariants.{DeclaredTwice, UnknownType, Undeclared}
use Rattle.merc_base.specs.declared.refusal.Detail.TheVariants.{Plain}
use Rattle.merc_base.specs.declared.refusal.Fault.TheVariants.{Refused}
use Rattle.merc_base.specs.declared.refusal.Refusal.{Refusal}
use Rattle.merc_base.proofs.FirstFaultLaws.{none_at_places, first_at_places}
use Rattle.merc_base.proofs.FirstPlaceLaws.{first_place-least}
use Rattle.merc_tree.specs.Term.{Term, Application, terms_of}
use Rattle.merc_item_forms.specs.FormFaults.{Rises, HasFormFault}
use Rattle.merc_item_forms.proofs.FormLaws.{no_fault}
use Rattle.merc_entries.specs.Entries.{Entry, entries}
use Rattle.merc_entries.specs.EntryValue.{place_at, AreInOrder}
use Rattle.merc_entries.specs.DoubleFaults.{HasDouble}
use Rattle.merc_entries.proofs.EntryOrder.{entries_in_order}
use Rattle.merc_entries.proofs.FirstDoubles.{first_double-least}
use Rattle.merc_declared.specs.UnknownTypes.{HasUnknownType}
use Rattle.merc_declared.specs.KnownTypes.{has_unknown_here}
use Rattle.merc_declared.specs.ModeFaults.{HasModeFault}
use Rattle.merc_declared.specs.AloneItems.{IsAlone}
use Rattle.merc_declared.specs.ClauseHeads.{is_alone_here}
use Rattle.merc_declared.proofs.ModeFaultLaws.{no_mode_fault, lacks_least, many_least}
use Rattle.merc_items.specs.Phases.{HasFault}
use Rattle.merc_items.proofs.FirstFaults.{clauses_refused}

abbrev m : ℕ
m = 100

abbrev n : ℕ
n = 101

abbrev p : ℕ
p = 102

-- a term that begins at this byte of this line
abbrev at_byte : ℕ → ℕ → ℕ → List Term → Term
at_byte byte line name arguments = Application name None (terms_of arguments) (record { first = byte; past = byte + 1; line = line })

abbrev apply : ℕ → List Term → Term
apply name arguments = at_byte 0 1 name arguments

-- `:- module m.`, and on line 2 `:- pred p(int::in) is det.`, and on line 4 `n.p(int).`

abbrev opening : Term
opening = at_byte 0 1 colon_minus_name (apply module_name (apply m [] ∷ []) ∷ [])

abbrev predicate : Term
predicate =
    at_byte 13 2 colon_minus_name
    (apply pred_name (apply is_name (apply p (apply colon_colon_name (apply int_name [] ∷ apply in_name [] ∷ []) ∷ []) ∷ apply det_name [] ∷ []) ∷ []) ∷ [])

abbrev clause : Term
clause = Application p (Some n) (terms_of (apply int_name [] ∷ [])) (record { first = 42; past = 50; line = 4 })

abbrev terms : List Term
terms = opening ∷ predicate ∷ clause ∷ []

abbrev all : List Entry
all = entries (λ unit. []) terms

rises : Rises terms
rises = (omega arith, (omega arith, tt))

order : AreInOrder all
order = entries_in_order (λ unit. []) terms rises

forms : HasNone (HasFormFault [] terms)
forms = no_fault [] terms rises refl

doubles : HasNone (AtPlaces DeclaredTwice (HasDouble all))
doubles = none_at_places DeclaredTwice (HasDouble all) (first_double-least all order)

types : HasNone (AtPlaces UnknownType (HasUnknownType [] m all))
types = none_at_places UnknownType (HasUnknownType [] m all) (first_place-least place_at (has_unknown_here [] m all) 0 all order)

modes : HasNone (HasModeFault all)
modes = no_mode_fault all None None (lacks_least all None order refl) (many_least all None order refl) refl

-- the predicate has no clause: the clause is another module's
abbrev on_line_two : Refusal
on_line_two = record { rule = Undeclared; place = record { byte = 13; line = 2 }; detail = Plain }

lonely : IsFirst (AtPlaces Undeclared (IsAlone m all)) on_line_two
lonely = first_at_places Undeclared (IsAlone m all) (record { byte = 13; line = 2 }) (first_place-least place_at (is_alone_here m all) 0 all order)

pub first-example : IsFirstOf (HasFault [] terms all) on_line_two
first-example = clauses_refused [] terms all forms doubles types modes (Refused on_line_two) lonely

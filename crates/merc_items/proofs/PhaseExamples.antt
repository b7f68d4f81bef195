-- Small modules with faults of two phases: the earlier phase decides, although the fault of the later one comes first in the text.
use Rattle.std.proofs.Common.{ℕ, ◌+◌, ◌*◌, List, [], ◌∷◌, None, Some, refl, arith}
use Rattle.merc_base.specs.Names.{colon_minus_name, module_name, colon_colon_name, pred_name, is_name, in_name, int_name, true_name, det_name}
use Rattle.merc_base.specs.FirstFault.{IsFirstOf}
use Rattle.merc_base.specs.declared.refusal.Rule.{Rule}
use Rattle.merc_base.specs.declared.refusal.Rule.TheVariants.{WrongForm, DeclaredTwice, UnknownType, MissingMode}
use Rattle.merc_base.specs.declared.refusal.Detail.TheVariants.{Plain}
use Rattle.merc_base.specs.declared.refusal.Fault.TheVariants.{Refused}
use Rattle.merc_base.specs.declared.refusal.Refusal.{Refusal}
use Rattle.merc_base.proofs.FirstFaultLaws.{none_at_places, first_at_places}
use Rattle.merc_base.proofs.FirstPlaceLaws.{first_place-least}
use Rattle.merc_tree.specs.Term.{Term, Application, terms_of}
use Rattle.merc_item_forms.specs.FormFaults.{Rises}
use Rattle.merc_item_forms.proofs.FormLaws.{no_fault, first_fault}
use Rattle.merc_entries.specs.Entries.{Entry, entries}
use Rattle.merc_entries.specs.EntryValue.{place_at, AreInOrder}
use Rattle.merc_entries.specs.DoubleFaults.{HasDouble}
use Rattle.merc_entries.proofs.EntryOrder.{entries_in_order}
use Rattle.merc_entries.proofs.FirstDoubles.{first_double-least}
use Rattle.merc_declared.specs.UnknownTypes.{HasUnknownType}
use Rattle.merc_declared.specs.KnownTypes.{has_unknown_here}
use Rattle.merc_declared.proofs.ModeFaultLaws.{first_mode_fault, lacks_least, many_least}
use Rattle.merc_items.specs.Phases.{HasFault}
use Rattle.merc_items.proofs.FirstFaults.{forms_refused, doubles_refused, types_refused, modes_refused}

abbrev m : ℕ
m = 100

abbrev p : ℕ
p = 101

abbrev q : ℕ
q = 102

abbrev unknown : ℕ
unknown = 103

-- the item on a line begins at ten times its number
abbrev at_line : ℕ → ℕ → List Term → Term
at_line line name arguments = Application name None (terms_of arguments) (record { first = 10 * line; past = 10 * line + 9; line = line })

abbrev apply : ℕ → List Term → Term
apply name arguments = at_line 0 name arguments

abbrev declared : ℕ → ℕ → Term → Term
declared line word argument = at_line line colon_minus_name (apply word (argument ∷ []) ∷ [])

abbrev opening : Term
opening = declared 1 module_name (apply m [])

-- `:- pred name(type).`
abbrev without_mode : ℕ → ℕ → ℕ → Term
without_mode line name type = declared line pred_name (apply name (apply type [] ∷ []))

-- `:- pred name(type::in) is det.`
abbrev with_mode : ℕ → ℕ → ℕ → Term
with_mode line name type =
    declared line pred_name (apply is_name (apply name (apply colon_colon_name (apply type [] ∷ apply in_name [] ∷ []) ∷ []) ∷ apply det_name [] ∷ []))

-- `name(int).`
abbrev fact : ℕ → ℕ → Term
fact line name = at_line line name (apply int_name [] ∷ [])

abbrev all : List Term → List Entry
all terms = entries (λ unit. []) terms

abbrev on_line : ℕ → Rule → Refusal
on_line line rule = record { rule = rule; place = record { byte = 10 * line; line = line }; detail = Plain }

order : (terms : List Term) → Rises terms → AreInOrder (all terms)
order terms rises = entries_in_order (λ unit. []) terms rises

-- `:- pred p(int).` twice, and behind them the clause `true.`: its form is told
abbrev form_last : List Term
form_last = opening ∷ without_mode 2 p int_name ∷ without_mode 3 p int_name ∷ at_line 4 true_name [] ∷ []

form-rises : Rises form_last
form-rises = (omega arith, (omega arith, (omega arith, tt)))

pub form-example : IsFirstOf (HasFault [] form_last (all form_last)) (on_line 4 WrongForm)
form-example = forms_refused [] form_last (all form_last) (Refused (on_line 4 WrongForm)) (first_fault [] form_last (on_line 4 WrongForm) form-rises refl)

-- `:- pred p(unknown::in) is det.` twice: that it is declared twice is told, at the second one
abbrev double_last : List Term
double_last = opening ∷ with_mode 2 p unknown ∷ with_mode 3 p unknown ∷ []

double-rises : Rises double_last
double-rises = (omega arith, (omega arith, tt))

pub double-example : IsFirstOf (HasFault [] double_last (all double_last)) (on_line 3 DeclaredTwice)
double-example =
    doubles_refused [] double_last (all double_last) (no_fault [] double_last double-rises refl) (Refused (on_line 3 DeclaredTwice))
    (first_at_places DeclaredTwice (HasDouble (all double_last)) (record { byte = 30; line = 3 }) (first_double-least (all double_last) (order double_last double-rises)))

-- `:- pred p(int).` without a mode, and behind it `:- pred q(unknown::in) is det.`: the unknown type is told
abbrev type_last : List Term
type_last = opening ∷ without_mode 2 p int_name ∷ with_mode 3 q unknown ∷ []

type-rises : Rises type_last
type-rises = (omega arith, (omega arith, tt))

pub type-example : IsFirstOf (HasFault [] type_last (all type_last)) (on_line 3 UnknownType)
type-example =
    types_refused [] type_last (all type_last) (no_fault [] type_last type-rises refl)
    (none_at_places DeclaredTwice (HasDouble (all type_last)) (first_double-least (all type_last) (order type_last type-rises)))
    (Refused (on_line 3 UnknownType))
    (first_at_places UnknownType (HasUnknownType [] m (all type_last)) (record { byte = 30; line = 3 })
    (first_place-least place_at (has_unknown_here [] m (all type_last)) 0 (all type_last) (order type_last type-rises)))

-- `p(int).` without a declaration, and behind it `:- pred q(int).` without a mode: the missing mode is told
abbrev mode_last : List Term
mode_last = opening ∷ fact 2 p ∷ without_mode 3 q int_name ∷ []

mode-rises : Rises mode_last
mode-rises = (omega arith, (omega arith, tt))

pub mode-example : IsFirstOf (HasFault [] mode_last (all mode_last)) (on_line 3 MissingMode)
mode-example =
    modes_refused [] mode_last (all mode_last) (no_fault [] mode_last mode-rises refl)
    (none_at_places DeclaredTwice (HasDouble (all mode_last)) (first_double-least (all mode_last) (order mode_last mode-rises)))
    (none_at_places UnknownType (HasUnknownType [] m (all mode_last))
    (first_place-least place_at (has_unknown_here [] m (all mode_last)) 0 (all mode_last) (order mode_last mode-rises)))
    (Refused (on_line 3 MissingMode))
    (first_mode_fault (all mode_last) (Some (record { byte = 30; line = 3 })) None (on_line 3 MissingMode) (lacks_least (all mode_last) (Some (record { byte = 30; line = 3 })) (order mode_last mode-rises) refl)
    (many_least (all mode_last) None (order mode_last mode-rises) refl) refl)

-- Links between the names 0, 1 and 2 of the first side, and between the name 1 of it and the name 0 of the second.
use Rattle.std.specs.Prelude.{◌≡◌, ℕ, zero, suc, ◌<◌, Bool, true, false, cond, List, [], ◌∷◌, Option, None, Some}
use Rattle.std.specs.List.{AllByRecursion}
use Rattle.std.specs.Map.{lookup}
use Rattle.std.specs.Option.{IfSome}
use Rattle.std.specs.Ordering.{is_eq, nat_cmp}
use Rattle.std.specs.BTreeMap.{IsEmpty, get, is_at}
use Rattle.std.proofs.Common.{refl, sym, subst, ◌∙◌, arith}
use Rattle.std.proofs.lemmas.Bool.Decides.{nat_tests}
use Rattle.merc_tree.specs.Types.{TypeExpr, IntType, TextType}
use Rattle.merc_type_matching.specs.declared.linked.LinkedNames.{LinkedNames}
use Rattle.merc_type_matching.specs.Linked.{Agree, IsFalling, Joins, LeadsTo, Links, SameLinks}

abbrev ints : ℕ → TypeExpr
ints name = IntType

abbrev texts : ℕ → TypeExpr
texts name = TextType

-- the name 0 has another type than all others
abbrev zero_int : ℕ → TypeExpr
zero_int zero = IntType
zero_int (suc name) = TextType

-- nothing is linked
abbrev NoLinks : LinkedNames → Type 0
NoLinks linked = IsEmpty linked.lesser × IsEmpty linked.beside

-- the names 1 and 0 of the first side
abbrev OneZero : LinkedNames → Type 0
OneZero linked = (linked.lesser.entries ≡ (1, 0) ∷ []) × IsEmpty linked.beside

-- the name 1 of the first side and the name 0 of the second
abbrev OneBesideZero : LinkedNames → Type 0
OneBesideZero linked = IsEmpty linked.lesser × (linked.beside.entries ≡ (0, 1) ∷ [])

-- what is said of a name's entry
at_name : (entries now : List (ℕ × ℕ)) (name : ℕ) (P : ℕ → Type 0) → entries ≡ now → IfSome (lookup (is_at (nat_cmp name)) entries) P → IfSome (lookup (is_at (nat_cmp name)) now) P
at_name entries now name P is has = subst (λ (es : List (ℕ × ℕ)). IfSome (lookup (is_at (nat_cmp name)) es) P) is has

-- what holds of each entry holds of that at a name
pub each_entry : (P : ℕ → ℕ → Type 0) (entries : List (ℕ × ℕ)) → AllByRecursion (λ (entry : ℕ × ℕ). P entry.0 entry.1) entries → (name : ℕ)
    → IfSome (lookup (is_at (nat_cmp name)) entries) (P name)
each_entry P [] all name = tt
each_entry P (entry ∷ entries) all name = by (each_entry P entries all.1 name) (is_eq (nat_cmp name entry.0)) refl
  where
    by : IfSome (lookup (is_at (nat_cmp name)) entries) (P name) → (here : Bool) → is_eq (nat_cmp name entry.0) ≡ here
        → IfSome (cond here (Some entry.1) (lookup (is_at (nat_cmp name)) entries)) (P name)
    by rest true e = let same : entry.0 ≡ name = grind (arith, nat_tests) in subst (λ (n : ℕ). P n entry.1) same all.0
    by rest false e = rest

falling_none : (linked : LinkedNames) → IsEmpty linked.lesser → IsFalling (get nat_cmp linked.lesser)
falling_none linked none = λ name. rw none tt

agree_none : (linked : LinkedNames) → NoLinks linked → (one other : ℕ → TypeExpr) → Agree linked one other
agree_none linked none one other = record { lesser = λ name. rw (none.0) tt; beside = λ name. rw (none.1) tt }

falling_one : (linked : LinkedNames) → OneZero linked → IsFalling (get nat_cmp linked.lesser)
falling_one linked is = λ name. rw (is.0) (each_entry (λ name less. less < name) ((1, 0) ∷ []) (omega arith, tt) name)

agree_one : (linked : LinkedNames) → OneZero linked → (one other : ℕ → TypeExpr) → one 0 ≡ one 1 → Agree linked one other
agree_one linked is one other same = record {
  lesser = λ name. rw (is.0) (each_entry (λ name less. one less ≡ one name) ((1, 0) ∷ []) (same, tt) name);
  beside = λ name. rw (is.1) tt;
}

one_agrees : (linked : LinkedNames) → OneZero linked → (one other : ℕ → TypeExpr) → Agree linked one other → one 0 ≡ one 1
one_agrees linked is one other agree = at_name linked.lesser.entries ((1, 0) ∷ []) 1 (λ less. one less ≡ one 1) (is.0) (agree.lesser 1)

agree_beside : (linked : LinkedNames) → OneBesideZero linked → (one other : ℕ → TypeExpr) → one 1 ≡ other 0 → Agree linked one other
agree_beside linked is one other same = record {
  lesser = λ name. rw (is.0) tt;
  beside = λ name. rw (is.1) (each_entry (λ name first. one first ≡ other name) ((0, 1) ∷ []) (same, tt) name);
}

beside_agrees : (linked : LinkedNames) → OneBesideZero linked → (one other : ℕ → TypeExpr) → Agree linked one other → one 1 ≡ other 0
beside_agrees linked is one other agree = at_name linked.beside.entries ((0, 1) ∷ []) 0 (λ first. one first ≡ other 0) (is.1) (agree.beside 0)

-- both names have the type `int`, or one has the type `string`
Agree-ints : (linked : LinkedNames) → OneBesideZero linked → Agree linked ints ints
Agree-ints linked is = agree_beside linked is ints ints refl

Agree-apart : (linked : LinkedNames) → OneBesideZero linked → Agree linked ints texts → ⊥
Agree-apart linked is agree = let same : IntType ≡ TextType = beside_agrees linked is ints texts agree in cc

-- the name 2 has 1, which has 0, or has 0 itself
SameLinks-shorter : (old new : LinkedNames) → old.lesser.entries ≡ (1, 0) ∷ (2, 1) ∷ [] → new.lesser.entries ≡ (1, 0) ∷ (2, 0) ∷ [] → new.beside ≡ old.beside → SameLinks old new
SameLinks-shorter old new is now beside = record {
  falling = λ name. rw now (each_entry (λ name less. less < name) ((1, 0) ∷ (2, 0) ∷ []) (omega arith, (omega arith, tt)) name);
  least = λ name none. rw now (least (is_eq (nat_cmp name 1)) (is_eq (nat_cmp name 2)) (subst (λ (es : List (ℕ × ℕ)). lookup (is_at (nat_cmp name)) es ≡ None) is none));
  agree = λ one other. (
    (λ agree. record {
      lesser = λ name. rw is (each_entry (λ name less. one less ≡ one name) ((1, 0) ∷ (2, 1) ∷ []) (
        at_name new.lesser.entries ((1, 0) ∷ (2, 0) ∷ []) 1 (λ less. one less ≡ one 1) now (agree.lesser 1),
        (
          sym (at_name new.lesser.entries ((1, 0) ∷ (2, 0) ∷ []) 1 (λ less. one less ≡ one 1) now (agree.lesser 1))
              ∙ at_name new.lesser.entries ((1, 0) ∷ (2, 0) ∷ []) 2 (λ less. one less ≡ one 2) now (agree.lesser 2),
          tt,
        ),
      ) name);
      beside = λ name. rw (sym beside) (agree.beside name);
    }),
    (λ agree. record {
      lesser = λ name. rw now (each_entry (λ name less. one less ≡ one name) ((1, 0) ∷ (2, 0) ∷ []) (
        at_name old.lesser.entries ((1, 0) ∷ (2, 1) ∷ []) 1 (λ less. one less ≡ one 1) is (agree.lesser 1),
        (
          at_name old.lesser.entries ((1, 0) ∷ (2, 1) ∷ []) 1 (λ less. one less ≡ one 1) is (agree.lesser 1)
              ∙ at_name old.lesser.entries ((1, 0) ∷ (2, 1) ∷ []) 2 (λ less. one less ≡ one 2) is (agree.lesser 2),
          tt,
        ),
      ) name);
      beside = λ name. rw beside (agree.beside name);
    }),
  );
}
  where
    least : (at_one at_two : Bool) → cond {A = Option ℕ} at_one (Some 0) (cond at_two (Some 1) None) ≡ None → cond {A = Option ℕ} at_one (Some 0) (cond at_two (Some 0) None) ≡ None
    least true at_two none = absurd (cc)
    least false true none = absurd (cc)
    least false false none = refl

-- a link is lost
SameLinks-lost : (old new : LinkedNames) → OneZero old → NoLinks new → SameLinks old new → ⊥
SameLinks-lost old new is none links =
    let same : IntType ≡ TextType = one_agrees old is zero_int ints ((links.agree zero_int ints).0 (agree_none new none zero_int ints)) in cc

-- the name 1 is of the class of 0, whose least name is not 1
same_links : (linked : LinkedNames) → OneZero linked → SameLinks linked linked
same_links linked is = record { falling = falling_one linked is; least = λ name none. none; agree = λ one other. ((λ agree. agree), (λ agree. agree)) }

LeadsTo-zero : (linked : LinkedNames) → OneZero linked → LeadsTo linked linked 1 0
LeadsTo-zero linked is = record { links = same_links linked is; is_least = rw (is.0) refl; same = λ one other agree. one_agrees linked is one other agree }

LeadsTo-itself : (linked : LinkedNames) → OneZero linked → LeadsTo linked linked 1 1 → ⊥
LeadsTo-itself linked is leads =
    let apart : ◌≡◌ {A = Option ℕ} (Some 0) None = subst (λ (es : List (ℕ × ℕ)). lookup (is_at (nat_cmp 1)) es ≡ None) (is.0) leads.is_least in cc

-- the names 0 and 1 of the first side are put into one class, or are left as they were
Joins-both : (old new : LinkedNames) → NoLinks old → OneZero new → Joins true old new 0 1
Joins-both old new none is = record {
  falling = falling_one new is;
  agree = λ one other. ((λ agree. (agree_none old none one other, one_agrees new is one other agree)), (λ both. agree_one new is one other both.1));
  follows = λ e. absurd (cc);
}

Joins-none : (linked : LinkedNames) → NoLinks linked → Joins true linked linked 0 1 → ⊥
Joins-none linked none joins =
    let same : IntType ≡ TextType = ((joins.agree zero_int ints).0 (agree_none linked none zero_int ints)).1 in cc

-- the name 1 of the first side and the name 0 of the second are linked, which is new; or they were; or they are not
Links-new : (old new : LinkedNames) → NoLinks old → OneBesideZero new → Links true old new 1 0
Links-new old new none is = record {
  falling = falling_none new (is.0);
  agree = λ one other. ((λ agree. (agree_none old none one other, beside_agrees new is one other agree)), (λ both. agree_beside new is one other both.1));
  follows = λ e. absurd (cc);
}

Links-again : (linked : LinkedNames) → OneBesideZero linked → Links false linked linked 1 0
Links-again linked is = record {
  falling = falling_none linked (is.0);
  agree = λ one other. ((λ agree. (agree, beside_agrees linked is one other agree)), (λ both. both.0));
  follows = λ e one other agree. beside_agrees linked is one other agree;
}

Links-none : (linked : LinkedNames) → NoLinks linked → Links true linked linked 1 0 → ⊥
Links-none linked none links =
    let same : IntType ≡ TextType = ((links.agree ints texts).0 (agree_none linked none ints texts)).1 in cc

-- Names of two sides that are linked.
use Rattle.std.proofs.Common.{◌≡◌, ℕ, ◌<◌, Bool, true, false, cond, Option, None, Some, refl, sym, ap, subst, ◌∙◌, arith}
use Rattle.std.specs.Option.{IfSome}
use Rattle.std.specs.Ordering.{is_eq, nat_cmp}
use Rattle.std.specs.BTreeMap.{BTreeMap, IsEmpty, get}
use Rattle.merc_tree.specs.Types.{TypeExpr}
use Rattle.merc_type_matching.specs.Linked.{Agree, HaveTypesOf, IsFalling, Joins, LeadsTo, Links, SameLinks}
use Rattle.merc_type_matching.specs.declared.linked.LinkedNames.{LinkedNames}
use Rattle.merc_type_matching.proofs.Maps.{all_before, all_changed, changed_here, number-equal, number-same, Changes}

-- what holds of all holds of this one
of_this : (Q : ℕ → ℕ → Type 0) (found : ℕ → Option ℕ) (name other : ℕ) → ((n : ℕ) → IfSome (found n) (Q n)) → found name ≡ Some other → Q name other
of_this Q found name other all is = subst (λ (o : Option ℕ). IfSome o (Q name)) is (all name)

pub falls_to : (found : ℕ → Option ℕ) (name other : ℕ) → IsFalling found → found name ≡ Some other → other < name
falls_to found name other falling is = of_this (λ (n m : ℕ). m < n) found name other falling is

has_type : (found : ℕ → Option ℕ) (types others : ℕ → TypeExpr) (name other : ℕ) → HaveTypesOf found types others → found name ≡ Some other → others other ≡ types name
has_type found types others name other have is = of_this (λ (n m : ℕ). others m ≡ types n) found name other have is

-- another name's entry is as it was
changed_other : (old new : BTreeMap ℕ ℕ) (name other : ℕ) (value : Option ℕ) → Changes nat_cmp old new name value → other < name → get nat_cmp new other ≡ get nat_cmp old other
changed_other old new name other value changes less = by (is_eq (nat_cmp name other)) refl
  where
    by : (b : Bool) → is_eq (nat_cmp name other) ≡ b → get nat_cmp new other ≡ get nat_cmp old other
    by true e = let same : name ≡ other = number-equal name other e in absurd (omega arith)
    by false e = changes other ∙ ap (λ (b : Bool). cond b value (get nat_cmp old other)) e

-- no names
pub falling_none : (linked : LinkedNames) → IsEmpty linked.lesser → IsFalling (get nat_cmp linked.lesser)
falling_none linked empty = λ name. rw empty tt

pub agree_none : (linked : LinkedNames) → IsEmpty linked.lesser → IsEmpty linked.beside → (one other : ℕ → TypeExpr) → Agree linked one other
agree_none linked empty empty' one other = record { lesser = λ name. rw empty tt; beside = λ name. rw empty' tt }

-- the same links
pub same_links : (linked : LinkedNames) → IsFalling (get nat_cmp linked.lesser) → SameLinks linked linked
same_links linked falling = record { falling = falling; least = λ name none. none; agree = λ one other. ((λ agree. agree), (λ agree. agree)) }

pub links_through : (first second third : LinkedNames) → SameLinks first second → SameLinks second third → SameLinks first third
links_through first second third one two = record {
  falling = two.falling;
  least = λ name none. two.least name (one.least name none);
  agree = λ types others. (
    (λ agree. (one.agree types others).0 ((two.agree types others).0 agree)),
    (λ agree. (two.agree types others).1 ((one.agree types others).1 agree)),
  );
}

-- a name gets the lesser one of its own lesser one
pub links_shorter : (old : LinkedNames) (new : BTreeMap ℕ ℕ) (name next last : ℕ) → IsFalling (get nat_cmp old.lesser) → get nat_cmp old.lesser name ≡ Some next
    → get nat_cmp old.lesser next ≡ Some last → Changes nat_cmp old.lesser new name (Some last) → SameLinks old (record { lesser = new; beside = old.beside })
links_shorter old new name next last falling is is_next changes =
    let less : next < name = falls_to (get nat_cmp old.lesser) name next falling is in
    let less' : last < next = falls_to (get nat_cmp old.lesser) next last falling is_next in
    let now : get nat_cmp new name ≡ Some last = changed_here nat_cmp old.lesser new name (Some last) (number-same name) changes in
    let now_next : get nat_cmp new next ≡ Some last = changed_other old.lesser new name next (Some last) changes less ∙ is_next in
    record {
      falling = all_changed nat_cmp number-equal (λ (n m : ℕ). m < n) old.lesser new name (Some last) changes (omega arith) falling;
      least = λ other none. by other none (is_eq (nat_cmp name other)) refl;
      agree = λ one other. (
        (λ agree. record {
          lesser = all_before nat_cmp number-equal (λ (n m : ℕ). one m ≡ one n) old.lesser new name (Some last) (Some next) changes is
              (sym (has_type (get nat_cmp new) one one next last agree.lesser now_next) ∙ has_type (get nat_cmp new) one one name last agree.lesser now) agree.lesser;
          beside = agree.beside;
        }),
        (λ agree. record {
          lesser = all_changed nat_cmp number-equal (λ (n m : ℕ). one m ≡ one n) old.lesser new name (Some last) changes
              (has_type (get nat_cmp old.lesser) one one next last agree.lesser is_next ∙ has_type (get nat_cmp old.lesser) one one name next agree.lesser is) agree.lesser;
          beside = agree.beside;
        }),
      );
    }
  where
    by : (other : ℕ) → get nat_cmp old.lesser other ≡ None → (b : Bool) → is_eq (nat_cmp name other) ≡ b → get nat_cmp new other ≡ None
    by other none true e =
        let both : get nat_cmp old.lesser other ≡ Some next = subst (λ (n : ℕ). get nat_cmp old.lesser n ≡ Some next) (number-equal name other e) is in
        let apart : Some next ≡ None = sym both ∙ none in
        absurd (cc)
    by other none false e = changes other ∙ ap (λ (b : Bool). cond b (Some last) (get nat_cmp old.lesser other)) e ∙ none

-- one step on the way to the least name
pub step_same : (old now : LinkedNames) (name at next : ℕ) → SameLinks old now → get nat_cmp now.lesser at ≡ Some next
    → ((one other : ℕ → TypeExpr) → Agree old one other → one at ≡ one name) → (one other : ℕ → TypeExpr) → Agree old one other → one next ≡ one name
step_same old now name at next links is same one other agree =
    has_type (get nat_cmp now.lesser) one one at next ((links.agree one other).1 agree).lesser is ∙ same one other agree

-- the least names of two classes are one
pub joins_same : (old middle new : LinkedNames) (name name' least least' : ℕ) → LeadsTo old middle name least → LeadsTo middle new name' least' → least ≡ least'
    → Joins false old new name name'
joins_same old middle new name name' least least' leads leads' is = record {
  falling = leads'.links.falling;
  agree = λ one other. (
    (λ agree. let before = (leads.links.agree one other).0 ((leads'.links.agree one other).0 agree) in (before, same one other before)),
    (λ both. (leads'.links.agree one other).1 ((leads.links.agree one other).1 both.0)),
  );
  follows = λ e one other agree. same one other agree;
}
  where
    same : (one other : ℕ → TypeExpr) → Agree old one other → one name ≡ one name'
    same one other agree = sym (leads.same one other agree) ∙ ap one is ∙ leads'.same one other ((leads.links.agree one other).1 agree)

-- the least name of a class gets a lesser one
pub puts : (old : LinkedNames) (new : BTreeMap ℕ ℕ) (greater smaller : ℕ) → IsFalling (get nat_cmp old.lesser) → smaller < greater → get nat_cmp old.lesser greater ≡ None
    → Changes nat_cmp old.lesser new greater (Some smaller) → Joins true old (record { lesser = new; beside = old.beside }) smaller greater
puts old new greater smaller falling less none changes = record {
  falling = all_changed nat_cmp number-equal (λ (n m : ℕ). m < n) old.lesser new greater (Some smaller) changes less falling;
  agree = λ one other. (
    (λ agree. (
      record { lesser = all_before nat_cmp number-equal (λ (n m : ℕ). one m ≡ one n) old.lesser new greater (Some smaller) None changes none tt agree.lesser; beside = agree.beside },
      has_type (get nat_cmp new) one one greater smaller agree.lesser (changed_here nat_cmp old.lesser new greater (Some smaller) (number-same greater) changes),
    )),
    (λ both. record {
      lesser = all_changed nat_cmp number-equal (λ (n m : ℕ). one m ≡ one n) old.lesser new greater (Some smaller) changes both.1 both.0.lesser;
      beside = both.0.beside;
    }),
  );
  follows = λ e. absurd (cc);
}

swapped : (is_new : Bool) (old new : LinkedNames) (name name' : ℕ) → Joins is_new old new name name' → Joins is_new old new name' name
swapped is_new old new name name' joins = record {
  falling = joins.falling;
  agree = λ one other. (
    (λ agree. let both = (joins.agree one other).0 agree in (both.0, sym both.1)),
    (λ both. (joins.agree one other).1 (both.0, sym both.1)),
  );
  follows = λ e one other agree. sym (joins.follows e one other agree);
}

-- the least names of two classes are linked
joins_least : (old middle now new : LinkedNames) (name name' least least' : ℕ) → LeadsTo old middle name least → LeadsTo middle now name' least' → Joins true now new least least'
    → Joins true old new name name'
joins_least old middle now new name name' least least' leads leads' joins = record {
  falling = joins.falling;
  agree = λ one other. (
    (λ agree.
        let both = (joins.agree one other).0 agree in
        let before' = (leads'.links.agree one other).0 both.0 in
        let before = (leads.links.agree one other).0 before' in
        (before, sym (leads.same one other before) ∙ both.1 ∙ leads'.same one other before')),
    (λ both.
        let after = (leads.links.agree one other).1 both.0 in
        (joins.agree one other).1 ((leads'.links.agree one other).1 after, leads.same one other both.0 ∙ both.1 ∙ sym (leads'.same one other after))),
  );
  follows = λ e. absurd (cc);
}

pub joins_first : (old middle now : LinkedNames) (new : BTreeMap ℕ ℕ) (name name' least least' : ℕ) → LeadsTo old middle name least → LeadsTo middle now name' least' → least < least'
    → Changes nat_cmp now.lesser new least' (Some least) → Joins true old (record { lesser = new; beside = now.beside }) name name'
joins_first old middle now new name name' least least' leads leads' less changes =
    joins_least old middle now (record { lesser = new; beside = now.beside }) name name' least least' leads leads'
    (puts now new least' least leads'.links.falling less leads'.is_least changes)

pub joins_second : (old middle now : LinkedNames) (new : BTreeMap ℕ ℕ) (name name' least least' : ℕ) → LeadsTo old middle name least → LeadsTo middle now name' least' → least' < least
    → Changes nat_cmp now.lesser new least (Some least') → Joins true old (record { lesser = new; beside = now.beside }) name name'
joins_second old middle now new name name' least least' leads leads' less changes =
    joins_least old middle now (record { lesser = new; beside = now.beside }) name name' least least' leads leads'
    (swapped true now (record { lesser = new; beside = now.beside }) least' least
    (puts now new least least' leads'.links.falling less (leads'.links.least least leads.is_least) changes))

-- a name of the second side that has one of the first
pub links_joined : (is_new : Bool) (old new : LinkedNames) (name name' first : ℕ) → get nat_cmp old.beside name' ≡ Some first → Joins is_new old new first name → Links is_new old new name name'
links_joined is_new old new name name' first is joins = record {
  falling = joins.falling;
  agree = λ one other. (
    (λ agree. let both = (joins.agree one other).0 agree in (both.0, sym both.1 ∙ beside one other both.0)),
    (λ both. (joins.agree one other).1 (both.0, beside one other both.0 ∙ sym both.1)),
  );
  follows = λ e one other agree. sym (joins.follows e one other agree) ∙ beside one other agree;
}
  where
    beside : (one other : ℕ → TypeExpr) → Agree old one other → one first ≡ other name'
    beside one other agree = has_type (get nat_cmp old.beside) other one name' first agree.beside is

-- and one that had none
pub links_new : (old : LinkedNames) (new : BTreeMap ℕ ℕ) (name name' : ℕ) → IsFalling (get nat_cmp old.lesser) → get nat_cmp old.beside name' ≡ None
    → Changes nat_cmp old.beside new name' (Some name) → Links true old (record { lesser = old.lesser; beside = new }) name name'
links_new old new name name' falling none changes = record {
  falling = falling;
  agree = λ one other. (
    (λ agree. (
      record { lesser = agree.lesser; beside = all_before nat_cmp number-equal (λ (n m : ℕ). one m ≡ other n) old.beside new name' (Some name) None changes none tt agree.beside },
      has_type (get nat_cmp new) other one name' name agree.beside (changed_here nat_cmp old.beside new name' (Some name) (number-same name') changes),
    )),
    (λ both. record {
      lesser = both.0.lesser;
      beside = all_changed nat_cmp number-equal (λ (n m : ℕ). one m ≡ other n) old.beside new name' (Some name) changes both.1 both.0.beside;
    }),
  );
  follows = λ e. absurd (cc);
}

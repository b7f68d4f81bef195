-- The parts of a term that is read begin within it: from its first token on, and before what is read behind it.
use Rattle.std.proofs.Common.{◌≡◌, ℕ, suc, ◌≤◌, ◌<◌, Bool, true, Option, Some, None, List, [], ◌∷◌, refl, sym, subst, arith}
use Rattle.merc_base.specs.declared.place.Span.{Span}
use Rattle.merc_tokens.specs.declared.token.Token.{Token}
use Rattle.merc_tree.specs.Term.{Term, Terms, Variable, Integer, Text, Application, none, more, span_of, with_span}
use Rattle.merc_terms.specs.Reading.{token, joined, Spells, SpellsArguments, SpellsItems}
use Rattle.merc_terms.specs.Reading.Spells.{variable, integer, negative, text, constant, qualified, application, qualified_application, empty_list, list, parenthesis, before, quantifier, between}
use Rattle.merc_terms.specs.Reading.SpellsArguments.{last_argument, argument}
use Rattle.merc_terms.specs.Reading.SpellsItems.{last_item, items_tail, item as next_item}
use Rattle.merc_terms.specs.Items.{HasItems, none as no_items, item}
use Rattle.merc_items.proofs.Rising.{StartFrom, earlier, with_span-first}

abbrev pub Within : ℕ → ℕ → Span → Type 0
Within from to span = (from ≤ span.first) × (span.first < to)

-- each part of a term begins from one byte on and before another
abbrev mutual
  pub Lies : ℕ → ℕ → Term → Type 0
  Lies from to (Variable name span) = Within from to span
  Lies from to (Integer value span) = Within from to span
  Lies from to (Text name span) = Within from to span
  Lies from to (Application name qualifier arguments span) = Within from to span × LieAll from to arguments

  pub LieAll : ℕ → ℕ → Terms → Type 0
  LieAll from to none = Unit {0}
  LieAll from to (more first rest) = Lies from to first × LieAll from to rest

pub root_within : (from to : ℕ) (term : Term) → Lies from to term → Within from to (span_of term)
root_within from to (Variable name span) lies = lies
root_within from to (Integer value span) lies = lies
root_within from to (Text name span) lies = lies
root_within from to (Application name qualifier arguments span) lies = lies.0

within_wider : (from from' to to' : ℕ) (span : Span) → from' ≤ from → to ≤ to' → Within from to span → Within from' to' span
within_wider from from' to to' span low high within = (omega (arith, low, within.0), omega (arith, high, within.1))

mutual
  wider : (from from' to to' : ℕ) (term : Term) → from' ≤ from → to ≤ to' → Lies from to term → Lies from' to' term
  wider from from' to to' (Variable name span) low high lies = within_wider from from' to to' span low high lies
  wider from from' to to' (Integer value span) low high lies = within_wider from from' to to' span low high lies
  wider from from' to to' (Text name span) low high lies = within_wider from from' to to' span low high lies
  wider from from' to to' (Application name qualifier arguments span) low high lies =
      (within_wider from from' to to' span low high lies.0, all_wider from from' to to' arguments low high lies.1)

  all_wider : (from from' to to' : ℕ) (terms : Terms) → from' ≤ from → to ≤ to' → LieAll from to terms → LieAll from' to' terms
  all_wider from from' to to' none low high lie = tt
  all_wider from from' to to' (more first rest) low high lie = (wider from from' to to' first low high lie.0, all_wider from from' to to' rest low high lie.1)

with_span-lies : (from to : ℕ) (span : Span) (term : Term) → from ≤ span.first → span.first < to → Lies from to term → Lies from to (with_span span term)
with_span-lies from to span (Variable name old) least most lies = (least, most)
with_span-lies from to span (Integer value old) least most lies = (least, most)
with_span-lies from to span (Text name old) least most lies = (least, most)
with_span-lies from to span (Application name qualifier arguments old) least most lies = ((least, most), lies.1)

-- a term that begins at a byte or behind it, its parts within it, and the tokens behind it
record IsPlaced (at : ℕ) (term : Term) (rest : List Token) : Type 0 where
  begins : at ≤ (span_of term).first
  to : ℕ
  lies : Lies (span_of term).first to term
  starts : StartFrom to rest

record ArePlaced (at : ℕ) (terms : Terms) (rest : List Token) : Type 0 where
  to : ℕ
  above : at ≤ to
  lie : LieAll at to terms
  starts : StartFrom to rest

record IsListPlaced (at : ℕ) (whole : Span) (term : Term) (rest : List Token) : Type 0 where
  root : span_of term ≡ whole
  to : ℕ
  above : at ≤ to
  lies : Lies whole.first to term
  starts : StartFrom to rest

ends_behind : (at : ℕ) (term : Term) (rest : List Token) (placed : IsPlaced at term rest) → (span_of term).first < placed.to
ends_behind at term rest placed = (root_within (span_of term).first placed.to term placed.lies).1

-- the parts of a term that begins at a byte or behind it, of a whole that goes on
within : (at : ℕ) (term : Term) (rest : List Token) (placed : IsPlaced at term rest) (from to : ℕ) → from ≤ at → placed.to ≤ to → Lies from to term
within at term rest placed from to less most = let begins = placed.begins in wider (span_of term).first from placed.to to term (omega (arith, begins, less)) most placed.lies

list_placed : (at from : ℕ) (whole : Span) (term : Term) (rest : List Token) → at ≤ whole.first → IsListPlaced from whole term rest → IsPlaced at term rest
list_placed at from whole term rest least placed = record {
  begins = subst (λ (span : Span). at ≤ span.first) (sym placed.root) least;
  to = placed.to;
  lies = subst (λ (span : Span). Lies span.first placed.to term) (sym placed.root) placed.lies;
  starts = placed.starts;
}

application_placed : (at name : ℕ) (qualifier : Option ℕ) (arguments : Terms) (span close : Span) (from : ℕ) (rest : List Token)
    → at ≤ span.first → span.first < from → ArePlaced from arguments rest → IsPlaced at (Application name qualifier arguments (joined span close)) rest
application_placed at name qualifier arguments span close from rest least below inside =
    let above = inside.above in
    record {
      begins = least;
      to = inside.to;
      lies = ((omega arith, omega (arith, above, below)), all_wider from span.first inside.to inside.to arguments (omega (arith, below)) (omega arith) inside.lie);
      starts = inside.starts;
    }

mutual
  term_placed : (at : ℕ) (commas : Bool) (term : Term) (priority : ℕ) (tokens rest : List Token) → Spells commas term priority tokens rest → StartFrom at tokens → IsPlaced at term rest
  term_placed at commas _ priority _ rest (variable _ name span _) starts = record { begins = starts.0; to = suc span.first; lies = (omega arith, omega arith); starts = starts.1 }
  term_placed at commas _ priority _ rest (integer _ value span _) starts = record { begins = starts.0; to = suc span.first; lies = (omega arith, omega arith); starts = starts.1 }
  term_placed at commas _ priority _ rest (negative _ value sign span _) starts =
      let behind = starts.1.0 in
      record { begins = starts.0; to = suc span.first; lies = (omega arith, omega (arith, behind)); starts = starts.1.1 }
  term_placed at commas _ priority _ rest (text _ name span _) starts = record { begins = starts.0; to = suc span.first; lies = (omega arith, omega arith); starts = starts.1 }
  term_placed at commas _ priority _ rest (constant _ kind name span _ is not_on) starts =
      record { begins = starts.0; to = suc span.first; lies = ((omega arith, omega arith), tt); starts = starts.1 }
  term_placed at commas _ priority _ rest (qualified _ kind kind' qualifier name span mark span' _ is is' not_on) starts =
      let mark_behind = starts.1.0 in
      let name_behind = starts.1.1.0 in
      record { begins = starts.0; to = suc span'.first; lies = ((omega arith, omega (arith, mark_behind, name_behind)), tt); starts = starts.1.1.1 }
  term_placed at commas _ priority _ rest (application _ kind name arguments span open' close inner _ is spelt) starts =
      let inside = arguments_placed (suc open'.first) arguments close inner rest spelt starts.1.1 in
      application_placed at name None arguments span close (suc open'.first) rest starts.0 (let behind = starts.1.0 in omega (arith, behind)) inside
  term_placed at commas _ priority _ rest (qualified_application _ kind kind' qualifier name arguments span mark span' open' close inner _ is is' spelt) starts =
      let inside = arguments_placed (suc open'.first) arguments close inner rest spelt starts.1.1.1.1 in
      let behind = starts.1.0 in
      let name_behind = starts.1.1.0 in
      let open_behind = starts.1.1.1.0 in
      application_placed at name (Some qualifier) arguments span close (suc open'.first) rest starts.0 (omega (arith, behind, name_behind, open_behind)) inside
  term_placed at commas _ priority _ rest (empty_list _ open' close _) starts =
      let behind = starts.1.0 in
      record { begins = starts.0; to = suc close.first; lies = ((omega arith, omega (arith, behind)), tt); starts = starts.1.1 }
  term_placed at commas term priority _ rest (list _ _ open' close inner _ spelt) starts =
      list_placed at (suc open'.first) (joined open' close) term rest starts.0 (items_placed (suc open'.first) (joined open' close) term close inner rest spelt (omega arith) starts.1)
  term_placed at commas _ _ _ rest (parenthesis _ kind term priority open' close inner _ is spelt most) starts =
      let inside = term_placed (suc open'.first) true term priority inner (token _ close ∷ rest) spelt starts.1 in
      let end = ends_behind (suc open'.first) term _ inside in
      let begins = inside.begins in
      let behind = inside.starts.0 in
      list_placed at open'.first (joined open' close) (with_span (joined open' close) term) rest starts.0 (record {
        root = with_span-first (joined open' close) term;
        to = suc close.first;
        above = omega (arith, end, begins, behind);
        lies = with_span-lies open'.first (suc close.first) (joined open' close) term (omega arith) (omega (arith, end, begins, behind))
            (within (suc open'.first) term _ inside open'.first (suc close.first) (omega arith) (omega (arith, behind)));
        starts = inside.starts.1;
      })
  term_placed at commas _ _ _ rest (before _ name priority operator operand span inner _ is one spelt most) starts =
      let inside = term_placed (suc span.first) commas operand priority inner rest spelt starts.1 in
      let end = ends_behind (suc span.first) operand _ inside in
      let begins = inside.begins in
      record {
        begins = starts.0;
        to = inside.to;
        lies = ((omega arith, omega (arith, end, begins)), (within (suc span.first) operand _ inside span.first inside.to (omega arith) (omega arith), tt));
        starts = inside.starts;
      }
  term_placed at commas _ _ _ rest (quantifier _ name priority priority' operator variables goal span inner middle _ is two spelt most no_infix spelt' most') starts =
      let first = term_placed (suc span.first) commas variables priority inner middle spelt starts.1 in
      let second = term_placed first.to commas goal priority' middle rest spelt' first.starts in
      let end = ends_behind (suc span.first) variables _ first in
      let end' = ends_behind first.to goal _ second in
      let begins = first.begins in
      let begins' = second.begins in
      record {
        begins = starts.0;
        to = second.to;
        lies = (
          (omega arith, omega (arith, end, end', begins, begins')),
          (
            within (suc span.first) variables _ first span.first second.to (omega arith) (omega (arith, end', begins')),
            (within first.to goal _ second span.first second.to (omega (arith, end, begins)) (omega arith), tt),
          ),
        );
        starts = second.starts;
      }
  term_placed at commas _ _ tokens rest (between _ kind priority priority' operator left right span _ middle _ spelt is most spelt' most') starts =
      let first = term_placed at commas left priority tokens (token kind span ∷ middle) spelt starts in
      let second = term_placed (suc span.first) commas right priority' middle rest spelt' first.starts.1 in
      let end = ends_behind at left _ first in
      let end' = ends_behind (suc span.first) right _ second in
      let behind = first.starts.0 in
      let begins' = second.begins in
      record {
        begins = first.begins;
        to = second.to;
        lies = (
          (omega arith, omega (arith, end, end', behind, begins')),
          (
            wider (span_of left).first (span_of left).first first.to second.to left (omega arith) (omega (arith, end', behind, begins')) first.lies,
            (within (suc span.first) right _ second (span_of left).first second.to (omega (arith, end, behind)) (omega arith), tt),
          ),
        );
        starts = second.starts;
      }

  arguments_placed : (at : ℕ) (terms : Terms) (close : Span) (tokens rest : List Token) → SpellsArguments terms close tokens rest → StartFrom at tokens → ArePlaced at terms rest
  arguments_placed at _ close tokens rest (last_argument term priority _ _ _ spelt most) starts =
      let inside = term_placed at _ term priority tokens (token _ close ∷ rest) spelt starts in
      let end = ends_behind at term _ inside in
      let begins = inside.begins in
      let behind = inside.starts.0 in
      record {
        to = suc close.first;
        above = omega (arith, end, begins, behind);
        lie = (within at term _ inside at (suc close.first) (omega arith) (omega (arith, behind)), tt);
        starts = inside.starts.1;
      }
  arguments_placed at _ close tokens rest (argument term terms priority comma _ _ middle _ spelt most spelt') starts =
      let first = term_placed at _ term priority tokens (token _ comma ∷ middle) spelt starts in
      let others = arguments_placed (suc comma.first) terms close middle rest spelt' first.starts.1 in
      let end = ends_behind at term _ first in
      let begins = first.begins in
      let behind = first.starts.0 in
      let above = others.above in
      record {
        to = others.to;
        above = omega (arith, end, begins, behind, above);
        lie = (within at term _ first at others.to (omega arith) (omega (arith, behind, above)), all_wider (suc comma.first) at others.to others.to terms (omega (arith, end, begins, behind)) (omega arith) others.lie);
        starts = others.starts;
      }

  items_placed : (at : ℕ) (whole : Span) (term : Term) (close : Span) (tokens rest : List Token) → SpellsItems whole term close tokens rest → whole.first < at → StartFrom at tokens → IsListPlaced at whole term rest
  items_placed at whole _ close tokens rest (last_item _ term priority _ _ _ spelt most) below starts =
      let inside = term_placed at _ term priority tokens (token _ close ∷ rest) spelt starts in
      let end = ends_behind at term _ inside in
      let begins = inside.begins in
      let behind = inside.starts.0 in
      let past : whole.first < suc close.first = omega (arith, end, begins, behind, below) in
      record {
        root = refl;
        to = suc close.first;
        above = omega (arith, end, begins, behind);
        lies = ((omega arith, past), (within at term _ inside whole.first (suc close.first) (omega (arith, below)) (omega (arith, behind)), (((omega arith, past), tt), tt)));
        starts = inside.starts.1;
      }
  items_placed at whole _ close tokens rest (items_tail _ term end priority priority' bar _ _ middle _ spelt most spelt' most') below starts =
      let first = term_placed at _ term priority tokens (token _ bar ∷ middle) spelt starts in
      let second = term_placed (suc bar.first) _ end priority' middle (token _ close ∷ rest) spelt' first.starts.1 in
      let past = ends_behind at term _ first in
      let past' = ends_behind (suc bar.first) end _ second in
      let begins = first.begins in
      let begins' = second.begins in
      let behind = first.starts.0 in
      let behind' = second.starts.0 in
      record {
        root = refl;
        to = suc close.first;
        above = omega (arith, past, past', begins, begins', behind, behind');
        lies = (
          (omega arith, omega (arith, past, past', begins, begins', behind, behind', below)),
          (
            within at term _ first whole.first (suc close.first) (omega (arith, below)) (omega (arith, behind, past', begins', behind')),
            (within (suc bar.first) end _ second whole.first (suc close.first) (omega (arith, past, begins, behind, below)) (omega (arith, behind')), tt),
          ),
        );
        starts = second.starts.1;
      }
  items_placed at whole _ close tokens rest (next_item _ term others priority comma _ _ middle _ spelt most spelt') below starts =
      let first = term_placed at _ term priority tokens (token _ comma ∷ middle) spelt starts in
      let past = ends_behind at term _ first in
      let begins = first.begins in
      let behind = first.starts.0 in
      let tail = items_placed (suc comma.first) whole others close middle rest spelt' (omega (arith, past, begins, behind, below)) first.starts.1 in
      let above = tail.above in
      record {
        root = refl;
        to = tail.to;
        above = omega (arith, past, begins, behind, above);
        lies = ((omega arith, omega (arith, past, begins, behind, below, above)), (within at term _ first whole.first tail.to (omega (arith, below)) (omega (arith, behind, above)), (tail.lies, tt)));
        starts = tail.starts;
      }

-- terms lie one behind the other from a byte on, the parts of each before the next
pub data LieFrom : ℕ → List Term → Type 0 where
  no_term : (at : ℕ) → LieFrom at []
  a_term : (at to : ℕ) (first : Term) (rest : List Term) → at ≤ (span_of first).first → Lies (span_of first).first to first → LieFrom to rest → LieFrom at (first ∷ rest)

-- so do the items of tokens
pub items_lie : (at : ℕ) (tokens : List Token) (terms : List Term) → HasItems tokens terms → StartFrom at tokens → LieFrom at terms
items_lie at _ _ no_items starts = no_term at
items_lie at tokens _ (item term terms _ rest spelt allowed others) starts =
    let first = term_placed at true term spelt.priority tokens (token _ spelt.stop ∷ rest) spelt.spelled starts in
    a_term at first.to term terms first.begins first.lies
    (items_lie first.to rest terms others (earlier (suc spelt.stop.first) first.to rest (let behind = first.starts.0 in omega (arith, behind)) first.starts.1))

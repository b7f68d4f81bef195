use Rattle.std.proofs.Common.{◌≡◌, ℕ, drop}
use Rattle.merc_scopes.specs.Scopes.{at_of}
use Rattle.merc_flat_form.specs.Levels.{shown, or_else}
use Rattle.merc_flat_form.proofs.scope_stack.ScopeStack.bind_over.Given as goal

abbrev pub invariant-loop-one : goal.invariant-loop-one
invariant-loop-one l = record {
  below : drop 1 l.self ≡ drop 1 l.fn.self;
  meanings : (name : ℕ) → or_else (at_of name l.one-iterator.iter.rest.now) (shown name l.self) ≡ or_else (at_of name l.found) (shown name l.fn.self);
}

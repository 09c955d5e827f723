-- The locals in scope, those of inner blocks last, and how many locals the function has so far.
use Rattle.std.specs.Prelude.{ℕ, ◌+◌, Bool, Option, Some, None, List, [], ◌∷◌, ◌++◌, length, take, drop, reverse, find}
use Rattle.std.specs.Prelude.{nat_eq}
use Rattle.std.specs.List.{list_any}
use Rattle.sc_base.specs.declared.shape.Ty.{Ty}
use Rattle.sc_typing.specs.declared.scope.InScope.{InScope}

pub record Scope : Type 0 where
  pub locals : List InScope
  pub count : ℕ

-- at the beginning of a function
abbrev pub nothing_in_scope : Scope
nothing_in_scope = record { locals = []; count = 0 }

-- the innermost local of this name in scope
abbrev pub innermost : ℕ → List InScope → Option InScope
innermost name locals = find (λ l. nat_eq l.name name) (reverse locals)

-- how many locals are in scope
abbrev pub depth : Scope → ℕ
depth s = length s.locals

-- whether one of the locals in scope, but for the first `from`, has the name
abbrev pub declared_since : (from name : ℕ) → Scope → Bool
declared_since from name s = list_any (λ l. nat_eq l.name name) (drop from s.locals)

abbrev pub with_local : Option ℕ → Ty → Scope → List InScope
with_local None ty s = s.locals
with_local (Some name) ty s = s.locals ++ record { name = name; number = s.count; ty = ty } ∷ []

-- a further local of the function, in scope from here on where it has a name
unfoldable pub with_declared : Option ℕ → Ty → Scope → Scope
with_declared name ty s = record { locals = with_local name ty s; count = s.count + 1 }

-- the end of a block, whose locals leave the scope
unfoldable pub left_block : (depth : ℕ) → Scope → Scope
left_block depth s = record { locals = take depth s.locals; count = s.count }

-- Core trees each of whose steps takes what is of its kind, and each of whose locals begins before it is used. What
-- typing accepts lowers to such a tree.
use Rattle.std.specs.Prelude.{◌≡◌, ℕ, zero, suc, Bool, true, false, Option, Some, None, List, [], ◌∷◌, ◌++◌, length, map, slice_get}
use Rattle.std.specs.List.{All}
use Rattle.sc_base.specs.declared.shape.Star.{Star}
use Rattle.sc_base.specs.declared.shape.Shape.{Shape}
use Rattle.sc_core.specs.declared.operation.Operation.{Operation}
use Rattle.sc_core.specs.declared.operation.Action.TheVariants.{Begin, Clear, Fill}
use Rattle.sc_core.specs.Core.{Core, constant, step, choice, update, Arguments, none, argument, Does, nothing, break, continue, then_, act, choose, loop, return, Function, Program}
use Rattle.sc_core.specs.Kinds.{Kind, number, to, named, kind_of, kind_of_type, Scope, HasBegun, IsConstant, IsPlaceOf, Computes, Takes, Uses}
use Rattle.sc_core.specs.Statements.{mine_first, mine_test, mine_next}

-- an operation that takes back, if there is one, leaves the kind as it is
abbrev pub TakesBack : Option Operation → Kind → Type 0
TakesBack None kind = Unit {0}
TakesBack (Some operation) kind = Computes operation (kind ∷ number ∷ []) kind

-- a value, and no cell that is named
abbrev pub IsValue : Kind → Type 0
IsValue (named placed cell) = ⊥
IsValue _ = Unit {0}

abbrev mutual
  -- the expression has values of this kind
  pub Has : Scope → Core → Kind → Type 0
  Has scope (constant c) kind = IsConstant c kind
  Has scope (step operation arguments line) kind =
      (kinds : List Kind) × Have scope arguments kinds × Takes scope operation kinds kind
  Has scope (choice false test on off) kind =
      IsValue kind × Has scope test number × Has scope on kind × Has scope off kind
  Has scope (choice true test on off) kind =
      IsValue kind × (cell : List Star) × Has scope test (to cell) × Has scope on kind × Has scope off kind
  Has scope (update pointer operation right back line) kind =
      (cell : List Star) × (place : Kind) × (other : Kind) × (kind ≡ kind_of cell) × IsPlaceOf cell place
      × Has scope pointer place × Has scope right other × Computes operation (kind ∷ other ∷ []) kind
      × TakesBack back kind

  pub Have : Scope → Arguments → List Kind → Type 0
  Have scope none [] = Unit {0}
  Have scope (argument e more) (kind ∷ kinds) = Has scope e kind × Have scope more kinds
  Have scope _ _ = ⊥

-- the locals that have begun once the statement is done
abbrev pub begins : Does → List ℕ
begins (act (Begin x) arguments line) = x ∷ []
begins (act (Clear x pointer) arguments line) = x ∷ []
begins (act (Fill x) arguments line) = x ∷ []
begins (then_ first second) = begins first ++ begins second
begins _ = []

abbrev pub after : Scope → Does → Scope
after scope s = record scope { begun = begins s ++ scope.begun }

-- `for_my_1d`, whose local is a whole number, stands behind its first assignment
pub record IsMineLoop (scope : Scope) (x : ℕ) (first before next : Does) : Type 0 where
  pub bound : Core
  pub line : ℕ
  pub counts : HasBegun scope x number
  pub bounded : Has scope bound number
  pub begins_at : first ≡ mine_first x line
  pub tests : before ≡ mine_test x bound line
  pub goes_on : next ≡ mine_next x line

-- the statement is typed, in a function of this result and where `break` and `continue` may stand or not
abbrev pub IsTypedDoes : Scope → (result : Kind) → (breaks continues : Bool) → Does → Type 0
IsTypedDoes scope result breaks continues nothing = Unit {0}
IsTypedDoes scope result breaks continues break = breaks ≡ true
IsTypedDoes scope result breaks continues continue = continues ≡ true
IsTypedDoes scope result breaks continues (then_ first (then_ (loop (Some x) before body next) more)) =
    IsMineLoop scope x first before next × IsTypedDoes scope result true true body
    × IsTypedDoes scope result breaks continues more
IsTypedDoes scope result breaks continues (then_ first second) =
    IsTypedDoes scope result breaks continues first × IsTypedDoes (after scope first) result breaks continues second
IsTypedDoes scope result breaks continues (act action arguments line) =
    (kinds : List Kind) × Have scope arguments kinds × Uses scope action kinds
IsTypedDoes scope result breaks continues (choose false test on off) =
    Has scope test number × IsTypedDoes scope result breaks continues on
    × IsTypedDoes scope result breaks continues off
IsTypedDoes scope result breaks continues (choose true test on off) =
    (cell : List Star) × Has scope test (to cell)
    × IsTypedDoes scope result breaks continues on × IsTypedDoes scope result breaks continues off
IsTypedDoes scope result breaks continues (loop None before body next) =
    IsTypedDoes scope result true false before × IsTypedDoes scope result true true body
    × IsTypedDoes scope result true false next
IsTypedDoes scope result breaks continues (loop (Some x) before body next) = ⊥
IsTypedDoes scope result breaks continues (return e line) = Has scope e result

abbrev pub below : ℕ → List ℕ
below zero = []
below (suc n) = n ∷ below n

-- a function's parameters have begun when it is called
abbrev pub scope_of : List Shape → Program → Function → Scope
scope_of objects program f = record {
  objects = objects;
  functions = program.functions;
  texts = length program.texts;
  locals = map kind_of_type (f.params ++ f.others);
  begun = below (length f.params);
}

abbrev pub IsTypedFunction : List Shape → Program → Function → Type 0
IsTypedFunction objects program f = IsTypedDoes (scope_of objects program f) (kind_of_type f.result) false false f.body

-- Each function is typed, and the one that is begun with takes nothing.
pub record IsTyped (objects : List Shape) (program : Program) : Type 0 where
  pub functions : All (IsTypedFunction objects program) program.functions
  pub main : Function
  pub begins : slice_get program.functions program.main ≡ Some main
  pub no_params : main.params ≡ []

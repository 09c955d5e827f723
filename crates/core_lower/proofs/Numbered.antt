-- Statements one after another, with the numbers of their locals.
use Rattle.std.proofs.Common.{◌≡◌, refl, ap, sym, ◌∙◌, ℕ, ◌+◌, List, [], ◌∷◌, ◌++◌, length, length-append, arith}
use Rattle.sc_base.specs.declared.shape.Shape.{Shape}
use Rattle.sc_base.specs.declared.shape.Ty.{Ty}
use Rattle.sc_tree.specs.PlainTypedStmt.{TypedDeclared, TypedStatement, TypedStatements, no_statements, statements, TypedArms, no_arms, arms, arm, choose_else}
use Rattle.sc_core.specs.Core.{Does, then_, choose}
use Rattle.sc_core.specs.Places.{is_pointer}
use Rattle.sc_core.specs.Expressions.{star_of, value_of}
use Rattle.sc_core.specs.Statements.{begun, declared}
use Rattle.sc_core.specs.Lowering.{types_in, types_of_arms, does_of, all_of, arms_of}
use Rattle.sc_core.specs.ViewStatements.{block_of, chosen}
use Rattle.core_lower.specs.ListedStatements.{begun_in, does_in, arms_in}

-- the number of the next local
next-on : (params : ℕ) (before more : List Ty) → params + length (before ++ more) ≡ (params + length before) + length more
next-on params before more = let e = length-append before more in omega (arith, e)

pub declared-are : (objects : List Shape) (params : ℕ) (before : List Ty) (all : List TypedDeclared) →
    block_of (begun_in objects params before all) ≡ declared objects (params + length before) all
unfolding begun_in
declared-are objects params before [] = refl
declared-are objects params before (l ∷ more) =
    ap (then_ (begun objects (params + length before) l.ty l.init l.line))
    (declared-are objects params (before ++ l.ty ∷ []) more
    ∙ ap (λ next. declared objects next more) (next-on params before (l.ty ∷ [])))

pub all-are : (objects : List Shape) (result : Ty) (params : ℕ) (before : List Ty) (all : TypedStatements) →
    block_of (does_in objects result params before all) ≡ all_of objects result (params + length before) all
unfolding does_in all_of
all-are objects result params before no_statements = refl
all-are objects result params before (statements s more) =
    ap (then_ (does_of objects result (params + length before) s))
    (all-are objects result params (before ++ types_in s) more
    ∙ ap (λ next. all_of objects result next more) (next-on params before (types_in s)))

pub arms-are : (objects : List Shape) (result : Ty) (params : ℕ) (before : List Ty) (all : TypedArms) (otherwise : Does) →
    chosen (arms_in objects result params before all) otherwise ≡ arms_of objects result (params + length before) all otherwise
unfolding arms_in arms_of
arms-are objects result params before no_arms otherwise = refl
arms-are objects result params before (arms (arm test body) more) otherwise =
    ap (choose (is_pointer (star_of test)) (value_of objects test) (does_of objects result (params + length before) body))
    (arms-are objects result params (before ++ types_in body) more otherwise
    ∙ ap (λ next. arms_of objects result next more otherwise) (next-on params before (types_in body)))

pub chosen-are : (objects : List Shape) (result : Ty) (params : ℕ) (before : List Ty) (all : TypedArms) (otherwise : TypedStatement) →
    does_of objects result (params + length before) (choose_else all otherwise)
    ≡ chosen (arms_in objects result params before all)
    (does_of objects result (params + length (before ++ types_of_arms all)) otherwise)
unfolding does_of
chosen-are objects result params before all otherwise =
    ap (λ next. arms_of objects result (params + length before) all (does_of objects result next otherwise))
    (sym (next-on params before (types_of_arms all)))
    ∙ sym (arms-are objects result params before all (does_of objects result (params + length (before ++ types_of_arms all)) otherwise))

pub ruleset numbered = (declared-are, all-are, arms-are, chosen-are)

-- the body of a function, before any other local
pub all-first : (objects : List Shape) (result : Ty) (params : ℕ) (before : List Ty) (all : TypedStatements) → before ≡ [] →
    all_of objects result (params + length before) all ≡ all_of objects result params all
all-first objects result params before all h =
    let none : length before ≡ 0 = ap length h in
    let e : params + length before ≡ params = omega arith in
    ap (λ next. all_of objects result next all) e

pub ruleset bodies = (all-first)

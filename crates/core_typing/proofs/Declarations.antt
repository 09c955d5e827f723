-- Declarations: each local begins, with a value of its type.
use Rattle.std.proofs.Common.{◌≡◌, refl, sym, subst, ℕ, ◌+◌, arith, Bool, true, List, [], ◌∷◌, ◌++◌}
use Rattle.std.specs.Prelude.{Option, Some, None, map}
use Rattle.std.specs.List.{Contains, All}
use Rattle.std.proofs.lemmas.List.Elements.{All-head, All-tail}
use Rattle.sc_base.specs.declared.shape.Star.{Star}
use Rattle.sc_base.specs.declared.shape.Shape.{Shape}
use Rattle.sc_base.specs.declared.shape.Ty.{Ty}
use Rattle.sc_tree.specs.Plain.{Expression}
use Rattle.sc_tree.specs.PlainStmt.{Declared}
use Rattle.sc_tree.specs.PlainTyped.{TypedExpression}
use Rattle.sc_tree.specs.PlainTypedStmt.{TypedDeclared}
use Rattle.sc_typing.specs.Source.{Source}
use Rattle.sc_typing.specs.Scope as typing
use Rattle.sc_typing.specs.Scope.{with_declared}
use Rattle.sc_typing.specs.Known.{Valued, fits, Judgement}
use Rattle.sc_typing.specs.Statements.{after_declared, after_locals, typed_initial, typed_local, typed_locals}
use Rattle.sc_typing.specs.StatementParts.{InLocals, at_front, further}
use Rattle.sc_typing.specs.Typing.{judge}
use Rattle.sc_core.specs.declared.operation.Action.TheVariants as does
use Rattle.sc_core.specs.Core.{Core, Does, nothing}
use Rattle.sc_core.specs.Places.{Found, value, local, cell, is_pointer, last_of}
use Rattle.sc_core.specs.Expressions.{value_of, found}
use Rattle.sc_core.specs.Statements
use Rattle.sc_core.specs.Statements.{act_on, filled, begun, declared}
use Rattle.sc_core.specs.Kinds.{Kind, number, to, kind_of, kind_of_type, Scope, IsLocal, HasBegun, Uses}
use Rattle.sc_core.specs.Kinds as kinds
use Rattle.sc_core.specs.Typed.{begins, after, IsTypedDoes}
use Rattle.core_typing.specs.Proper.{IfGiven}
use Rattle.core_typing.proofs.Types.{points}
use Rattle.core_typing.proofs.Cores.{no-arguments}
use Rattle.core_typing.proofs.Finds.{Finds, value-gives}
use Rattle.core_typing.proofs.Acts.{Acts, act-acts, act-one, filled-acts}
use Rattle.core_typing.proofs.Sound.{standing-met}
use Rattle.core_typing.proofs.Seen.{Sees, AllBegun, none_begun, more_begun, begun-append}
use Rattle.core_typing.proofs.Values.{known-value}
use Rattle.core_typing.proofs.Scopes.{begun-after, begun-then, sees-after, Numbered, numbered-after, numbered-first, numbered-rest, then-typed}

-- what a local begins with has its type
pub data Begins (objects : List Shape) (scope : Scope) (ty : Ty) : Option TypedExpression → Type 0 where
  without_value : Begins objects scope ty None
  with_value : {e : TypedExpression} → Finds objects scope ty.stars e → Begins objects scope ty (Some e)

clear-uses : (scope : Scope) (x : ℕ) (ss : List Star) → IsLocal scope x (kind_of ss) →
    Uses scope (does.Clear x (is_pointer (last_of ss))) []
clear-uses scope x [] l = kinds.clear_number l
clear-uses scope x (s ∷ ss) l = rw ((points (s ∷ ss) refl).last) (kinds.clear_pointer l)

filled-begins : (x : ℕ) (f : Found) (v : Core) (line : ℕ) → begins (filled x f (act_on (does.Begin x) v line) line) ≡ x ∷ []
filled-begins x (value e) v line = refl
filled-begins x (local y at) v line = refl
filled-begins x (cell p own at) v line = refl

begun-begins : (objects : List Shape) (x : ℕ) (ty : Ty) (init : Option TypedExpression) (line : ℕ) →
    begins (begun objects x ty init line) ≡ x ∷ []
begun-begins objects x ty None line = refl
begun-begins objects x ty (Some e) line = filled-begins x (found objects e) (value_of objects e) line

begun-acts : {objects : List Shape} {scope : Scope} (x : ℕ) (ty : Ty) {init : Option TypedExpression} (line : ℕ) →
    IsLocal scope x (kind_of_type ty) → Begins objects scope ty init → Acts scope (begun objects x ty init line)
begun-acts {scope = scope} x ty line l without_value =
    act-acts scope line (no-arguments scope) (clear-uses scope x ty.stars l)
begun-acts {objects = objects} {scope = scope} x ty line l (with_value f) =
    filled-acts scope x line l f.is (act-one scope line (value-gives objects scope f) (kinds.begin l))

in-front : (x : ℕ) (xs ys : List ℕ) → xs ≡ x ∷ [] → Contains (xs ++ ys) x
in-front x xs ys e =
    subst (λ (xs : List ℕ). Contains (xs ++ ys) x) (sym e)
    (let here : Contains (x ∷ ys) x = (0, omega arith, refl) in here)

has-begun : (objects : List Shape) (scope : Scope) (x : ℕ) (ty : Ty) (init : Option TypedExpression) (line : ℕ) →
    IsLocal scope x (kind_of_type ty) → HasBegun (after scope (begun objects x ty init line)) x (kind_of_type ty)
has-begun objects scope x ty init line l =
    (l, in-front x (begins (begun objects x ty init line)) scope.begun (begun-begins objects x ty init line))

-- a judged expression has a type that fits
pub record Fitted (j : Judgement) (ty : Ty) : Type 0 where
  pub of : Valued
  pub is : j.known ≡ Some of
  pub fit : fits of.ty of.is_null ty ≡ true

-- what each local of a declaration begins with fits its type
abbrev pub AllFit : Source → typing.Scope → List Declared → Type 0
AllFit c s locals =
    (there : typing.Scope) (l : Declared) (e : Expression) → InLocals there l s locals → l.init ≡ Some e →
    Fitted (judge c there.locals 0 e) l.ty

module _ (c : Source) (result : Kind) (breaks continues : Bool) where
  initial : (scope : Scope) (s : typing.Scope) (ty : Ty) (init : Option Expression) → Sees c scope →
      AllBegun scope s.locals → IfGiven init → ((e : Expression) → init ≡ Some e → Fitted (judge c s.locals 0 e) ty) →
      Begins c.objects scope ty (typed_initial c s ty init)
  initial scope s ty None sees begun n fit = without_value
  initial scope s ty (Some e) sees begun n fit =
      let f = fit e refl in
      with_value
      (standing-met c.objects scope (judge c s.locals 0 e) ty f.is
      (known-value c scope sees s.locals begun e n f.of f.is).sound f.fit)

  pub record Declares (scope : Scope) (s : typing.Scope) (locals : List Declared) : Type 0 where
    pub typed : IsTypedDoes scope result breaks continues (declared c.objects s.count (typed_locals c s locals))
    pub begun : AllBegun (after scope (declared c.objects s.count (typed_locals c s locals))) (after_locals s locals).locals

  pub declares : (locals : List Declared) (scope : Scope) (s : typing.Scope) → Sees c scope → AllBegun scope s.locals →
      Numbered scope s.count (map (λ (l : TypedDeclared). l.ty) (typed_locals c s locals)) →
      All (λ (l : Declared). IfGiven l.init) locals → AllFit c s locals → Declares scope s locals
  unfolding typed_local with_declared
  declares [] scope s sees begun n numbers fit = record { typed = tt; begun = begun-after scope nothing begun }
  declares (l ∷ more) scope s sees begun n numbers fit =
      let init = typed_initial c s l.ty l.init in
      let at_front_is =
      initial scope s l.ty l.init sees begun (All-head (λ (l : Declared). IfGiven l.init) l more numbers)
      (λ e h. fit s l e at_front h) in
      let x_is =
      numbered-first s.count l.ty
      (map (λ (l : TypedDeclared). l.ty) (typed_locals c (after_declared s l) more)) n in
      let first : Does = Statements.begun c.objects s.count l.ty init l.line in
      let there = has-begun c.objects scope s.count l.ty init l.line x_is in
      let d =
      declares more (after scope first) (after_declared s l) (sees-after c scope first sees)
      (begun-append (after scope first) (begun-after scope first begun)
      (more_begun {l = record { name = l.name; number = s.count; ty = l.ty }} there none_begun))
      (numbered-after scope first
      (numbered-rest s.count l.ty
      (map (λ (l : TypedDeclared). l.ty) (typed_locals c (after_declared s l) more)) n))
      (All-tail (λ (l : Declared). IfGiven l.init) l more numbers)
      (λ there m e i h. fit there m e (further i) h) in
      record {
        typed =
            then-typed result breaks continues scope first
            (declared c.objects (s.count + 1) (typed_locals c (after_declared s l) more))
            ((begun-acts s.count l.ty l.line x_is at_front_is).does result breaks continues) d.typed;
        begun =
            begun-then scope first (declared c.objects (s.count + 1) (typed_locals c (after_declared s l) more)) d.begun;
      }

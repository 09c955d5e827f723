-- A statement in which nothing is broken is typed in the core.
use Rattle.std.proofs.Common.{◌≡◌, refl, sym, subst, ℕ, arith, Bool, true, false, List, [], ◌∷◌, ◌++◌}
use Rattle.std.specs.Prelude.{Option, Some, None, pos, is_some}
use Rattle.std.specs.Int.{w64}
use Rattle.std.proofs.lemmas.Int.{fits_signed_from_abs}
use Rattle.sc_base.specs.declared.shape.Star.{Star}
use Rattle.sc_base.specs.declared.shape.Shape.{Shape}
use Rattle.sc_base.specs.declared.shape.Ty.{Ty}
use Rattle.sc_tree.specs.Plain.{Expression, expression, name}
use Rattle.sc_tree.specs.PlainStmt.{Declared, Statement, declare, simple, split, while_, do_while, for_, for_mine, return, break, continue}
use Rattle.sc_tree.specs.PlainTyped.{TypedExpression}
use Rattle.sc_typing.specs.declared.notes.Breach.{Breach}
use Rattle.sc_typing.specs.declared.scope.InScope.{InScope}
use Rattle.sc_typing.specs.Scope as typing
use Rattle.sc_typing.specs.Scope.{innermost}
use Rattle.sc_typing.specs.Known.{Valued, Judgement, standing_in, spot_at}
use Rattle.sc_typing.specs.Rules
use Rattle.sc_typing.specs.Naming.{named}
use Rattle.sc_typing.specs.Typing.{judge}
use Rattle.sc_typing.specs.BrokenExpressions.{BrokenIn}
use Rattle.sc_typing.specs.BrokenExpressions as inner
use Rattle.sc_typing.specs.StatementParts.{Place, place, InSequence, InArms, InLocals, IsPart, Tests, Uses, Evaluates, used, whole, tested}
use Rattle.sc_typing.specs.StatementParts as parts
use Rattle.sc_typing.specs.BrokenStatements.{StatementBreaks, BrokenBy, here, in_expression}
use Rattle.sc_typing.specs.Statements.{Within, after_all, after_arms, typed_value, typed_if, typed_split, local_number, typed_result, typed_statement, typed_all, typed_arms}
use Rattle.sc_typing.specs.Statements as behind
use Rattle.sc_typing.proofs.WellTyped.{unbroken-typed}
use Rattle.sc_core.specs.Core.{Core, Does, nothing, act, loop, then_}
use Rattle.sc_core.specs.Core as core
use Rattle.sc_core.specs.Expressions.{value_of}
use Rattle.sc_core.specs.Statements as statement
use Rattle.sc_core.specs.Statements.{zero_of, optional, dropped, tested_if, mine_first, mine_test, mine_next, mine_loop}
use Rattle.sc_core.specs.Lowering.{types_in, returned, does_of}
use Rattle.sc_core.specs.Kinds.{Kind, number, kind_of, kind_of_type, Scope, HasBegun, IsConstant, of_number, of_null}
use Rattle.sc_core.specs.Typed.{begins, after, IsTypedDoes}
use Rattle.core_typing.specs.Proper.{NumbersFit, IfGiven, IsNoDeclaration, IsProper}
use Rattle.core_typing.proofs.Types.{no_more, one_of, right_of, points, int-kind}
use Rattle.core_typing.proofs.Cores.{Gives, gives-as}
use Rattle.core_typing.proofs.Finds.{Finds, value-gives}
use Rattle.core_typing.proofs.Acts.{Acts, dropped-acts}
use Rattle.core_typing.proofs.Sound.{standing-finds, standing-met}
use Rattle.core_typing.proofs.Seen.{Sees, AllBegun, innermost-begun}
use Rattle.core_typing.proofs.Values.{known-value}
use Rattle.core_typing.proofs.Counts.{keeps, kept-locals}
use Rattle.core_typing.proofs.Scopes.{begun-after, Numbered, choose-typed}
use Rattle.core_typing.proofs.Declarations.{AllFit, declares}
use Rattle.core_typing.proofs.Splits.{IsSplit, is_put, is_get, split-acts}
use Rattle.core_typing.proofs.Turns.{IsTurner, turner}

-- nothing is broken in the statement
abbrev pub Unbroken : Within → Place → Statement → Type 0
Unbroken w p it = (b : Breach) → BrokenBy w b p it → ⊥

-- a judged expression has a type
pub record There (j : Judgement) : Type 0 where
  pub of : Valued
  pub is : j.known ≡ Some of

there : (j : Judgement) → is_some j.known ≡ true → There j
there j h = go j.known refl h
  where
    go : (o : Option Valued) → j.known ≡ o → is_some o ≡ true → There j
    go None e h = no_more h
    go (Some v) e h = record { of = v; is = e }

pub kept : (t : Bool) → (t ≡ false → ⊥) → t ≡ true
kept true h = refl
kept false h = absurd (h refl)

evaluated : (w : Within) (p : Place) (it : Statement) (s : typing.Scope) (e : Expression) → Unbroken w p it →
    Evaluates p.scope s e it → There (judge w.source s.locals 0 e)
evaluated w p it s e u ev =
    there (judge w.source s.locals 0 e)
    (unbroken-typed w.source s.locals 0 e (λ b h. u b (in_expression ev h)))

pub uses : (w : Within) (p : Place) (it : Statement) (s : typing.Scope) (e : Expression) → Unbroken w p it →
    Uses p.scope s e it → There (judge w.source s.locals 0 e)
uses w p it s e u h = evaluated w p it s e u (used h)

-- what `return` gives without a value
zero-has : (ty : Ty) → IsConstant (zero_of ty) (kind_of ty.stars)
zero-has ty = go ty.void ty.stars
  where
    go : (void : Bool) (ss : List Star) → IsConstant (zero_of (record { void = void; stars = ss })) (kind_of ss)
    go void [] = of_number (fits_signed_from_abs w64 (pos 0) (omega arith))
    go void (s ∷ ss) = rw ((points (s ∷ ss) refl).last, zero_of) of_null

module _ (w : Within) where
  abbrev result : Kind
  result = kind_of_type w.result

  -- ---- expressions in statements

  -- what stands in the tree for an expression that is used
  pub value-finds : (scope : Scope) (s : typing.Scope) (e : Expression) → Sees w.source scope → AllBegun scope s.locals →
      NumbersFit e → (t : There (judge w.source s.locals 0 e)) →
      Finds w.source.objects scope (t.of).ty.stars (typed_value w.source s e)
  unfolding typed_value
  value-finds scope s e sees begun n t =
      standing-finds w.source.objects scope (judge w.source s.locals 0 e) t.is
      (known-value w.source scope sees s.locals begun e n t.of t.is).sound

  tested-typed : (scope : Scope) (s : typing.Scope) (e : Expression) → Sees w.source scope → AllBegun scope s.locals →
      NumbersFit e → There (judge w.source s.locals 0 e) →
      IsTypedDoes scope result true false (statement.tested w.source.objects (typed_value w.source s e))
  tested-typed scope s e sees begun n t =
      choose-typed result true false w.source.objects scope nothing core.break
      (value-finds scope s e sees begun n t) tt refl

  dropped-typed : (scope : Scope) (s : typing.Scope) (e : Expression) → Sees w.source scope → AllBegun scope s.locals →
      NumbersFit e → There (judge w.source s.locals 0 e) →
      Acts scope (dropped w.source.objects (typed_value w.source s e))
  dropped-typed scope s e sees begun n t =
      dropped-acts w.source.objects scope (value-finds scope s e sees begun n t)

  -- ---- what a statement is

  pub record Stated (scope : Scope) (looped : Bool) (s : typing.Scope) (it : Statement) : Type 0 where
    pub typed : IsTypedDoes scope result looped looped
        (does_of w.source.objects w.result s.count (typed_statement w s it))
    pub begun : AllBegun (after scope (does_of w.source.objects w.result s.count (typed_statement w s it)))
        (behind.after s it).locals

  -- a statement that leaves no local in scope
  pub stated-as : (scope : Scope) (looped : Bool) (s : typing.Scope) (it : Statement) → IsNoDeclaration it → IsProper it →
      AllBegun scope s.locals →
      IsTypedDoes scope result looped looped (does_of w.source.objects w.result s.count (typed_statement w s it)) →
      Stated scope looped s it
  stated-as scope looped s it q p begun h = record {
    typed = h;
    begun =
        subst
        (λ (ls : List InScope). AllBegun (after scope (does_of w.source.objects w.result s.count (typed_statement w s it))) ls)
        (sym (kept-locals s it q (keeps s it p)))
        (begun-after scope (does_of w.source.objects w.result s.count (typed_statement w s it)) begun);
  }

  -- ---- statements without parts

  pub simple-stated : (scope : Scope) (looped : Bool) (from : ℕ) (s : typing.Scope) (e : Expression) → Sees w.source scope →
      NumbersFit e → AllBegun scope s.locals → Unbroken w (place looped from s) (simple e) →
      IsTypedDoes scope result looped looped (does_of w.source.objects w.result s.count (typed_statement w s (simple e)))
  unfolding does_of typed_value
  simple-stated scope looped from s e sees n begun u =
      let j = judge w.source s.locals 0 e in
      let t = evaluated w (place looped from s) (simple e) s e u whole in
      let a = (known-value w.source scope sees s.locals begun e n t.of t.is).acts in
      subst (λ (o : Option Valued). IsTypedDoes scope result looped looped
      (statement.whole w.source.objects (standing_in j.start o))) (sym t.is) (a.does result looped looped)

  pub split-stated : (scope : Scope) (looped : Bool) (from : ℕ) (s : typing.Scope) (left right : Expression) (oneway : Bool)
      (at line : ℕ) → Sees w.source scope → NumbersFit left → NumbersFit right → AllBegun scope s.locals →
      Unbroken w (place looped from s) (split left right oneway at line) →
      IsSplit (judge w.source s.locals 0 left) (judge w.source s.locals 0 right) →
      IsTypedDoes scope result looped looped
      (does_of w.source.objects w.result s.count (typed_statement w s (split left right oneway at line)))
  unfolding does_of typed_split
  split-stated scope looped from s left right oneway at line sees n m begun u is =
      let p = place looped from s in
      let a = uses w p (split left right oneway at line) s left u parts.split_left in
      let b = uses w p (split left right oneway at line) s right u parts.split_right in
      (split-acts w.source.objects scope (judge w.source s.locals 0 left) (judge w.source s.locals 0 right) a.of b.of oneway
      line a.is b.is (known-value w.source scope sees s.locals begun left n a.of a.is).sound
      (known-value w.source scope sees s.locals begun right m b.of b.is).sound is).does result looped looped

  pub splits : (looped : Bool) (from : ℕ) (s : typing.Scope) (left right : Expression) (oneway : Bool) (at line : ℕ) →
      Unbroken w (place looped from s) (split left right oneway at line) →
      IsSplit (judge w.source s.locals 0 left) (judge w.source s.locals 0 right)
  splits looped from s left right true at line u =
      is_put
      (kept (Rules.store_kept (judge w.source s.locals 0 left) (judge w.source s.locals 0 right))
      (λ h. u _ (here (StatementBreaks.store_broken h))))
  splits looped from s left right false at line u =
      let l = judge w.source s.locals 0 left in
      let r = judge w.source s.locals 0 right in
      one_of (Rules.puts l r) (Rules.gets l r)
      (kept (Rules.split_assignment_kept l r) (λ h. u _ (here (StatementBreaks.get_broken h)))) is_put is_get

  returned-typed : (scope : Scope) (looped : Bool) (from : ℕ) (s : typing.Scope) (value : Option Expression) (at line : ℕ) →
      Sees w.source scope → IfGiven value → AllBegun scope s.locals →
      Unbroken w (place looped from s) (return value at line) →
      IsTypedDoes scope result looped looped (returned w.source.objects w.result (typed_result w s value) line)
  returned-typed scope looped from s None at line sees n begun u = zero-has w.result
  returned-typed scope looped from s (Some e) at line sees n begun u =
      let p = place looped from s in
      let j = judge w.source s.locals 0 e in
      let t = uses w p (return (Some e) at line) s e u parts.returned in
      let k = kept (Rules.return_kept w.result (Some j)) (λ h. u _ (here (StatementBreaks.return_broken h))) in
      let fit =
      subst (λ (o : Option Valued). Rules.fit o w.result ≡ true) t.is
      (right_of (Rules.opposite w.result.void) (Rules.fit j.known w.result) k) in
      (value-gives w.source.objects scope
      (standing-met w.source.objects scope j w.result t.is
      (known-value w.source scope sees s.locals begun e n t.of t.is).sound fit)).has

  pub return-stated : (scope : Scope) (looped : Bool) (from : ℕ) (s : typing.Scope) (value : Option Expression) (at line : ℕ) →
      Sees w.source scope → IfGiven value → AllBegun scope s.locals →
      Unbroken w (place looped from s) (return value at line) →
      IsTypedDoes scope result looped looped
      (does_of w.source.objects w.result s.count (typed_statement w s (return value at line)))
  unfolding does_of
  return-stated scope looped from s value at line sees n begun u =
      returned-typed scope looped from s value at line sees n begun u

  pub jump-stated : (scope : Scope) (looped : Bool) (from : ℕ) (s : typing.Scope) (at : ℕ) →
      Unbroken w (place looped from s) (break at) →
      IsTypedDoes scope result looped looped (does_of w.source.objects w.result s.count (typed_statement w s (break at)))
  unfolding does_of
  jump-stated scope looped from s at u = kept looped (λ h. u _ (here (StatementBreaks.break_outside h)))

  pub turn-stated : (scope : Scope) (looped : Bool) (from : ℕ) (s : typing.Scope) (at : ℕ) →
      Unbroken w (place looped from s) (continue at) →
      IsTypedDoes scope result looped looped (does_of w.source.objects w.result s.count (typed_statement w s (continue at)))
  unfolding does_of
  turn-stated scope looped from s at u = kept looped (λ h. u _ (here (StatementBreaks.continue_outside h)))

  fitting-locals : (looped : Bool) (from : ℕ) (s : typing.Scope) (locals : List Declared) →
      Unbroken w (place looped from s) (declare locals) → AllFit w.source s locals
  fitting-locals looped from s locals u there_ l e i h =
      let t = uses w (place looped from s) (declare locals) there_ e u (parts.initial i h) in
      let j = judge w.source there_.locals 0 e in
      record {
        of = t.of;
        is = t.is;
        fit =
            subst (λ (o : Option Valued). Rules.fit o l.ty ≡ true) t.is
            (kept (Rules.fit j.known l.ty) (λ x. u _ (here (StatementBreaks.initial_unfit i h x))));
      }

  pub declare-stated : (scope : Scope) (looped : Bool) (from : ℕ) (s : typing.Scope) (locals : List Declared) →
      Sees w.source scope → IsProper (declare locals) → AllBegun scope s.locals →
      Numbered scope s.count (types_in (typed_statement w s (declare locals))) →
      Unbroken w (place looped from s) (declare locals) → Stated scope looped s (declare locals)
  unfolding does_of
  declare-stated scope looped from s locals sees p begun n u =
      let d =
      declares w.source result looped looped locals scope s sees begun n p (fitting-locals looped from s locals u) in
      record { typed = d.typed; begun = d.begun }

  -- ---- loops

  optional-acts : (scope : Scope) (s : typing.Scope) (e : Option Expression) → Sees w.source scope →
      AllBegun scope s.locals → IfGiven e → ((x : Expression) → e ≡ Some x → There (judge w.source s.locals 0 x)) →
      Acts scope (optional w.source.objects (typed_if w.source s e))
  optional-acts scope s None sees begun n t = record { does = λ result breaks continues. tt }
  optional-acts scope s (Some e) sees begun n t = dropped-typed scope s e sees begun n (t e refl)

  optional-begins : (objects : List Shape) (e : Option TypedExpression) → begins (optional objects e) ≡ []
  optional-begins objects None = refl
  optional-begins objects (Some e) = refl

  tested_if-typed : (scope : Scope) (s : typing.Scope) (e : Option Expression) → Sees w.source scope →
      AllBegun scope s.locals → IfGiven e → ((x : Expression) → e ≡ Some x → There (judge w.source s.locals 0 x)) →
      IsTypedDoes scope result true false (tested_if w.source.objects (typed_if w.source s e))
  tested_if-typed scope s None sees begun n t = tt
  tested_if-typed scope s (Some e) sees begun n t = tested-typed scope s e sees begun n (t e refl)

  for-parts : (p : Place) (first test next : Option Expression) (body : Statement) →
      Unbroken w p (for_ first test next body) → (x : Expression) → first ≡ Some x → There (judge w.source p.scope.locals 0 x)
  for-parts p first test next body u x h =
      subst
      (λ (o : Option Expression). Unbroken w p (for_ o test next body) → There (judge w.source p.scope.locals 0 x)) (sym h)
      (λ u. uses w p (for_ (Some x) test next body) p.scope x u parts.for_first) u

  for-tests : (p : Place) (first test next : Option Expression) (body : Statement) →
      Unbroken w p (for_ first test next body) → (x : Expression) → test ≡ Some x → There (judge w.source p.scope.locals 0 x)
  for-tests p first test next body u x h =
      subst
      (λ (o : Option Expression). Unbroken w p (for_ first o next body) → There (judge w.source p.scope.locals 0 x)) (sym h)
      (λ u. uses w p (for_ first (Some x) next body) p.scope x u (tested parts.of_for)) u

  for-nexts : (p : Place) (first test next : Option Expression) (body : Statement) →
      Unbroken w p (for_ first test next body) → (x : Expression) → next ≡ Some x → There (judge w.source p.scope.locals 0 x)
  for-nexts p first test next body u x h =
      subst
      (λ (o : Option Expression). Unbroken w p (for_ first test o body) → There (judge w.source p.scope.locals 0 x)) (sym h)
      (λ u. uses w p (for_ first test (Some x) body) p.scope x u parts.for_next) u

  -- the body of a loop, where it is typed in one
  abbrev Body : Scope → typing.Scope → Statement → Type 0
  Body scope s body = IsTypedDoes scope result true true (does_of w.source.objects w.result s.count (typed_statement w s body))

  pub while-stated : (scope : Scope) (looped : Bool) (from : ℕ) (s : typing.Scope) (test : Expression) (body : Statement) →
      Sees w.source scope → NumbersFit test → AllBegun scope s.locals →
      Unbroken w (place looped from s) (while_ test body) → Body scope s body →
      IsTypedDoes scope result looped looped
      (does_of w.source.objects w.result s.count (typed_statement w s (while_ test body)))
  unfolding does_of
  while-stated scope looped from s test body sees n begun u b = (
    tested-typed scope s test sees begun n
        (uses w (place looped from s) (while_ test body) s test u (tested parts.of_while)),
    b,
    tt,
  )

  pub do-stated : (scope : Scope) (looped : Bool) (from : ℕ) (s : typing.Scope) (body : Statement) (test : Expression) →
      Sees w.source scope → NumbersFit test → AllBegun scope (behind.after s body).locals →
      Unbroken w (place looped from s) (do_while body test) → Body scope s body →
      IsTypedDoes scope result looped looped
      (does_of w.source.objects w.result s.count (typed_statement w s (do_while body test)))
  unfolding does_of
  do-stated scope looped from s body test sees n begun u b = (
    tt,
    b,
    tested-typed scope (behind.after s body) test sees begun n
        (uses w (place looped from s) (do_while body test) (behind.after s body) test u (tested parts.of_do)),
  )

  pub for-stated : (scope : Scope) (looped : Bool) (from : ℕ) (s : typing.Scope) (first test next : Option Expression)
      (body : Statement) → Sees w.source scope → IfGiven first → IfGiven test → IfGiven next → AllBegun scope s.locals →
      Unbroken w (place looped from s) (for_ first test next body) → Body scope s body →
      IsTypedDoes scope result looped looped
      (does_of w.source.objects w.result s.count (typed_statement w s (for_ first test next body)))
  unfolding does_of
  for-stated scope looped from s first test next body sees nf nt nn begun u b =
      let p = place looped from s in
      let f = optional-acts scope s first sees begun nf (for-parts p first test next body u) in
      let t = tested_if-typed scope s test sees begun nt (for-tests p first test next body u) in
      let n = optional-acts scope s next sees begun nn (for-nexts p first test next body u) in (
        f.does result looped looped,
        subst
            (λ (xs : List ℕ). IsTypedDoes (record scope { begun = xs ++ scope.begun }) result looped looped
            (then_
            (loop None (tested_if w.source.objects (typed_if w.source s test))
            (does_of w.source.objects w.result s.count (typed_statement w s body))
            (optional w.source.objects (typed_if w.source s next))) nothing))
            (sym (optional-begins w.source.objects (typed_if w.source s first)))
            ((t, b, n.does result true false), tt),
      )

  -- the name of a `for_my_1d`
  turns-name : (p : Place) (n : ℕ) (bound : Expression) (body : Statement) (at line : ℕ) →
      Unbroken w p (for_mine n bound body at line) → IsTurner p.scope.locals n
  turns-name p n bound body at line u =
      turner w.source p.scope.locals n (spot_at at line)
      (unbroken-typed w.source p.scope.locals 0 (expression (name n) at at line) (λ b h. unnamed b h))
      (kept (Rules.turns_kept (named w.source p.scope.locals 0 n (spot_at at line)))
      (λ h. u _ (here (StatementBreaks.turns_broken h))))
    where
      unnamed : (b : Breach) → BrokenIn w.source p.scope.locals b 0 (expression (name n) at at line) → ⊥
      unnamed b (inner.here h) = u b (here (StatementBreaks.turns_name h))
      unnamed b (inner.within_operand i h) = elim i [ ]

  mine-typed : (scope : Scope) (breaks continues : Bool) (s : typing.Scope) (n : ℕ) (bound : Core) (body : Does)
      (line : ℕ) → AllBegun scope s.locals → IsTurner s.locals n → Gives scope bound number →
      IsTypedDoes scope result true true body →
      IsTypedDoes scope result breaks continues (mine_loop (local_number (innermost n s.locals)) bound body line)
  mine-typed scope breaks continues s n bound body line begun t g b =
      subst (λ (o : Option InScope). IsTypedDoes scope result breaks continues (mine_loop (local_number o) bound body line))
      (sym t.is) (
        record {
          bound = bound;
          line = line;
          counts =
              subst (λ (k : Kind). HasBegun scope (t.it).number k) (int-kind (t.it).ty t.number)
              (innermost-begun scope n t.it s.locals begun t.is);
          bounded = g.has;
          begins_at = refl;
          tests = refl;
          goes_on = refl;
        },
        b,
        tt,
      )

  pub mine-stated : (scope : Scope) (looped : Bool) (from : ℕ) (s : typing.Scope) (n : ℕ) (bound : Expression)
      (body : Statement) (at line : ℕ) → Sees w.source scope → NumbersFit bound → AllBegun scope s.locals →
      Unbroken w (place looped from s) (for_mine n bound body at line) → Body scope s body →
      IsTypedDoes scope result looped looped
      (does_of w.source.objects w.result s.count (typed_statement w s (for_mine n bound body at line)))
  unfolding does_of
  mine-stated scope looped from s n bound body at line sees m begun u b =
      let p = place looped from s in
      let j = judge w.source s.locals 0 bound in
      let t = uses w p (for_mine n bound body at line) s bound u parts.for_bound in
      let whole_number =
      subst (λ (o : Option Valued). Rules.bound_kept o ≡ true) t.is
      (kept (Rules.bound_kept j.known) (λ h. u _ (here (StatementBreaks.bound_no_int h)))) in
      let g =
      gives-as scope (int-kind (t.of).ty whole_number)
      (value-gives w.source.objects scope (value-finds scope s bound sees begun m t)) in
      mine-typed scope looped looped s n (value_of w.source.objects (typed_value w.source s bound))
      (does_of w.source.objects w.result s.count (typed_statement w s body)) line begun
      (turns-name p n bound body at line u) g b

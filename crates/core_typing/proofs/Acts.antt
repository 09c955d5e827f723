-- What expressions do as whole statements.
use Rattle.std.proofs.Common.{◌≡◌, refl, ap, subst, ℕ, zero, suc, ◌<◌, Bool, List, [], ◌∷◌}
use Rattle.std.specs.Prelude.{map, replicate}
use Rattle.std.proofs.lemmas.List.{length-replicate}
use Rattle.sc_base.specs.declared.shape.Star.{Star}
use Rattle.sc_base.specs.declared.shape.Shape.{Shape}
use Rattle.sc_base.specs.declared.value.CopyMode.{CopyMode}
use Rattle.sc_tree.specs.PlainTyped.{TypedExpression}
use Rattle.sc_tree.specs.ViewTyped.{typed_expressions_of}
use Rattle.sc_typing.specs.Types.{int}
use Rattle.sc_core.specs.declared.operation.Action.{Action}
use Rattle.sc_core.specs.declared.operation.Action.TheVariants as does
use Rattle.sc_core.specs.Core.{Core, Arguments, Does, act}
use Rattle.sc_core.specs.Places.{Found, is_own}
use Rattle.sc_core.specs.Expressions.{star_of, count_of, line_of, values_of}
use Rattle.sc_core.specs.Statements.{act_on, filled, assigning, transferred, copying, dropped}
use Rattle.sc_core.specs.Kinds.{Kind, number, to, kind_of, kind_of_type, Scope, HasBegun, IsLocal, IsPlaceOf, Uses, numbers}
use Rattle.sc_core.specs.Kinds as kinds
use Rattle.sc_core.specs.Typed.{IsTypedDoes}
use Rattle.core_typing.proofs.Cores.{Gives, GiveAll, gives-as, no-arguments, one-more}
use Rattle.core_typing.proofs.Founds.{Reaches, FoundIs, a_value, a_local, a_cell, cell-pointed}
use Rattle.core_typing.proofs.Finds.{Finds, value-gives}
use Rattle.core_typing.proofs.Lists.{Fit, fit-gives, fit-count}

-- a statement that is typed wherever it stands
pub record Acts (scope : Scope) (s : Does) : Type 0 where
  pub does : (result : Kind) (breaks continues : Bool) → IsTypedDoes scope result breaks continues s

module _ (scope : Scope) where
  pub act-acts : {action : Action} {arguments : Arguments} {ks : List Kind} (line : ℕ) → GiveAll scope arguments ks →
      Uses scope action ks → Acts scope (act action arguments line)
  act-acts {ks = ks} line gs u = record { does = λ result breaks continues. (ks, gs.have, u) }

  pub act-one : {action : Action} {e : Core} {k : Kind} (line : ℕ) → Gives scope e k → Uses scope action (k ∷ []) →
      Acts scope (act_on action e line)
  act-one line g u = act-acts line (one-more scope g (no-arguments scope)) u

  -- the local becomes what was found
  pub filled-acts : {ss : List Star} {f : Found} {otherwise : Does} (x line : ℕ) → IsLocal scope x (kind_of ss) →
      FoundIs scope ss f → Acts scope otherwise → Acts scope (filled x f otherwise line)
  filled-acts x line l (a_value g) d = d
  filled-acts x line l (a_local h) d = d
  filled-acts x line l (a_cell {line = at} c) d =
      let r = c.reached at in act-one line r.gives (kinds.fill r.is l)

  pub assigning-acts : {ss : List Star} {left right : Found} {otherwise : Does} (line : ℕ) → FoundIs scope ss left →
      FoundIs scope ss right → Acts scope otherwise → Acts scope (assigning left right otherwise line)
  assigning-acts line (a_value g) r d = d
  assigning-acts line (a_local {x = x} b) r d = filled-acts x line b.0 r d
  assigning-acts line (a_cell c) r d = d

module _ (objects : List Shape) (scope : Scope) where
  pub dropped-acts : {ss : List Star} {e : TypedExpression} → Finds objects scope ss e → Acts scope (dropped objects e)
  dropped-acts {e = e} f = act-one scope (line_of e) (value-gives objects scope f) kinds.drop

  -- ---- calls that have no value

  pub print-acts : {es : List TypedExpression} (n f line : ℕ) → f < scope.texts →
      Fit objects scope es (replicate n int) →
      Acts scope (act (does.Print f (count_of (typed_expressions_of es))) (values_of objects (typed_expressions_of es)) line)
  print-acts {es = es} n f line t fs =
      act-acts scope line (subst (λ (ks : List Kind). GiveAll scope (values_of objects (typed_expressions_of es)) ks) (ints n)
      (fit-gives objects scope fs)) (rw (fit-count objects scope fs, length-replicate n int) (kinds.print t))
    where
      ints : (n : ℕ) → map kind_of_type (replicate n int) ≡ numbers n
      ints zero = refl
      ints (suc n) = ap (λ (ks : List Kind). number ∷ ks) (ints n)

  transferred-reaches : {ss cell : List Star} {e : TypedExpression} → Finds objects scope ss e → kind_of ss ≡ to cell →
      Reaches scope cell (transferred objects e)
  transferred-reaches {e = e} f same =
      (cell-pointed scope (is_own (star_of e)) (gives-as scope same (value-gives objects scope f))).reached (line_of e)

  pub copy-acts : {ss ts cell : List Star} {to_ from bytes : TypedExpression} (mode : CopyMode) (line : ℕ) →
      Finds objects scope ss to_ → kind_of ss ≡ to cell → Finds objects scope ts from → kind_of ts ≡ to cell →
      Finds objects scope [] bytes → Acts scope (copying objects mode to_ from bytes line)
  copy-acts mode line f x g y h =
      let p = transferred-reaches f x in
      let q = transferred-reaches g y in
      act-acts scope line (one-more scope p.gives (one-more scope q.gives
      (one-more scope (value-gives objects scope h) (no-arguments scope)))) (kinds.copy p.is q.is)

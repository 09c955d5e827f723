-- A typed expression comes to what its type says: this is kept for each form of expressions.
use Rattle.std.proofs.Common.{◌≡◌, refl, sym, ◌∙◌, ap, subst, ℕ, List}
use Rattle.sc_base.specs.declared.shape.Star.{Star}
use Rattle.sc_base.specs.declared.shape.Shape.{Shape}
use Rattle.sc_base.specs.declared.shape.Ty.{Ty}
use Rattle.sc_tree.specs.PlainTyped.{TypedExpression, typed_expression, TypedForm}
use Rattle.sc_tree.specs.PlainTyped as typed
use Rattle.sc_core.specs.Core.{Core}
use Rattle.sc_core.specs.Places.{value, fetched, last_of, without_last}
use Rattle.sc_core.specs.Expressions.{type_of, star_of, value_of, found, found_form}
use Rattle.sc_core.specs.Kinds.{to, kind_of, Scope, of_null}
use Rattle.core_typing.proofs.Types.{Points, Alike}
use Rattle.core_typing.proofs.Cores.{Gives, gives-as}
use Rattle.core_typing.proofs.Founds.{FoundIs, a_value, fetched-gives, converted-gives}

module _ (objects : List Shape) (scope : Scope) where
  -- the expression has a type with these stars, and comes to what the type says
  pub record Finds (stars : List Star) (e : TypedExpression) : Type 0 where
    pub type_is : (type_of e).stars ≡ stars
    pub is : FoundIs scope stars (found objects e)

  value-fetched : (e : TypedExpression) → value_of objects e ≡ fetched (found objects e)
  unfolding value_of found
  value-fetched (typed_expression form ty start at line) = refl

  pub value-gives : {ss : List Star} {e : TypedExpression} → Finds ss e → Gives scope (value_of objects e) (kind_of ss)
  value-gives {ss = ss} {e = e} f =
      subst (λ (c : Core). Gives scope c (kind_of ss)) (sym (value-fetched e)) (fetched-gives scope f.is)

  pub star-is : {ss : List Star} {e : TypedExpression} → Finds ss e → star_of e ≡ last_of ss
  star-is f = ap last_of f.type_is

  pub value-points : {ss : List Star} {e : TypedExpression} → Finds ss e → Points ss →
      Gives scope (value_of objects e) (to (without_last ss))
  value-points f p = gives-as scope p.kind (value-gives f)

  -- an expression of this form and type
  pub finds-form : {form : TypedForm} {ty : Ty} {start at line : ℕ} → FoundIs scope ty.stars (found_form objects form line) →
      Finds ty.stars (typed_expression form ty start at line)
  unfolding found
  finds-form f = record { type_is = refl; is = f }

  pub found-value : {ss : List Star} {e : Core} → Gives scope e (kind_of ss) → FoundIs scope ss (value e)
  found-value g = a_value g

  -- ---- an expression that meets a type

  pub null-found : {ss : List Star} (line : ℕ) → Points ss → FoundIs scope ss (found_form objects typed.null line)
  unfolding found_form
  null-found line p = a_value (gives-as scope (sym p.kind) (record { has = of_null }))

  pub convert-found : {ss : List Star} {e : TypedExpression} (ty : Ty) (line : ℕ) → Finds ss e → Alike ss ty.stars →
      FoundIs scope ty.stars (found_form objects (typed.convert ty e) line)
  unfolding found_form
  convert-found {e = e} ty line f a =
      a_value (gives-as scope (ap to a.elements ∙ sym a.onto.kind)
      (converted-gives scope (star_of e) (last_of ty.stars) line (value-points f a.from)))

-- What the forms of expressions with a fixed number of operands come to.
use Rattle.std.proofs.Common.{◌≡◌, refl, sym, ◌∙◌, ap, subst, ℕ, Bool, true, false, List, [], ◌∷◌, ◌++◌}
use Rattle.std.specs.Prelude.{Option, Some, None, FitsSigned}
use Rattle.std.specs.Int.{w64}
use Rattle.sc_base.specs.declared.operator.Binary.{Binary}
use Rattle.sc_base.specs.declared.operator.Binary.TheVariants as op
use Rattle.sc_base.specs.declared.operator.Unary.{Unary}
use Rattle.sc_base.specs.declared.operator.Unary.TheVariants as unary
use Rattle.sc_base.specs.declared.shape.Star.{Star}
use Rattle.sc_base.specs.declared.shape.Shape.{Shape}
use Rattle.sc_tree.specs.declared.typed.Named.TheVariants as named_as
use Rattle.sc_tree.specs.PlainTyped.{TypedExpression, typed_expression, TypedForm}
use Rattle.sc_tree.specs.PlainTyped as typed
use Rattle.sc_typing.specs.Rules.{moves}
use Rattle.sc_core.specs.Core.{Core, choice}
use Rattle.sc_core.specs.Places.{Found, value, local, cell, converted, last_of, without_last, is_pointer, operation_on, address_of, step_operator, taken_back}
use Rattle.sc_core.specs.Expressions.{star_of, value_of, found, found_form, prefixed, stepped_after}
use Rattle.sc_core.specs.Kinds.{Kind, number, to, kind_of, Scope, HasBegun, of_mine, of_procs, Computes, Takes}
use Rattle.sc_core.specs.Kinds as kinds
use Rattle.sc_core.specs.Typed.{IsValue}
use Rattle.core_typing.proofs.Types.{Points, points, Alike, kind-push}
use Rattle.core_typing.proofs.Cores.{Gives, gives-as, gives-number, gives-eight, gives-one, kind-value, chooses, chooses-pointer, gives-one_number}
use Rattle.core_typing.proofs.Founds.{FoundIs, a_value, a_local, a_cell, assigned-gives, changed-gives, changed-after-gives, converted-gives, behind-is}
use Rattle.core_typing.proofs.Finds.{Finds, value-gives, star-is, value-points}

-- an operator that a whole number takes, or a pointer where it moves it
pub data Operates (ss : List Star) (o : Binary) : Type 0 where
  on_number : ss ≡ [] → Operates ss o
  on_pointer : Points ss → moves o ≡ true → Operates ss o

pub computes-on : {ss : List Star} {o : Binary} → Operates ss o →
    Computes (operation_on (last_of ss) o) (kind_of ss ∷ number ∷ []) (kind_of ss)
computes-on {ss = ss} {o = o} (on_number e) =
    subst (λ (ss : List Star). Computes (operation_on (last_of ss) o) (kind_of ss ∷ number ∷ []) (kind_of ss)) (sym e)
    kinds.binary
computes-on {ss = ss} {o = o} (on_pointer p m) =
    subst (λ (s : Option Star). Computes (operation_on s o) (kind_of ss ∷ number ∷ []) (kind_of ss)) (sym p.last)
    (subst (λ (k : Kind). Computes (operation_on (Some p.star) o) (k ∷ number ∷ []) k) (sym p.kind) (go o m))
  where
    go : (o : Binary) → moves o ≡ true →
        Computes (operation_on (Some p.star) o) (to (without_last ss) ∷ number ∷ []) (to (without_last ss))
    go op.Add m = kinds.forward
    go op.Sub m = kinds.back
    go _ m = absurd (let z : false ≡ true = m in cc)

pub operates-steps : {ss : List Star} (is_up : Bool) → Operates ss op.Add → Operates ss op.Sub →
    Computes (operation_on (last_of ss) (step_operator is_up)) (kind_of ss ∷ number ∷ []) (kind_of ss)
operates-steps true up down = computes-on up
operates-steps false up down = computes-on down

pub operates-back : {ss : List Star} (is_up : Bool) → Operates ss op.Add → Operates ss op.Sub →
    Computes (operation_on (last_of ss) (taken_back is_up)) (kind_of ss ∷ number ∷ []) (kind_of ss)
operates-back true up down = computes-on down
operates-back false up down = computes-on up

-- what was found is a cell
pub data IsThere : Found → Type 0 where
  is_there : {pointer : Core} {own : Bool} {line : ℕ} → IsThere (cell pointer own line)

module _ (objects : List Shape) (scope : Scope) where
  abbrev Comes : List Star → TypedForm → ℕ → Type 0
  Comes ss form line = FoundIs scope ss (found_form objects form line)

  abbrev E : List Star → TypedExpression → Type 0
  E ss e = Finds objects scope ss e

  -- ---- no operand

  pub number-comes : {n : _} (line : ℕ) → FitsSigned w64 n → FoundIs scope [] (found_form objects (typed.number n) line)
  unfolding found_form
  number-comes line f = a_value (gives-number scope f)

  pub my_proc-comes : (line : ℕ) → FoundIs scope [] (found_form objects typed.my_proc line)
  unfolding found_form
  my_proc-comes line = a_value (record { has = of_mine })

  pub procs-comes : (line : ℕ) → FoundIs scope [] (found_form objects typed.procs line)
  unfolding found_form
  procs-comes line = a_value (record { has = of_procs })

  pub size_int-comes : (line : ℕ) → FoundIs scope [] (found_form objects typed.size_int line)
  unfolding found_form
  size_int-comes line = a_value (gives-eight scope)

  pub local-comes : {ss : List Star} (x line : ℕ) → HasBegun scope x (kind_of ss) →
      FoundIs scope ss (found_form objects (typed.name (named_as.Local x)) line)
  unfolding found_form
  local-comes x line h = a_local h

  -- ---- one operand

  pub plus-comes : {ss : List Star} {e : TypedExpression} (line : ℕ) → E ss e →
      FoundIs scope ss (found_form objects (typed.plus e) line)
  unfolding found_form
  plus-comes line f = a_value (value-gives objects scope f)

  prefixed-number : (o : Unary) (c : Core) (line : ℕ) → Gives scope c number → Gives scope (prefixed o None c line) number
  prefixed-number unary.Not c line g = gives-one scope line g kinds.unary
  prefixed-number unary.Minus c line g = gives-one scope line g kinds.unary
  prefixed-number unary.Invert c line g = gives-one scope line g kinds.unary

  -- `!` of a whole number or a pointer, and `-` or `~` of a whole number
  pub prefix-comes : {e : TypedExpression} (o : Unary) (line : ℕ) → E [] e →
      FoundIs scope [] (found_form objects (typed.prefix o e) line)
  unfolding found_form
  prefix-comes {e = e} o line f =
      a_value (subst (λ (s : Option Star). Gives scope (prefixed o s (value_of objects e) line) number)
      (sym (star-is objects scope f)) (prefixed-number o (value_of objects e) line (value-gives objects scope f)))

  pub not-comes : {ss : List Star} {e : TypedExpression} (line : ℕ) → E ss e →
      FoundIs scope [] (found_form objects (typed.prefix unary.Not e) line)
  unfolding found_form
  not-comes {ss = []} {e = e} line f = prefix-comes unary.Not line f
  not-comes {ss = s ∷ ss} {e = e} line f =
      let p = points (s ∷ ss) refl in
      a_value (subst (λ (s : Option Star). Gives scope (prefixed unary.Not s (value_of objects e) line) number)
      (sym (star-is objects scope f ∙ p.last)) (gives-one scope line (value-points objects scope f p) kinds.is_null))

  pub deref-comes : {ss : List Star} {e : TypedExpression} (line : ℕ) → Points ss → E ss e →
      FoundIs scope (without_last ss) (found_form objects (typed.deref e) line)
  unfolding found_form
  deref-comes {e = e} line p f = behind-is scope (star_of e) line (value-points objects scope f p)

  pub address-comes : {ss : List Star} {e : TypedExpression} (s : Star) (line : ℕ) → E ss e → IsThere (found objects e) →
      FoundIs scope (ss ++ s ∷ []) (found_form objects (typed.address e) line)
  unfolding found_form
  address-comes {ss = ss} {e = e} s line f there = a_value (gives-as scope (sym (kind-push ss s)) (go (found objects e) f.is there))
    where
      go : (what : Found) → FoundIs scope ss what → IsThere what → Gives scope (address_of what) (to ss)
      go (cell pointer own at) (a_cell c) t = c.exposes
      go (value c) h t = elim t [ ]
      go (local x at) h t = elim t [ ]

  pub cast-number-comes : {e : TypedExpression} (line : ℕ) → E [] e →
      FoundIs scope [] (found_form objects (typed.cast [] e) line)
  unfolding found_form
  cast-number-comes {e = e} line f = a_value (go (star_of e) (star-is objects scope f))
    where
      go : (s : Option Star) → s ≡ None → Gives scope (converted s None (value_of objects e) line) number
      go None same = value-gives objects scope f
      go (Some s) same = absurd (let z : Some s ≡ None = same in cc)

  pub cast-comes : {ss onto : List Star} {e : TypedExpression} (line : ℕ) → E ss e → Alike ss onto →
      FoundIs scope onto (found_form objects (typed.cast onto e) line)
  unfolding found_form
  cast-comes {onto = onto} {e = e} line f a =
      a_value (gives-as scope (ap to a.elements ∙ sym a.onto.kind)
      (converted-gives scope (star_of e) (last_of onto) line (value-points objects scope f a.from)))

  -- ---- tests

  -- a choice by a value of any type
  pub tested-gives : {ss : List Star} {e : TypedExpression} {on off : Core} {k : Kind} → E ss e → IsValue k →
      Gives scope on k → Gives scope off k →
      Gives scope (choice (is_pointer (star_of e)) (value_of objects e) on off) k
  tested-gives {ss = []} {e = e} {on = on} {off = off} {k = k} f v a b =
      subst (λ (s : Option Star). Gives scope (choice (is_pointer s) (value_of objects e) on off) k)
      (sym (star-is objects scope f)) (chooses scope v (value-gives objects scope f) a b)
  tested-gives {ss = s ∷ ss} {e = e} {on = on} {off = off} {k = k} f v a b =
      let p = points (s ∷ ss) refl in
      subst (λ (s : Option Star). Gives scope (choice (is_pointer s) (value_of objects e) on off) k)
      (sym (star-is objects scope f ∙ p.last))
      (chooses-pointer scope (without_last (s ∷ ss)) v (value-points objects scope f p) a b)

  pub choice-comes : {ts ss : List Star} {test on off : TypedExpression} (line : ℕ) → E ts test → E ss on → E ss off →
      FoundIs scope ss (found_form objects (typed.choice test on off) line)
  unfolding found_form
  choice-comes {ss = ss} line t a b =
      a_value (tested-gives t (kind-value scope ss) (value-gives objects scope a) (value-gives objects scope b))

  -- ---- places

  pub assign-comes : {ss : List Star} {left right : TypedExpression} (line : ℕ) → E ss left → E ss right →
      FoundIs scope ss (found_form objects (typed.assign None left right) line)
  unfolding found_form
  assign-comes line l r = a_value (assigned-gives scope line l.is (value-gives objects scope r))

  pub compound-comes : {ss : List Star} {left right : TypedExpression} (o : Binary) (line : ℕ) → Operates ss o →
      E ss left → E [] right → FoundIs scope ss (found_form objects (typed.assign (Some o) left right) line)
  unfolding found_form
  compound-comes {ss = ss} {left = left} o line operates l r =
      a_value (changed-gives scope line l.is (value-gives objects scope r)
      (subst (λ (s : Option Star). Computes (operation_on s o) (kind_of ss ∷ number ∷ []) (kind_of ss))
      (sym (star-is objects scope l)) (computes-on operates)))

  pub step-comes : {ss : List Star} {e : TypedExpression} (is_up : Bool) (line : ℕ) → Operates ss op.Add →
      Operates ss op.Sub → E ss e → FoundIs scope ss (found_form objects (typed.step is_up e) line)
  unfolding found_form
  step-comes {ss = ss} is_up line up down f =
      a_value (changed-gives scope line f.is (gives-one_number scope)
      (subst (λ (s : Option Star). Computes (operation_on s (step_operator is_up)) (kind_of ss ∷ number ∷ []) (kind_of ss))
      (sym (star-is objects scope f)) (operates-steps is_up up down)))

  -- `++` or `--` behind a place
  pub stepped-after-is : {ss : List Star} {what : Found} (is_up : Bool) (line : ℕ) → Operates ss op.Add →
      Operates ss op.Sub → FoundIs scope ss what → FoundIs scope ss (value (stepped_after what (last_of ss) is_up line))
  stepped-after-is is_up line up down f =
      a_value (changed-after-gives scope line f (operates-steps is_up up down) (operates-back is_up up down))

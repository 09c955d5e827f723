-- What steps of a core tree have, from what their arguments have.
use Rattle.std.proofs.Common.{◌≡◌, refl, subst, ℕ, zero, suc, arith, true, false, List, [], ◌∷◌}
use Rattle.std.specs.Prelude.{Option, pos, FitsSigned}
use Rattle.std.specs.Int.{w64}
use Rattle.std.proofs.lemmas.Int.{fits_signed_from_abs}
use Rattle.sc_base.specs.declared.shape.Star.{Star}
use Rattle.sc_core.specs.declared.operation.Constant.TheVariants.{Number}
use Rattle.sc_core.specs.declared.operation.Operation.{Operation}
use Rattle.sc_core.specs.Core.{Core, constant, step, choice, update, Arguments, none, argument}
use Rattle.sc_core.specs.Places.{number_one, number_zero, with_one, with_two}
use Rattle.sc_core.specs.Expressions.{behind_all}
use Rattle.sc_core.specs.Kinds.{Kind, number, to, kind_of, Scope, of_number, IsPlaceOf, Computes, Takes, numbers}
use Rattle.sc_core.specs.Typed.{Has, Have, IsValue, TakesBack}

-- the expression has values of this kind
pub record Gives (scope : Scope) (e : Core) (kind : Kind) : Type 0 where
  pub has : Has scope e kind

pub record GiveAll (scope : Scope) (arguments : Arguments) (kinds : List Kind) : Type 0 where
  pub have : Have scope arguments kinds

module _ (scope : Scope) where
  pub gives : (e : Core) (k : Kind) → Has scope e k → Gives scope e k
  gives e k h = record { has = h }

  pub gives-as : {e : Core} {j k : Kind} → j ≡ k → Gives scope e j → Gives scope e k
  gives-as {e = e} same g = subst (λ (k : Kind). Gives scope e k) same g

  pub no-arguments : GiveAll scope none []
  no-arguments = record { have = tt }

  pub one-more : {e : Core} {k : Kind} {more : Arguments} {ks : List Kind} → Gives scope e k → GiveAll scope more ks →
      GiveAll scope (argument e more) (k ∷ ks)
  one-more g gs = record { have = (g.has, gs.have) }

  pub gives-step : {op : Operation} {arguments : Arguments} {ks : List Kind} {k : Kind} (line : ℕ) →
      GiveAll scope arguments ks → Takes scope op ks k → Gives scope (step op arguments line) k
  gives-step {ks = ks} line gs t = record { has = (ks, gs.have, t) }

  pub gives-one : {op : Operation} {e : Core} {j k : Kind} (line : ℕ) → Gives scope e j →
      Takes scope op (j ∷ []) k → Gives scope (with_one op e line) k
  gives-one line g t = gives-step line (one-more g no-arguments) t

  pub gives-two : {op : Operation} {a b : Core} {i j k : Kind} (line : ℕ) → Gives scope a i → Gives scope b j →
      Takes scope op (i ∷ j ∷ []) k → Gives scope (with_two op a b line) k
  gives-two line g h t = gives-step line (one-more g (one-more h no-arguments)) t

  pub gives-none : {op : Operation} {k : Kind} (line : ℕ) → Takes scope op [] k → Gives scope (step op none line) k
  gives-none line t = gives-step line no-arguments t

  pub gives-number : {n : _} → FitsSigned w64 n → Gives scope (constant (Number n)) number
  gives-number f = record { has = of_number f }

  pub gives-one_number : Gives scope number_one number
  gives-one_number = gives-number (fits_signed_from_abs w64 (pos 1) (omega arith))

  pub gives-zero : Gives scope number_zero number
  gives-zero = gives-number (fits_signed_from_abs w64 (pos 0) (omega arith))

  pub gives-eight : Gives scope (constant (Number (pos 8))) number
  gives-eight = gives-number (fits_signed_from_abs w64 (pos 8) (omega arith))

  pub number-value : IsValue number
  number-value = tt

  pub kind-value : (ss : List Star) → IsValue (kind_of ss)
  kind-value [] = tt
  kind-value (s ∷ ss) = tt

  -- a choice by a whole number, or by a pointer
  pub chooses : {test on off : Core} {k : Kind} → IsValue k → Gives scope test number → Gives scope on k →
      Gives scope off k → Gives scope (choice false test on off) k
  chooses v t a b = record { has = (v, t.has, a.has, b.has) }

  pub chooses-pointer : {test on off : Core} {k : Kind} (cell : List Star) → IsValue k → Gives scope test (to cell) →
      Gives scope on k → Gives scope off k → Gives scope (choice true test on off) k
  chooses-pointer cell v t a b = record { has = (v, cell, t.has, a.has, b.has) }

  pub updates : {pointer right : Core} {op : Operation} {back : Option Operation} {place other : Kind} (cell : List Star)
      (line : ℕ) →
      IsPlaceOf cell place → Gives scope pointer place → Gives scope right other →
      Computes op (kind_of cell ∷ other ∷ []) (kind_of cell) → TakesBack back (kind_of cell) →
      Gives scope (update pointer op right back line) (kind_of cell)
  updates {place = place} {other = other} cell line p g h c b =
      record { has = (cell, place, other, refl, p, g.has, h.has, c, b) }

  -- ---- indices

  pub one-number-more : (indices : Arguments) (n : ℕ) {e : Core} → GiveAll scope indices (numbers n) →
      Gives scope e number → GiveAll scope (behind_all indices e) (numbers (suc n))
  one-number-more none zero gs g = one-more g no-arguments
  one-number-more none (suc n) gs g = elim gs.have [ ]
  one-number-more (argument first more) zero gs g = elim gs.have [ ]
  one-number-more (argument first more) (suc n) {e = e} gs g =
      let h = gs.have in
      one-more (gives first number h.0) (one-number-more more n (record { have = h.1 }) g)

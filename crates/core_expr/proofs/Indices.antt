-- The own indices of an object, one after another.
use Rattle.std.proofs.Common.{◌≡◌, refl, ap, ◌∙◌, ℕ, zero, suc, ◌+◌, ◌-◌, ◌<◌, Bool, List, arith}
use Rattle.std.specs.Prelude.{◌&&◌}
use Rattle.sc_base.specs.declared.shape.Star.{Star}
use Rattle.sc_base.specs.declared.shape.Shape.{Shape}
use Rattle.sc_tree.specs.PlainTyped.{TypedExpression, TypedTails, no_tails, tails, index, up, down}
use Rattle.sc_core.specs.Core.{Arguments}
use Rattle.sc_core.specs.Places.{object_with}
use Rattle.sc_core.specs.Expressions.{behind_all, is_plain, value_of, indices_found, tails_found}
use Rattle.core_expr.proofs.Equations.{arguments-more}

module _ (objects : List Shape) (o : ℕ) where
  index-first : (rest count : ℕ) (plain : Bool) (indices : Arguments) (line : ℕ) (stars : List Star) (e : TypedExpression) (at l : ℕ) (more : TypedTails) →
      indices_found objects o (suc rest) count plain indices line stars (tails (index e at l) more)
      ≡ indices_found objects o rest (count + 1) (plain && is_plain e) (behind_all indices (value_of objects e)) l stars more
  unfolding indices_found
  index-first rest count plain indices line stars e at l more = refl

  pub index-on : (left count : ℕ) (plain : Bool) (indices : Arguments) (line : ℕ) (stars : List Star) (e : TypedExpression) (at l : ℕ) (more : TypedTails) →
      0 < left →
      indices_found objects o left count plain indices line stars (tails (index e at l) more)
      ≡ indices_found objects o (left - 1) (count + 1) (plain && is_plain e) (behind_all indices (value_of objects e)) l stars more
  index-on left count plain indices line stars e at l more h =
      let k : left ≡ suc (left - 1) = omega arith in
      ap (λ n. indices_found objects o n count plain indices line stars (tails (index e at l) more)) k
      ∙ index-first (left - 1) count plain indices line stars e at l more

  pub index-all : (left count : ℕ) (plain : Bool) (indices : Arguments) (line : ℕ) (stars : List Star) →
      indices_found objects o left count plain indices line stars no_tails ≡ object_with objects o count plain indices line
  unfolding indices_found
  index-all zero count plain indices line stars = refl
  index-all (suc left) count plain indices line stars = refl

  index-zero : (count : ℕ) (plain : Bool) (indices : Arguments) (line : ℕ) (stars : List Star) (all : TypedTails) →
      indices_found objects o zero count plain indices line stars all
      ≡ tails_found objects (object_with objects o count plain indices line) stars all
  unfolding indices_found tails_found
  index-zero count plain indices line stars no_tails = refl
  index-zero count plain indices line stars (tails t more) = refl

  pub index-none : (left count : ℕ) (plain : Bool) (indices : Arguments) (line : ℕ) (stars : List Star) (all : TypedTails) → left ≡ 0 →
      indices_found objects o left count plain indices line stars all
      ≡ tails_found objects (object_with objects o count plain indices line) stars all
  index-none left count plain indices line stars all h =
      ap (λ n. indices_found objects o n count plain indices line stars all) h ∙ index-zero count plain indices line stars all

  pub index-up : (left count : ℕ) (plain : Bool) (indices : Arguments) (line : ℕ) (stars : List Star) (at l : ℕ) (more : TypedTails) →
      indices_found objects o left count plain indices line stars (tails (up at l) more)
      ≡ tails_found objects (object_with objects o count plain indices line) stars (tails (up at l) more)
  unfolding indices_found tails_found
  index-up zero count plain indices line stars at l more = refl
  index-up (suc left) count plain indices line stars at l more = refl

  pub index-down : (left count : ℕ) (plain : Bool) (indices : Arguments) (line : ℕ) (stars : List Star) (at l : ℕ) (more : TypedTails) →
      indices_found objects o left count plain indices line stars (tails (down at l) more)
      ≡ tails_found objects (object_with objects o count plain indices line) stars (tails (down at l) more)
  unfolding indices_found tails_found
  index-down zero count plain indices line stars at l more = refl
  index-down (suc left) count plain indices line stars at l more = refl

pub ruleset indices = (index-on, index-all, index-none, index-up, index-down, arguments-more)

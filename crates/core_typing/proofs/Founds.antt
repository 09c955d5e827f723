-- What was found of a typed expression: a value of its type's kind, a local that has begun, or a cell of its type.
use Rattle.std.proofs.Common.{◌≡◌, refl, ℕ, ◌+◌, arith, Bool, true, false, List, [], ◌∷◌, length}
use Rattle.std.specs.Prelude.{Option, Some, not, ◌&&◌, slice_get, if◌then◌else◌}
use Rattle.sc_base.specs.declared.shape.Star.{Star}
use Rattle.sc_base.specs.declared.shape.Shape.{Shape}
use Rattle.sc_core.specs.declared.operation.Operation.{Operation}
use Rattle.sc_core.specs.declared.operation.Operation.TheVariants as does
use Rattle.sc_core.specs.Core.{Core, constant, step, choice, update, Arguments}
use Rattle.sc_core.specs.Places.{with_one, Found, value, local, cell, reaching, fetched, assigned, changed, changed_after, exposed, behind, is_own, converted, is_wide}
use Rattle.sc_core.specs.Kinds.{Kind, number, to, named, kind_of, Scope, HasBegun, IsPlaceOf, pointed, by_name, Computes, Takes, HasIndices, numbers}
use Rattle.sc_core.specs.Kinds as kinds
use Rattle.sc_core.specs.Typed.{Has}
use Rattle.core_typing.proofs.Cores.{Gives, GiveAll, gives-step, gives-one, gives-two, gives-none, gives-one_number, updates}

-- an expression that gives the place of an access to a cell whose type has these stars
pub record Reaches (scope : Scope) (stars : List Star) (e : Core) : Type 0 where
  pub place : Kind
  pub gives : Gives scope e place
  pub is : IsPlaceOf stars place

-- the cell behind the pointer, whether the pointer is one of the executing node's own memory or not
pub record IsCell (scope : Scope) (stars : List Star) (pointer : Core) (own : Bool) : Type 0 where
  pub reached : (line : ℕ) → Reaches scope stars (reaching own pointer line)
  pub exposes : Gives scope (exposed pointer) (to stars)

pub data FoundIs (scope : Scope) (stars : List Star) : Found → Type 0 where
  a_value : {e : Core} → Gives scope e (kind_of stars) → FoundIs scope stars (value e)
  a_local : {x line : ℕ} → HasBegun scope x (kind_of stars) → FoundIs scope stars (local x line)
  a_cell : {pointer : Core} {own : Bool} {line : ℕ} → IsCell scope stars pointer own →
      FoundIs scope stars (cell pointer own line)

module _ (scope : Scope) where
  -- ---- a cell behind a pointer, and an object's own

  -- no step but an object's element has the kind of a named cell, and that one alone is exposed otherwise
  exposed-pointer : (e : Core) (ss : List Star) → Gives scope e (to ss) → Gives scope (exposed e) (to ss)
  exposed-pointer (constant c) ss g = g
  exposed-pointer (choice p a b d) ss g = g
  exposed-pointer (update p a b d l) ss g = g
  exposed-pointer (step (does.Element o n plain) indices line) ss g = absurd (never g.has)
    where
      no_element : (ks : List Kind) → Takes scope (does.Element o n plain) ks (to ss) → ⊥
      no_element ks (kinds.computes c) = elim c [ ]

      never : Has scope (step (does.Element o n plain) indices line) (to ss) → ⊥
      never h = no_element h.0 h.2
  exposed-pointer (step (does.Use x) indices line) ss g = g
  exposed-pointer (step (does.Address o n) indices line) ss g = g
  exposed-pointer (step does.Own indices line) ss g = g
  exposed-pointer (step does.Convert indices line) ss g = g
  exposed-pointer (step (does.Forward s) indices line) ss g = g
  exposed-pointer (step (does.Back s) indices line) ss g = g
  exposed-pointer (step (does.Binary op) indices line) ss g = g
  exposed-pointer (step (does.Unary op) indices line) ss g = g
  exposed-pointer (step does.Same indices line) ss g = g
  exposed-pointer (step does.Differ indices line) ss g = g
  exposed-pointer (step does.IsNull indices line) ss g = g
  exposed-pointer (step does.ToGlobal indices line) ss g = g
  exposed-pointer (step does.ToProc indices line) ss g = g
  exposed-pointer (step does.ToLocal indices line) ss g = g
  exposed-pointer (step (does.Set x) indices line) ss g = g
  exposed-pointer (step (does.Call f n) indices line) ss g = g
  exposed-pointer (step does.Read indices line) ss g = g
  exposed-pointer (step does.Write indices line) ss g = g

  pub cell-pointed : {pointer : Core} {stars : List Star} (own : Bool) → Gives scope pointer (to stars) →
      IsCell scope stars pointer own
  cell-pointed {pointer = pointer} {stars = stars} own g = record {
    reached = λ line. go own line;
    exposes = exposed-pointer pointer stars g;
  }
    where
      go : (own : Bool) (line : ℕ) → Reaches scope stars (reaching own pointer line)
      go true line = record { place = named true stars; gives = gives-one scope line g kinds.own_pointer; is = by_name }
      go false line = record { place = to stars; gives = g; is = pointed }

  pub cell-named : {o : ℕ} {plain : Bool} {indices : Arguments} {line : ℕ} (s : Shape) →
      slice_get scope.objects o ≡ Some s → GiveAll scope indices (numbers (length s.left + length s.right)) →
      IsCell scope s.ty.stars (step (does.Element o (length s.left + length s.right) plain) indices line)
      (not s.spread)
  cell-named {o = o} {plain = plain} {indices = indices} {line = line} s there gs = record {
    reached = λ at. go s.spread at (gives-step scope line gs (kinds.element there refl));
    exposes = gives-step scope line gs (kinds.address there bounds);
  }
    where
      bounds : HasIndices s (length s.left + length s.right)
      bounds = record { enough = omega arith; not_more = omega arith }

      go : (spread : Bool) (at : ℕ) →
          Gives scope (step (does.Element o (length s.left + length s.right) plain) indices line)
          (named spread s.ty.stars) →
          Reaches scope s.ty.stars
          (reaching (not spread) (step (does.Element o (length s.left + length s.right) plain) indices line) at)
      go true at g = record { place = named true s.ty.stars; gives = g; is = by_name }
      go false at g = record { place = named true s.ty.stars; gives = gives-one scope at g kinds.own_cell; is = by_name }

  -- ---- reading, writing and changing

  pub fetched-gives : {stars : List Star} {f : Found} → FoundIs scope stars f → Gives scope (fetched f) (kind_of stars)
  fetched-gives (a_value g) = g
  fetched-gives (a_local {line = line} h) = gives-none scope line (kinds.use_ h)
  fetched-gives (a_cell {line = line} c) =
      let r = c.reached line in gives-one scope line r.gives (kinds.read r.is)

  pub assigned-gives : {stars : List Star} {f : Found} {right : Core} (line : ℕ) → FoundIs scope stars f →
      Gives scope right (kind_of stars) → Gives scope (assigned f right line) (kind_of stars)
  assigned-gives line (a_value g) h = h
  assigned-gives line (a_local b) h = gives-one scope line h (kinds.set b)
  assigned-gives line (a_cell {line = at} c) h =
      let r = c.reached at in gives-two scope line r.gives h (kinds.write r.is)

  pub changed-gives : {stars : List Star} {f : Found} {op : Operation} {right : Core} (line : ℕ) →
      FoundIs scope stars f → Gives scope right number →
      Computes op (kind_of stars ∷ number ∷ []) (kind_of stars) →
      Gives scope (changed f op right line) (kind_of stars)
  changed-gives line (a_value g) h c = g
  changed-gives line (a_local b) h c =
      gives-one scope line (gives-two scope line (gives-none scope line (kinds.use_ b)) h (kinds.computes c))
      (kinds.set b)
  changed-gives {stars = stars} line (a_cell {line = at} x) h c =
      let r = x.reached at in updates scope stars line r.is r.gives h c tt

  pub changed-after-gives : {stars : List Star} {f : Found} {op back : Operation} (line : ℕ) →
      FoundIs scope stars f → Computes op (kind_of stars ∷ number ∷ []) (kind_of stars) →
      Computes back (kind_of stars ∷ number ∷ []) (kind_of stars) →
      Gives scope (changed_after f op back line) (kind_of stars)
  changed-after-gives line (a_value g) c d = g
  changed-after-gives line (a_local {line = at} b) c d =
      gives-two scope line (changed-gives line (a_local {line = at} b) (gives-one_number scope) c)
      (gives-one_number scope) (kinds.computes d)
  changed-after-gives {stars = stars} line (a_cell {line = at} x) c d =
      let r = x.reached at in updates scope stars line r.is r.gives (gives-one_number scope) c d

  -- ---- addresses, conversions, and what is behind a pointer

  pub converted-gives : {e : Core} {ss : List Star} (a b : Option Star) (line : ℕ) → Gives scope e (to ss) →
      Gives scope (converted a b e line) (to ss)
  converted-gives {e = e} {ss = ss} a b line g = go (is_own a) (is_wide b)
    where
      go : (own wide : Bool) →
          Gives scope (if own && wide then with_one does.Convert e line else e) (to ss)
      go true true = gives-one scope line g kinds.convert
      go true false = g
      go false wide = g

  pub behind-is : {e : Core} {stars : List Star} (s : Option Star) (line : ℕ) → Gives scope e (to stars) →
      FoundIs scope stars (behind s e line)
  behind-is s line g = a_cell (cell-pointed (is_own s) g)

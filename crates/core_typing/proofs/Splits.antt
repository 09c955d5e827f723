-- Split assignments: a put or a store into a global place, and a get from one.
use Rattle.std.proofs.Common.{◌≡◌, refl, sym, subst, ℕ, Bool, true, false, ◌&&◌, List}
use Rattle.std.specs.Prelude.{Option, Some, None, if◌then◌else◌}
use Rattle.sc_base.specs.declared.shape.Star.{Star}
use Rattle.sc_base.specs.declared.shape.Star.TheVariants as star
use Rattle.sc_base.specs.declared.shape.Shape.{Shape}
use Rattle.sc_tree.specs.PlainTyped.{TypedExpression}
use Rattle.sc_typing.specs.declared.places.PlaceKind.{PlaceKind}
use Rattle.sc_typing.specs.declared.places.PlaceKind.TheVariants as place
use Rattle.sc_typing.specs.Types.{same_type, is_wide}
use Rattle.sc_typing.specs.Places.{may_be_global, may_be_other}
use Rattle.sc_typing.specs.Known.{Valued, Judgement, standing_in, expression_for}
use Rattle.sc_typing.specs.Rules
use Rattle.sc_typing.specs.Statements.{sent_as, sent_expression}
use Rattle.sc_core.specs.Core.{Core}
use Rattle.sc_core.specs.Places.{Found, value, local, cell, is_own, reaching}
use Rattle.sc_core.specs.Expressions.{found}
use Rattle.sc_core.specs.Statements.{splitting}
use Rattle.sc_core.specs.Kinds.{Kind, kind_of, Scope}
use Rattle.sc_core.specs.Kinds as kinds
use Rattle.core_typing.proofs.Types.{left_of, right_of, no_more, same-stars}
use Rattle.core_typing.proofs.Cores.{no-arguments, one-more, gives-eight}
use Rattle.core_typing.proofs.Founds.{Reaches, FoundIs, a_value, a_local, a_cell}
use Rattle.core_typing.proofs.Finds.{Finds, value-gives}
use Rattle.core_typing.proofs.Acts.{Acts, act-acts, act-one}
use Rattle.core_typing.proofs.Judged.{left-fits}
use Rattle.core_typing.proofs.Sound.{IsPlaced, as_memory, Sound, standing-met}

-- a cell of memory whose node is part of its pointer
data WideCell : Found → Type 0 where
  wide_cell : {pointer : Core} {line : ℕ} → WideCell (cell pointer false line)

-- a local, or a cell of the executing node's own memory
data OtherPlace : Found → Type 0 where
  other_local : {x line : ℕ} → OtherPlace (local x line)
  other_cell : {pointer : Core} {line : ℕ} → OtherPlace (cell pointer true line)

wide-cell : (s : Star) (pointer : Core) (own : Bool) (line : ℕ) → own ≡ is_own (Some s) → is_wide (Some s) ≡ true →
    WideCell (cell pointer own line)
wide-cell star.Local pointer own line e h = no_more h
wide-cell star.Global pointer own line e h = subst (λ (o : Bool). WideCell (cell pointer o line)) (sym e) wide_cell
wide-cell star.Spread pointer own line e h = subst (λ (o : Bool). WideCell (cell pointer o line)) (sym e) wide_cell

wide-there : (at_place : PlaceKind) (f : Found) → IsPlaced at_place f → may_be_global at_place ≡ true → WideCell f
wide-there place.NoPlace f p h = no_more h
wide-there place.Local f p h = no_more h
wide-there place.Unknown f p h = elim p [ ]
wide-there (place.Memory None) f p h = elim p [ ]
wide-there (place.Memory (Some s)) (value e) p h = elim p [ ]
wide-there (place.Memory (Some s)) (local x line) p h = elim p [ ]
wide-there (place.Memory (Some s)) (cell pointer own line) (as_memory e) h = wide-cell s pointer own line e h

record IsOther (at_place : PlaceKind) (f : Found) : Type 0 where
  pub there : OtherPlace f
  pub no_global : may_be_global at_place ≡ false

other-cell : (s : Star) (pointer : Core) (own : Bool) (line : ℕ) → own ≡ is_own (Some s) →
    (if is_wide (Some s) then false else true) ≡ true → IsOther (place.Memory (Some s)) (cell pointer own line)
other-cell star.Local pointer own line e h = record {
  there = subst (λ (o : Bool). OtherPlace (cell pointer o line)) (sym e) other_cell;
  no_global = refl;
}
other-cell star.Global pointer own line e h = no_more h
other-cell star.Spread pointer own line e h = no_more h

other-there : (at_place : PlaceKind) (f : Found) → IsPlaced at_place f → may_be_other at_place ≡ true → IsOther at_place f
other-there place.NoPlace f p h = no_more h
other-there place.Unknown f p h = elim p [ ]
other-there place.Local (local x line) p h = record { there = other_local; no_global = refl }
other-there place.Local (value e) p h = elim p [ ]
other-there place.Local (cell pointer own line) p h = elim p [ ]
other-there (place.Memory None) f p h = elim p [ ]
other-there (place.Memory (Some s)) (value e) p h = elim p [ ]
other-there (place.Memory (Some s)) (local x line) p h = elim p [ ]
other-there (place.Memory (Some s)) (cell pointer own line) (as_memory e) h = other-cell s pointer own line e h

-- what a split assignment does
pub data IsSplit (left right : Judgement) : Type 0 where
  is_put : Rules.puts left right ≡ true → IsSplit left right
  is_get : Rules.gets left right ≡ true → IsSplit left right

module _ (objects : List Shape) (scope : Scope) where
  -- a value is sent to the place
  sends : {ss : List Star} {left : Found} {e : TypedExpression} (one_way : Bool) (line : ℕ) → FoundIs scope ss left →
      WideCell left → Finds objects scope ss e → Acts scope (splitting objects left e one_way line)
  sends {ss = ss} {e = e} one_way line (a_cell {pointer = pointer} {line = at} c) wide_cell f = go one_way
    where
      r : Reaches scope ss pointer
      r = c.reached at

      go : (one_way : Bool) → Acts scope (splitting objects (cell pointer false at) e one_way line)
      go true =
          act-acts scope line (one-more scope r.gives (one-more scope (value-gives objects scope f) (no-arguments scope)))
          (kinds.send r.is)
      go false =
          act-acts scope line (one-more scope r.gives (one-more scope (value-gives objects scope f) (no-arguments scope)))
          (kinds.put r.is)
  sends one_way line (a_value g) w f = elim w [ ]
  sends one_way line (a_local b) w f = elim w [ ]

  -- the place gets the value of a cell
  gets : {ss : List Star} {left : Found} (e : TypedExpression) (one_way : Bool) (line : ℕ) → FoundIs scope ss left →
      OtherPlace left → WideCell (found objects e) → FoundIs scope ss (found objects e) →
      Acts scope (splitting objects left e one_way line)
  gets {ss = ss} e one_way line left other wide right = go (found objects e) refl right wide left other
    where
      local_gets : (x at : ℕ) (pointer : Core) (at_right : ℕ) → found objects e ≡ cell pointer false at_right →
          kinds.HasBegun scope x (kind_of ss) → Reaches scope ss pointer →
          Acts scope (splitting objects (local x at) e one_way line)
      local_gets x at pointer at_right same b r =
          rw same (act-one scope line r.gives (kinds.get r.is b))

      cell_gets : (to_ : Core) (at : ℕ) (pointer : Core) (at_right : ℕ) → found objects e ≡ cell pointer false at_right →
          Reaches scope ss (reaching true to_ at) → Reaches scope ss pointer →
          Acts scope (splitting objects (cell to_ true at) e one_way line)
      cell_gets to_ at pointer at_right same l r =
          rw same
          (act-acts scope line
          (one-more scope l.gives (one-more scope r.gives (one-more scope (gives-eight scope) (no-arguments scope))))
          (kinds.copy l.is r.is))

      go : (f : Found) → found objects e ≡ f → FoundIs scope ss f → WideCell f → {left : Found} → FoundIs scope ss left →
          OtherPlace left → Acts scope (splitting objects left e one_way line)
      go (cell pointer false at_right) same (a_cell c) w (a_local {x = x} {line = at} b) other_local =
          local_gets x at pointer at_right same b (c.reached at_right)
      go (cell pointer false at_right) same (a_cell c) w (a_cell {pointer = to_} {line = at} l) other_cell =
          cell_gets to_ at pointer at_right same (l.reached at) (c.reached at_right)
      go (cell pointer false at_right) same (a_cell c) w (a_value g) o = elim o [ ]
      go (cell pointer true at_right) same r w l o = elim w [ ]
      go (value v) same r w l o = elim w [ ]
      go (local x at) same r w l o = elim w [ ]

  same-types : (left right : Judgement) (a b : Valued) → left.known ≡ Some a → right.known ≡ Some b →
      Rules.same_types left right ≡ true → same_type b.ty a.ty ≡ true
  same-types left right a b e g h =
      subst (λ (o : Option Valued). Rules.passes (λ w. same_type w.ty a.ty) o ≡ true) g
      (subst (λ (o : Option Valued). Rules.passes (λ v. Rules.passes (λ w. same_type w.ty v.ty) right.known) o ≡ true) e h)

  put-acts : (left right : Judgement) (a b : Valued) (one_way : Bool) (line : ℕ) → left.known ≡ Some a →
      right.known ≡ Some b → Sound objects scope left.place a → Sound objects scope right.place b →
      Rules.puts left right ≡ true →
      Acts scope (splitting objects (found objects (expression_for left)) (sent_expression left right) one_way line)
  put-acts left right a b one_way line e g s t h =
      let wide = left_of (may_be_global left.place) (Rules.fit_left left right) h in
      let fit = left-fits left right a b e g (right_of (may_be_global left.place) (Rules.fit_left left right) h) in
      let f = standing-met objects scope right a.ty g t fit in
      subst
      (λ (o : Option Valued). Acts scope (splitting objects (found objects (standing_in left.start o))
      (sent_as left.place o right) one_way line)) (sym e)
      (rw wide (sends one_way line s.finds.is (wide-there left.place (found objects a.expression) s.placed wide) f))

  get-acts : (left right : Judgement) (a b : Valued) (one_way : Bool) (line : ℕ) → left.known ≡ Some a →
      right.known ≡ Some b → Sound objects scope left.place a → Sound objects scope right.place b →
      Rules.gets left right ≡ true →
      Acts scope (splitting objects (found objects (expression_for left)) (sent_expression left right) one_way line)
  get-acts left right a b one_way line e g s t h =
      let both = left_of (may_be_other left.place && may_be_global right.place) (Rules.same_types left right) h in
      let other = left_of (may_be_other left.place) (may_be_global right.place) both in
      let wide = right_of (may_be_other left.place) (may_be_global right.place) both in
      let same =
      same-types left right a b e g
      (right_of (may_be_other left.place && may_be_global right.place) (Rules.same_types left right) h) in
      let o = other-there left.place (found objects a.expression) s.placed other in
      let w = wide-there right.place (found objects b.expression) t.placed wide in
      let r : FoundIs scope a.ty.stars (found objects b.expression) =
      subst (λ (ss : List Star). FoundIs scope ss (found objects b.expression)) (same-stars b.ty a.ty same) t.finds.is in
      subst
      (λ (o : Option Valued). Acts scope (splitting objects (found objects (standing_in left.start o))
      (sent_as left.place o right) one_way line)) (sym e)
      (rw o.no_global
      (subst (λ (k : Option Valued). Acts scope (splitting objects (found objects a.expression)
      (standing_in right.start k) one_way line)) (sym g) (gets b.expression one_way line s.finds.is o.there w r)))

  pub split-acts : (left right : Judgement) (a b : Valued) (one_way : Bool) (line : ℕ) → left.known ≡ Some a →
      right.known ≡ Some b → Sound objects scope left.place a → Sound objects scope right.place b →
      IsSplit left right →
      Acts scope (splitting objects (found objects (expression_for left)) (sent_expression left right) one_way line)
  split-acts left right a b one_way line e g s t (is_put h) = put-acts left right a b one_way line e g s t h
  split-acts left right a b one_way line e g s t (is_get h) = get-acts left right a b one_way line e g s t h

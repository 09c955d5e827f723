-- What is known of judged expressions of each kind with a fixed number of operands, from what is known of the operands.
use Rattle.std.proofs.Common.{◌≡◌, refl, sym, ◌∙◌, ap, subst, ℕ, Bool, true, false, ◌&&◌, ◌||◌, List, [], ◌∷◌}
use Rattle.std.specs.Prelude.{ℤ, pos, Option, Some, None, FitsSigned}
use Rattle.std.specs.Int.{w64}
use Rattle.std.specs.Ordering.{int_eq}
use Rattle.sc_base.specs.declared.operator.Binary.{Binary}
use Rattle.sc_base.specs.declared.operator.Binary.TheVariants as op
use Rattle.sc_base.specs.declared.operator.Unary.{Unary}
use Rattle.sc_base.specs.declared.operator.Unary.TheVariants as unary
use Rattle.sc_base.specs.declared.shape.Star.{Star}
use Rattle.sc_base.specs.declared.shape.Star.TheVariants as star
use Rattle.sc_base.specs.declared.shape.Shape.{Shape}
use Rattle.sc_base.specs.declared.shape.Ty.{Ty}
use Rattle.sc_tree.specs.PlainTyped.{TypedExpression, typed_expression, TypedForm}
use Rattle.sc_tree.specs.PlainTyped as typed
use Rattle.sc_typing.specs.declared.known.Spot.{Spot}
use Rattle.sc_typing.specs.declared.places.PlaceKind.{PlaceKind}
use Rattle.sc_typing.specs.declared.places.PlaceKind.TheVariants as place
use Rattle.sc_typing.specs.Types as types
use Rattle.sc_typing.specs.Types.{int, pointer, element, last_star, same_type, has_stars, is_int}
use Rattle.sc_typing.specs.Known.{Valued, expression_of, fits, meets, common, Judgement}
use Rattle.sc_typing.specs.Rules
use Rattle.sc_typing.specs.Places
use Rattle.sc_typing.specs.Places.{reached_by, may_be_memory}
use Rattle.sc_typing.specs.Naming.{constant, null_constant}
use Rattle.sc_typing.specs.Operators.{int_of, number_of, plus_of, prefix_kept, prefix_of, deref_value, deref_of, address_type, address_value, address_of, cast_type, cast_value, cast_of, step_value, step_of, set_value, assigned_value, assign_of, compound_of, set_of, chosen_value, choice_of}
use Rattle.sc_core.specs.Places.{Found, value, local, cell, is_own}
use Rattle.sc_core.specs.Expressions.{object_in, found, found_form}
use Rattle.sc_core.specs.Kinds.{Scope}
use Rattle.core_typing.proofs.Types.{left_of, right_of, one_of, no_more, Points, points, Alike, int-stars, element-stars, last-is, same-elements}
use Rattle.core_typing.proofs.Founds.{FoundIs}
use Rattle.sc_core.specs.Core.{Does}
use Rattle.sc_core.specs.Statements.{whole_form}
use Rattle.core_typing.proofs.Acts.{dropped-acts, assigning-acts}
use Rattle.core_typing.proofs.Finds.{Finds, finds-form, null-found, star-is}
use Rattle.core_typing.proofs.Forms.{Operates, on_number, on_pointer, number-comes, my_proc-comes, procs-comes, size_int-comes, plus-comes, prefix-comes, not-comes, deref-comes, IsThere, is_there, address-comes, cast-number-comes, cast-comes, choice-comes, assign-comes, compound-comes, step-comes}
use Rattle.core_typing.proofs.Made.{made-of, made-of-two, made-of-three, some-is}
use Rattle.core_typing.proofs.Sound.{IsPlaced, as_memory, fit-both, Sound, Knows, Whole, whole-as, acting-whole, value-whole, met-finds}

-- what an operator asks of its left operand's type
pub operates-by : (moves : Bool) (o : Binary) (ty : Ty) → (moves ≡ true → Rules.moves o ≡ true) →
    (is_int ty || (moves && has_stars ty.stars)) ≡ true → Operates ty.stars o
operates-by moves o ty m h =
    one_of (is_int ty) (moves && has_stars ty.stars) h (λ x. on_number (int-stars ty x))
    (λ x. on_pointer (points ty.stars (right_of moves (has_stars ty.stars) x)) (m (left_of moves (has_stars ty.stars) x)))

-- the right side fits the type of the left one
pub left-fits : (left right : Judgement) (v w : Valued) → left.known ≡ Some v → right.known ≡ Some w →
    Rules.fit_left left right ≡ true → fits w.ty w.is_null v.ty ≡ true
left-fits left right v w e g h =
    subst (λ (o : Option Valued). Rules.passes (λ x. fits x.ty x.is_null v.ty) o ≡ true) g
    (subst (λ (o : Option Valued). Rules.passes (λ x. Rules.fit right.known x.ty) o ≡ true) e h)

pub assigned-fits : (left right : Judgement) (v w : Valued) → left.known ≡ Some v → right.known ≡ Some w →
    Rules.assignment_kept left right ≡ true → fits w.ty w.is_null v.ty ≡ true
assigned-fits left right v w e g h = left-fits left right v w e g (right_of (Places.may_be_set left.place) (Rules.fit_left left right) h)

-- one arm fits the type of the other
pub arms-fit : (on off : Judgement) (a b : Valued) → on.known ≡ Some a → off.known ≡ Some b →
    Rules.arms_kept on.known off.known ≡ true → (fits a.ty a.is_null b.ty || fits b.ty b.is_null a.ty) ≡ true
arms-fit on off a b e g h =
    subst (λ (o : Option Valued). Rules.arms_kept (Some a) o ≡ true) g
    (subst (λ (o : Option Valued). Rules.arms_kept o off.known ≡ true) e h)

-- the place that `&` takes is a cell
pub record IsMemory (at_place : PlaceKind) (what : Found) : Type 0 where
  pub star : Star
  pub memory : at_place ≡ place.Memory (Some star)
  pub there : IsThere what

pub memory-there : (at_place : PlaceKind) (what : Found) → IsPlaced at_place what → may_be_memory at_place ≡ true →
    IsMemory at_place what
memory-there place.NoPlace what p h = no_more h
memory-there place.Local what p h = no_more h
memory-there place.Unknown what p h = elim p [ ]
memory-there (place.Memory None) what p h = elim p [ ]
memory-there (place.Memory (Some s)) (cell pointer own line) p h = record { star = s; memory = refl; there = is_there }
memory-there (place.Memory (Some s)) (value e) p h = elim p [ ]
memory-there (place.Memory (Some s)) (local x line) p h = elim p [ ]

module _ (objects : List Shape) (scope : Scope) where
  abbrev W : Judgement → Valued → Type 0
  W j v = Whole objects scope j v

  -- what an operand of this type comes to
  pub int-finds : {at_place : PlaceKind} (v : Valued) → Sound objects scope at_place v → is_int v.ty ≡ true →
      Finds objects scope [] v.expression
  int-finds v s h = subst (λ (ss : List Star). Finds objects scope ss v.expression) (int-stars v.ty h) s.finds

  -- ---- no operand

  pub number-whole : (n : ℤ) (spot : Spot) (v : Valued) → FitsSigned w64 n → (number_of n spot).known ≡ Some v →
      W (number_of n spot) v
  unfolding number_of
  number-whole n spot v f h =
      whole-as objects scope _ v (some-is _ v h)
      (value-whole objects scope (typed.number n) int (int_eq n (pos 0)) spot _ refl refl refl (λ d. refl)
      (number-comes objects scope spot.line f))

  constant-whole : (form : TypedForm) (spot : Spot) (v : Valued) → object_in form ≡ None →
      ((d : Does) → whole_form objects form d spot.line ≡ d) →
      FoundIs scope [] (found_form objects form spot.line) → (constant form spot).known ≡ Some v → W (constant form spot) v
  constant-whole form spot v o q f h =
      whole-as objects scope _ v (some-is _ v h) (value-whole objects scope form int false spot _ refl refl o q f)

  pub my_proc-whole : (spot : Spot) (v : Valued) → (constant typed.my_proc spot).known ≡ Some v →
      W (constant typed.my_proc spot) v
  my_proc-whole spot v h = constant-whole typed.my_proc spot v refl (λ d. refl) (my_proc-comes objects scope spot.line) h

  pub procs-whole : (spot : Spot) (v : Valued) → (constant typed.procs spot).known ≡ Some v →
      W (constant typed.procs spot) v
  procs-whole spot v h = constant-whole typed.procs spot v refl (λ d. refl) (procs-comes objects scope spot.line) h

  pub size_int-whole : (spot : Spot) (v : Valued) → (constant typed.size_int spot).known ≡ Some v →
      W (constant typed.size_int spot) v
  size_int-whole spot v h = constant-whole typed.size_int spot v refl (λ d. refl) (size_int-comes objects scope spot.line) h

  pub null-whole : (spot : Spot) (v : Valued) → (null_constant spot).known ≡ Some v → W (null_constant spot) v
  null-whole spot v h =
      whole-as objects scope _ v (some-is _ v h)
      (value-whole objects scope typed.null (pointer int star.Local) true spot _ refl refl refl (λ d. refl)
      (null-found objects scope spot.line (points (star.Local ∷ []) refl)))

  -- ---- one operand

  pub plus-whole : (j : Judgement) (spot : Spot) (v : Valued) → Knows objects scope j → (plus_of j spot).known ≡ Some v →
      W (plus_of j spot) v
  unfolding plus_of
  plus-whole j spot v k h =
      let m = made-of (int_of typed.plus spot) (Rules.int_kept j.known) j.known v h in
      let kept = subst (λ (o : Option Valued). Rules.int_kept o ≡ true) m.is m.rule in
      whole-as objects scope _ v m.gives
      (value-whole objects scope (typed.plus (m.of).expression) int false spot _ refl refl refl (λ d. refl)
      (plus-comes objects scope spot.line (int-finds m.of (k m.of m.is) kept)))

  prefix-found : {at_place : PlaceKind} (o : Unary) (v : Valued) (line : ℕ) → Sound objects scope at_place v →
      prefix_kept o (Some v) ≡ true → FoundIs scope [] (found_form objects (typed.prefix o v.expression) line)
  prefix-found unary.Not v line s h = not-comes objects scope line s.finds
  prefix-found unary.Minus v line s h = prefix-comes objects scope unary.Minus line (int-finds v s h)
  prefix-found unary.Invert v line s h = prefix-comes objects scope unary.Invert line (int-finds v s h)

  pub prefix-whole : (o : Unary) (j : Judgement) (spot : Spot) (v : Valued) → Knows objects scope j →
      (prefix_of o j spot).known ≡ Some v → W (prefix_of o j spot) v
  unfolding prefix_of
  prefix-whole o j spot v k h =
      let m = made-of (int_of (typed.prefix o) spot) (prefix_kept o j.known) j.known v h in
      let kept = subst (λ (t : Option Valued). prefix_kept o t ≡ true) m.is m.rule in
      whole-as objects scope _ v m.gives
      (value-whole objects scope (typed.prefix o (m.of).expression) int false spot _ refl refl refl (λ d. refl)
      (prefix-found o m.of spot.line (k m.of m.is) kept))

  deref-placed : (w : Valued) (spot : Spot) → Finds objects scope w.ty.stars w.expression → Points w.ty.stars →
      IsPlaced (reached_by (Some w)) (found objects (deref_value spot w).expression)
  unfolding found
  deref-placed w spot f p =
      rw (last-is w.ty ∙ p.last) (as_memory (ap is_own (star-is objects scope f ∙ p.last)))

  pub deref-whole : (j : Judgement) (spot : Spot) (v : Valued) → Knows objects scope j →
      (deref_of j spot).known ≡ Some v → W (deref_of j spot) v
  unfolding deref_of
  deref-whole j spot v k h =
      let m = made-of (deref_value spot) (Rules.pointer_kept j.known) j.known v h in
      let p = points (m.of).ty.stars (subst (λ (o : Option Valued). Rules.pointer_kept o ≡ true) m.is m.rule) in
      let s = k m.of m.is in
      let f : Finds objects scope (element (m.of).ty).stars (deref_value spot m.of).expression =
      finds-form objects scope
      (subst (λ (ss : List Star). FoundIs scope ss (found_form objects (typed.deref (m.of).expression) spot.line))
      (sym (element-stars (m.of).ty)) (deref-comes objects scope spot.line p s.finds)) in
      whole-as objects scope _ v m.gives
      (record {
        taken = refl;
        nameless = refl;
        sound = record {
          finds = f;
          placed =
              subst (λ (o : Option Valued). IsPlaced (reached_by o) (found objects (deref_value spot m.of).expression))
              (sym m.is) (deref-placed m.of spot s.finds p);
        };
        acts = dropped-acts objects scope f;
      })

  pub address-whole : (j : Judgement) (spot : Spot) (v : Valued) → Knows objects scope j →
      (address_of j spot).known ≡ Some v → W (address_of j spot) v
  unfolding address_of
  address-whole j spot v k h =
      let m = made-of (address_value spot j.place) (Rules.address_kept j) j.known v h in
      let s = k m.of m.is in
      let t = memory-there j.place (found objects (m.of).expression) s.placed m.rule in
      whole-as objects scope _ v m.gives
      (value-whole objects scope (typed.address (m.of).expression) (address_type (m.of).ty j.place) false spot _ refl refl refl (λ d. refl)
      (subst (λ (pl : PlaceKind). FoundIs scope (address_type (m.of).ty pl).stars
      (found_form objects (typed.address (m.of).expression) spot.line)) (sym t.memory)
      (address-comes objects scope t.star spot.line s.finds t.there)))

  cast-found : {at_place : PlaceKind} (stars : List Star) (v : Valued) (line : ℕ) → Sound objects scope at_place v →
      Rules.cast_kept (cast_type stars) (Some v) ≡ true →
      FoundIs scope stars (found_form objects (typed.cast stars v.expression) line)
  cast-found [] v line s h = cast-number-comes objects scope line (int-finds v s h)
  cast-found (x ∷ xs) v line s h = cast-comes objects scope line s.finds alike
    where
      rest : (has_stars v.ty.stars && same_type (element v.ty) (element (cast_type (x ∷ xs)))) ≡ true
      rest = right_of (types.is_wide (last_star (cast_type (x ∷ xs)))) _ h

      alike : Alike v.ty.stars (x ∷ xs)
      alike = record {
        from = points v.ty.stars (left_of (has_stars v.ty.stars) _ rest);
        onto = points (x ∷ xs) refl;
        elements = same-elements v.ty (cast_type (x ∷ xs)) (right_of (has_stars v.ty.stars) _ rest);
      }

  pub cast-whole : (stars : List Star) (j : Judgement) (spot : Spot) (v : Valued) → Knows objects scope j →
      (cast_of stars j spot).known ≡ Some v → W (cast_of stars j spot) v
  unfolding cast_of
  cast-whole stars j spot v k h =
      let m = made-of (cast_value stars spot) (Rules.cast_kept (cast_type stars) j.known) j.known v h in
      let kept = subst (λ (o : Option Valued). Rules.cast_kept (cast_type stars) o ≡ true) m.is m.rule in
      whole-as objects scope _ v m.gives
      (value-whole objects scope (typed.cast stars (m.of).expression) (cast_type stars) false spot _ refl refl refl (λ d. refl)
      (cast-found stars m.of spot.line (k m.of m.is) kept))

  pub step-whole : (is_up : Bool) (j : Judgement) (spot : Spot) (v : Valued) → Knows objects scope j →
      (step_of is_up j spot).known ≡ Some v → W (step_of is_up j spot) v
  unfolding step_of
  step-whole is_up j spot v k h =
      let m = made-of (step_value is_up spot) (Rules.place_kept true j.place j.known) j.known v h in
      let kept = subst (λ (o : Option Valued). Rules.place_kept true j.place o ≡ true) m.is m.rule in
      let moved = right_of (Places.may_be_set j.place) (is_int (m.of).ty || (true && has_stars (m.of).ty.stars)) kept in
      whole-as objects scope _ v m.gives
      (value-whole objects scope (typed.step is_up (m.of).expression) (m.of).ty false spot _ refl refl refl (λ d. refl)
      (step-comes objects scope is_up spot.line (operates-by true op.Add (m.of).ty (λ x. refl) moved)
      (operates-by true op.Sub (m.of).ty (λ x. refl) moved) (k m.of m.is).finds))

  -- ---- two and three operands

  pub assign-whole : (left right : Judgement) (spot : Spot) (v : Valued) → Knows objects scope left →
      Knows objects scope right → (assign_of left right spot).known ≡ Some v → W (assign_of left right spot) v
  unfolding assign_of
  assign-whole left right spot v k l h =
      let m = made-of-two (assigned_value spot) (Rules.assignment_kept left right) left.known right.known v h in
      let fit = assigned-fits left right m.first m.second m.left_is m.right_is m.rule in
      whole-as objects scope _ v m.gives
      (acting-whole objects scope (typed.assign None (m.first).expression (meets m.second (m.first).ty).expression)
      (m.first).ty false spot _ refl refl refl
      (assign-comes objects scope spot.line (k m.first m.left_is).finds
      (met-finds objects scope m.second (m.first).ty (l m.second m.right_is) fit))
      (λ d a. assigning-acts scope spot.line (k m.first m.left_is).finds.is
      (met-finds objects scope m.second (m.first).ty (l m.second m.right_is) fit).is a))

  pub compound-whole : (o : Binary) (left right : Judgement) (spot : Spot) (v : Valued) → Knows objects scope left →
      Knows objects scope right → (compound_of o left right spot).known ≡ Some v → W (compound_of o left right spot) v
  unfolding compound_of
  compound-whole o left right spot v k l h =
      let m = made-of-two (set_value (Some o) spot) (Rules.update_kept o left right) left.known right.known v h in
      let first_rule = left_of (Rules.place_kept (Rules.moves o) left.place left.known) (Rules.are_int right.known) m.rule in
      let second_rule = right_of (Rules.place_kept (Rules.moves o) left.place left.known) (Rules.are_int right.known) m.rule in
      let kept =
      right_of (Places.may_be_set left.place)
      (is_int (m.first).ty || (Rules.moves o && has_stars (m.first).ty.stars))
      (subst (λ (t : Option Valued). Rules.place_kept (Rules.moves o) left.place t ≡ true) m.left_is first_rule) in
      let number = subst (λ (t : Option Valued). Rules.are_int t ≡ true) m.right_is second_rule in
      whole-as objects scope _ v m.gives
      (value-whole objects scope (typed.assign (Some o) (m.first).expression (m.second).expression) (m.first).ty false
      spot _ refl refl refl (λ d. refl)
      (compound-comes objects scope o spot.line (operates-by (Rules.moves o) o (m.first).ty (λ x. x) kept)
      (k m.first m.left_is).finds (int-finds m.second (l m.second m.right_is) number)))

  pub set-whole : (o : Option Binary) (left right : Judgement) (spot : Spot) (v : Valued) → Knows objects scope left →
      Knows objects scope right → (set_of o left right spot).known ≡ Some v → W (set_of o left right spot) v
  set-whole None left right spot v k l h = assign-whole left right spot v k l h
  set-whole (Some o) left right spot v k l h = compound-whole o left right spot v k l h

  pub choice-whole : (test on off : Judgement) (spot : Spot) (v : Valued) → Knows objects scope test →
      Knows objects scope on → Knows objects scope off → (choice_of test on off spot).known ≡ Some v →
      W (choice_of test on off spot) v
  unfolding choice_of
  choice-whole test on off spot v k l n h =
      let m =
      made-of-three (chosen_value spot) (Rules.test_kept test.known && Rules.arms_kept on.known off.known) test.known
      on.known off.known v h in
      let a = m.first in
      let b = m.second in
      let arms = right_of (Rules.test_kept test.known) (Rules.arms_kept on.known off.known) m.rule in
      let fit = fit-both a.ty a.is_null b.ty b.is_null (arms-fit on off a b m.on_is m.off_is arms) in
      let ty = common a.ty a.is_null b.ty in
      whole-as objects scope _ v m.gives
      (value-whole objects scope
      (typed.choice (m.tested).expression (expression_of (meets a ty)) (expression_of (meets b ty))) ty false spot _ refl refl refl (λ d. refl)
      (choice-comes objects scope spot.line (k m.tested m.test_is).finds
      (met-finds objects scope a ty (l a m.on_is) fit.first) (met-finds objects scope b ty (n b m.off_is) fit.second)))

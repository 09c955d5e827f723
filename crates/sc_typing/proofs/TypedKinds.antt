-- An expression of each kind with a fixed number of operands has a type exactly where nothing in it is broken, where that
-- is so of its operands.
use Rattle.std.proofs.Common.{◌≡◌, refl, ◌∙◌, ℕ, Bool, true, false, ◌&&◌, List, Option, Some, None}
use Rattle.std.specs.Prelude.{ℤ, is_some, if◌then◌else◌}
use Rattle.std.specs.Option.{option_map}
use Rattle.sc_base.specs.declared.operator.Binary.{Binary}
use Rattle.sc_base.specs.declared.operator.Unary.{Unary}
use Rattle.sc_base.specs.declared.operator.Unary.TheVariants as unary
use Rattle.sc_base.specs.declared.shape.Star.{Star}
use Rattle.sc_tree.specs.Plain.{Expression, expression, number, null, my_proc, procs, size_int, format, choice, assign}
use Rattle.sc_tree.specs.Plain.{step, plus, prefix, deref, address, cast}
use Rattle.sc_typing.specs.declared.scope.InScope.{InScope}
use Rattle.sc_typing.specs.declared.rule.Rule.{Rule}
use Rattle.sc_typing.specs.declared.rule.Rule.TheVariants as rules
use Rattle.sc_typing.specs.Source.{Source}
use Rattle.sc_typing.specs.Known.{Valued, only}
use Rattle.sc_typing.specs.Rules
use Rattle.sc_typing.specs.Operators.{number_of, plus_of, prefix_of, deref_of, address_of, cast_type, cast_of, step_of}
use Rattle.sc_typing.specs.Operators.{both_of, assign_of, compound_of, all_of, choice_of}
use Rattle.sc_typing.specs.Typing.{judge}
use Rattle.sc_typing.specs.ExpressionParts.{known_of}
use Rattle.sc_typing.proofs.ExpressionNotes.{note_choice}
use Rattle.sc_typing.proofs.Exactly.{Either, exact-nothing, exact-unless, exact-then}
use Rattle.sc_typing.proofs.OperandsNoted.{Inside, Untested, OneFails, TwoFail, exact-tested, exact-one, exact-two}
use Rattle.sc_typing.proofs.KindsNoted.{One, Two}
use Rattle.sc_typing.proofs.ExpressionsNoted.{exact-value}
use Rattle.sc_typing.proofs.Agrees.{Agrees, agrees-never, agrees-fails, agrees-either, agrees-is, agrees-exact}

-- whether it has a type
abbrev pub typed : Source → List InScope → (indices : ℕ) → Expression → Bool
typed c locals i e = is_some (judge c locals i e).known

-- it has a type exactly where nothing in it is broken
abbrev pub TypedIn : Source → List InScope → (indices : ℕ) → Expression → Type 0
TypedIn c locals i e = Agrees (Inside c locals i e) (typed c locals i e)

-- ---- tests of what may have a type

abbrev pub has : Option Valued → Bool
has known = is_some known

-- a used operand, where the rule on it is kept, and what is made of it
pub only-some : (kept : Bool) (known : Option Valued) →
    (is_some known && (Rules.value_kept known && kept)) ≡ is_some (only kept known)
only-some kept None = refl
only-some kept (Some v) = go v.ty.void kept
  where
    go : (void rule : Bool) →
        (Rules.opposite void && rule)
        ≡ has (if void then None else if rule then Some v else None)
    go true rule = refl
    go false true = refl
    go false false = refl

map-some : {B : Type 0} (f : Valued → B) (known : Option Valued) → is_some known ≡ is_some (option_map f known)
map-some f None = refl
map-some f (Some v) = refl

pub only-made : {B : Type 0} (f : Valued → B) (kept : Bool) (known : Option Valued) →
    (is_some known && (Rules.value_kept known && kept)) ≡ is_some (option_map f (only kept known))
only-made f kept known = only-some kept known ∙ map-some f (only kept known)

two-made : (f : Valued → Valued → Valued) (kept : Bool) (left right : Option Valued) →
    ((is_some left && is_some right) && ((Rules.value_kept left && Rules.value_kept right) && kept))
    ≡ is_some (both_of f (only kept left) (only true right))
two-made f kept None right = refl
two-made f kept (Some v) None = go v.ty.void kept
  where
    go : (void rule : Bool) → false ≡ is_some (both_of f (if void then None else if rule then Some v else None) None)
    go true rule = refl
    go false true = refl
    go false false = refl
two-made f kept (Some v) (Some w) = go v.ty.void w.ty.void kept
  where
    go : (void other rule : Bool) →
        ((Rules.opposite void && Rules.opposite other) && rule)
        ≡ is_some
        (both_of f (if void then None else if rule then Some v else None) (if other then None else Some w))
    go true other rule = refl
    go false true true = refl
    go false true false = refl
    go false false true = refl
    go false false false = refl

three-made : (f : Valued → Valued → Valued → Valued) (test_rule arms_rule : Bool) (test on off : Option Valued) →
    ((((is_some test && is_some on) && is_some off) && (Rules.value_kept test && test_rule))
    && ((Rules.value_kept on && Rules.value_kept off) && arms_rule))
    ≡ is_some (all_of f (only (test_rule && arms_rule) test) (only true on) (only true off))
three-made f test_rule arms_rule None on off = refl
three-made f test_rule arms_rule (Some t) None off = go t.ty.void test_rule arms_rule
  where
    go : (void one other : Bool) →
        false ≡ is_some (all_of f (if void then None else if one && other then Some t else None) None (only true off))
    go true one other = refl
    go false true true = refl
    go false true false = refl
    go false false other = refl
three-made f test_rule arms_rule (Some t) (Some v) None = go t.ty.void v.ty.void test_rule arms_rule
  where
    go : (void void_on one other : Bool) →
        false
        ≡ is_some
        (all_of f (if void then None else if one && other then Some t else None) (if void_on then None else Some v) None)
    go true void_on one other = refl
    go false true true true = refl
    go false true true false = refl
    go false false true true = refl
    go false false true false = refl
    go false void_on false other = refl
three-made f test_rule arms_rule (Some t) (Some v) (Some w) =
    go t.ty.void v.ty.void w.ty.void test_rule arms_rule
  where
    go : (void void_on void_off one other : Bool) →
        ((Rules.opposite void && one) && ((Rules.opposite void_on && Rules.opposite void_off) && other))
        ≡ is_some
        (all_of f (if void then None else if one && other then Some t else None) (if void_on then None else Some v)
        (if void_off then None else Some w))
    go true void_on void_off one other = refl
    go false void_on void_off false other = refl
    go false true void_off true true = refl
    go false true void_off true false = refl
    go false false true true true = refl
    go false false true true false = refl
    go false false false true true = refl
    go false false false true false = refl

module _ (c : Source) (locals : List InScope) (i start at line : ℕ) where
  -- ---- operands

  one : {e : Expression} {kept : Bool} {token : ℕ} {rule : Rule} → TypedIn c locals 0 e →
      Agrees (One c locals e kept token rule)
      (typed c locals 0 e && (Rules.value_kept (known_of c locals e).known && kept))
  one {kept = kept} {token = token} {rule = rule} h =
      agrees-either h (agrees-either (agrees-fails _ _ _) (agrees-fails kept token rule))

  -- ---- no operand

  pub typed-number : (n : ℤ) → TypedIn c locals i (expression (number n) start at line)
  unfolding number_of
  typed-number n =
      agrees-exact exact-nothing (exact-value c locals i (expression (number n) start at line)) agrees-never

  pub typed-null : TypedIn c locals i (expression null start at line)
  typed-null = agrees-exact exact-nothing (exact-value c locals i (expression null start at line)) agrees-never

  pub typed-my_proc : TypedIn c locals i (expression my_proc start at line)
  typed-my_proc = agrees-exact exact-nothing (exact-value c locals i (expression my_proc start at line)) agrees-never

  pub typed-procs : TypedIn c locals i (expression procs start at line)
  typed-procs = agrees-exact exact-nothing (exact-value c locals i (expression procs start at line)) agrees-never

  pub typed-size_int : TypedIn c locals i (expression size_int start at line)
  typed-size_int =
      agrees-exact exact-nothing (exact-value c locals i (expression size_int start at line)) agrees-never

  pub typed-format : (n : ℕ) → TypedIn c locals i (expression (format n) start at line)
  typed-format n =
      agrees-exact (exact-unless false at rules.Format)
      (exact-value c locals i (expression (format n) start at line)) (agrees-fails false at rules.Format)

  -- ---- one operand

  pub typed-plus : (e : Expression) → TypedIn c locals 0 e → TypedIn c locals i (expression (plus e) start at line)
  unfolding plus_of
  typed-plus e h =
      let kept = Rules.int_kept (known_of c locals e).known in
      agrees-exact (exact-then (exact-value c locals 0 e) (exact-one (known_of c locals e) kept at rules.Ints))
      (exact-value c locals i (expression (plus e) start at line))
      (agrees-is (only-made _ kept (known_of c locals e).known) (one h))

  typed-minus : (e : Expression) → TypedIn c locals 0 e →
      TypedIn c locals i (expression (prefix unary.Minus e) start at line)
  unfolding prefix_of
  typed-minus e h =
      let kept = Rules.int_kept (known_of c locals e).known in
      agrees-exact (exact-then (exact-value c locals 0 e) (exact-one (known_of c locals e) kept at rules.Ints))
      (exact-value c locals i (expression (prefix unary.Minus e) start at line))
      (agrees-is (only-made _ kept (known_of c locals e).known) (one h))

  typed-invert : (e : Expression) → TypedIn c locals 0 e →
      TypedIn c locals i (expression (prefix unary.Invert e) start at line)
  unfolding prefix_of
  typed-invert e h =
      let kept = Rules.int_kept (known_of c locals e).known in
      agrees-exact (exact-then (exact-value c locals 0 e) (exact-one (known_of c locals e) kept at rules.Ints))
      (exact-value c locals i (expression (prefix unary.Invert e) start at line))
      (agrees-is (only-made _ kept (known_of c locals e).known) (one h))

  typed-not : (e : Expression) → TypedIn c locals 0 e →
      TypedIn c locals i (expression (prefix unary.Not e) start at line)
  unfolding prefix_of
  typed-not e h =
      let kept = Rules.test_kept (known_of c locals e).known in
      agrees-exact (exact-then (exact-value c locals 0 e) (exact-tested (known_of c locals e)))
      (exact-value c locals i (expression (prefix unary.Not e) start at line))
      (agrees-is (only-made _ kept (known_of c locals e).known) (one h))

  pub typed-prefix : (op : Unary) (e : Expression) → TypedIn c locals 0 e →
      TypedIn c locals i (expression (prefix op e) start at line)
  typed-prefix unary.Minus e h = typed-minus e h
  typed-prefix unary.Not e h = typed-not e h
  typed-prefix unary.Invert e h = typed-invert e h

  pub typed-step : (is_up : Bool) (e : Expression) → TypedIn c locals 0 e →
      TypedIn c locals i (expression (step is_up e) start at line)
  unfolding step_of
  typed-step is_up e h =
      let kept = Rules.place_kept true (known_of c locals e).place (known_of c locals e).known in
      agrees-exact (exact-then (exact-value c locals 0 e) (exact-one (known_of c locals e) kept at rules.Update))
      (exact-value c locals i (expression (step is_up e) start at line))
      (agrees-is (only-made _ kept (known_of c locals e).known) (one h))

  pub typed-deref : (e : Expression) → TypedIn c locals 0 e → TypedIn c locals i (expression (deref e) start at line)
  unfolding deref_of
  typed-deref e h =
      let kept = Rules.pointer_kept (known_of c locals e).known in
      agrees-exact (exact-then (exact-value c locals 0 e) (exact-one (known_of c locals e) kept at rules.Pointer))
      (exact-value c locals i (expression (deref e) start at line))
      (agrees-is (only-made _ kept (known_of c locals e).known) (one h))

  pub typed-address : (e : Expression) → TypedIn c locals 0 e →
      TypedIn c locals i (expression (address e) start at line)
  unfolding address_of
  typed-address e h =
      let kept = Rules.address_kept (known_of c locals e) in
      agrees-exact (exact-then (exact-value c locals 0 e) (exact-one (known_of c locals e) kept at rules.Address))
      (exact-value c locals i (expression (address e) start at line))
      (agrees-is (only-made _ kept (known_of c locals e).known) (one h))

  pub typed-cast : (stars : List Star) (e : Expression) → TypedIn c locals 0 e →
      TypedIn c locals i (expression (cast stars e) start at line)
  unfolding cast_of
  typed-cast stars e h =
      let kept = Rules.cast_kept (cast_type stars) (known_of c locals e).known in
      agrees-exact (exact-then (exact-value c locals 0 e) (exact-one (known_of c locals e) kept at rules.Use))
      (exact-value c locals i (expression (cast stars e) start at line))
      (agrees-is (only-made _ kept (known_of c locals e).known) (one h))

  -- ---- two and three operands

  two : {left right : Expression} {kept : Bool} {token : ℕ} {rule : Rule} → TypedIn c locals 0 left →
      TypedIn c locals 0 right →
      Agrees (Two c locals left right kept token rule)
      ((typed c locals 0 left && typed c locals 0 right)
      && ((Rules.value_kept (known_of c locals left).known && Rules.value_kept (known_of c locals right).known) && kept))
  two {kept = kept} {token = token} {rule = rule} l r =
      agrees-either (agrees-either l r)
      (agrees-either (agrees-either (agrees-fails _ _ _) (agrees-fails _ _ _)) (agrees-fails kept token rule))

  typed-assign : (left right : Expression) → TypedIn c locals 0 left → TypedIn c locals 0 right →
      TypedIn c locals i (expression (assign None left right) start at line)
  unfolding assign_of
  typed-assign left right l r =
      let kept = Rules.assignment_kept (known_of c locals left) (known_of c locals right) in
      agrees-exact
      (exact-then (exact-then (exact-value c locals 0 left) (exact-value c locals 0 right))
      (exact-two (known_of c locals left) (known_of c locals right) kept at rules.Assignment))
      (exact-value c locals i (expression (assign None left right) start at line))
      (agrees-is (two-made _ kept (known_of c locals left).known (known_of c locals right).known) (two l r))

  typed-compound : (op : Binary) (left right : Expression) → TypedIn c locals 0 left → TypedIn c locals 0 right →
      TypedIn c locals i (expression (assign (Some op) left right) start at line)
  unfolding compound_of
  typed-compound op left right l r =
      let kept = Rules.update_kept op (known_of c locals left) (known_of c locals right) in
      agrees-exact
      (exact-then (exact-then (exact-value c locals 0 left) (exact-value c locals 0 right))
      (exact-two (known_of c locals left) (known_of c locals right) kept at rules.Update))
      (exact-value c locals i (expression (assign (Some op) left right) start at line))
      (agrees-is (two-made _ kept (known_of c locals left).known (known_of c locals right).known) (two l r))

  pub typed-set : (op : Option Binary) (left right : Expression) → TypedIn c locals 0 left →
      TypedIn c locals 0 right → TypedIn c locals i (expression (assign op left right) start at line)
  typed-set None left right l r = typed-assign left right l r
  typed-set (Some op) left right l r = typed-compound op left right l r

  pub typed-choice : (test on off : Expression) → TypedIn c locals 0 test → TypedIn c locals 0 on →
      TypedIn c locals 0 off → TypedIn c locals i (expression (choice test on off) start at line)
  unfolding choice_of note_choice
  typed-choice test on off t x y =
      let test_rule = Rules.test_kept (known_of c locals test).known in
      let arms_rule = Rules.arms_kept (known_of c locals on).known (known_of c locals off).known in
      agrees-exact
      (exact-then
      (exact-then (exact-then (exact-then (exact-value c locals 0 test) (exact-value c locals 0 on))
      (exact-value c locals 0 off)) (exact-tested (known_of c locals test)))
      (exact-two (known_of c locals on) (known_of c locals off) arms_rule at rules.Use))
      (exact-value c locals i (expression (choice test on off) start at line))
      (agrees-is
      (three-made _ test_rule arms_rule (known_of c locals test).known (known_of c locals on).known
      (known_of c locals off).known)
      (agrees-either
      (agrees-either (agrees-either (agrees-either t x) y)
      (agrees-either (agrees-fails _ _ _) (agrees-fails test_rule _ rules.Test)))
      (agrees-either (agrees-either (agrees-fails _ _ _) (agrees-fails _ _ _)) (agrees-fails arms_rule at rules.Use))))

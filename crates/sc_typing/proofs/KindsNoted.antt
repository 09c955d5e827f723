-- What is noted of an expression of each kind with a fixed number of operands is what it breaks itself, or one of
-- them, where that is so of the operands.
use Rattle.std.proofs.Common.{◌≡◌, refl, ℕ, Bool, true, false, List, Option, Some, None, inl, inr}
use Rattle.std.specs.Prelude.{ℤ}
use Rattle.sc_base.specs.declared.operator.Binary.{Binary}
use Rattle.sc_base.specs.declared.operator.Unary.{Unary}
use Rattle.sc_base.specs.declared.operator.Unary.TheVariants as unary
use Rattle.sc_base.specs.declared.shape.Star.{Star}
use Rattle.sc_tree.specs.Plain.{Expression, expression, Kind, number, null, my_proc, procs, size_int, format, choice}
use Rattle.sc_tree.specs.Plain.{assign, step, plus, prefix, deref, address, cast}
use Rattle.sc_typing.specs.declared.notes.Breach.{Breach}
use Rattle.sc_typing.specs.declared.scope.InScope.{InScope}
use Rattle.sc_typing.specs.declared.rule.Rule.{Rule}
use Rattle.sc_typing.specs.declared.rule.Rule.TheVariants as rules
use Rattle.sc_typing.specs.Source.{Source}
use Rattle.sc_typing.specs.Rules
use Rattle.sc_typing.specs.Operators.{cast_type}
use Rattle.sc_typing.proofs.ExpressionNotes.{note_choice}
use Rattle.sc_typing.specs.BrokenExpressions as Broken
use Rattle.sc_typing.specs.ExpressionParts as Parts
use Rattle.sc_typing.specs.ExpressionParts.{IsOperand, IsTested, IsSigned, known_of}
use Rattle.sc_typing.specs.BrokenExpressions.{breach, BrokenIn, here, within_operand, Breaks, void_used, sign_no_int}
use Rattle.sc_typing.specs.BrokenExpressions.{test_no_scalar}
use Rattle.sc_typing.proofs.Exactly.{Exact, Fails, fails, Never, Either, exact-nothing, exact-unless, exact-then}
use Rattle.sc_typing.proofs.Exactly.{exact-as}
use Rattle.sc_typing.proofs.OperandsNoted.{Inside, ExactIn, Tested, Untested, OneFails, TwoFail, exact-tested}
use Rattle.sc_typing.proofs.OperandsNoted.{exact-one, exact-two, operand_breaks}

-- one operand with a rule on it
abbrev pub One : Source → List InScope → Expression → (kept : Bool) → (at : ℕ) → Rule → Breach → Type 0
One c locals e kept at rule = Either (Inside c locals 0 e) (OneFails (known_of c locals e) kept at rule)

one_broken : {c : Source} {locals : List InScope} {i start at line : ℕ} {k : Kind} {e : Expression} {kept : Bool}
    {token : ℕ} {rule : Rule} → IsOperand c locals k 0 e →
    (kept ≡ false → Breaks c locals i start at line k (breach token rule)) → (b : Breach) →
    One c locals e kept token rule b → Inside c locals i (expression k start at line) b
one_broken is rule b (inl h) = within_operand is h
one_broken is rule b (inr (inl f)) = operand_breaks is b (inr f)
one_broken is rule b (inr (inr (fails h))) = here (rule h)

-- two operands with a rule on both
abbrev pub Two : Source → List InScope → (left right : Expression) → (kept : Bool) → (at : ℕ) → Rule → Breach → Type 0
Two c locals left right kept at rule =
    Either (Either (Inside c locals 0 left) (Inside c locals 0 right))
    (TwoFail (known_of c locals left) (known_of c locals right) kept at rule)

two_broken : {c : Source} {locals : List InScope} {i start at line : ℕ} {k : Kind} {left right : Expression}
    {kept : Bool} {token : ℕ} {rule : Rule} →
    IsOperand c locals k 0 left → IsOperand c locals k 0 right →
    (kept ≡ false → Breaks c locals i start at line k (breach token rule)) →
    (b : Breach) → Two c locals left right kept token rule b → Inside c locals i (expression k start at line) b
two_broken l r rule b (inl (inl h)) = within_operand l h
two_broken l r rule b (inl (inr h)) = within_operand r h
two_broken l r rule b (inr (inl (inl f))) = operand_breaks l b (inr f)
two_broken l r rule b (inr (inl (inr f))) = operand_breaks r b (inr f)
two_broken l r rule b (inr (inr (fails h))) = here (rule h)

module _ (c : Source) (locals : List InScope) (i start at line : ℕ) where
  -- ---- no operand

  silent : (k : Kind) → ((b : Breach) → Inside c locals i (expression k start at line) b → Never b) →
      Exact (λ broken. broken) (Inside c locals i (expression k start at line))
  silent k fro = exact-as (λ b h. elim h [ ]) fro exact-nothing

  pub exact-number : (n : ℤ) → ExactIn c locals i (expression (number n) start at line)
  exact-number n = silent (number n) go
    where
      go : (b : Breach) → Inside c locals i (expression (number n) start at line) b → Never b
      go b (here (sign_no_int s h)) = elim s [ ]
      go b (here (test_no_scalar s h)) = elim s [ ]
      go b (here (void_used s h)) = elim s [ ]
      go b (within_operand s h) = elim s [ ]

  pub exact-null : ExactIn c locals i (expression null start at line)
  exact-null = silent null go
    where
      go : (b : Breach) → Inside c locals i (expression null start at line) b → Never b
      go b (here (sign_no_int s h)) = elim s [ ]
      go b (here (test_no_scalar s h)) = elim s [ ]
      go b (here (void_used s h)) = elim s [ ]
      go b (within_operand s h) = elim s [ ]

  pub exact-my_proc : ExactIn c locals i (expression my_proc start at line)
  exact-my_proc = silent my_proc go
    where
      go : (b : Breach) → Inside c locals i (expression my_proc start at line) b → Never b
      go b (here (sign_no_int s h)) = elim s [ ]
      go b (here (test_no_scalar s h)) = elim s [ ]
      go b (here (void_used s h)) = elim s [ ]
      go b (within_operand s h) = elim s [ ]

  pub exact-procs : ExactIn c locals i (expression procs start at line)
  exact-procs = silent procs go
    where
      go : (b : Breach) → Inside c locals i (expression procs start at line) b → Never b
      go b (here (sign_no_int s h)) = elim s [ ]
      go b (here (test_no_scalar s h)) = elim s [ ]
      go b (here (void_used s h)) = elim s [ ]
      go b (within_operand s h) = elim s [ ]

  pub exact-size_int : ExactIn c locals i (expression size_int start at line)
  exact-size_int = silent size_int go
    where
      go : (b : Breach) → Inside c locals i (expression size_int start at line) b → Never b
      go b (here (sign_no_int s h)) = elim s [ ]
      go b (here (test_no_scalar s h)) = elim s [ ]
      go b (here (void_used s h)) = elim s [ ]
      go b (within_operand s h) = elim s [ ]

  pub exact-format : (n : ℕ) → ExactIn c locals i (expression (format n) start at line)
  exact-format n = exact-as to fro (exact-unless false at rules.Format)
    where
      to : (b : Breach) → Fails false at rules.Format b → Inside c locals i (expression (format n) start at line) b
      to b (fails h) = here Broken.format_unprinted

      fro : (b : Breach) → Inside c locals i (expression (format n) start at line) b → Fails false at rules.Format b
      fro b (here Broken.format_unprinted) = fails refl
      fro b (here (sign_no_int s h)) = elim s [ ]
      fro b (here (test_no_scalar s h)) = elim s [ ]
      fro b (here (void_used s h)) = elim s [ ]
      fro b (within_operand s h) = elim s [ ]

  -- ---- one operand

  pub exact-plus : (e : Expression) → ExactIn c locals 0 e → ExactIn c locals i (expression (plus e) start at line)
  exact-plus e h =
      exact-as (one_broken Parts.plus_operand (sign_no_int Parts.plus_sign)) fro
      (exact-then h (exact-one (known_of c locals e) (Rules.int_kept (known_of c locals e).known) at rules.Ints))
    where
      fro : (b : Breach) → Inside c locals i (expression (plus e) start at line) b →
          One c locals e (Rules.int_kept (known_of c locals e).known) at rules.Ints b
      fro b (here (sign_no_int Parts.plus_sign f)) = inr (inr (fails f))
      fro b (here (test_no_scalar s f)) = elim s [ ]
      fro b (here (void_used Parts.plus_operand f)) = inr (inl (fails f))
      fro b (within_operand Parts.plus_operand f) = inl f

  pub exact-minus : (e : Expression) → ExactIn c locals 0 e →
      ExactIn c locals i (expression (prefix unary.Minus e) start at line)
  exact-minus e h =
      exact-as (one_broken Parts.prefix_operand (sign_no_int Parts.minus)) fro
      (exact-then h (exact-one (known_of c locals e) (Rules.int_kept (known_of c locals e).known) at rules.Ints))
    where
      fro : (b : Breach) → Inside c locals i (expression (prefix unary.Minus e) start at line) b →
          One c locals e (Rules.int_kept (known_of c locals e).known) at rules.Ints b
      fro b (here (sign_no_int Parts.minus f)) = inr (inr (fails f))
      fro b (here (test_no_scalar s f)) = elim s [ ]
      fro b (here (void_used Parts.prefix_operand f)) = inr (inl (fails f))
      fro b (within_operand Parts.prefix_operand f) = inl f

  pub exact-invert : (e : Expression) → ExactIn c locals 0 e →
      ExactIn c locals i (expression (prefix unary.Invert e) start at line)
  exact-invert e h =
      exact-as (one_broken Parts.prefix_operand (sign_no_int Parts.invert)) fro
      (exact-then h (exact-one (known_of c locals e) (Rules.int_kept (known_of c locals e).known) at rules.Ints))
    where
      fro : (b : Breach) → Inside c locals i (expression (prefix unary.Invert e) start at line) b →
          One c locals e (Rules.int_kept (known_of c locals e).known) at rules.Ints b
      fro b (here (sign_no_int Parts.invert f)) = inr (inr (fails f))
      fro b (here (test_no_scalar s f)) = elim s [ ]
      fro b (here (void_used Parts.prefix_operand f)) = inr (inl (fails f))
      fro b (within_operand Parts.prefix_operand f) = inl f

  pub exact-not : (e : Expression) → ExactIn c locals 0 e →
      ExactIn c locals i (expression (prefix unary.Not e) start at line)
  exact-not e h = exact-as to fro (exact-then h (exact-tested (known_of c locals e)))
    where
      to : (b : Breach) → Tested c locals e b → Inside c locals i (expression (prefix unary.Not e) start at line) b
      to b (inl f) = within_operand Parts.prefix_operand f
      to b (inr (inl f)) = operand_breaks Parts.prefix_operand b (inr f)
      to b (inr (inr (fails f))) = here (test_no_scalar Parts.of_not f)

      fro : (b : Breach) → Inside c locals i (expression (prefix unary.Not e) start at line) b → Tested c locals e b
      fro b (here (sign_no_int s f)) = elim s [ ]
      fro b (here (test_no_scalar Parts.of_not f)) = inr (inr (fails f))
      fro b (here (void_used Parts.prefix_operand f)) = inr (inl (fails f))
      fro b (within_operand Parts.prefix_operand f) = inl f

  pub exact-prefix : (op : Unary) (e : Expression) → ExactIn c locals 0 e →
      ExactIn c locals i (expression (prefix op e) start at line)
  exact-prefix unary.Not e h = exact-not e h
  exact-prefix unary.Minus e h = exact-minus e h
  exact-prefix unary.Invert e h = exact-invert e h

  pub exact-step : (is_up : Bool) (e : Expression) → ExactIn c locals 0 e →
      ExactIn c locals i (expression (step is_up e) start at line)
  exact-step is_up e h =
      exact-as (one_broken Parts.step_place Broken.step_broken) fro
      (exact-then h (exact-one (known_of c locals e)
      (Rules.place_kept true (known_of c locals e).place (known_of c locals e).known) at rules.Update))
    where
      fro : (b : Breach) → Inside c locals i (expression (step is_up e) start at line) b →
          One c locals e (Rules.place_kept true (known_of c locals e).place (known_of c locals e).known) at rules.Update b
      fro b (here (Broken.step_broken f)) = inr (inr (fails f))
      fro b (here (sign_no_int s f)) = elim s [ ]
      fro b (here (test_no_scalar s f)) = elim s [ ]
      fro b (here (void_used Parts.step_place f)) = inr (inl (fails f))
      fro b (within_operand Parts.step_place f) = inl f

  pub exact-deref : (e : Expression) → ExactIn c locals 0 e → ExactIn c locals i (expression (deref e) start at line)
  exact-deref e h =
      exact-as (one_broken Parts.deref_operand Broken.deref_no_pointer) fro
      (exact-then h (exact-one (known_of c locals e) (Rules.pointer_kept (known_of c locals e).known) at rules.Pointer))
    where
      fro : (b : Breach) → Inside c locals i (expression (deref e) start at line) b →
          One c locals e (Rules.pointer_kept (known_of c locals e).known) at rules.Pointer b
      fro b (here (Broken.deref_no_pointer f)) = inr (inr (fails f))
      fro b (here (sign_no_int s f)) = elim s [ ]
      fro b (here (test_no_scalar s f)) = elim s [ ]
      fro b (here (void_used Parts.deref_operand f)) = inr (inl (fails f))
      fro b (within_operand Parts.deref_operand f) = inl f

  pub exact-address : (e : Expression) → ExactIn c locals 0 e →
      ExactIn c locals i (expression (address e) start at line)
  exact-address e h =
      exact-as (one_broken Parts.address_operand Broken.address_no_memory) fro
      (exact-then h (exact-one (known_of c locals e) (Rules.address_kept (known_of c locals e)) at rules.Address))
    where
      fro : (b : Breach) → Inside c locals i (expression (address e) start at line) b →
          One c locals e (Rules.address_kept (known_of c locals e)) at rules.Address b
      fro b (here (Broken.address_no_memory f)) = inr (inr (fails f))
      fro b (here (sign_no_int s f)) = elim s [ ]
      fro b (here (test_no_scalar s f)) = elim s [ ]
      fro b (here (void_used Parts.address_operand f)) = inr (inl (fails f))
      fro b (within_operand Parts.address_operand f) = inl f

  pub exact-cast : (stars : List Star) (e : Expression) → ExactIn c locals 0 e →
      ExactIn c locals i (expression (cast stars e) start at line)
  exact-cast stars e h =
      exact-as (one_broken Parts.cast_operand Broken.cast_broken) fro
      (exact-then h (exact-one (known_of c locals e) (Rules.cast_kept (cast_type stars) (known_of c locals e).known)
      at rules.Use))
    where
      fro : (b : Breach) → Inside c locals i (expression (cast stars e) start at line) b →
          One c locals e (Rules.cast_kept (cast_type stars) (known_of c locals e).known) at rules.Use b
      fro b (here (Broken.cast_broken f)) = inr (inr (fails f))
      fro b (here (sign_no_int s f)) = elim s [ ]
      fro b (here (test_no_scalar s f)) = elim s [ ]
      fro b (here (void_used Parts.cast_operand f)) = inr (inl (fails f))
      fro b (within_operand Parts.cast_operand f) = inl f

  -- ---- two and three operands

  pub exact-assign : (left right : Expression) → ExactIn c locals 0 left → ExactIn c locals 0 right →
      ExactIn c locals i (expression (assign None left right) start at line)
  exact-assign left right l r =
      exact-as (two_broken Parts.assign_left Parts.assign_right Broken.assign_broken) fro
      (exact-then (exact-then l r) (exact-two (known_of c locals left) (known_of c locals right)
      (Rules.assignment_kept (known_of c locals left) (known_of c locals right)) at rules.Assignment))
    where
      fro : (b : Breach) → Inside c locals i (expression (assign None left right) start at line) b →
          Two c locals left right (Rules.assignment_kept (known_of c locals left) (known_of c locals right)) at rules.Assignment b
      fro b (here (Broken.assign_broken f)) = inr (inr (fails f))
      fro b (here (sign_no_int s f)) = elim s [ ]
      fro b (here (test_no_scalar s f)) = elim s [ ]
      fro b (here (void_used Parts.assign_left f)) = inr (inl (inl (fails f)))
      fro b (here (void_used Parts.assign_right f)) = inr (inl (inr (fails f)))
      fro b (within_operand Parts.assign_left f) = inl (inl f)
      fro b (within_operand Parts.assign_right f) = inl (inr f)

  pub exact-compound : (op : Binary) (left right : Expression) → ExactIn c locals 0 left → ExactIn c locals 0 right →
      ExactIn c locals i (expression (assign (Some op) left right) start at line)
  exact-compound op left right l r =
      exact-as (two_broken Parts.assign_left Parts.assign_right Broken.compound_broken) fro
      (exact-then (exact-then l r) (exact-two (known_of c locals left) (known_of c locals right)
      (Rules.update_kept op (known_of c locals left) (known_of c locals right)) at rules.Update))
    where
      fro : (b : Breach) → Inside c locals i (expression (assign (Some op) left right) start at line) b →
          Two c locals left right (Rules.update_kept op (known_of c locals left) (known_of c locals right)) at rules.Update b
      fro b (here (Broken.compound_broken f)) = inr (inr (fails f))
      fro b (here (sign_no_int s f)) = elim s [ ]
      fro b (here (test_no_scalar s f)) = elim s [ ]
      fro b (here (void_used Parts.assign_left f)) = inr (inl (inl (fails f)))
      fro b (here (void_used Parts.assign_right f)) = inr (inl (inr (fails f)))
      fro b (within_operand Parts.assign_left f) = inl (inl f)
      fro b (within_operand Parts.assign_right f) = inl (inr f)

  pub exact-set : (op : Option Binary) (left right : Expression) → ExactIn c locals 0 left → ExactIn c locals 0 right →
      ExactIn c locals i (expression (assign op left right) start at line)
  exact-set None left right l r = exact-assign left right l r
  exact-set (Some op) left right l r = exact-compound op left right l r

  abbrev Chosen : (test on off : Expression) → Breach → Type 0
  Chosen test on off =
      Either (Either (Either (Either (Inside c locals 0 test) (Inside c locals 0 on)) (Inside c locals 0 off))
      (Untested (known_of c locals test)))
      (TwoFail (known_of c locals on) (known_of c locals off)
      (Rules.arms_kept (known_of c locals on).known (known_of c locals off).known) at rules.Use)

  pub exact-choice : (test on off : Expression) → ExactIn c locals 0 test → ExactIn c locals 0 on →
      ExactIn c locals 0 off → ExactIn c locals i (expression (choice test on off) start at line)
  unfolding note_choice
  exact-choice test on off t x y =
      exact-as to fro
      (exact-then (exact-then (exact-then (exact-then t x) y) (exact-tested (known_of c locals test)))
      (exact-two (known_of c locals on) (known_of c locals off)
      (Rules.arms_kept (known_of c locals on).known (known_of c locals off).known) at rules.Use))
    where
      to : (b : Breach) → Chosen test on off b → Inside c locals i (expression (choice test on off) start at line) b
      to b (inl (inl (inl (inl h)))) = within_operand Parts.choice_test h
      to b (inl (inl (inl (inr h)))) = within_operand Parts.choice_on h
      to b (inl (inl (inr h))) = within_operand Parts.choice_off h
      to b (inl (inr (inl f))) = operand_breaks Parts.choice_test b (inr f)
      to b (inl (inr (inr (fails f)))) = here (test_no_scalar Parts.of_choice f)
      to b (inr (inl (inl f))) = operand_breaks Parts.choice_on b (inr f)
      to b (inr (inl (inr f))) = operand_breaks Parts.choice_off b (inr f)
      to b (inr (inr (fails f))) = here (Broken.arms_broken f)

      fro : (b : Breach) → Inside c locals i (expression (choice test on off) start at line) b → Chosen test on off b
      fro b (here (Broken.arms_broken f)) = inr (inr (fails f))
      fro b (here (sign_no_int s f)) = elim s [ ]
      fro b (here (test_no_scalar Parts.of_choice f)) = inl (inr (inr (fails f)))
      fro b (here (void_used Parts.choice_test f)) = inl (inr (inl (fails f)))
      fro b (here (void_used Parts.choice_on f)) = inr (inl (inl (fails f)))
      fro b (here (void_used Parts.choice_off f)) = inr (inl (inr (fails f)))
      fro b (within_operand Parts.choice_test f) = inl (inl (inl (inl f)))
      fro b (within_operand Parts.choice_on f) = inl (inl (inl (inr f)))
      fro b (within_operand Parts.choice_off f) = inl (inl (inr f))

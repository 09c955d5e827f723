-- Chains, `&&` and `||`, postfix expressions and arguments have types exactly where nothing in their parts is broken, a
-- part at a time.
use Rattle.std.proofs.Common.{◌≡◌, refl, sym, ◌∙◌, ap, ℕ, Bool, true, false, ◌&&◌, Option, Some, None, List, [], ◌∷◌}
use Rattle.std.specs.Prelude.{nat_lt, is_some, if◌then◌else◌}
use Rattle.std.specs.Option.{option_map}
use Rattle.sc_base.specs.declared.operator.Binary.{Binary}
use Rattle.sc_tree.specs.Plain.{Expression, Expressions, no_expressions, expressions, link, Links, no_links, links}
use Rattle.sc_tree.specs.Plain.{Tail, index, up, down, Tails, no_tails, tails}
use Rattle.sc_typing.specs.declared.notes.Breach.{Breach}
use Rattle.sc_typing.specs.declared.scope.InScope.{InScope}
use Rattle.sc_typing.specs.declared.rule.Rule.TheVariants as rules
use Rattle.sc_typing.specs.Source.{Source}
use Rattle.sc_typing.specs.Known.{Valued, Judgement, only, has_value}
use Rattle.sc_typing.specs.Calls.{all_used}
use Rattle.sc_typing.specs.Rules
use Rattle.sc_typing.specs.Operators.{Gathered, gathered, gather}
use Rattle.sc_typing.specs.Chains.{Linked, join_kept, join, row_of}
use Rattle.sc_typing.specs.Tails.{Tailed, Tailing, with_own_index, with_index, tail_with, own_index, pointed}
use Rattle.sc_typing.specs.Tails.{pointer_index, index_tail, with_step, kept_tail, step_of_tail, stepped, step_tail}
use Rattle.sc_typing.specs.Typing.{judge, judge_links, judge_operands, judge_tails, judge_tail, judge_arguments}
use Rattle.sc_typing.specs.ExpressionParts.{known_of}
use Rattle.sc_typing.proofs.ExpressionNotes.{note_one, note_join, note_index, note_step, note_links, note_operands}
use Rattle.sc_typing.proofs.ExpressionNotes.{note_tails, note_tail, note_arguments}
use Rattle.sc_typing.specs.Notes.{unless}
use Rattle.sc_typing.proofs.Exactly.{Exact, Fails, Never, Either, exact-nothing, exact-unless, exact-then}
use Rattle.sc_typing.proofs.OperandsNoted.{Inside, Operand, Tested, OneFails, exact-used, exact-tested, exact-one}
use Rattle.sc_typing.proofs.ListsNoted.{LinkBreaks}
use Rattle.sc_typing.proofs.ExpressionsNoted.{exact-value}
use Rattle.sc_typing.proofs.Agrees.{Agrees, agrees-never, agrees-fails, agrees-either, agrees-broken, agrees-is}
use Rattle.sc_typing.proofs.TypedKinds.{typed, TypedIn, only-some, only-made}

pub and-false : (t : Bool) → (t && false) ≡ false
and-false true = refl
and-false false = refl

pub and-true : (t : Bool) → (t && true) ≡ t
and-true true = refl
and-true false = refl

module _ (c : Source) (locals : List InScope) where
  -- ---- links of a chain

  abbrev pub LinksBreak : Option Linked → Links → Breach → Type 0
  LinksBreak left no_links = Never
  LinksBreak left (links (link op e at line) more) =
      Either (LinkBreaks c locals left op e at) (LinksBreak (join left op (judge c locals 0 e) at line) more)

  exact-join : (left : Option Linked) (op : Binary) (j : Judgement) (at : ℕ) →
      Exact (note_join left op j at) (OneFails j (join_kept left op j) at (row_of op).rule)
  unfolding note_join
  exact-join left op j at = exact-one j (join_kept left op j) at (row_of op).rule

  pub exact-links : (left : Option Linked) (rest : Links) → Exact (note_links c locals left rest) (LinksBreak left rest)
  exact-links left no_links = exact-nothing
  exact-links left (links (link op e at line) more) =
      exact-then (exact-then (exact-value c locals 0 e) (exact-join left op (known_of c locals e) at))
      (exact-links (join left op (judge c locals 0 e) at line) more)

  pub no_chain : (rest : Links) → judge_links c locals None rest ≡ None
  unfolding join
  no_chain no_links = refl
  no_chain (links (link op e at line) more) = no_chain more

  link-made : (l : Linked) (op : Binary) (e : Expression) (at line : ℕ) →
      (typed c locals 0 e
      && (Rules.value_kept (known_of c locals e).known && join_kept (Some l) op (known_of c locals e)))
      ≡ is_some (join (Some l) op (judge c locals 0 e) at line)
  unfolding join
  link-made l op e at line = only-made _ (join_kept (Some l) op (known_of c locals e)) (known_of c locals e).known

  pub link-step : (l : Linked) (op : Binary) (e : Expression) (at line : ℕ) (more : Links) → TypedIn c locals 0 e →
      ((k : Linked) → Agrees (LinksBreak (Some k) more) (is_some (judge_links c locals (Some k) more))) →
      Agrees (LinksBreak (Some l) (links (link op e at line) more))
      (is_some (judge_links c locals (Some l) (links (link op e at line) more)))
  link-step l op e at line more h further = go (join (Some l) op (judge c locals 0 e) at line) refl
    where
      here : Agrees (LinkBreaks c locals (Some l) op e at) (is_some (join (Some l) op (judge c locals 0 e) at line))
      here =
          agrees-is (link-made l op e at line)
          (agrees-either h (agrees-either (agrees-fails _ _ _) (agrees-fails _ _ _)))

      go : (k : Option Linked) → join (Some l) op (judge c locals 0 e) at line ≡ k →
          Agrees (Either (LinkBreaks c locals (Some l) op e at) (LinksBreak k more))
          (is_some (judge_links c locals k more))
      go None same =
          agrees-is (sym (ap is_some (no_chain more))) (agrees-broken (agrees-is (ap is_some same) here))
      go (Some k) same = agrees-either (agrees-is (ap is_some same) here) (further k)

  -- ---- operands of `&&` and `||`

  abbrev pub OperandsBreak : Expressions → Breach → Type 0
  OperandsBreak no_expressions = Never
  OperandsBreak (expressions e more) = Either (Tested c locals e) (OperandsBreak more)

  pub exact-operands : (all : Expressions) → Exact (note_operands c locals all) (OperandsBreak all)
  exact-operands no_expressions = exact-nothing
  exact-operands (expressions e more) =
      exact-then (exact-then (exact-value c locals 0 e) (exact-tested (known_of c locals e))) (exact-operands more)

  whole-is : (g : Gathered) (known : Option Valued) → (gathered g known).whole ≡ (is_some known && g.whole)
  whole-is g None = refl
  whole-is g (Some v) = refl

  -- the operand has a type and can be tested
  abbrev tested : Expression → Bool
  tested e =
      typed c locals 0 e
      && (Rules.value_kept (known_of c locals e).known && Rules.test_kept (known_of c locals e).known)

  gather-is : (g : Gathered) (e : Expression) → (gather g (judge c locals 0 e)).whole ≡ (tested e && g.whole)
  unfolding gather
  gather-is g e =
      let kept = Rules.test_kept (known_of c locals e).known in
      whole-is g (only kept (known_of c locals e).known)
      ∙ ap (λ (t : Bool). t && g.whole) (sym (only-some kept (known_of c locals e).known))

  not_whole : (g : Gathered) (all : Expressions) → g.whole ≡ false → (judge_operands c locals g all).whole ≡ false
  not_whole g no_expressions h = h
  not_whole g (expressions e more) h =
      not_whole (gather g (judge c locals 0 e)) more
      (gather-is g e ∙ (ap (λ (t : Bool). tested e && t) h ∙ and-false (tested e)))

  pub operand-step : (g : Gathered) (e : Expression) (more : Expressions) → g.whole ≡ true → TypedIn c locals 0 e →
      ((k : Gathered) → k.whole ≡ true → Agrees (OperandsBreak more) (judge_operands c locals k more).whole) →
      Agrees (OperandsBreak (expressions e more)) (judge_operands c locals g (expressions e more)).whole
  operand-step g e more w h further = go (gather g (judge c locals 0 e)).whole refl
    where
      here : Agrees (Tested c locals e) (gather g (judge c locals 0 e)).whole
      here =
          agrees-is (sym (gather-is g e ∙ (ap (λ (t : Bool). tested e && t) w ∙ and-true (tested e))))
          (agrees-either h (agrees-either (agrees-fails _ _ _) (agrees-fails _ _ _)))

      go : (t : Bool) → (gather g (judge c locals 0 e)).whole ≡ t →
          Agrees (Either (Tested c locals e) (OperandsBreak more))
          (judge_operands c locals (gather g (judge c locals 0 e)) more).whole
      go false same =
          agrees-is (sym (not_whole (gather g (judge c locals 0 e)) more same)) (agrees-broken (agrees-is same here))
      go true same = agrees-either (agrees-is same here) (further (gather g (judge c locals 0 e)) same)

  -- ---- what stands behind a postfix expression

  abbrev pub IndexBreaks : (own : Bool) → Tailing → Judgement → (at : ℕ) → Breach → Type 0
  IndexBreaks true t j at = OneFails j (Rules.index_kept j.known) at rules.Index
  IndexBreaks false t j at =
      Either (OneFails j (Rules.index_kept j.known) at rules.Index) (Fails (pointed t) at rules.Pointer)

  abbrev pub OneTailBreaks : Tailing → Tail → Breach → Type 0
  OneTailBreaks t (index e at line) =
      Either (Inside c locals 0 e) (IndexBreaks (nat_lt 0 t.skip) t (known_of c locals e) at)
  OneTailBreaks t (up at line) = Fails (stepped t) at rules.Update
  OneTailBreaks t (down at line) = Fails (stepped t) at rules.Update

  abbrev pub TailsBreak : Tailing → Tails → Breach → Type 0
  TailsBreak t no_tails = Never
  TailsBreak t (tails tail more) = Either (OneTailBreaks t tail) (TailsBreak (judge_tail c locals t tail) more)

  exact-index : (t : Tailing) (j : Judgement) (at : ℕ) → Exact (note_index t j at) (IndexBreaks (nat_lt 0 t.skip) t j at)
  unfolding note_index
  exact-index t j at = go (nat_lt 0 t.skip)
    where
      go : (own : Bool) →
          Exact
          (λ broken. if own then note_one j (Rules.index_kept j.known) at rules.Index broken
          else unless (pointed t) at rules.Pointer (note_one j (Rules.index_kept j.known) at rules.Index broken))
          (IndexBreaks own t j at)
      go true = exact-one j (Rules.index_kept j.known) at rules.Index
      go false =
          exact-then (exact-one j (Rules.index_kept j.known) at rules.Index) (exact-unless (pointed t) at rules.Pointer)

  exact-step : (t : Tailing) (at : ℕ) → Exact (note_step t at) (Fails (stepped t) at rules.Update)
  unfolding note_step
  exact-step t at = exact-unless (stepped t) at rules.Update

  exact-tail : (t : Tailing) (tail : Tail) → Exact (note_tail c locals t tail) (OneTailBreaks t tail)
  exact-tail t (index e at line) = exact-then (exact-value c locals 0 e) (exact-index t (known_of c locals e) at)
  exact-tail t (up at line) = exact-step t at
  exact-tail t (down at line) = exact-step t at

  pub exact-tails : (t : Tailing) (rest : Tails) → Exact (note_tails c locals t rest) (TailsBreak t rest)
  exact-tails t no_tails = exact-nothing
  exact-tails t (tails tail more) =
      exact-then (exact-tail t tail) (exact-tails (judge_tail c locals t tail) more)

  kept-none : (kept : Bool) → kept_tail kept None ≡ None
  kept-none true = refl
  kept-none false = refl

  step-none : (t : Tailing) (is_up : Bool) (at line : ℕ) → t.tailed ≡ None → (step_tail t is_up at line).tailed ≡ None
  unfolding step_tail
  step-none t is_up at line h =
      ap (λ (o : Option Tailed). option_map (with_step (step_of_tail is_up at line)) (kept_tail (stepped t) o)) h
      ∙ ap (λ (o : Option Tailed). option_map (with_step (step_of_tail is_up at line)) o) (kept-none (stepped t))

  index-none : (t : Tailing) (j : Judgement) (at line : ℕ) → t.tailed ≡ None → (index_tail t j at line).tailed ≡ None
  unfolding index_tail own_index pointer_index
  index-none t j at line h = go (nat_lt 0 t.skip)
    where
      go : (own : Bool) → (if own then own_index t j at line else pointer_index t j at line).tailed ≡ None
      go true =
          ap (λ (o : Option Tailed). tail_with (with_own_index at line) o (only (Rules.index_kept j.known) j.known)) h
      go false =
          ap
          (λ (o : Option Tailed). tail_with (with_index at line) o
          (only (Rules.index_kept j.known && pointed t) j.known)) h

  tail-none : (t : Tailing) (tail : Tail) → t.tailed ≡ None → (judge_tail c locals t tail).tailed ≡ None
  tail-none t (index e at line) h = index-none t (judge c locals 0 e) at line h
  tail-none t (up at line) h = step-none t true at line h
  tail-none t (down at line) h = step-none t false at line h

  pub no_postfix : (t : Tailing) (rest : Tails) → t.tailed ≡ None → (judge_tails c locals t rest).tailed ≡ None
  no_postfix t no_tails h = h
  no_postfix t (tails tail more) h = no_postfix (judge_tail c locals t tail) more (tail-none t tail h)

  tail-made : (o : Option Tailed) (l : Tailed) → o ≡ Some l → (f : Tailed → Valued → Tailed) (kept : Bool)
      (known : Option Valued) →
      (is_some known && (Rules.value_kept known && kept)) ≡ is_some (tail_with f o (only kept known))
  tail-made o l e f kept known =
      only-made (f l) kept known ∙ ap (λ (x : Option Tailed). is_some (tail_with f x (only kept known))) (sym e)

  regrouped : (a b d e : Bool) → (a && ((b && d) && e)) ≡ (a && (b && (d && e)))
  regrouped true true d e = refl
  regrouped true false d e = refl
  regrouped false b d e = refl

  index-agrees : (t : Tailing) (l : Tailed) → t.tailed ≡ Some l → (e : Expression) (at line : ℕ) →
      TypedIn c locals 0 e →
      Agrees (OneTailBreaks t (index e at line)) (is_some (index_tail t (judge c locals 0 e) at line).tailed)
  unfolding index_tail own_index pointer_index
  index-agrees t l same e at line h = go (nat_lt 0 t.skip)
    where
      go : (own : Bool) →
          Agrees (Either (Inside c locals 0 e) (IndexBreaks own t (known_of c locals e) at))
          (is_some
          (if own then own_index t (judge c locals 0 e) at line
          else pointer_index t (judge c locals 0 e) at line).tailed)
      go true =
          agrees-is
          (tail-made t.tailed l same (with_own_index at line) (Rules.index_kept (known_of c locals e).known)
          (known_of c locals e).known)
          (agrees-either h (agrees-either (agrees-fails _ _ _) (agrees-fails _ _ _)))
      go false =
          agrees-is
          (regrouped (typed c locals 0 e) (Rules.value_kept (known_of c locals e).known)
          (Rules.index_kept (known_of c locals e).known) (pointed t)
          ∙ tail-made t.tailed l same (with_index at line) (Rules.index_kept (known_of c locals e).known && pointed t)
          (known_of c locals e).known)
          (agrees-either h
          (agrees-either (agrees-either (agrees-fails _ _ _) (agrees-fails _ _ _)) (agrees-fails _ _ _)))

  step-made : (kept : Bool) (o : Option Tailed) (l : Tailed) → o ≡ Some l → (f : Tailed → Tailed) →
      kept ≡ is_some (option_map f (kept_tail kept o))
  step-made kept o l e f =
      go kept ∙ ap (λ (x : Option Tailed). is_some (option_map f (kept_tail kept x))) (sym e)
    where
      go : (k : Bool) → k ≡ is_some (option_map f (kept_tail k (Some l)))
      go true = refl
      go false = refl

  step-agrees : (t : Tailing) (l : Tailed) → t.tailed ≡ Some l → (is_up : Bool) (at line : ℕ) →
      Agrees (Fails (stepped t) at rules.Update) (is_some (step_tail t is_up at line).tailed)
  unfolding step_tail
  step-agrees t l same is_up at line =
      agrees-is (step-made (stepped t) t.tailed l same (with_step (step_of_tail is_up at line))) (agrees-fails _ _ _)

  abbrev pub TailTyped : Tail → Type 0
  TailTyped (index e at line) = TypedIn c locals 0 e
  TailTyped (up at line) = Unit {0}
  TailTyped (down at line) = Unit {0}

  tail-agrees : (t : Tailing) (l : Tailed) → t.tailed ≡ Some l → (tail : Tail) → TailTyped tail →
      Agrees (OneTailBreaks t tail) (is_some (judge_tail c locals t tail).tailed)
  tail-agrees t l same (index e at line) h = index-agrees t l same e at line h
  tail-agrees t l same (up at line) h = step-agrees t l same true at line
  tail-agrees t l same (down at line) h = step-agrees t l same false at line

  pub tail-step : (t : Tailing) (l : Tailed) → t.tailed ≡ Some l → (tail : Tail) (more : Tails) → TailTyped tail →
      ((k : Tailing) (m : Tailed) → k.tailed ≡ Some m →
      Agrees (TailsBreak k more) (is_some (judge_tails c locals k more).tailed)) →
      Agrees (TailsBreak t (tails tail more)) (is_some (judge_tails c locals t (tails tail more)).tailed)
  tail-step t l same tail more h further = go (judge_tail c locals t tail).tailed refl
    where
      here : Agrees (OneTailBreaks t tail) (is_some (judge_tail c locals t tail).tailed)
      here = tail-agrees t l same tail h

      go : (o : Option Tailed) → (judge_tail c locals t tail).tailed ≡ o →
          Agrees (Either (OneTailBreaks t tail) (TailsBreak (judge_tail c locals t tail) more))
          (is_some (judge_tails c locals (judge_tail c locals t tail) more).tailed)
      go None e =
          agrees-is (sym (ap is_some (no_postfix (judge_tail c locals t tail) more e)))
          (agrees-broken (agrees-is (ap is_some e) here))
      go (Some m) e = agrees-either (agrees-is (ap is_some e) here) (further (judge_tail c locals t tail) m e)

  -- ---- arguments

  abbrev pub ArgumentsBreak : Expressions → Breach → Type 0
  ArgumentsBreak no_expressions = Never
  ArgumentsBreak (expressions e more) = Either (Operand c locals 0 e) (ArgumentsBreak more)

  pub exact-arguments : (all : Expressions) → Exact (note_arguments c locals all) (ArgumentsBreak all)
  exact-arguments no_expressions = exact-nothing
  exact-arguments (expressions e more) =
      exact-then (exact-then (exact-value c locals 0 e) (exact-used (known_of c locals e))) (exact-arguments more)

  used-is : (known : Option Valued) → (is_some known && Rules.value_kept known) ≡ has_value known
  used-is None = refl
  used-is (Some v) = go v.ty.void
    where
      go : (void : Bool) → Rules.opposite void ≡ (if void then false else true)
      go true = refl
      go false = refl

  pub argument-step : (e : Expression) (more : Expressions) → TypedIn c locals 0 e →
      Agrees (ArgumentsBreak more) (all_used (judge_arguments c locals more)) →
      Agrees (ArgumentsBreak (expressions e more)) (all_used (judge_arguments c locals (expressions e more)))
  argument-step e more h hs =
      agrees-either (agrees-is (used-is (known_of c locals e).known) (agrees-either h (agrees-fails _ _ _))) hs

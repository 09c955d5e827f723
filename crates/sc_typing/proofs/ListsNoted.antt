-- What is noted of a list of expressions, of the links of a chain and of what stands behind a postfix expression is
-- what is broken at one of its members, a step at a time.
use Rattle.std.proofs.Common.{◌≡◌, refl, sym, ◌∙◌, ℕ, Bool, true, false, List, Option, Some, None, inl, inr}
use Rattle.std.specs.Prelude.{nat_lt, if◌then◌else◌}
use Rattle.sc_base.specs.declared.operator.Binary.{Binary}
use Rattle.sc_tree.specs.Plain.{Expression, Expressions, no_expressions, expressions, link, Links, no_links, links}
use Rattle.sc_tree.specs.Plain.{Tail, index, up, down, Tails, no_tails, tails}
use Rattle.sc_typing.specs.declared.calls.Given.{Given}
use Rattle.sc_typing.specs.declared.notes.Breach.{Breach}
use Rattle.sc_typing.specs.declared.scope.InScope.{InScope}
use Rattle.sc_typing.specs.declared.rule.Rule.{Rule}
use Rattle.sc_typing.specs.declared.rule.Rule.TheVariants as rules
use Rattle.sc_typing.specs.Known.{Judgement}
use Rattle.sc_typing.specs.Source.{Source}
use Rattle.sc_typing.specs.Rules
use Rattle.sc_typing.specs.Chains.{Linked, join_kept, join, row_of}
use Rattle.sc_typing.specs.Tails.{Tailing, pointed, stepped}
use Rattle.sc_typing.specs.Typing.{judge, judge_tail}
use Rattle.sc_typing.specs.Notes.{unless}
use Rattle.sc_typing.proofs.ExpressionNotes.{note_one, note_join, note_index, note_step, note_links, note_operands}
use Rattle.sc_typing.proofs.ExpressionNotes.{note_tails, note_tail, note_behind, note_arguments}
use Rattle.sc_typing.specs.ExpressionParts.{known_of, Among, Argument, plain, behind, IsLink, IsTail}
use Rattle.sc_typing.specs.BrokenExpressions.{breach}
use Rattle.sc_typing.proofs.Exactly.{Exact, Fails, fails, Never, Either, exact-nothing, exact-unless, exact-then}
use Rattle.sc_typing.proofs.Exactly.{exact-as}
use Rattle.sc_typing.proofs.OperandsNoted.{Inside, ExactIn, Operand, Tested, OneFails, exact-used, exact-tested}
use Rattle.sc_typing.proofs.OperandsNoted.{exact-one}

-- ---- expressions of a list

pub data AtOne (Q : Expression → Breach → Type 0) (b : Breach) : Expressions → Type 0 where
  at_one : {e : Expression} {all : Expressions} → Among e all → Q e b → AtOne Q b all

module _ (Q : Expression → Breach → Type 0) where
  abbrev pub InList : Expressions → Breach → Type 0
  InList all b = AtOne Q b all

  pub none_there : (b : Breach) → InList no_expressions b → Never b
  none_there b (at_one s h) = elim s [ ]

  pub in_front : (e : Expression) (more : Expressions) (b : Breach) → Either (Q e) (InList more) b →
      InList (expressions e more) b
  in_front e more b (inl h) = at_one Among.at_front h
  in_front e more b (inr (at_one s h)) = at_one (Among.further s) h

  pub from_front : (e : Expression) (more : Expressions) (b : Breach) → InList (expressions e more) b →
      Either (Q e) (InList more) b
  from_front e more b (at_one Among.at_front h) = inl h
  from_front e more b (at_one (Among.further s) h) = inr (at_one s h)

  pub exact-no_expressions : Exact (λ broken. broken) (InList no_expressions)
  exact-no_expressions = exact-as (λ b h. elim h [ ]) none_there exact-nothing

module _ (c : Source) (locals : List InScope) where
  -- expressions that are tested
  abbrev pub SomeTested : Expressions → Breach → Type 0
  SomeTested all b = AtOne (Tested c locals) b all

  -- expressions that are used
  abbrev pub SomeUsed : Expressions → Breach → Type 0
  SomeUsed all b = AtOne (Operand c locals 0) b all

  pub exact-operand : (e : Expression) (more : Expressions) → ExactIn c locals 0 e →
      Exact (note_operands c locals more) (SomeTested more) →
      Exact (note_operands c locals (expressions e more)) (SomeTested (expressions e more))
  exact-operand e more h hs =
      exact-as (in_front (Tested c locals) e more) (from_front (Tested c locals) e more)
      (exact-then (exact-then h (exact-tested (known_of c locals e))) hs)

  pub exact-argument : (e : Expression) (more : Expressions) → ExactIn c locals 0 e →
      Exact (note_arguments c locals more) (SomeUsed more) →
      Exact (note_arguments c locals (expressions e more)) (SomeUsed (expressions e more))
  exact-argument e more h hs =
      exact-as (in_front (Operand c locals 0) e more) (from_front (Operand c locals 0) e more)
      (exact-then (exact-then h (exact-used (known_of c locals e))) hs)

  -- ---- arguments of a call, other than its format

  pub data SomeArgument (given : Option Given) (b : Breach) : Expressions → Type 0 where
    some_argument : {e : Expression} {all : Expressions} → Argument e given all → Operand c locals 0 e b →
        SomeArgument given b all

  abbrev pub InArguments : Option Given → Expressions → Breach → Type 0
  InArguments given all b = SomeArgument given b all

  no_argument : (given : Option Given) (b : Breach) → InArguments given no_expressions b → Never b
  no_argument None b (some_argument (plain s) h) = elim s [ ]
  no_argument (Some given) b (some_argument s h) = elim s [ ]

  pub exact-no_argument : (given : Option Given) →
      Exact (note_behind c locals given no_expressions) (InArguments given no_expressions)
  exact-no_argument given = exact-as (λ b h. elim h [ ]) (no_argument given) exact-nothing

  to_plain : (all : Expressions) (b : Breach) → SomeUsed all b → InArguments None all b
  to_plain all b (at_one s h) = some_argument (plain s) h

  of_plain : (all : Expressions) (b : Breach) → InArguments None all b → SomeUsed all b
  of_plain all b (some_argument (plain s) h) = at_one s h

  pub exact-all_arguments : (e : Expression) (more : Expressions) →
      Exact (note_arguments c locals (expressions e more)) (SomeUsed (expressions e more)) →
      Exact (note_behind c locals None (expressions e more)) (InArguments None (expressions e more))
  exact-all_arguments e more h = exact-as (to_plain (expressions e more)) (of_plain (expressions e more)) h

  pub exact-behind_format : (given : Given) (e : Expression) (more : Expressions) →
      Exact (note_arguments c locals more) (SomeUsed more) →
      Exact (note_behind c locals (Some given) (expressions e more)) (InArguments (Some given) (expressions e more))
  exact-behind_format given e more h = exact-as to fro h
    where
      to : (b : Breach) → SomeUsed more b → InArguments (Some given) (expressions e more) b
      to b (at_one s f) = some_argument (behind s) f

      fro : (b : Breach) → InArguments (Some given) (expressions e more) b → SomeUsed more b
      fro b (some_argument (behind s) f) = at_one s f

  -- ---- links of a chain

  abbrev pub LinkBreaks : Option Linked → Binary → Expression → (at : ℕ) → Breach → Type 0
  LinkBreaks left op e at =
      Either (Inside c locals 0 e) (OneFails (known_of c locals e) (join_kept left op (known_of c locals e)) at
      (row_of op).rule)

  pub data SomeLink (left : Option Linked) (rest : Links) (b : Breach) : Type 0 where
    some_link : {at_left : Option Linked} {op : Binary} {e : Expression} {at line : ℕ} →
        IsLink c locals at_left (link op e at line) left rest →
        LinkBreaks at_left op e at b → SomeLink left rest b

  pub exact-no_links : (left : Option Linked) → Exact (note_links c locals left no_links) (SomeLink left no_links)
  exact-no_links left = exact-as (λ b h. elim h [ ]) fro exact-nothing
    where
      fro : (b : Breach) → SomeLink left no_links b → Never b
      fro b (some_link s h) = elim s [ ]

  exact-join : (left : Option Linked) (op : Binary) (j : Judgement) (at : ℕ) →
      Exact (note_join left op j at) (OneFails j (join_kept left op j) at (row_of op).rule)
  unfolding note_join
  exact-join left op j at = exact-one j (join_kept left op j) at (row_of op).rule

  pub exact-link : (left : Option Linked) (op : Binary) (e : Expression) (at line : ℕ) (more : Links) →
      ExactIn c locals 0 e →
      Exact (note_links c locals (join left op (judge c locals 0 e) at line) more)
      (SomeLink (join left op (judge c locals 0 e) at line) more) →
      Exact (note_links c locals left (links (link op e at line) more)) (SomeLink left (links (link op e at line) more))
  exact-link left op e at line more h hs =
      exact-as to fro (exact-then (exact-then h (exact-join left op (known_of c locals e) at)) hs)
    where
      to : (b : Breach) →
          Either (LinkBreaks left op e at) (SomeLink (join left op (judge c locals 0 e) at line) more) b →
          SomeLink left (links (link op e at line) more) b
      to b (inl f) = some_link IsLink.at_front f
      to b (inr (some_link s f)) = some_link (IsLink.further s) f

      fro : (b : Breach) → SomeLink left (links (link op e at line) more) b →
          Either (LinkBreaks left op e at) (SomeLink (join left op (judge c locals 0 e) at line) more) b
      fro b (some_link IsLink.at_front f) = inl f
      fro b (some_link (IsLink.further s) f) = inr (some_link s f)

  -- ---- what stands behind a postfix expression

  -- an index that is the object's own needs no pointer before it
  pub data NoPointer (t : Tailing) (at : ℕ) : Breach → Type 0 where
    no_pointer : nat_lt 0 t.skip ≡ false → pointed t ≡ false → NoPointer t at (breach at rules.Pointer)

  abbrev pub IndexFails : Tailing → Judgement → (at : ℕ) → Breach → Type 0
  IndexFails t j at = Either (OneFails j (Rules.index_kept j.known) at rules.Index) (NoPointer t at)

  exact-index : (t : Tailing) (j : Judgement) (at : ℕ) → Exact (note_index t j at) (IndexFails t j at)
  unfolding note_index
  exact-index t j at = go (nat_lt 0 t.skip) refl
    where
      own : (b : Breach) → nat_lt 0 t.skip ≡ true → NoPointer t at b → Never b
      own b e (no_pointer s p) = absurd (let z : true ≡ false = sym e ∙ s in cc)

      own_fails : nat_lt 0 t.skip ≡ true → (b : Breach) → IndexFails t j at b → OneFails j (Rules.index_kept j.known) at rules.Index b
      own_fails e b (inl h) = h
      own_fails e b (inr h) = elim (own b e h) [ ]

      to : nat_lt 0 t.skip ≡ false → (b : Breach) →
          Either (OneFails j (Rules.index_kept j.known) at rules.Index) (Fails (pointed t) at rules.Pointer) b → IndexFails t j at b
      to e b (inl h) = inl h
      to e b (inr (fails p)) = inr (no_pointer e p)

      fro : (b : Breach) → IndexFails t j at b →
          Either (OneFails j (Rules.index_kept j.known) at rules.Index) (Fails (pointed t) at rules.Pointer) b
      fro b (inl h) = inl h
      fro b (inr (no_pointer s p)) = inr (fails p)

      go : (own : Bool) → nat_lt 0 t.skip ≡ own →
          Exact (λ broken. if own then note_one j (Rules.index_kept j.known) at rules.Index broken else unless (pointed t) at rules.Pointer
          (note_one j (Rules.index_kept j.known) at rules.Index broken)) (IndexFails t j at)
      go true e = exact-as (λ b h. inl h) (own_fails e) (exact-one j (Rules.index_kept j.known) at rules.Index)
      go false e =
          exact-as (to e) fro (exact-then (exact-one j (Rules.index_kept j.known) at rules.Index) (exact-unless (pointed t) at rules.Pointer))

  abbrev pub TailBreaks : Tailing → Tail → Breach → Type 0
  TailBreaks t (index e at line) = Either (Inside c locals 0 e) (IndexFails t (known_of c locals e) at)
  TailBreaks t (up at line) = Fails (stepped t) at rules.Update
  TailBreaks t (down at line) = Fails (stepped t) at rules.Update

  exact-step : (t : Tailing) (at : ℕ) → Exact (note_step t at) (Fails (stepped t) at rules.Update)
  unfolding note_step
  exact-step t at = exact-unless (stepped t) at rules.Update

  pub exact-index_tail : (t : Tailing) (e : Expression) (at line : ℕ) → ExactIn c locals 0 e →
      Exact (note_tail c locals t (index e at line)) (TailBreaks t (index e at line))
  exact-index_tail t e at line h = exact-then h (exact-index t (known_of c locals e) at)

  pub exact-up : (t : Tailing) (at line : ℕ) → Exact (note_tail c locals t (up at line)) (TailBreaks t (up at line))
  exact-up t at line = exact-step t at

  pub exact-down : (t : Tailing) (at line : ℕ) →
      Exact (note_tail c locals t (down at line)) (TailBreaks t (down at line))
  exact-down t at line = exact-step t at

  pub data SomeTail (t : Tailing) (rest : Tails) (b : Breach) : Type 0 where
    some_tail : {before : Tailing} {it : Tail} → IsTail c locals before it t rest → TailBreaks before it b →
        SomeTail t rest b

  pub exact-no_tails : (t : Tailing) → Exact (note_tails c locals t no_tails) (SomeTail t no_tails)
  exact-no_tails t = exact-as (λ b h. elim h [ ]) fro exact-nothing
    where
      fro : (b : Breach) → SomeTail t no_tails b → Never b
      fro b (some_tail s h) = elim s [ ]

  pub exact-tail_then : (t : Tailing) (tail : Tail) (more : Tails) →
      Exact (note_tail c locals t tail) (TailBreaks t tail) →
      Exact (note_tails c locals (judge_tail c locals t tail) more) (SomeTail (judge_tail c locals t tail) more) →
      Exact (note_tails c locals t (tails tail more)) (SomeTail t (tails tail more))
  exact-tail_then t tail more h hs = exact-as to fro (exact-then h hs)
    where
      to : (b : Breach) → Either (TailBreaks t tail) (SomeTail (judge_tail c locals t tail) more) b →
          SomeTail t (tails tail more) b
      to b (inl f) = some_tail IsTail.at_front f
      to b (inr (some_tail s f)) = some_tail (IsTail.further s) f

      fro : (b : Breach) → SomeTail t (tails tail more) b →
          Either (TailBreaks t tail) (SomeTail (judge_tail c locals t tail) more) b
      fro b (some_tail IsTail.at_front f) = inl f
      fro b (some_tail (IsTail.further s) f) = inr (some_tail s f)

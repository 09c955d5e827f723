-- Statements in which nothing is broken are typed in the core, by induction over them.
use Rattle.std.proofs.Common.{◌≡◌, sym, subst, ℕ, ◌+◌, Bool, true, List, length}
use Rattle.sc_tree.specs.Plain.{Expression}
use Rattle.sc_tree.specs.PlainStmt.{Statement, block, empty, declare, simple, split, choose, choose_else, while_, do_while, for_, for_mine, return, break, continue, Statements, no_statements, statements, arm, Arms, no_arms, arms}
use Rattle.sc_tree.specs.ViewTypedStmt.{typed_statements_of, typed_arms_of}
use Rattle.sc_typing.specs.declared.scope.InScope.{InScope}
use Rattle.sc_typing.specs.Scope as typing
use Rattle.sc_typing.specs.Typing.{judge}
use Rattle.sc_typing.specs.StatementParts.{place, InSequence, InArms, IsPart, tested}
use Rattle.sc_typing.specs.StatementParts as parts
use Rattle.sc_typing.specs.BrokenStatements.{in_part}
use Rattle.sc_typing.specs.Statements.{Within, after_all, after_arms, typed_value, typed_statement, typed_all, typed_arms}
use Rattle.sc_typing.specs.Statements as behind
use Rattle.sc_core.specs.Core.{Does, nothing}
use Rattle.sc_core.specs.Lowering.{types_in, types_of, types_of_arms, does_of, all_of, arms_of}
use Rattle.sc_core.specs.Kinds.{Kind, kind_of_type, Scope}
use Rattle.sc_core.specs.Typed.{after, IsTypedDoes}
use Rattle.core_typing.specs.Proper.{NumbersFit, IsNoDeclaration, IsProper, AreProper, ArmsAreProper}
use Rattle.core_typing.proofs.Seen.{Sees, AllBegun}
use Rattle.core_typing.proofs.Counts.{keeps, kept-locals, arms-keep, count-of, count-of-arms}
use Rattle.core_typing.proofs.Scopes.{sees-after, Numbered, numbered-after, numbered-front, numbered-back, then-typed, choose-typed}
use Rattle.core_typing.proofs.Stated.{Unbroken, There, uses, Stated, stated-as, value-finds, simple-stated, splits, split-stated, return-stated, jump-stated, turn-stated, declare-stated, while-stated, do-stated, for-stated, mine-stated}

-- nothing is broken in the statements of a list
pub record AllUnbroken (w : Within) (looped : Bool) (from : ℕ) (s : typing.Scope) (all : Statements) : Type 0 where
  pub is : (there : typing.Scope) (it : Statement) → InSequence there it s all → Unbroken w (place looped from there) it

rest-unbroken : (w : Within) (looped : Bool) (from : ℕ) (s : typing.Scope) (one : Statement) (more : Statements) →
    AllUnbroken w looped from s (statements one more) → AllUnbroken w looped from (behind.after s one) more
rest-unbroken w looped from s one more u = record { is = λ there it i. u.is there it (parts.InSequence.further i) }

-- nothing is broken in the arms of an `if`, and their tests have types
pub record ArmsUnbroken (w : Within) (looped : Bool) (from : ℕ) (s : typing.Scope) (all : Arms) : Type 0 where
  pub bodies : (there : typing.Scope) (test : Expression) (it : Statement) → InArms there test it s all →
      Unbroken w (place looped from there) it
  pub tests : (there : typing.Scope) (test : Expression) (it : Statement) → InArms there test it s all →
      There (judge w.source there.locals 0 test)

arms-rest : (w : Within) (looped : Bool) (from : ℕ) (s : typing.Scope) (test : Expression) (body : Statement) (more : Arms) →
    ArmsUnbroken w looped from s (arms (arm test body) more) → ArmsUnbroken w looped from (behind.after s body) more
arms-rest w looped from s test body more u = record {
  bodies = λ there t it i. u.bodies there t it (parts.InArms.further i);
  tests = λ there t it i. u.tests there t it (parts.InArms.further i);
}

module _ (w : Within) where
  abbrev r : Kind
  r = kind_of_type w.result

  abbrev Typed : Scope → Bool → typing.Scope → Statement → Type 0
  Typed scope looped s it =
      IsTypedDoes scope r looped looped (does_of w.source.objects w.result s.count (typed_statement w s it))

  abbrev AllTyped : Scope → Bool → typing.Scope → Statements → Type 0
  AllTyped scope looped s all =
      IsTypedDoes scope r looped looped
      (all_of w.source.objects w.result s.count (typed_statements_of (typed_all w s all)))

  abbrev ArmsTyped : Scope → Bool → typing.Scope → Arms → Does → Type 0
  ArmsTyped scope looped s all otherwise =
      IsTypedDoes scope r looped looped
      (arms_of w.source.objects w.result s.count (typed_arms_of (typed_arms w s all)) otherwise)

  -- ---- one step of each list

  none-typed : (scope : Scope) (looped : Bool) (s : typing.Scope) → AllTyped scope looped s no_statements
  unfolding all_of
  none-typed scope looped s = tt

  one-typed : (scope : Scope) (looped : Bool) (s : typing.Scope) (one : Statement) (more : Statements) →
      Stated w scope looped s one →
      AllTyped (after scope (does_of w.source.objects w.result s.count (typed_statement w s one))) looped
      (behind.after s one) more → AllTyped scope looped s (statements one more)
  unfolding all_of
  one-typed scope looped s one more h g =
      let first = does_of w.source.objects w.result s.count (typed_statement w s one) in
      let rest = typed_statements_of (typed_all w (behind.after s one) more) in
      then-typed r looped looped scope first
      (all_of w.source.objects w.result (s.count + length (types_in (typed_statement w s one))) rest) h.typed
      (subst
      (λ (n : ℕ). IsTypedDoes (after scope first) r looped looped (all_of w.source.objects w.result n rest))
      (count-of w s one) g)

  block-typed : (scope : Scope) (looped : Bool) (s : typing.Scope) (all : Statements) → AllTyped scope looped s all →
      Typed scope looped s (block all)
  unfolding does_of
  block-typed scope looped s all h = h

  empty-typed : (scope : Scope) (looped : Bool) (s : typing.Scope) → Typed scope looped s empty
  unfolding does_of
  empty-typed scope looped s = tt

  no-arms-typed : (scope : Scope) (looped : Bool) (s : typing.Scope) (otherwise : Does) →
      IsTypedDoes scope r looped looped otherwise → ArmsTyped scope looped s no_arms otherwise
  unfolding arms_of
  no-arms-typed scope looped s otherwise h = h

  one-arm-typed : (scope : Scope) (looped : Bool) (s : typing.Scope) (test : Expression) (body : Statement) (more : Arms)
      (otherwise : Does) → Sees w.source scope → AllBegun scope s.locals → NumbersFit test →
      There (judge w.source s.locals 0 test) → Typed scope looped s body →
      ArmsTyped scope looped (behind.after s body) more otherwise →
      ArmsTyped scope looped s (arms (arm test body) more) otherwise
  unfolding arms_of
  one-arm-typed scope looped s test body more otherwise sees begun n t b g =
      choose-typed r looped looped w.source.objects scope _ _ (value-finds w scope s test sees begun n t) b
      (subst
      (λ (n : ℕ). IsTypedDoes scope r looped looped
      (arms_of w.source.objects w.result n (typed_arms_of (typed_arms w (behind.after s body) more)) otherwise))
      (count-of w s body) g)

  choose-stated : (scope : Scope) (looped : Bool) (s : typing.Scope) (all : Arms) → ArmsTyped scope looped s all nothing →
      Typed scope looped s (choose all)
  unfolding does_of
  choose-stated scope looped s all h = h

  choose-else-stated : (scope : Scope) (looped : Bool) (s : typing.Scope) (all : Arms) (rest : Statement) →
      ((otherwise : Does) → IsTypedDoes scope r looped looped otherwise → ArmsTyped scope looped s all otherwise) →
      Typed scope looped (after_arms s all) rest → Typed scope looped s (choose_else all rest)
  unfolding does_of
  choose-else-stated scope looped s all rest h g =
      h
      (does_of w.source.objects w.result (s.count + length (types_of_arms (typed_arms_of (typed_arms w s all))))
      (typed_statement w (after_arms s all) rest))
      (subst
      (λ (n : ℕ). IsTypedDoes scope r looped looped
      (does_of w.source.objects w.result n (typed_statement w (after_arms s all) rest))) (count-of-arms w s all) g)

-- ---- the parts of a statement

block-unbroken : (w : Within) (looped : Bool) (from : ℕ) (s : typing.Scope) (all : Statements) →
    Unbroken w (place looped from s) (block all) → AllUnbroken w looped (length s.locals) s all
block-unbroken w looped from s all u = record { is = λ there it i b h. u b (in_part (IsPart.of_block i) h) }

arms-unbroken : (w : Within) (looped : Bool) (from : ℕ) (s : typing.Scope) (all : Arms) →
    Unbroken w (place looped from s) (choose all) → ArmsUnbroken w looped from s all
arms-unbroken w looped from s all u = record {
  bodies = λ there test it i b h. u b (in_part (IsPart.of_arm i) h);
  tests = λ there test it i. uses w (place looped from s) (choose all) there test u (tested (parts.Tests.of_arm i));
}

else-unbroken : (w : Within) (looped : Bool) (from : ℕ) (s : typing.Scope) (all : Arms) (rest : Statement) →
    Unbroken w (place looped from s) (choose_else all rest) → ArmsUnbroken w looped from s all
else-unbroken w looped from s all rest u = record {
  bodies = λ there test it i b h. u b (in_part (IsPart.of_arm_else i) h);
  tests =
      λ there test it i.
      uses w (place looped from s) (choose_else all rest) there test u (tested (parts.Tests.of_arm_else i));
}

begun-kept : {scope : Scope} (s t : typing.Scope) → t.locals ≡ s.locals → AllBegun scope s.locals → AllBegun scope t.locals
begun-kept {scope = scope} s t e b = subst (λ (ls : List InScope). AllBegun scope ls) (sym e) b

body-kept : {scope : Scope} (s : typing.Scope) (body : Statement) → IsNoDeclaration body → IsProper body →
    AllBegun scope s.locals → AllBegun scope (behind.after s body).locals
body-kept s body q p b = begun-kept s (behind.after s body) (kept-locals s body q (keeps s body p)) b

mutual
  pub stated : (w : Within) (scope : Scope) (sees : Sees w.source scope) (looped : Bool) (from : ℕ) (s : typing.Scope)
      (it : Statement) → IsProper it → AllBegun scope s.locals →
      Numbered scope s.count (types_in (typed_statement w s it)) → Unbroken w (place looped from s) it →
      Stated w scope looped s it
  stated w scope sees looped from s (block all) p begun n u =
      stated-as w scope looped s (block all) tt p begun
      (block-typed w scope looped s all
      (all-typed w scope sees looped (length s.locals) s all p begun n (block-unbroken w looped from s all u)))
  stated w scope sees looped from s empty p begun n u =
      stated-as w scope looped s empty tt p begun (empty-typed w scope looped s)
  stated w scope sees looped from s (declare locals) p begun n u = declare-stated w scope looped from s locals sees p begun n u
  stated w scope sees looped from s (simple e) p begun n u =
      stated-as w scope looped s (simple e) tt p begun (simple-stated w scope looped from s e sees p begun u)
  stated w scope sees looped from s (split left right oneway at line) p begun n u =
      stated-as w scope looped s (split left right oneway at line) tt p begun
      (split-stated w scope looped from s left right oneway at line sees p.0 p.1 begun u
      (splits w looped from s left right oneway at line u))
  stated w scope sees looped from s (choose all) p begun n u =
      stated-as w scope looped s (choose all) tt p begun
      (choose-stated w scope looped s all
      (arms-typed w scope sees looped from s all p begun n (arms-unbroken w looped from s all u) nothing tt))
  stated w scope sees looped from s (choose_else all rest) p begun n u =
      stated-as w scope looped s (choose_else all rest) tt p begun
      (choose-else-stated w scope looped s all rest
      (arms-typed w scope sees looped from s all p.0 begun
      (numbered-front (types_of_arms (typed_arms_of (typed_arms w s all)))
      (types_in (typed_statement w (after_arms s all) rest)) n) (else-unbroken w looped from s all rest u))
      (stated w scope sees looped from (after_arms s all) rest p.2
      (begun-kept s (after_arms s all) (arms-keep s all p.0) begun)
      (subst (λ (k : ℕ). Numbered scope k (types_in (typed_statement w (after_arms s all) rest)))
      (sym (count-of-arms w s all))
      (numbered-back s.count (types_of_arms (typed_arms_of (typed_arms w s all)))
      (types_in (typed_statement w (after_arms s all) rest)) n))
      (λ b h. u b (in_part IsPart.of_else h))).typed)
  stated w scope sees looped from s (while_ test body) p begun n u =
      stated-as w scope looped s (while_ test body) tt p begun
      (while-stated w scope looped from s test body sees p.0 begun u
      (stated w scope sees true from s body p.2 begun n (λ b h. u b (in_part IsPart.of_while h))).typed)
  stated w scope sees looped from s (do_while body test) p begun n u =
      stated-as w scope looped s (do_while body test) tt p begun
      (do-stated w scope looped from s body test sees p.0 (body-kept s body p.1 p.2 begun) u
      (stated w scope sees true from s body p.2 begun n (λ b h. u b (in_part IsPart.of_do h))).typed)
  stated w scope sees looped from s (for_ first test next body) p begun n u =
      stated-as w scope looped s (for_ first test next body) tt p begun
      (for-stated w scope looped from s first test next body sees p.0 p.1 p.2 begun u
      (stated w scope sees true from s body p.4 begun n (λ b h. u b (in_part IsPart.of_for h))).typed)
  stated w scope sees looped from s (for_mine x bound body at line) p begun n u =
      stated-as w scope looped s (for_mine x bound body at line) tt p begun
      (mine-stated w scope looped from s x bound body at line sees p.0 begun u
      (stated w scope sees true from s body p.2 begun n (λ b h. u b (in_part IsPart.of_for_mine h))).typed)
  stated w scope sees looped from s (return e at line) p begun n u =
      stated-as w scope looped s (return e at line) tt p begun
      (return-stated w scope looped from s e at line sees p begun u)
  stated w scope sees looped from s (break at) p begun n u =
      stated-as w scope looped s (break at) tt p begun (jump-stated w scope looped from s at u)
  stated w scope sees looped from s (continue at) p begun n u =
      stated-as w scope looped s (continue at) tt p begun (turn-stated w scope looped from s at u)

  pub all-typed : (w : Within) (scope : Scope) (sees : Sees w.source scope) (looped : Bool) (from : ℕ) (s : typing.Scope)
      (all : Statements) → AreProper all → AllBegun scope s.locals →
      Numbered scope s.count (types_of (typed_statements_of (typed_all w s all))) → AllUnbroken w looped from s all →
      AllTyped w scope looped s all
  all-typed w scope sees looped from s no_statements p begun n u = none-typed w scope looped s
  all-typed w scope sees looped from s (statements one more) p begun n u =
      let first = does_of w.source.objects w.result s.count (typed_statement w s one) in
      let rest = types_of (typed_statements_of (typed_all w (behind.after s one) more)) in
      let h =
      stated w scope sees looped from s one p.0 begun (numbered-front (types_in (typed_statement w s one)) rest n)
      (u.is s one parts.InSequence.at_front) in
      one-typed w scope looped s one more h
      (all-typed w (after scope first) (sees-after w.source scope first sees) looped from (behind.after s one) more p.1
      h.begun
      (numbered-after scope first
      (subst (λ (k : ℕ). Numbered scope k rest) (sym (count-of w s one))
      (numbered-back s.count (types_in (typed_statement w s one)) rest n)))
      (rest-unbroken w looped from s one more u))

  pub arms-typed : (w : Within) (scope : Scope) (sees : Sees w.source scope) (looped : Bool) (from : ℕ) (s : typing.Scope)
      (all : Arms) → ArmsAreProper all → AllBegun scope s.locals →
      Numbered scope s.count (types_of_arms (typed_arms_of (typed_arms w s all))) → ArmsUnbroken w looped from s all →
      (otherwise : Does) → IsTypedDoes scope (kind_of_type w.result) looped looped otherwise →
      ArmsTyped w scope looped s all otherwise
  arms-typed w scope sees looped from s no_arms p begun n u otherwise h = no-arms-typed w scope looped s otherwise h
  arms-typed w scope sees looped from s (arms (arm test body) more) p begun n u otherwise h =
      let rest = types_of_arms (typed_arms_of (typed_arms w (behind.after s body) more)) in
      one-arm-typed w scope looped s test body more otherwise sees begun p.0
      (u.tests s test body parts.InArms.at_front)
      (stated w scope sees looped from s body p.2 begun (numbered-front (types_in (typed_statement w s body)) rest n)
      (u.bodies s test body parts.InArms.at_front)).typed
      (arms-typed w scope sees looped from (behind.after s body) more p.3 (body-kept s body p.1 p.2 begun)
      (subst (λ (k : ℕ). Numbered scope k rest) (sym (count-of w s body))
      (numbered-back s.count (types_in (typed_statement w s body)) rest n))
      (arms-rest w looped from s test body more u) otherwise h)

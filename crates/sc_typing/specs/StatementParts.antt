-- The parts of a statement: the statements within it, with where they stand, and the expressions that it tests, uses
-- and evaluates, with what is in scope there.
use Rattle.std.specs.Prelude.{ℕ, ◌≡◌, Bool, true, Option, Some, List, ◌∷◌}
use Rattle.sc_tree.specs.Plain.{Expression, expression}
use Rattle.sc_tree.specs.PlainStmt.{Declared, Statement, block, declare, simple, split, choose, choose_else, while_}
use Rattle.sc_tree.specs.PlainStmt.{do_while, for_, for_mine, return, Statements, statements, arm, Arms, arms}
use Rattle.sc_typing.specs.Scope.{Scope, depth}
use Rattle.sc_typing.specs.Statements.{after, after_declared, after_arms}
use Rattle.sc_typing.specs.Program.{within}

-- where a statement stands: whether a loop is around it, how many locals were in scope where its block began, and
-- what is in scope
pub record Place : Type 0 where
  pub looped : Bool
  pub from : ℕ
  pub scope : Scope

abbrev pub place : (looped : Bool) → (from : ℕ) → Scope → Place
place looped from s = record { looped = looped; from = from; scope = s }

abbrev pub at_scope : Place → Scope → Place
at_scope p s = place p.looped p.from s

abbrev pub in_block : Place → Place
in_block p = place p.looped (depth p.scope) p.scope

abbrev pub in_loop : Place → Place
in_loop p = place true p.from p.scope

-- a statement of a list, with what is in scope there
pub data InSequence (s_there : Scope) (it : Statement) : Scope → Statements → Type 0 where
  at_front : {more : Statements} → InSequence s_there it s_there (statements it more)
  further : {s : Scope} {other : Statement} {more : Statements} →
      InSequence s_there it (after s other) more →
      InSequence s_there it s (statements other more)

-- an arm of an `if`
pub data InArms (s_there : Scope) (test : Expression) (body : Statement) : Scope → Arms → Type 0 where
  at_front : {more : Arms} → InArms s_there test body s_there (arms (arm test body) more)
  further : {s : Scope} {other_test : Expression} {other : Statement} {more : Arms} →
      InArms s_there test body (after s other) more →
      InArms s_there test body s (arms (arm other_test other) more)

-- a local of a declaration, with what is in scope where it begins
pub data InLocals (s_there : Scope) (it : Declared) : Scope → List Declared → Type 0 where
  at_front : {more : List Declared} → InLocals s_there it s_there (it ∷ more)
  further : {s : Scope} {other : Declared} {more : List Declared} →
      InLocals s_there it (after_declared s other) more →
      InLocals s_there it s (other ∷ more)

-- a statement within a statement, and where it stands
pub data IsPart (p : Place) : Place → Statement → Statement → Type 0 where
  of_block : {all : Statements} {s : Scope} {it : Statement} →
      InSequence s it p.scope all →
      IsPart p (at_scope (in_block p) s) it (block all)
  of_arm : {all : Arms} {s : Scope} {test : Expression} {it : Statement} →
      InArms s test it p.scope all →
      IsPart p (at_scope p s) it (choose all)
  of_arm_else : {all : Arms} {rest : Statement} {s : Scope} {test : Expression} {it : Statement} →
      InArms s test it p.scope all →
      IsPart p (at_scope p s) it (choose_else all rest)
  of_else : {all : Arms} {rest : Statement} →
      IsPart p (at_scope p (after_arms p.scope all)) rest (choose_else all rest)
  of_while : {test : Expression} {body : Statement} → IsPart p (in_loop p) body (while_ test body)
  of_do : {test : Expression} {body : Statement} → IsPart p (in_loop p) body (do_while body test)
  of_for : {a b d : Option Expression} {body : Statement} → IsPart p (in_loop p) body (for_ a b d body)
  of_for_mine : {n : ℕ} {bound : Expression} {body : Statement} {at line : ℕ} →
      IsPart p (in_loop p) body (for_mine n bound body at line)

-- an expression that a statement tests, with what is in scope there
pub data Tests (s : Scope) : Scope → Expression → Statement → Type 0 where
  of_arm : {all : Arms} {there : Scope} {test : Expression} {body : Statement} →
      InArms there test body s all →
      Tests s there test (choose all)
  of_arm_else : {all : Arms} {rest : Statement} {there : Scope} {test : Expression} {body : Statement} →
      InArms there test body s all →
      Tests s there test (choose_else all rest)
  of_while : {test : Expression} {body : Statement} → Tests s s test (while_ test body)
  of_do : {test : Expression} {body : Statement} → Tests s (after s body) test (do_while body test)
  of_for : {a b : Option Expression} {test : Expression} {body : Statement} →
      Tests s s test (for_ a (Some test) b body)

-- an expression of which a statement uses the value
pub data Uses (s : Scope) : Scope → Expression → Statement → Type 0 where
  tested : {there : Scope} {test : Expression} {it : Statement} → Tests s there test it → Uses s there test it
  initial : {locals : List Declared} {there : Scope} {l : Declared} {e : Expression} →
      InLocals there l s locals →
      l.init ≡ Some e →
      Uses s there e (declare locals)
  split_left : {left right : Expression} {oneway : Bool} {at line : ℕ} →
      Uses s s left (split left right oneway at line)
  split_right : {left right : Expression} {oneway : Bool} {at line : ℕ} →
      Uses s s right (split left right oneway at line)
  for_first : {e : Expression} {a b : Option Expression} {body : Statement} →
      Uses s s e (for_ (Some e) a b body)
  for_next : {e : Expression} {a b : Option Expression} {body : Statement} →
      Uses s s e (for_ a b (Some e) body)
  for_bound : {n : ℕ} {bound : Expression} {body : Statement} {at line : ℕ} →
      Uses s s bound (for_mine n bound body at line)
  returned : {e : Expression} {at line : ℕ} → Uses s s e (return (Some e) at line)

-- an expression that a statement evaluates
pub data Evaluates (s : Scope) : Scope → Expression → Statement → Type 0 where
  used : {there : Scope} {e : Expression} {it : Statement} → Uses s there e it → Evaluates s there e it
  whole : {e : Expression} → Evaluates s s e (simple e)

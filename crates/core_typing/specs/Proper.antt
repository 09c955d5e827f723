-- What the grammar keeps of a tree, whatever typing says of it: each number has 64 bits, and what an `if` or a loop
-- guards is a statement and no declaration of locals.
use Rattle.std.specs.Prelude.{Option, Some, None, FitsSigned}
use Rattle.std.specs.Int.{w64}
use Rattle.std.specs.List.{All}
use Rattle.sc_tree.specs.Plain.{Expression, expression, Kind, number, null, my_proc, procs, size_int, name, format}
use Rattle.sc_tree.specs.Plain.{chain, both, either, choice, assign, step, plus, prefix, deref, address, cast, postfix}
use Rattle.sc_tree.specs.Plain.{call, Expressions, no_expressions, expressions, link, Links, no_links, links, Tail}
use Rattle.sc_tree.specs.Plain.{index, up, down, Tails, no_tails, tails}
use Rattle.sc_tree.specs.PlainStmt.{Declared, Statement, block, empty, declare, simple, split, choose, choose_else}
use Rattle.sc_tree.specs.PlainStmt.{while_, do_while, for_, for_mine, return, break, continue, Statements}
use Rattle.sc_tree.specs.PlainStmt.{no_statements, statements, arm, Arms, no_arms, arms}
use Rattle.sc_tree.specs.PlainTree.{PlainFunction, PlainTree}

-- each number in the expression has 64 bits
abbrev mutual
  pub NumbersFit : Expression → Type 0
  NumbersFit (expression kind start at line) = NumbersOfKindFit kind

  pub NumbersOfKindFit : Kind → Type 0
  NumbersOfKindFit (number n) = FitsSigned w64 n
  NumbersOfKindFit null = Unit {0}
  NumbersOfKindFit my_proc = Unit {0}
  NumbersOfKindFit procs = Unit {0}
  NumbersOfKindFit size_int = Unit {0}
  NumbersOfKindFit (name n) = Unit {0}
  NumbersOfKindFit (format f) = Unit {0}
  NumbersOfKindFit (chain first rest) = NumbersFit first × NumbersOfLinksFit rest
  NumbersOfKindFit (both all) = NumbersOfAllFit all
  NumbersOfKindFit (either all) = NumbersOfAllFit all
  NumbersOfKindFit (choice test on off) = NumbersFit test × NumbersFit on × NumbersFit off
  NumbersOfKindFit (assign op left right) = NumbersFit left × NumbersFit right
  NumbersOfKindFit (step is_up e) = NumbersFit e
  NumbersOfKindFit (plus e) = NumbersFit e
  NumbersOfKindFit (prefix op e) = NumbersFit e
  NumbersOfKindFit (deref e) = NumbersFit e
  NumbersOfKindFit (address e) = NumbersFit e
  NumbersOfKindFit (cast stars e) = NumbersFit e
  NumbersOfKindFit (postfix first rest) = NumbersFit first × NumbersOfTailsFit rest
  NumbersOfKindFit (call n args) = NumbersOfAllFit args

  pub NumbersOfAllFit : Expressions → Type 0
  NumbersOfAllFit no_expressions = Unit {0}
  NumbersOfAllFit (expressions e more) = NumbersFit e × NumbersOfAllFit more

  pub NumbersOfLinksFit : Links → Type 0
  NumbersOfLinksFit no_links = Unit {0}
  NumbersOfLinksFit (links (link op e at line) more) = NumbersFit e × NumbersOfLinksFit more

  pub NumbersOfTailFit : Tail → Type 0
  NumbersOfTailFit (index e at line) = NumbersFit e
  NumbersOfTailFit (up at line) = Unit {0}
  NumbersOfTailFit (down at line) = Unit {0}

  pub NumbersOfTailsFit : Tails → Type 0
  NumbersOfTailsFit no_tails = Unit {0}
  NumbersOfTailsFit (tails tail more) = NumbersOfTailFit tail × NumbersOfTailsFit more

abbrev pub IfGiven : Option Expression → Type 0
IfGiven None = Unit {0}
IfGiven (Some e) = NumbersFit e

abbrev pub IsNoDeclaration : Statement → Type 0
IsNoDeclaration (declare locals) = ⊥
IsNoDeclaration _ = Unit {0}

abbrev mutual
  pub IsProper : Statement → Type 0
  IsProper (block all) = AreProper all
  IsProper empty = Unit {0}
  IsProper (declare locals) = All (λ (l : Declared). IfGiven l.init) locals
  IsProper (simple e) = NumbersFit e
  IsProper (split left right oneway at line) = NumbersFit left × NumbersFit right
  IsProper (choose all) = ArmsAreProper all
  IsProper (choose_else all rest) = ArmsAreProper all × IsNoDeclaration rest × IsProper rest
  IsProper (while_ test body) = NumbersFit test × IsNoDeclaration body × IsProper body
  IsProper (do_while body test) = NumbersFit test × IsNoDeclaration body × IsProper body
  IsProper (for_ first test next body) =
      IfGiven first × IfGiven test × IfGiven next × IsNoDeclaration body × IsProper body
  IsProper (for_mine n bound body at line) = NumbersFit bound × IsNoDeclaration body × IsProper body
  IsProper (return value at line) = IfGiven value
  IsProper (break at) = Unit {0}
  IsProper (continue at) = Unit {0}

  pub AreProper : Statements → Type 0
  AreProper no_statements = Unit {0}
  AreProper (statements s more) = IsProper s × AreProper more

  pub ArmsAreProper : Arms → Type 0
  ArmsAreProper no_arms = Unit {0}
  ArmsAreProper (arms (arm test body) more) =
      NumbersFit test × IsNoDeclaration body × IsProper body × ArmsAreProper more

abbrev pub IsProperBody : Option Statements → Type 0
IsProperBody None = Unit {0}
IsProperBody (Some all) = AreProper all

-- each function of the tree is as the grammar makes it
abbrev pub IsProperTree : PlainTree → Type 0
IsProperTree tree = All (λ (f : PlainFunction). IsProperBody f.body) tree.functions

-- The grammar of what stands at file scope, after "Introduction to Split-C" (Culler and others, 1995) and C.
--   program   = item {item}
--   item      = "int" declarator {"," declarator} ";"
--             | result NAME "(" [params] ")" (";" | block)
--   declarator= {star} NAME { "[" bound "]" }
--             | {star} NAME "[" bound "]" { "[" bound "]" } "::" { "[" bound "]" }
--   result    = ["int" {star} | "void"]
--   params    = "void" | param {"," param}
--   param     = "int" {star} [NAME]
--   bound     = product { ("+" | "-") product }              counts for its tokens' depth
--   product   = unit { ("*" | "/" | "%") unit }
--   unit      = NUMBER | "PROCS" | "(" bound ")"
use Rattle.std.specs.Prelude.{◌≡◌, ℕ, suc, ℤ, List, [], ◌∷◌, ◌++◌, Option, Some, None, true, false}
use Rattle.sc_base.specs.declared.operator.Binary.{Binary}
use Rattle.sc_base.specs.declared.shape.Star.{Star}
use Rattle.sc_base.specs.declared.shape.Ty.{Ty}
use Rattle.sc_base.specs.declared.shape.BoundStep.{BoundStep}
use Rattle.sc_base.specs.declared.shape.BoundStep.TheVariants as step
use Rattle.sc_base.specs.declared.shape.Bound.{Bound}
use Rattle.sc_base.specs.declared.shape.Shape.{Shape}
use Rattle.sc_tree.specs.declared.token.TokenKind.TheVariants.{Number, Name, Word, Mark}
use Rattle.sc_tree.specs.declared.token.Word.TheVariants as word
use Rattle.sc_tree.specs.declared.token.Mark.{Mark as TheMark}
use Rattle.sc_tree.specs.declared.token.Mark.TheVariants as mark
use Rattle.sc_tree.specs.declared.tree.Param.{Param}
use Rattle.sc_tree.specs.PlainStmt.{Statement, Statements}
use Rattle.sc_tree.specs.PlainTree.{PlainFunction}
use Rattle.sc_tree.specs.ViewStmt.{statements_of}
use Rattle.sc_grammar.specs.Marks.{operator_of}
use Rattle.sc_grammar.specs.Rest.{Rest, Takes, number_of, line_of}
use Rattle.sc_grammar.specs.Expressions.{IsStars}
use Rattle.sc_grammar.specs.Statements.{int_with, IsBlock}

-- ---- bounds, as steps in postfix order

mutual
  pub data IsBound : (depth : ℕ) → Rest → Rest → List BoundStep → Type 0 where
    sum : {d : ℕ} {a b c : Rest} {first more : List BoundStep} →
        IsProduct (suc d) a b first → IsSummands (suc d) b c more → IsBound d a c (first ++ more)

  pub data IsSummands : (depth : ℕ) → Rest → Rest → List BoundStep → Type 0 where
    no_more_summands : {d : ℕ} {a : Rest} → IsSummands d a a []
    one_more_summand : {d : ℕ} {a b c f : Rest} {m : TheMark} {op : Binary} {next more : List BoundStep} →
        operator_of m ≡ Some (record { level = 1; op = Some op }) → Takes (Mark m) d a b →
        IsProduct d b c next → IsSummands d c f more → IsSummands d a f (next ++ step.Op op ∷ more)

  pub data IsProduct : (depth : ℕ) → Rest → Rest → List BoundStep → Type 0 where
    product : {d : ℕ} {a b c : Rest} {first more : List BoundStep} →
        IsUnit d a b first → IsFactors d b c more → IsProduct d a c (first ++ more)

  pub data IsFactors : (depth : ℕ) → Rest → Rest → List BoundStep → Type 0 where
    no_more_factors : {d : ℕ} {a : Rest} → IsFactors d a a []
    one_more_factor : {d : ℕ} {a b c f : Rest} {m : TheMark} {op : Binary} {next more : List BoundStep} →
        operator_of m ≡ Some (record { level = 0; op = Some op }) → Takes (Mark m) d a b → IsUnit d b c next →
        IsFactors d c f more → IsFactors d a f (next ++ step.Op op ∷ more)

  pub data IsUnit : (depth : ℕ) → Rest → Rest → List BoundStep → Type 0 where
    number_unit : {d : ℕ} {a b : Rest} {n : ℤ} → Takes (Number n) d a b → IsUnit d a b (step.Number n ∷ [])
    procs_unit : {d : ℕ} {a b : Rest} → Takes (Word word.Procs) d a b → IsUnit d a b (step.Procs ∷ [])
    parenthesized_unit : {d : ℕ} {a b c f : Rest} {all : List BoundStep} →
        Takes (Mark mark.OpenRound) d a b → IsBound d b c all → Takes (Mark mark.CloseRound) d c f →
        IsUnit d a f all

-- ---- objects

pub data IsBounds : (depth : ℕ) → Rest → Rest → List Bound → Type 0 where
  no_more_bounds : {d : ℕ} {a : Rest} → IsBounds d a a []
  one_more_bound : {d : ℕ} {a b c f g : Rest} {all : List BoundStep} {bs : List Bound} →
      Takes (Mark mark.OpenSquare) d a b → IsBound d b c all → Takes (Mark mark.CloseSquare) d c f →
      IsBounds d f g bs → IsBounds d a g (record { steps = all; line = line_of b } ∷ bs)

pub data IsDeclarator : (depth : ℕ) → Rest → Rest → Shape → Type 0 where
  ordinary : {d x : ℕ} {a b c f : Rest} {ss : List Star} {bs : List Bound} →
      IsStars d a b ss → Takes (Name x) d b c → IsBounds d c f bs →
      IsDeclarator d a f
      (record { name = x; ty = int_with ss; spread = false; left = bs; right = []; at = number_of b; line = line_of b })
  spread : {d x : ℕ} {a b c f g h : Rest} {ss : List Star} {first : Bound} {bs right : List Bound} →
      IsStars d a b ss → Takes (Name x) d b c → IsBounds d c f (first ∷ bs) →
      Takes (Mark mark.ColonColon) d f g → IsBounds d g h right →
      IsDeclarator d a h
      (record {
        name = x;
        ty = int_with ss;
        spread = true;
        left = first ∷ bs;
        right = right;
        at = number_of b;
        line = line_of b;
      })

pub data IsMoreDeclarators : (depth : ℕ) → Rest → Rest → List Shape → Type 0 where
  no_more_declarators : {d : ℕ} {a : Rest} → IsMoreDeclarators d a a []
  one_more_declarator : {d : ℕ} {a b c f : Rest} {s : Shape} {ss : List Shape} →
      Takes (Mark mark.Comma) d a b → IsDeclarator d b c s → IsMoreDeclarators d c f ss →
      IsMoreDeclarators d a f (s ∷ ss)

-- ---- functions

pub data IsResult : (depth : ℕ) → Rest → Rest → Ty → Type 0 where
  no_result : {d : ℕ} {a : Rest} → IsResult d a a (int_with [])
  int_result : {d : ℕ} {a b c : Rest} {ss : List Star} →
      Takes (Word word.Int) d a b → IsStars d b c ss → IsResult d a c (int_with ss)
  void_result : {d : ℕ} {a b : Rest} →
      Takes (Word word.Void) d a b → IsResult d a b (record { void = true; stars = [] })

pub data IsParam : (depth : ℕ) → Rest → Rest → Param → Type 0 where
  nameless : {d : ℕ} {a b c : Rest} {ss : List Star} →
      Takes (Word word.Int) d a b → IsStars d b c ss →
      IsParam d a c (record { name = None; ty = int_with ss; at = number_of a })
  with_name : {d x : ℕ} {a b c f : Rest} {ss : List Star} →
      Takes (Word word.Int) d a b → IsStars d b c ss → Takes (Name x) d c f →
      IsParam d a f (record { name = Some x; ty = int_with ss; at = number_of a })

pub data IsMoreParams : (depth : ℕ) → Rest → Rest → List Param → Type 0 where
  no_more_params : {d : ℕ} {a : Rest} → IsMoreParams d a a []
  one_more_param : {d : ℕ} {a b c f : Rest} {p : Param} {ps : List Param} →
      Takes (Mark mark.Comma) d a b → IsParam d b c p → IsMoreParams d c f ps → IsMoreParams d a f (p ∷ ps)

pub data IsParams : (depth : ℕ) → Rest → Rest → List Param → Type 0 where
  no_params : {d : ℕ} {a : Rest} → IsParams d a a []
  void_params : {d : ℕ} {a b : Rest} → Takes (Word word.Void) d a b → IsParams d a b []
  some_params : {d : ℕ} {a b c : Rest} {p : Param} {ps : List Param} →
      IsParam d a b p → IsMoreParams d b c ps → IsParams d a c (p ∷ ps)

pub data IsBody : (depth : ℕ) → Rest → Rest → Option Statements → Type 0 where
  prototype : {d : ℕ} {a b : Rest} → Takes (Mark mark.Semicolon) d a b → IsBody d a b None
  definition : {d : ℕ} {a b : Rest} {ss : List Statement} → IsBlock d a b ss →
      IsBody d a b (Some (statements_of ss))

-- ---- items

pub data Item : Type 0 where
  objects : List Shape → Item
  function : PlainFunction → Item

pub data IsItem : (depth : ℕ) → Rest → Rest → Item → Type 0 where
  objects_item : {d : ℕ} {a b c f g : Rest} {s : Shape} {ss : List Shape} →
      Takes (Word word.Int) d a b → IsDeclarator d b c s → IsMoreDeclarators d c f ss →
      Takes (Mark mark.Semicolon) d f g → IsItem d a g (objects (s ∷ ss))
  function_item : {d x : ℕ} {a b c f g h i : Rest} {result : Ty} {ps : List Param} {body : Option Statements} →
      IsResult d a b result → Takes (Name x) d b c → Takes (Mark mark.OpenRound) d c f → IsParams d f g ps →
      Takes (Mark mark.CloseRound) d g h → IsBody d h i body →
      IsItem d a i
      (function (record { name = x; result = result; params = ps; body = body; at = number_of b; line = line_of b }))

pub data IsMoreItems : (depth : ℕ) → Rest → Rest → List Item → Type 0 where
  no_more_items : {d : ℕ} {a : Rest} → IsMoreItems d a a []
  one_more_item : {d : ℕ} {a b c : Rest} {x : Item} {xs : List Item} →
      IsItem d a b x → IsMoreItems d b c xs → IsMoreItems d a c (x ∷ xs)

pub data IsItems : (depth : ℕ) → Rest → Rest → List Item → Type 0 where
  all_items : {d : ℕ} {a b c : Rest} {x : Item} {xs : List Item} →
      IsItem d a b x → IsMoreItems d b c xs → IsItems d a c (x ∷ xs)

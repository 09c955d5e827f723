-- What the grammar spells is proper: numbers have 64 bits, and what an `if` or a loop guards is a statement.
use Rattle.std.proofs.Common.{sym, subst, ℕ, List, [], ◌∷◌}
use Rattle.std.specs.Prelude.{Option}
use Rattle.std.specs.List.{All}
use Rattle.std.proofs.lemmas.List.Elements.{All-nil, All-cons}
use Rattle.sc_base.specs.declared.shape.BoundStep.{BoundStep}
use Rattle.sc_base.specs.declared.shape.Bound.{Bound}
use Rattle.sc_base.specs.declared.shape.Shape.{Shape}
use Rattle.sc_base.specs.declared.shape.Ty.{Ty}
use Rattle.sc_tree.specs.declared.token.Token.{Token}
use Rattle.sc_tree.specs.declared.lexed.Lexed.{Lexed}
use Rattle.sc_tree.specs.declared.tree.Param.{Param}
use Rattle.sc_tree.specs.Plain.{Expression}
use Rattle.sc_tree.specs.PlainStmt.{Declared, Statement, declare, Statements, Arm, arm}
use Rattle.sc_tree.specs.PlainTree.{PlainFunction, PlainTree}
use Rattle.sc_tree.specs.ViewStmt.{statements_of, arms_of}
use Rattle.sc_lexer.specs.Text.{IsLexed}
use Rattle.sc_grammar.specs.Rest.{Rest}
use Rattle.sc_grammar.specs.Statements.{IsInitial, no_initial, some_initial, IsLocal, local_name, IsMoreLocals, no_more_locals, one_more_local, IsOptional, left_out, given, IsStatement, block_statement, empty_statement, if_statement, if_else_statement, while_statement, do_statement, for_statement, for_mine_statement, return_statement, break_statement, continue_statement, simple_statement, split_statement, one_way_statement, IsArm, if_arm, IsElseIfs, no_else_if, one_more_else_if, IsBlock, braces, IsParts, no_more_parts, locals_part, statement_part}
use Rattle.sc_grammar.specs.Items.{IsBound, sum, IsSummands, no_more_summands, one_more_summand, IsProduct, product, IsFactors, no_more_factors, one_more_factor, IsUnit, number_unit, procs_unit, parenthesized_unit, IsBounds, no_more_bounds, one_more_bound, IsDeclarator, ordinary, spread, IsMoreDeclarators, no_more_declarators, one_more_declarator, IsResult, no_result, int_result, void_result, IsParam, nameless, with_name, IsMoreParams, no_more_params, one_more_param, IsParams, no_params, void_params, some_params, IsBody, prototype, definition, Item, IsItem, objects_item, function_item, IsMoreItems, no_more_items, one_more_item, IsItems, all_items}
use Rattle.sc_grammar.specs.Sentence.{functions_in, Sentence}
use Rattle.core_typing.specs.Proper.{NumbersFit, IfGiven, IsNoDeclaration, IsProper, AreProper, ArmsAreProper, IsProperBody, IsProperTree}
use Rattle.core_typing.proofs.SmallTokens.{AllSmall, small-lexed}
use Rattle.core_typing.proofs.ProperExpressions.{Small, left-small, stars-small, assign-small}

-- ---- declarations

initial-small : {d : ℕ} {a b : Rest} {e : Option Expression} → IsInitial d a b e → Small a → IfGiven e × Small b
initial-small no_initial h = (tt, h)
initial-small (some_initial t e) h = assign-small e (left-small t h)

local-small : {d : ℕ} {a b : Rest} {l : Declared} → IsLocal d a b l → Small a → IfGiven l.init × Small b
local-small (local_name ss t init) h = initial-small init (left-small t (stars-small ss h))

abbrev LocalProper : Declared → Type 0
LocalProper l = IfGiven l.init

-- `All` is kept folded, so that lists are seen from it
unfoldable AllLocals : List Declared → Type 0
AllLocals locals = All LocalProper locals

no-locals : AllLocals []
unfolding AllLocals
no-locals = All-nil LocalProper

more-locals : (l : Declared) (ls : List Declared) → IfGiven l.init → AllLocals ls → AllLocals (l ∷ ls)
unfolding AllLocals
more-locals l ls h g = All-cons LocalProper l ls h g

locals-proper : (ls : List Declared) → AllLocals ls → IsProper (declare ls)
unfolding AllLocals
locals-proper ls h = h

locals-small : {d : ℕ} {a b : Rest} {ls : List Declared} → IsMoreLocals d a b ls → Small a → AllLocals ls × Small b
locals-small no_more_locals h = (no-locals, h)
locals-small (one_more_local {l = l} {ls = ls} t one more) h =
    let x = local-small one (left-small t h) in
    let y = locals-small more x.1 in
    (more-locals l ls x.0 y.0, y.1)

optional-small : {d : ℕ} {a b : Rest} {e : Option Expression} → IsOptional d a b e → Small a → IfGiven e × Small b
optional-small left_out h = (tt, h)
optional-small (given e) h = assign-small e h

-- ---- statements

-- an arm of an `if`
abbrev ArmProper : Arm → Type 0
ArmProper (arm test body) = NumbersFit test × IsNoDeclaration body × IsProper body

more-arms : (x : Arm) (xs : List Arm) → ArmProper x → ArmsAreProper (arms_of xs) → ArmsAreProper (arms_of (x ∷ xs))
more-arms (arm test body) xs h g = (h.0, h.1, h.2, g)

-- a statement, which is no declaration
pub record Proper (s : Statement) (b : Rest) : Type 0 where
  pub statement : IsNoDeclaration s
  pub is : IsProper s
  pub left : Small b

mutual
  pub statement-small : {d : ℕ} {a b : Rest} {s : Statement} → IsStatement d a b s → Small a → Proper s b
  statement-small (block_statement all) h = let x = block-small all h in record { statement = tt; is = x.0; left = x.1 }
  statement-small (empty_statement t) h = record { statement = tt; is = tt; left = left-small t h }
  statement-small (if_statement {x = x} {xs = xs} one more) h =
      let y = arm-small one h in
      let z = arms-small more y.1 in
      record { statement = tt; is = more-arms x xs y.0 z.0; left = z.1 }
  statement-small (if_else_statement {x = x} {xs = xs} one more t is s) h =
      let y = arm-small one h in
      let z = arms-small more y.1 in
      let w = statement-small s (left-small t z.1) in
      record { statement = tt; is = (more-arms x xs y.0 z.0, w.statement, w.is); left = w.left }
  statement-small (while_statement t u test v s) h =
      let x = assign-small test (left-small u (left-small t h)) in
      let w = statement-small s (left-small v x.1) in
      record { statement = tt; is = (x.0, w.statement, w.is); left = w.left }
  statement-small (do_statement t s u v test x y) h =
      let w = statement-small s (left-small t h) in
      let e = assign-small test (left-small v (left-small u w.left)) in
      record { statement = tt; is = (e.0, w.statement, w.is); left = left-small y (left-small x e.1) }
  statement-small (for_statement t u first v test x next y s) h =
      let e = optional-small first (left-small u (left-small t h)) in
      let f = optional-small test (left-small v e.1) in
      let g = optional-small next (left-small x f.1) in
      let w = statement-small s (left-small y g.1) in
      record { statement = tt; is = (e.0, f.0, g.0, w.statement, w.is); left = w.left }
  statement-small (for_mine_statement t u v x bound y s) h =
      let e = assign-small bound (left-small x (left-small v (left-small u (left-small t h)))) in
      let w = statement-small s (left-small y e.1) in
      record { statement = tt; is = (e.0, w.statement, w.is); left = w.left }
  statement-small (return_statement t value u) h =
      let e = optional-small value (left-small t h) in
      record { statement = tt; is = e.0; left = left-small u e.1 }
  statement-small (break_statement t u) h = record { statement = tt; is = tt; left = left-small u (left-small t h) }
  statement-small (continue_statement t u) h = record { statement = tt; is = tt; left = left-small u (left-small t h) }
  statement-small (simple_statement e t) h =
      let x = assign-small e h in
      record { statement = tt; is = x.0; left = left-small t x.1 }
  statement-small (split_statement l t r u) h =
      let x = assign-small l h in
      let y = assign-small r (left-small t x.1) in
      record { statement = tt; is = (x.0, y.0); left = left-small u y.1 }
  statement-small (one_way_statement l t r u) h =
      let x = assign-small l h in
      let y = assign-small r (left-small t x.1) in
      record { statement = tt; is = (x.0, y.0); left = left-small u y.1 }

  pub arm-small : {d : ℕ} {a b : Rest} {x : Arm} → IsArm d a b x → Small a → ArmProper x × Small b
  arm-small (if_arm t u test v s nearest) h =
      let x = assign-small test (left-small u (left-small t h)) in
      let w = statement-small s (left-small v x.1) in
      ((x.0, w.statement, w.is), w.left)

  pub arms-small : {d : ℕ} {a b : Rest} {xs : List Arm} → IsElseIfs d a b xs → Small a →
      ArmsAreProper (arms_of xs) × Small b
  arms-small no_else_if h = (tt, h)
  arms-small (one_more_else_if {x = x} {xs = xs} t one more) h =
      let y = arm-small one (left-small t h) in
      let z = arms-small more y.1 in
      (more-arms x xs y.0 z.0, z.1)

  pub block-small : {d : ℕ} {a b : Rest} {ss : List Statement} → IsBlock d a b ss → Small a →
      AreProper (statements_of ss) × Small b
  block-small (braces t parts u) h =
      let x = parts-small parts (left-small t h) in
      (x.0, left-small u x.1)

  pub parts-small : {d : ℕ} {a b : Rest} {ss : List Statement} → IsParts d a b ss → Small a →
      AreProper (statements_of ss) × Small b
  parts-small no_more_parts h = (tt, h)
  parts-small (locals_part {l = l} {ls = ls} t one more u further) h =
      let x = local-small one (left-small t h) in
      let y = locals-small more x.1 in
      let z = parts-small further (left-small u y.1) in
      ((locals-proper (l ∷ ls) (more-locals l ls x.0 y.0), z.0), z.1)
  parts-small (statement_part s further) h =
      let x = statement-small s h in
      let y = parts-small further x.left in
      ((x.is, y.0), y.1)

-- ---- what stands at file scope

mutual
  bound-small : {d : ℕ} {a b : Rest} {all : List BoundStep} → IsBound d a b all → Small a → Small b
  bound-small (sum p more) h = summands-small more (product-small p h)

  summands-small : {d : ℕ} {a b : Rest} {all : List BoundStep} → IsSummands d a b all → Small a → Small b
  summands-small no_more_summands h = h
  summands-small (one_more_summand is t p more) h = summands-small more (product-small p (left-small t h))

  product-small : {d : ℕ} {a b : Rest} {all : List BoundStep} → IsProduct d a b all → Small a → Small b
  product-small (product u more) h = factors-small more (unit-small u h)

  factors-small : {d : ℕ} {a b : Rest} {all : List BoundStep} → IsFactors d a b all → Small a → Small b
  factors-small no_more_factors h = h
  factors-small (one_more_factor is t u more) h = factors-small more (unit-small u (left-small t h))

  unit-small : {d : ℕ} {a b : Rest} {all : List BoundStep} → IsUnit d a b all → Small a → Small b
  unit-small (number_unit t) h = left-small t h
  unit-small (procs_unit t) h = left-small t h
  unit-small (parenthesized_unit t all u) h = left-small u (bound-small all (left-small t h))

bounds-small : {d : ℕ} {a b : Rest} {all : List Bound} → IsBounds d a b all → Small a → Small b
bounds-small no_more_bounds h = h
bounds-small (one_more_bound t all u more) h = bounds-small more (left-small u (bound-small all (left-small t h)))

declarator-small : {d : ℕ} {a b : Rest} {s : Shape} → IsDeclarator d a b s → Small a → Small b
declarator-small (ordinary ss t bounds) h = bounds-small bounds (left-small t (stars-small ss h))
declarator-small (spread ss t left u right) h =
    bounds-small right (left-small u (bounds-small left (left-small t (stars-small ss h))))

declarators-small : {d : ℕ} {a b : Rest} {all : List Shape} → IsMoreDeclarators d a b all → Small a → Small b
declarators-small no_more_declarators h = h
declarators-small (one_more_declarator t s more) h = declarators-small more (declarator-small s (left-small t h))

result-small : {d : ℕ} {a b : Rest} {ty : Ty} → IsResult d a b ty → Small a → Small b
result-small no_result h = h
result-small (int_result t ss) h = stars-small ss (left-small t h)
result-small (void_result t) h = left-small t h

param-small : {d : ℕ} {a b : Rest} {p : Param} → IsParam d a b p → Small a → Small b
param-small (nameless t ss) h = stars-small ss (left-small t h)
param-small (with_name t ss u) h = left-small u (stars-small ss (left-small t h))

more-params-small : {d : ℕ} {a b : Rest} {ps : List Param} → IsMoreParams d a b ps → Small a → Small b
more-params-small no_more_params h = h
more-params-small (one_more_param t p more) h = more-params-small more (param-small p (left-small t h))

params-small : {d : ℕ} {a b : Rest} {ps : List Param} → IsParams d a b ps → Small a → Small b
params-small no_params h = h
params-small (void_params t) h = left-small t h
params-small (some_params p more) h = more-params-small more (param-small p h)

body-small : {d : ℕ} {a b : Rest} {body : Option Statements} → IsBody d a b body → Small a → IsProperBody body × Small b
body-small (prototype t) h = (tt, left-small t h)
body-small (definition all) h = block-small all h

abbrev FunctionProper : PlainFunction → Type 0
FunctionProper f = IsProperBody f.body

unfoldable AllFunctions : List PlainFunction → Type 0
AllFunctions fs = All FunctionProper fs

no-functions : AllFunctions []
unfolding AllFunctions
no-functions = All-nil FunctionProper

more-functions : (f : PlainFunction) (fs : List PlainFunction) → IsProperBody f.body → AllFunctions fs → AllFunctions (f ∷ fs)
unfolding AllFunctions
more-functions f fs h g = All-cons FunctionProper f fs h g

-- an item in front of others
item-small : {d : ℕ} {a b : Rest} {x : Item} (items : List Item) → IsItem d a b x → Small a →
    (AllFunctions (functions_in items) → AllFunctions (functions_in (x ∷ items))) × Small b
item-small items (objects_item t s more u) h =
    ((λ g. g), left-small u (declarators-small more (declarator-small s (left-small t h))))
item-small items (function_item result t u params v body) h =
    let x = body-small body (left-small v (params-small params (left-small u (left-small t (result-small result h))))) in
    ((λ g. more-functions _ (functions_in items) x.0 g), x.1)

more-items-small : {d : ℕ} {a b : Rest} {xs : List Item} → IsMoreItems d a b xs → Small a → AllFunctions (functions_in xs)
more-items-small no_more_items h = no-functions
more-items-small (one_more_item {xs = xs} x more) h =
    let y = item-small xs x h in
    y.0 (more-items-small more y.1)

items-small : {d : ℕ} {a b : Rest} {xs : List Item} → IsItems d a b xs → Small a → AllFunctions (functions_in xs)
items-small (all_items {xs = xs} x more) h =
    let y = item-small xs x h in
    y.0 (more-items-small more y.1)

functions-proper : (tree : PlainTree) → AllFunctions tree.functions → IsProperTree tree
unfolding AllFunctions
functions-proper tree h = h

sentence-proper : (ts : List Token) (tree : PlainTree) → Sentence ts tree → AllSmall ts → IsProperTree tree
sentence-proper ts tree s h =
    functions-proper tree
    (subst (λ (t : PlainTree). AllFunctions t.functions) (sym s.spells.made)
    (items-small s.spells.is (subst AllSmall (sym s.tokens) h)))

-- the tree that is read of a text is proper
pub read-proper : (source : List ℕ) (lexed : Lexed) (tree : PlainTree) → IsLexed source lexed →
    Sentence lexed.tokens tree → IsProperTree tree
read-proper source lexed tree is s = sentence-proper lexed.tokens tree s (small-lexed source lexed is)

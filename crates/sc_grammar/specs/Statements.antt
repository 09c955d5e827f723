-- The grammar of statements, after "Introduction to Split-C" (Culler and others, 1995) and C.
--   block     = "{" { local | statement } "}"
--   local     = "int" {star} NAME ["=" assign] { "," {star} NAME ["=" assign] } ";"
--   statement = block | ";"                                  counts for its tokens' depth
--             | "if" "(" assign ")" statement { "else" "if" "(" assign ")" statement } [ "else" statement ]
--             | "while" "(" assign ")" statement
--             | "do" statement "while" "(" assign ")" ";"
--             | "for" "(" [assign] ";" [assign] ";" [assign] ")" statement
--             | "for_my_1d" "(" NAME "," assign ")" statement
--             | "return" [assign] ";" | "break" ";" | "continue" ";"
--             | assign [(":=" | ":-") assign] ";"
-- A chain of `if` and `else if` is taken as long as possible, and an `else` belongs to the nearest `if`.
use Rattle.std.specs.Prelude.{◌≡◌, ℕ, suc, List, [], ◌∷◌, Option, Some, None, Bool, true, false}
use Rattle.sc_base.specs.declared.shape.Star.{Star}
use Rattle.sc_base.specs.declared.shape.Ty.{Ty}
use Rattle.sc_tree.specs.declared.token.TokenKind.{TokenKind}
use Rattle.sc_tree.specs.declared.token.TokenKind.TheVariants.{Name, Word, Mark}
use Rattle.sc_tree.specs.declared.token.Word.TheVariants as word
use Rattle.sc_tree.specs.declared.token.Mark.TheVariants as mark
use Rattle.sc_tree.specs.Plain.{Expression}
use Rattle.sc_tree.specs.PlainStmt.{Declared, Statement, block, empty, declare, simple, split, choose, choose_else, while_, do_while, for_, for_mine, return, break, continue, Arm, arm}
use Rattle.sc_tree.specs.ViewStmt.{statements_of, arms_of}
use Rattle.sc_grammar.specs.Rest.{Spelt, Rest, rest, Takes, number_of, line_of}
use Rattle.sc_grammar.specs.Expressions.{IsStars, IsAssign}

-- ---- what an `else` belongs to

-- an `else` after the statement would belong to an `if` inside it
abbrev pub is_open : Statement → Bool
is_open (choose all) = true
is_open (choose_else all s) = is_open s
is_open (while_ test s) = is_open s
is_open (for_ first test next s) = is_open s
is_open (for_mine x bound s at line) = is_open s
is_open _ = false

abbrev pub is_else : TokenKind → Bool
is_else (Word word.Else) = true
is_else _ = false

abbrev pub is_if : TokenKind → Bool
is_if (Word word.If) = true
is_if _ = false

abbrev pub begins_by : (TokenKind → Bool) → List Spelt → Bool
begins_by p [] = false
begins_by p (s ∷ left) = p s.token.kind

abbrev pub stands_before : (TokenKind → Bool) → Rest → Bool
stands_before p (rest before left) = begins_by p left

abbrev pub before_else : Rest → Bool
before_else = stands_before is_else

abbrev pub before_if : Rest → Bool
before_if = stands_before is_if

-- an `else` that stands directly after this statement does not belong inside it
abbrev pub IsNearest : Statement → Rest → Type 0
IsNearest s a = before_else a ≡ true → is_open s ≡ false

-- ---- declarations of locals

-- an int, or a pointer for each star
abbrev pub int_with : List Star → Ty
int_with ss = record { void = false; stars = ss }

pub data IsInitial : (depth : ℕ) → Rest → Rest → Option Expression → Type 0 where
  no_initial : {d : ℕ} {a : Rest} → IsInitial d a a None
  some_initial : {d : ℕ} {a b c : Rest} {e : Expression} →
      Takes (Mark mark.Equal) d a b → IsAssign d b c e → IsInitial d a c (Some e)

pub data IsLocal : (depth : ℕ) → Rest → Rest → Declared → Type 0 where
  local_name : {d x : ℕ} {a b c f : Rest} {ss : List Star} {init : Option Expression} →
      IsStars d a b ss → Takes (Name x) d b c → IsInitial d c f init →
      IsLocal d a f (record { name = x; ty = int_with ss; init = init; at = number_of b; line = line_of b })

pub data IsMoreLocals : (depth : ℕ) → Rest → Rest → List Declared → Type 0 where
  no_more_locals : {d : ℕ} {a : Rest} → IsMoreLocals d a a []
  one_more_local : {d : ℕ} {a b c f : Rest} {l : Declared} {ls : List Declared} →
      Takes (Mark mark.Comma) d a b → IsLocal d b c l → IsMoreLocals d c f ls → IsMoreLocals d a f (l ∷ ls)

-- ---- statements

pub data IsOptional : (depth : ℕ) → Rest → Rest → Option Expression → Type 0 where
  left_out : {d : ℕ} {a : Rest} → IsOptional d a a None
  given : {d : ℕ} {a b : Rest} {e : Expression} → IsAssign d a b e → IsOptional d a b (Some e)

mutual
  pub data IsStatement : (depth : ℕ) → Rest → Rest → Statement → Type 0 where
    block_statement : {d : ℕ} {a b : Rest} {ss : List Statement} →
        IsBlock (suc d) a b ss → IsStatement d a b (block (statements_of ss))
    empty_statement : {d : ℕ} {a b : Rest} → Takes (Mark mark.Semicolon) (suc d) a b → IsStatement d a b empty
    if_statement : {d : ℕ} {a b c : Rest} {x : Arm} {xs : List Arm} →
        IsArm (suc d) a b x → IsElseIfs (suc d) b c xs → IsStatement d a c (choose (arms_of (x ∷ xs)))
    if_else_statement : {d : ℕ} {a b c f g : Rest} {x : Arm} {xs : List Arm} {s : Statement} →
        IsArm (suc d) a b x → IsElseIfs (suc d) b c xs → Takes (Word word.Else) (suc d) c f →
        before_if f ≡ false → IsStatement (suc d) f g s → IsStatement d a g (choose_else (arms_of (x ∷ xs)) s)
    while_statement : {d : ℕ} {a b c f g h : Rest} {test : Expression} {s : Statement} →
        Takes (Word word.While) (suc d) a b → Takes (Mark mark.OpenRound) (suc d) b c →
        IsAssign (suc d) c f test → Takes (Mark mark.CloseRound) (suc d) f g → IsStatement (suc d) g h s →
        IsStatement d a h (while_ test s)
    do_statement : {d : ℕ} {a b c f g h i j : Rest} {test : Expression} {s : Statement} →
        Takes (Word word.Do) (suc d) a b → IsStatement (suc d) b c s → Takes (Word word.While) (suc d) c f →
        Takes (Mark mark.OpenRound) (suc d) f g → IsAssign (suc d) g h test →
        Takes (Mark mark.CloseRound) (suc d) h i → Takes (Mark mark.Semicolon) (suc d) i j →
        IsStatement d a j (do_while s test)
    for_statement : {d : ℕ} {a b c f g h i j k m : Rest} {first test next : Option Expression} {s : Statement} →
        Takes (Word word.For) (suc d) a b → Takes (Mark mark.OpenRound) (suc d) b c →
        IsOptional (suc d) c f first → Takes (Mark mark.Semicolon) (suc d) f g → IsOptional (suc d) g h test →
        Takes (Mark mark.Semicolon) (suc d) h i → IsOptional (suc d) i j next →
        Takes (Mark mark.CloseRound) (suc d) j k → IsStatement (suc d) k m s →
        IsStatement d a m (for_ first test next s)
    for_mine_statement : {d x : ℕ} {a b c f g h i j : Rest} {bound : Expression} {s : Statement} →
        Takes (Word word.ForMine) (suc d) a b → Takes (Mark mark.OpenRound) (suc d) b c →
        Takes (Name x) (suc d) c f → Takes (Mark mark.Comma) (suc d) f g → IsAssign (suc d) g h bound →
        Takes (Mark mark.CloseRound) (suc d) h i → IsStatement (suc d) i j s →
        IsStatement d a j (for_mine x bound s (number_of c) (line_of c))
    return_statement : {d : ℕ} {a b c f : Rest} {value : Option Expression} →
        Takes (Word word.Return) (suc d) a b → IsOptional (suc d) b c value →
        Takes (Mark mark.Semicolon) (suc d) c f → IsStatement d a f (return value (number_of a) (line_of a))
    break_statement : {d : ℕ} {a b c : Rest} →
        Takes (Word word.Break) (suc d) a b → Takes (Mark mark.Semicolon) (suc d) b c →
        IsStatement d a c (break (number_of a))
    continue_statement : {d : ℕ} {a b c : Rest} →
        Takes (Word word.Continue) (suc d) a b → Takes (Mark mark.Semicolon) (suc d) b c →
        IsStatement d a c (continue (number_of a))
    simple_statement : {d : ℕ} {a b c : Rest} {e : Expression} →
        IsAssign (suc d) a b e → Takes (Mark mark.Semicolon) (suc d) b c → IsStatement d a c (simple e)
    split_statement : {d : ℕ} {a b c f g : Rest} {left right : Expression} →
        IsAssign (suc d) a b left → Takes (Mark mark.ColonEqual) (suc d) b c → IsAssign (suc d) c f right →
        Takes (Mark mark.Semicolon) (suc d) f g → IsStatement d a g (split left right false (number_of b) (line_of b))
    one_way_statement : {d : ℕ} {a b c f g : Rest} {left right : Expression} →
        IsAssign (suc d) a b left → Takes (Mark mark.ColonMinus) (suc d) b c → IsAssign (suc d) c f right →
        Takes (Mark mark.Semicolon) (suc d) f g → IsStatement d a g (split left right true (number_of b) (line_of b))

  -- "if" "(" assign ")" statement
  pub data IsArm : (depth : ℕ) → Rest → Rest → Arm → Type 0 where
    if_arm : {d : ℕ} {a b c f g h : Rest} {test : Expression} {s : Statement} →
        Takes (Word word.If) d a b → Takes (Mark mark.OpenRound) d b c → IsAssign d c f test →
        Takes (Mark mark.CloseRound) d f g → IsStatement d g h s → IsNearest s h → IsArm d a h (arm test s)

  pub data IsElseIfs : (depth : ℕ) → Rest → Rest → List Arm → Type 0 where
    no_else_if : {d : ℕ} {a : Rest} → IsElseIfs d a a []
    one_more_else_if : {d : ℕ} {a b c f : Rest} {x : Arm} {xs : List Arm} →
        Takes (Word word.Else) d a b → IsArm d b c x → IsElseIfs d c f xs → IsElseIfs d a f (x ∷ xs)

  pub data IsBlock : (depth : ℕ) → Rest → Rest → List Statement → Type 0 where
    braces : {d : ℕ} {a b c f : Rest} {ss : List Statement} →
        Takes (Mark mark.OpenCurly) d a b → IsParts d b c ss → Takes (Mark mark.CloseCurly) d c f →
        IsBlock d a f ss

  pub data IsParts : (depth : ℕ) → Rest → Rest → List Statement → Type 0 where
    no_more_parts : {d : ℕ} {a : Rest} → IsParts d a a []
    locals_part : {d : ℕ} {a b c f g h : Rest} {l : Declared} {ls : List Declared} {ss : List Statement} →
        Takes (Word word.Int) d a b → IsLocal d b c l → IsMoreLocals d c f ls →
        Takes (Mark mark.Semicolon) d f g → IsParts d g h ss → IsParts d a h (declare (l ∷ ls) ∷ ss)
    statement_part : {d : ℕ} {a b c : Rest} {s : Statement} {ss : List Statement} →
        IsStatement d a b s → IsParts d b c ss → IsParts d a c (s ∷ ss)

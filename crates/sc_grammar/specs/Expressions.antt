-- The grammar of expressions, after "Introduction to Split-C" (Culler and others, 1995) and C. Each relation says that
-- the tokens that are left at first, up to those that are left at last, spell the tree, at the given depth.
--   assign  = cond [assigning assign]                        counts for its tokens' depth
--   cond    = level 9 ["?" assign ":" branch]
--   branch  = cond                                           counts
--   level n = operand {operator of level n operand}          an operand of level 0 is `unary`, and else `level n-1`
--   unary   = prefix | postfix
--   prefix  = ("-" | "+" | "!" | "~" | "*" | "&" | "++" | "--") unary
--           | "(" "int" {star} ")" unary                     counts, but not for the "(" that opens a cast
--   postfix = primary { "[" assign "]" | "++" | "--" }
--   primary = NUMBER | "NULL" | "MYPROC" | "PROCS" | "sizeof" "(" "int" ")"
--           | NAME | NAME "(" [arg {"," arg}] ")" | "(" assign ")"
--   arg     = assign | FORMAT
--   star    = "*" ["global" | "spread"]
use Rattle.std.specs.Prelude.{◌≡◌, ℕ, suc, ◌<◌, ◌≤◌, ℤ, List, [], ◌∷◌, Some, None, nat_eq, if◌then◌else◌}
use Rattle.sc_base.specs.declared.operator.Binary.{Binary}
use Rattle.sc_base.specs.declared.shape.Star.{Star}
use Rattle.sc_base.specs.declared.shape.Star.TheVariants as star
use Rattle.sc_tree.specs.declared.token.TokenKind.TheVariants.{Number, Name, Format, Word, Mark}
use Rattle.sc_tree.specs.declared.token.Word.TheVariants as word
use Rattle.sc_tree.specs.declared.token.Mark.{Mark as TheMark}
use Rattle.sc_tree.specs.declared.token.Mark.TheVariants as mark
use Rattle.sc_tree.specs.Plain.{Expression, expression, Kind, number, null, my_proc, procs, size_int, name, format, chain, both, either, choice, assign, cast, postfix, call, Expressions, no_expressions, expressions, Link, link, Links, no_links, links, Tail, index, up, down, Tails, no_tails, tails}
use Rattle.sc_tree.specs.View.{expressions_of, links_of, tails_of}
use Rattle.sc_grammar.specs.declared.operators.Assigning.{Assigning}
use Rattle.sc_grammar.specs.declared.operators.Prefix.{Prefix}
use Rattle.sc_grammar.specs.Marks.{operator_of, assigning_of, prefix_of, prefixed}
use Rattle.sc_grammar.specs.Rest.{Rest, Takes, number_of, line_of}

-- ---- trees

-- an expression whose own token is its first
abbrev pub placed : Rest → Kind → Expression
placed a kind = expression kind (number_of a) (number_of a) (line_of a)

-- an expression in parentheses starts with them; where its place is its start, that moves too
abbrev pub around : (start line : ℕ) → Expression → Expression
around start line (expression (chain e ls) s at l) = expression (chain e ls) start start line
around start line (expression (both es) s at l) = expression (both es) start start line
around start line (expression (either es) s at l) = expression (either es) start start line
around start line (expression (postfix e ts) s at l) = expression (postfix e ts) start start line
around start line (expression kind s at l) = expression kind start at l

-- a chain of operands, or the only one
abbrev pub chained : (start line : ℕ) → Expression → Links → Expression
chained start line first no_links = first
chained start line first (links l ls) = expression (chain first (links l ls)) start start line

-- the operands of `&&`, which join operands of level 8, or of `||`
abbrev pub logical : ℕ → Expressions → Kind
logical level es = if nat_eq level 8 then both es else either es

abbrev pub listed : (level start line : ℕ) → Expression → Expressions → Expression
listed level start line first no_expressions = first
listed level start line first (expressions e es) =
    expression (logical level (expressions first (expressions e es))) start start line

abbrev pub tailed : (start line : ℕ) → Expression → Tails → Expression
tailed start line first no_tails = first
tailed start line first (tails t ts) = expression (postfix first (tails t ts)) start start line

-- ---- stars

pub data IsStars : (depth : ℕ) → Rest → Rest → List Star → Type 0 where
  no_stars : {d : ℕ} {a : Rest} → IsStars d a a []
  local_star : {d : ℕ} {a b c : Rest} {ss : List Star} →
      Takes (Mark mark.Star) d a b → IsStars d b c ss → IsStars d a c (star.Local ∷ ss)
  global_star : {d : ℕ} {a b c e : Rest} {ss : List Star} →
      Takes (Mark mark.Star) d a b → Takes (Word word.Global) d b c → IsStars d c e ss →
      IsStars d a e (star.Global ∷ ss)
  spread_star : {d : ℕ} {a b c e : Rest} {ss : List Star} →
      Takes (Mark mark.Star) d a b → Takes (Word word.Spread) d b c → IsStars d c e ss →
      IsStars d a e (star.Spread ∷ ss)

-- ---- expressions

mutual
  pub data IsAssign : (depth : ℕ) → Rest → Rest → Expression → Type 0 where
    no_assignment : {d : ℕ} {a b : Rest} {e : Expression} → IsCond (suc d) a b e → IsAssign d a b e
    assignment : {d : ℕ} {a b c f : Rest} {left right : Expression} {m : TheMark} {x : Assigning} →
        IsCond (suc d) a b left → assigning_of m ≡ Some x → Takes (Mark m) (suc d) b c →
        IsAssign (suc d) c f right → IsAssign d a f
        (expression (assign x.op left right) (number_of a) (number_of b) (line_of b))

  pub data IsCond : (depth : ℕ) → Rest → Rest → Expression → Type 0 where
    no_choice : {d : ℕ} {a b : Rest} {e : Expression} → IsLevel 10 d a b e → IsCond d a b e
    choosing : {d : ℕ} {a b c f g h : Rest} {test yes no : Expression} →
        IsLevel 10 d a b test → Takes (Mark mark.Question) d b c → IsAssign d c f yes →
        Takes (Mark mark.Colon) d f g → IsBranch d g h no →
        IsCond d a h (expression (choice test yes no) (number_of a) (number_of b) (line_of b))

  pub data IsBranch : (depth : ℕ) → Rest → Rest → Expression → Type 0 where
    branch : {d : ℕ} {a b : Rest} {e : Expression} → IsCond (suc d) a b e → IsBranch d a b e

  -- an operand of the operators of this level
  pub data IsLevel : (level depth : ℕ) → Rest → Rest → Expression → Type 0 where
    tightest : {d : ℕ} {a b : Rest} {e : Expression} → IsUnary d a b e → IsLevel 0 d a b e
    arithmetic : {l d : ℕ} {a b c : Rest} {first : Expression} {ls : List Link} →
        l < 8 → IsLevel l d a b first → IsLinks l d b c ls →
        IsLevel (suc l) d a c (chained (number_of a) (line_of a) first (links_of ls))
    logic : {l d : ℕ} {a b c : Rest} {first : Expression} {es : List Expression} →
        8 ≤ l → IsLevel l d a b first → IsOperands l d b c es →
        IsLevel (suc l) d a c (listed l (number_of a) (line_of a) first (expressions_of es))

  pub data IsLinks : (level depth : ℕ) → Rest → Rest → List Link → Type 0 where
    no_more_links : {l d : ℕ} {a : Rest} → IsLinks l d a a []
    one_more_link : {l d : ℕ} {a b c f : Rest} {m : TheMark} {op : Binary} {e : Expression} {ls : List Link} →
        operator_of m ≡ Some (record { level = l; op = Some op }) → Takes (Mark m) d a b → IsLevel l d b c e →
        IsLinks l d c f ls → IsLinks l d a f (link op e (number_of a) (line_of a) ∷ ls)

  pub data IsOperands : (level depth : ℕ) → Rest → Rest → List Expression → Type 0 where
    no_more_operands : {l d : ℕ} {a : Rest} → IsOperands l d a a []
    one_more_operand : {l d : ℕ} {a b c f : Rest} {m : TheMark} {e : Expression} {es : List Expression} →
        operator_of m ≡ Some (record { level = l; op = None }) → Takes (Mark m) d a b → IsLevel l d b c e →
        IsOperands l d c f es → IsOperands l d a f (e ∷ es)

  pub data IsUnary : (depth : ℕ) → Rest → Rest → Expression → Type 0 where
    prefix_operator : {d : ℕ} {a b c : Rest} {m : TheMark} {x : Prefix} {e : Expression} →
        prefix_of m ≡ Some x → Takes (Mark m) (suc d) a b → IsUnary (suc d) b c e →
        IsUnary d a c (placed a (prefixed x e))
    casting : {d : ℕ} {a b c f g h : Rest} {ss : List Star} {e : Expression} →
        Takes (Mark mark.OpenRound) d a b → Takes (Word word.Int) (suc d) b c → IsStars (suc d) c f ss →
        Takes (Mark mark.CloseRound) (suc d) f g → IsUnary (suc d) g h e → IsUnary d a h (placed a (cast ss e))
    no_prefix : {d : ℕ} {a b c : Rest} {e : Expression} {ts : List Tail} →
        IsPrimary d a b e → IsTails d b c ts → IsUnary d a c (tailed (number_of a) (line_of a) e (tails_of ts))

  pub data IsTails : (depth : ℕ) → Rest → Rest → List Tail → Type 0 where
    no_more_tails : {d : ℕ} {a : Rest} → IsTails d a a []
    index_tail : {d : ℕ} {a b c f g : Rest} {e : Expression} {ts : List Tail} →
        Takes (Mark mark.OpenSquare) d a b → IsAssign d b c e → Takes (Mark mark.CloseSquare) d c f →
        IsTails d f g ts → IsTails d a g (index e (number_of a) (line_of a) ∷ ts)
    up_tail : {d : ℕ} {a b c : Rest} {ts : List Tail} →
        Takes (Mark mark.PlusPlus) d a b → IsTails d b c ts → IsTails d a c (up (number_of a) (line_of a) ∷ ts)
    down_tail : {d : ℕ} {a b c : Rest} {ts : List Tail} →
        Takes (Mark mark.MinusMinus) d a b → IsTails d b c ts →
        IsTails d a c (down (number_of a) (line_of a) ∷ ts)

  pub data IsPrimary : (depth : ℕ) → Rest → Rest → Expression → Type 0 where
    numeral : {d : ℕ} {a b : Rest} {n : ℤ} → Takes (Number n) d a b → IsPrimary d a b (placed a (number n))
    null_word : {d : ℕ} {a b : Rest} → Takes (Word word.Null) d a b → IsPrimary d a b (placed a null)
    my_proc_word : {d : ℕ} {a b : Rest} → Takes (Word word.MyProc) d a b → IsPrimary d a b (placed a my_proc)
    procs_word : {d : ℕ} {a b : Rest} → Takes (Word word.Procs) d a b → IsPrimary d a b (placed a procs)
    size_of_int : {d : ℕ} {a b c f g : Rest} →
        Takes (Word word.Sizeof) d a b → Takes (Mark mark.OpenRound) d b c → Takes (Word word.Int) d c f →
        Takes (Mark mark.CloseRound) d f g → IsPrimary d a g (placed a size_int)
    named : {d x : ℕ} {a b : Rest} → Takes (Name x) d a b → IsPrimary d a b (placed a (name x))
    called : {d x : ℕ} {a b c f g : Rest} {es : List Expression} →
        Takes (Name x) d a b → Takes (Mark mark.OpenRound) d b c → IsArguments d c f es →
        Takes (Mark mark.CloseRound) d f g → IsPrimary d a g (placed a (call x (expressions_of es)))
    parenthesized : {d : ℕ} {a b c f : Rest} {e : Expression} →
        Takes (Mark mark.OpenRound) d a b → IsAssign d b c e → Takes (Mark mark.CloseRound) d c f →
        IsPrimary d a f (around (number_of a) (line_of a) e)

  pub data IsArguments : (depth : ℕ) → Rest → Rest → List Expression → Type 0 where
    no_arguments : {d : ℕ} {a : Rest} → IsArguments d a a []
    some_arguments : {d : ℕ} {a b c : Rest} {e : Expression} {es : List Expression} →
        IsArgument d a b e → IsMoreArguments d b c es → IsArguments d a c (e ∷ es)

  pub data IsMoreArguments : (depth : ℕ) → Rest → Rest → List Expression → Type 0 where
    no_more_arguments : {d : ℕ} {a : Rest} → IsMoreArguments d a a []
    one_more_argument : {d : ℕ} {a b c f : Rest} {e : Expression} {es : List Expression} →
        Takes (Mark mark.Comma) d a b → IsArgument d b c e → IsMoreArguments d c f es →
        IsMoreArguments d a f (e ∷ es)

  pub data IsArgument : (depth : ℕ) → Rest → Rest → Expression → Type 0 where
    value_argument : {d : ℕ} {a b : Rest} {e : Expression} → IsAssign d a b e → IsArgument d a b e
    format_argument : {d x : ℕ} {a b : Rest} → Takes (Format x) d a b → IsArgument d a b (placed a (format x))

-- The numbers in what the grammar spells are those of its tokens, so that each has 64 bits.
use Rattle.std.proofs.Common.{ℕ, Bool, true, false, List, [], ◌∷◌}
use Rattle.std.specs.Prelude.{nat_eq, if◌then◌else◌}
use Rattle.sc_base.specs.declared.shape.Star.{Star}
use Rattle.sc_tree.specs.declared.token.TokenKind.{TokenKind}
use Rattle.sc_tree.specs.Plain.{Expression, expression, chain, both, either, postfix, Expressions, expressions, Link, Tail}
use Rattle.sc_tree.specs.View.{expressions_of, links_of, tails_of}
use Rattle.sc_grammar.specs.declared.operators.Prefix.{Prefix}
use Rattle.sc_grammar.specs.declared.operators.Prefix.TheVariants as opening
use Rattle.sc_grammar.specs.Marks.{prefixed}
use Rattle.sc_grammar.specs.Rest.{Rest, rest, Takes, takes, number_of, line_of, tokens_of}
use Rattle.sc_grammar.specs.Expressions.{around, chained, logical, listed, tailed, IsStars, no_stars, local_star, global_star, spread_star, IsAssign, no_assignment, assignment, IsCond, no_choice, choosing, IsBranch, branch, IsLevel, tightest, arithmetic, logic, IsLinks, no_more_links, one_more_link, IsOperands, no_more_operands, one_more_operand, IsUnary, prefix_operator, casting, no_prefix, IsTails, no_more_tails, index_tail, up_tail, down_tail, IsPrimary, numeral, null_word, my_proc_word, procs_word, size_of_int, named, called, parenthesized, IsArguments, no_arguments, some_arguments, IsMoreArguments, no_more_arguments, one_more_argument, IsArgument, value_argument, format_argument}
use Rattle.core_typing.specs.Proper.{NumbersFit, NumbersOfKindFit, NumbersOfAllFit, NumbersOfLinksFit, NumbersOfTailsFit}
use Rattle.core_typing.proofs.SmallTokens.{IsSmall, AllSmall, more_small}

-- the numbers among the tokens that are left have 64 bits
abbrev pub Small : Rest → Type 0
Small (rest before left) = AllSmall (tokens_of left)

pub token-small : {k : TokenKind} {d : ℕ} {a b : Rest} → Takes k d a b → Small a → IsSmall k
token-small takes (more_small h hs) = h

pub left-small : {k : TokenKind} {d : ℕ} {a b : Rest} → Takes k d a b → Small a → Small b
left-small takes (more_small h hs) = hs

pub stars-small : {d : ℕ} {a b : Rest} {ss : List Star} → IsStars d a b ss → Small a → Small b
stars-small no_stars h = h
stars-small (local_star t more) h = stars-small more (left-small t h)
stars-small (global_star t u more) h = stars-small more (left-small u (left-small t h))
stars-small (spread_star t u more) h = stars-small more (left-small u (left-small t h))

-- ---- trees

numbers-around : (start line : ℕ) (e : Expression) → NumbersFit e → NumbersFit (around start line e)
numbers-around start line (expression (chain e ls) s at l) h = h
numbers-around start line (expression (both es) s at l) h = h
numbers-around start line (expression (either es) s at l) h = h
numbers-around start line (expression (postfix e ts) s at l) h = h
numbers-around start line (expression kind s at l) h = h

numbers-chained : (start line : ℕ) (first : Expression) (ls : List Link) → NumbersFit first → NumbersOfLinksFit (links_of ls) →
    NumbersFit (chained start line first (links_of ls))
numbers-chained start line first [] h g = h
numbers-chained start line first (l ∷ ls) h g = (h, g)

numbers-logical : (level : ℕ) (es : Expressions) → NumbersOfAllFit es → NumbersOfKindFit (logical level es)
numbers-logical level es h = go (nat_eq level 8)
  where
    go : (t : Bool) → NumbersOfKindFit (if t then both es else either es)
    go true = h
    go false = h

numbers-listed : (level start line : ℕ) (first : Expression) (es : List Expression) → NumbersFit first →
    NumbersOfAllFit (expressions_of es) → NumbersFit (listed level start line first (expressions_of es))
numbers-listed level start line first [] h g = h
numbers-listed level start line first (e ∷ es) h g =
    numbers-logical level (expressions first (expressions e (expressions_of es))) (h, g)

numbers-tailed : (start line : ℕ) (first : Expression) (ts : List Tail) → NumbersFit first →
    NumbersOfTailsFit (tails_of ts) → NumbersFit (tailed start line first (tails_of ts))
numbers-tailed start line first [] h g = h
numbers-tailed start line first (t ∷ ts) h g = (h, g)

numbers-prefixed : (x : Prefix) (e : Expression) → NumbersFit e → NumbersOfKindFit (prefixed x e)
numbers-prefixed opening.Minus e h = h
numbers-prefixed opening.Plus e h = h
numbers-prefixed opening.Not e h = h
numbers-prefixed opening.Invert e h = h
numbers-prefixed opening.Deref e h = h
numbers-prefixed opening.Address e h = h
numbers-prefixed opening.Up e h = h
numbers-prefixed opening.Down e h = h

-- ---- expressions

mutual
  pub assign-small : {d : ℕ} {a b : Rest} {e : Expression} → IsAssign d a b e → Small a → NumbersFit e × Small b
  assign-small (no_assignment c) h = cond-small c h
  assign-small (assignment c is t more) h =
      let l = cond-small c h in
      let r = assign-small more (left-small t l.1) in
      ((l.0, r.0), r.1)

  pub cond-small : {d : ℕ} {a b : Rest} {e : Expression} → IsCond d a b e → Small a → NumbersFit e × Small b
  cond-small (no_choice l) h = level-small l h
  cond-small (choosing test t on u off) h =
      let x = level-small test h in
      let y = assign-small on (left-small t x.1) in
      let z = branch-small off (left-small u y.1) in
      ((x.0, y.0, z.0), z.1)

  pub branch-small : {d : ℕ} {a b : Rest} {e : Expression} → IsBranch d a b e → Small a → NumbersFit e × Small b
  branch-small (branch c) h = cond-small c h

  pub level-small : {l d : ℕ} {a b : Rest} {e : Expression} → IsLevel l d a b e → Small a → NumbersFit e × Small b
  level-small (tightest u) h = unary-small u h
  level-small (arithmetic lt first more) h =
      let x = level-small first h in
      let y = links-small more x.1 in
      (numbers-chained _ _ _ _ x.0 y.0, y.1)
  level-small (logic le first more) h =
      let x = level-small first h in
      let y = operands-small more x.1 in
      (numbers-listed _ _ _ _ _ x.0 y.0, y.1)

  pub links-small : {l d : ℕ} {a b : Rest} {ls : List Link} → IsLinks l d a b ls → Small a →
      NumbersOfLinksFit (links_of ls) × Small b
  links-small no_more_links h = (tt, h)
  links-small (one_more_link is t e more) h =
      let x = level-small e (left-small t h) in
      let y = links-small more x.1 in
      ((x.0, y.0), y.1)

  pub operands-small : {l d : ℕ} {a b : Rest} {es : List Expression} → IsOperands l d a b es → Small a →
      NumbersOfAllFit (expressions_of es) × Small b
  operands-small no_more_operands h = (tt, h)
  operands-small (one_more_operand is t e more) h =
      let x = level-small e (left-small t h) in
      let y = operands-small more x.1 in
      ((x.0, y.0), y.1)

  pub unary-small : {d : ℕ} {a b : Rest} {e : Expression} → IsUnary d a b e → Small a → NumbersFit e × Small b
  unary-small (prefix_operator {x = x} {e = e} is t u) h =
      let y = unary-small u (left-small t h) in
      (numbers-prefixed x e y.0, y.1)
  unary-small (casting t u ss v more) h =
      unary-small more (left-small v (stars-small ss (left-small u (left-small t h))))
  unary-small (no_prefix first more) h =
      let x = primary-small first h in
      let y = tails-small more x.1 in
      (numbers-tailed _ _ _ _ x.0 y.0, y.1)

  pub tails-small : {d : ℕ} {a b : Rest} {ts : List Tail} → IsTails d a b ts → Small a →
      NumbersOfTailsFit (tails_of ts) × Small b
  tails-small no_more_tails h = (tt, h)
  tails-small (index_tail t e u more) h =
      let x = assign-small e (left-small t h) in
      let y = tails-small more (left-small u x.1) in
      ((x.0, y.0), y.1)
  tails-small (up_tail t more) h = let y = tails-small more (left-small t h) in ((tt, y.0), y.1)
  tails-small (down_tail t more) h = let y = tails-small more (left-small t h) in ((tt, y.0), y.1)

  pub primary-small : {d : ℕ} {a b : Rest} {e : Expression} → IsPrimary d a b e → Small a → NumbersFit e × Small b
  primary-small (numeral t) h = (token-small t h, left-small t h)
  primary-small (null_word t) h = (tt, left-small t h)
  primary-small (my_proc_word t) h = (tt, left-small t h)
  primary-small (procs_word t) h = (tt, left-small t h)
  primary-small (size_of_int t u v w) h = (tt, left-small w (left-small v (left-small u (left-small t h))))
  primary-small (named t) h = (tt, left-small t h)
  primary-small (called t u args v) h =
      let x = arguments-small args (left-small u (left-small t h)) in
      (x.0, left-small v x.1)
  primary-small (parenthesized {a = from} {e = inner} t e u) h =
      let x = assign-small e (left-small t h) in
      (numbers-around (number_of from) (line_of from) inner x.0, left-small u x.1)

  pub arguments-small : {d : ℕ} {a b : Rest} {es : List Expression} → IsArguments d a b es → Small a →
      NumbersOfAllFit (expressions_of es) × Small b
  arguments-small no_arguments h = (tt, h)
  arguments-small (some_arguments first more) h =
      let x = argument-small first h in
      let y = more-small more x.1 in
      ((x.0, y.0), y.1)

  pub more-small : {d : ℕ} {a b : Rest} {es : List Expression} → IsMoreArguments d a b es → Small a →
      NumbersOfAllFit (expressions_of es) × Small b
  more-small no_more_arguments h = (tt, h)
  more-small (one_more_argument t e more) h =
      let x = argument-small e (left-small t h) in
      let y = more-small more x.1 in
      ((x.0, y.0), y.1)

  pub argument-small : {d : ℕ} {a b : Rest} {e : Expression} → IsArgument d a b e → Small a → NumbersFit e × Small b
  argument-small (value_argument e) h = assign-small e h
  argument-small (format_argument t) h = (tt, left-small t h)

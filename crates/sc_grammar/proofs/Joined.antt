-- What is made of a first operand and of what stands behind it, where anything does.
use Rattle.std.proofs.Common.{◌≡◌, refl, ℕ, List, [], ◌∷◌, map}
use Rattle.sc_tree.specs.declared.expr.Expr.{Expr}
use Rattle.sc_tree.specs.declared.expr.Link.{Link}
use Rattle.sc_tree.specs.declared.expr.Tail.{Tail}
use Rattle.sc_tree.specs.Plain.{Expression, expression, chain, postfix, expressions}
use Rattle.sc_tree.specs.View.{plain, plain_link, plain_tail, expressions_of, links_of, tails_of}
use Rattle.sc_grammar.specs.Expressions.{chained, listed, tailed, logical}

pub chained-some : (start line : ℕ) (first : Expression) (rest : List Link) → (rest ≡ [] → ⊥) → chained start line first (links_of (map plain_link rest)) ≡ expression (chain first (links_of (map plain_link rest))) start start line
chained-some start line first [] some = absurd (some refl)
chained-some start line first (l ∷ rest) some = refl

pub listed-some : (level start line : ℕ) (first : Expression) (rest : List Expr) → (rest ≡ [] → ⊥) → listed level start line first (expressions_of (map plain rest)) ≡ expression (logical level (expressions first (expressions_of (map plain rest)))) start start line
listed-some level start line first [] some = absurd (some refl)
listed-some level start line first (e ∷ rest) some = refl

pub tailed-some : (start line : ℕ) (first : Expression) (rest : List Tail) → (rest ≡ [] → ⊥) → tailed start line first (tails_of (map plain_tail rest)) ≡ expression (postfix first (tails_of (map plain_tail rest))) start start line
tailed-some start line first [] some = absurd (some refl)
tailed-some start line first (t ∷ rest) some = refl

pub ruleset joined = (chained-some, listed-some, tailed-some)

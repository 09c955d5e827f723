-- A tree has at most one first broken pair, and none where it is well-typed.
use Rattle.std.proofs.Common.{◌≡◌, sym, ap, ◌∙◌, ℕ, arith, false, ◌||◌, ◌&&◌, List}
use Rattle.std.specs.Prelude.{nat_lt, nat_eq}
use Rattle.std.proofs.lemmas.Bool.Decides.{nat_tests}
use Rattle.sc_tree.specs.Names.{Text}
use Rattle.sc_tree.specs.PlainTree.{PlainTree}
use Rattle.sc_typing.specs.Numbers.{rule_number}
use Rattle.sc_typing.specs.Program.{line_of}
use Rattle.sc_typing.specs.Answer.{IsWellTyped, IsFirstBroken}

-- two pairs, neither of which comes first
same_token : (a b i j : ℕ) → (nat_lt i a || (nat_eq i a && nat_lt j b)) ≡ false →
    (nat_lt a i || (nat_eq a i && nat_lt b j)) ≡ false → a ≡ i
same_token a b i j x y = grind (arith, nat_tests)

same_rule : (a b i j : ℕ) → (nat_lt i a || (nat_eq i a && nat_lt j b)) ≡ false →
    (nat_lt a i || (nat_eq a i && nat_lt b j)) ≡ false → b ≡ j
same_rule a b i j x y = grind (arith, nat_tests)

module _ (tree : PlainTree) (names texts : List Text) (rule line other_rule other_line : ℕ)
    (f : IsFirstBroken tree names texts rule line) (g : IsFirstBroken tree names texts other_rule other_line) where
  pub one-rule : rule ≡ other_rule
  one-rule =
      f.rule_is ∙
      same_rule f.first.at (rule_number f.first.rule) g.first.at (rule_number g.first.rule) (f.least g.first g.broken) (g.least f.first f.broken) ∙
      sym g.rule_is

  pub one-line : line ≡ other_line
  one-line =
      f.line_is ∙
      ap (line_of tree)
      (same_token f.first.at (rule_number f.first.rule) g.first.at (rule_number g.first.rule) (f.least g.first g.broken) (g.least f.first f.broken)) ∙
      sym g.line_is

pub broken-not-typed : (tree : PlainTree) (names texts : List Text) (rule line : ℕ) →
    IsFirstBroken tree names texts rule line → IsWellTyped tree names texts → ⊥
broken-not-typed tree names texts rule line f h = h f.first f.broken

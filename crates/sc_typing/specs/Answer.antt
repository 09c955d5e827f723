-- When `check` gives which answer.
use Rattle.std.specs.Prelude.{ℕ, ◌≡◌, ◌||◌, ◌&&◌, Bool, true, false, Option, Some, None, List, [], ◌∷◌, nat_eq, nat_lt}
use Rattle.std.specs.Prelude.{Result, Ok, Err, if◌then◌else◌}
use Rattle.sc_tree.specs.Names.{Text}
use Rattle.sc_tree.specs.PlainTree.{PlainTree}
use Rattle.sc_tree.specs.PlainTypedTree.{PlainTypedTree}
use Rattle.sc_typing.specs.declared.notes.Breach.{Breach}
use Rattle.sc_typing.specs.declared.answer.CheckError.{CheckError}
use Rattle.sc_typing.specs.declared.answer.CheckError.TheVariants.{Rule, OutOfMemory}
use Rattle.sc_typing.specs.Broken.{Broken}
use Rattle.sc_typing.specs.Numbers.{rule_number}
use Rattle.sc_typing.specs.Program.{typed_of, line_of}

-- the lesser token, and there the rule with the lesser number
abbrev pub comes_first : Breach → Breach → Bool
comes_first a b = nat_lt a.at b.at || (nat_eq a.at b.at && nat_lt (rule_number a.rule) (rule_number b.rule))

-- A source is well-typed where it breaks no rule.
abbrev pub IsWellTyped : PlainTree → (names texts : List Text) → Type 0
IsWellTyped tree names texts = (b : Breach) → Broken tree names texts b → ⊥

-- The broken pair of the least token, and there of the least rule, has this rule, and its token this line.
pub record IsFirstBroken (tree : PlainTree) (names texts : List Text) (rule line : ℕ) : Type 0 where
  pub first : Breach
  pub broken : Broken tree names texts first
  pub least : (b : Breach) → Broken tree names texts b → comes_first b first ≡ false
  pub rule_is : rule ≡ rule_number first.rule
  pub line_is : line ≡ line_of tree first.at

-- Ok, with the typed tree, where no rule is broken, and else the first broken pair. Want of memory may come at any
-- time.
abbrev pub IsAnswer : {A : Type 0} → (A → PlainTypedTree) → PlainTree → (names texts : List Text) →
    Result A CheckError → Type 0
IsAnswer view tree names texts (Ok typed) = (view typed ≡ typed_of tree names texts) × IsWellTyped tree names texts
IsAnswer view tree names texts (Err (Rule rule line)) = IsFirstBroken tree names texts rule line
IsAnswer view tree names texts (Err OutOfMemory) = Unit {0}

-- of two broken pairs the one that comes first
abbrev pub earlier_of : Breach → Breach → Breach
earlier_of a b = if comes_first b a then b else a

abbrev pub least_of : Breach → List Breach → Breach
least_of least [] = least
least_of least (b ∷ more) = least_of (earlier_of least b) more

-- the first of the noted pairs
abbrev pub first_noted : List Breach → Option Breach
first_noted [] = None
first_noted (b ∷ more) = Some (least_of b more)

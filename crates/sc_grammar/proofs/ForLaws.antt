-- How a `for` is read, by the parts of it.
use Rattle.std.proofs.Common.{◌≡◌, refl, ℕ, List}
use Rattle.sc_tree.specs.declared.token.Token.{Token}
use Rattle.sc_tree.specs.declared.token.Mark.TheVariants as marks
use Rattle.sc_tree.specs.Plain.{Expression}
use Rattle.sc_tree.specs.PlainStmt.{Statement, for_}
use Rattle.sc_grammar.proofs.Reading.{Parser, Out, got, refused, and_then, bind, pure, mark}
use Rattle.sc_grammar.proofs.ReadingStatements.{for_after, for_parts, optional_until}

assoc : {A B C : Type 0} (o : Out A) (f : A → ℕ → Out B) (g : B → ℕ → Out C) → and_then (and_then o f) g ≡ and_then o (λ x m. and_then (f x m) g)
assoc (got x m) f g = refl
assoc (refused r) f g = refl

pub for_is : (value : Parser Expression) (inner : Parser Statement) (ts : List Token) (n : ℕ) → for_after value inner ts n ≡ and_then (mark marks.OpenRound ts n) (λ _ m. and_then (for_parts value ts m) (λ h k. and_then (inner ts k) (λ s j. got (for_ h.first h.test h.next s) j)))
unfolding for_after for_parts optional_until bind pure
for_is value inner ts n = simp assoc

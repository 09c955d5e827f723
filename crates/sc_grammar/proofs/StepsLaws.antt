-- What the turns of a loop read that reads as many parts of a bound as there are.
use Rattle.std.proofs.Common.{◌≡◌, refl, ap, sym, ℕ, ◌+◌, ◌-◌, ◌<◌, ◌≤◌, List, ◌∷◌, ◌++◌, append_assoc, Option, Some, None}
use Rattle.std.proofs.lemmas.List.{append-nil}
use Rattle.sc_tree.specs.declared.token.Token.{Token}
use Rattle.sc_base.specs.declared.shape.BoundStep.{BoundStep}
use Rattle.sc_grammar.proofs.Reading.{Parser, Out, got, refused, Refusal, and_then, many_by}
use Rattle.sc_grammar.proofs.ReadingItems.{steps_in}
use Rattle.sc_grammar.proofs.ManyLaws.{Collects, turn_more, turn_stop, turn_fail, turn_end}

abbrev pub with_steps : List BoundStep → Out (List (List BoundStep)) → Out (List BoundStep)
with_steps front (got more m) = got (front ++ steps_in more) m
with_steps front (refused r) = refused r

steps_step : (front x : List BoundStep) (o : Out (List (List BoundStep))) → with_steps front (and_then o (λ xs m. got (x ∷ xs) m)) ≡ with_steps (front ++ x) o
steps_step front x (got xs m) = ap (λ l. got l m) (sym (append_assoc front x (steps_in xs)))
steps_step front x (refused r) = refl

pub in_steps : Collects (λ (front x : List BoundStep). front ++ x) with_steps
in_steps = record { one = steps_step; nothing = λ front m. ap (λ l. got l m) (append-nil front); refusal = λ front r. refl }

pub many_steps_step : (front : List BoundStep) (p : Parser (Option (List BoundStep))) (i end : ℕ) (ts : List Token) (n m : ℕ) (x : List BoundStep) → i < end → p ts n ≡ got (Some x) m → with_steps front (many_by p (end - i) ts n) ≡ with_steps (front ++ x) (many_by p (end - (i + 1)) ts m)
many_steps_step front p i end ts n m x h e = turn_more in_steps front p i end ts n m x h e

pub many_steps_stop : (front : List BoundStep) (p : Parser (Option (List BoundStep))) (i end : ℕ) (ts : List Token) (n m : ℕ) → i < end → p ts n ≡ got None m → with_steps front (many_by p (end - i) ts n) ≡ got front m
many_steps_stop front p i end ts n m h e = turn_stop in_steps front p i end ts n m h e

pub many_steps_fail : (front : List BoundStep) (p : Parser (Option (List BoundStep))) (i end : ℕ) (ts : List Token) (n : ℕ) (r : Refusal) → i < end → p ts n ≡ refused r → with_steps front (many_by p (end - i) ts n) ≡ refused r
many_steps_fail front p i end ts n r h e = turn_fail in_steps front p i end ts n r h e

pub many_steps_end : (front : List BoundStep) (p : Parser (Option (List BoundStep))) (i end : ℕ) (ts : List Token) (n : ℕ) → end ≤ i → with_steps front (many_by p (end - i) ts n) ≡ got front n
many_steps_end front p i end ts n h = turn_end in_steps front p i end ts n h

-- the first part, and the further ones
pub first_steps : (front : List BoundStep) (o : Out (List (List BoundStep))) → with_steps front o ≡ and_then o (λ more m. got (front ++ steps_in more) m)
first_steps front (got more m) = refl
first_steps front (refused r) = refl

pub ruleset step_turns = (many_steps_step, many_steps_stop, many_steps_fail, many_steps_end, first_steps)

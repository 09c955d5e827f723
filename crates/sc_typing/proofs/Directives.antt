-- Counting the `%d` of a format from left to right, as a loop does, gives what the pairs give.
use Rattle.std.proofs.Common.{◌≡◌, refl, ap, ◌∙◌, ℕ, ◌+◌, arith, Bool, true, false, List, [], ◌∷◌, Option, Some, None}
use Rattle.std.specs.Prelude.{◌==◌, if◌then◌else◌}
use Rattle.std.specs.Option.{option_map}
use Rattle.sc_tree.specs.Names.{Text}
use Rattle.sc_typing.specs.Source.{directives, directives_behind}

-- the `%d` of the rest, with those counted so far
abbrev pub counted : (after_percent : Bool) → (count : ℕ) → Text → Option ℕ
counted after count [] = if after then None else Some count
counted after count (b ∷ more) =
    if after then (if b == 100 then counted false (count + 1) more else if b == 37 then counted false count more else None)
    else counted (b == 37) count more

added : (n : ℕ) (rest : Option ℕ) → option_map (λ m. (n + 1) + m) rest ≡ option_map (λ m. n + m) (option_map (λ m. m + 1) rest)
added n None = refl
added n (Some m) = ap Some (omega arith)

none_added : (rest : Option ℕ) → option_map (λ m. 0 + m) rest ≡ rest
none_added None = refl
none_added (Some m) = ap Some (omega arith)

by_percent : (n : ℕ) (more : Text) (percent : Bool) →
    counted true n more ≡ option_map (λ m. n + m) (directives_behind more) →
    counted false n more ≡ option_map (λ m. n + m) (directives more) →
    counted percent n more ≡ option_map (λ m. n + m) (if percent then directives_behind more else directives more)
by_percent n more true behind rest = behind
by_percent n more false behind rest = rest

by_letter : (n : ℕ) (more : Text) (letter percent : Bool) →
    counted false (n + 1) more ≡ option_map (λ m. (n + 1) + m) (directives more) →
    counted false n more ≡ option_map (λ m. n + m) (directives more) →
    (if letter then counted false (n + 1) more else if percent then counted false n more else None)
    ≡ option_map (λ m. n + m)
    (if letter then option_map (λ m. m + 1) (directives more) else if percent then directives more else None)
by_letter n more true percent next rest = next ∙ added n (directives more)
by_letter n more false true next rest = rest
by_letter n more false false next rest = refl

mutual
  pub counted_rest : (n : ℕ) (text : Text) → counted false n text ≡ option_map (λ m. n + m) (directives text)
  counted_rest n [] = ap Some (omega arith)
  counted_rest n (b ∷ more) = by_percent n more (b == 37) (counted_behind n more) (counted_rest n more)

  pub counted_behind : (n : ℕ) (text : Text) →
      counted true n text ≡ option_map (λ m. n + m) (directives_behind text)
  counted_behind n [] = refl
  counted_behind n (b ∷ more) =
      by_letter n more (b == 100) (b == 37) (counted_rest (n + 1) more) (counted_rest n more)

pub counted_whole : (text : Text) → counted false 0 text ≡ directives text
counted_whole text = counted_rest 0 text ∙ none_added (directives text)

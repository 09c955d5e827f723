-- Parts that several rules share: a token that may be taken, one more after a comma, and steps in another order.
use Rattle.std.proofs.Common.{◌+◌, ◌≡◌, refl, subst, ℕ, ◌≤◌, arith, Option, Some, None}
use Rattle.std.proofs.Math.Path.{fun_ext}
use Rattle.std.specs.Prelude.{slice_get, List}
use Rattle.sc_tree.specs.declared.token.Token.{Token}
use Rattle.sc_tree.specs.declared.token.TokenKind.{TokenKind}
use Rattle.sc_tree.specs.declared.token.TokenKind.TheVariants.{Mark}
use Rattle.sc_tree.specs.declared.token.Mark.TheVariants as marks
use Rattle.sc_grammar.specs.Rest.{Spelt, Rest, Takes}
use Rattle.sc_grammar.proofs.Reading.{Parser, Out, got, refused, and_then, bind, pure, maybe, of_token, taken, given_or, if_given}
use Rattle.sc_grammar.proofs.Fits.{Rule, Fits, fits-pure}
use Rattle.sc_grammar.proofs.FitsTokens.{spelt, Gave, OneMore, fits-if_given}

-- ---- depths and samples

-- a rule with levels of depth left is no deeper than the limit
pub in_limit : (limit levels d : ℕ) → d + levels ≡ limit → d ≤ limit
in_limit limit levels d e = omega arith

-- a token of a kind
abbrev pub some_token : TokenKind → ℕ → Spelt
some_token kind d = spelt (record { kind = kind; at = 0; line = 0 }) d

-- ---- a token that may be taken

maybe_is : {A : Type 0} (f : TokenKind → Option A) → if_given f (λ x. pure (Some x)) (pure None) ≡ maybe f
unfolding bind maybe pure
maybe_is f = fun_ext (λ ts. fun_ext (λ n. either (of_token f (slice_get ts n)) ts n))
  where
    either : {A : Type 0} (o : Option A) (ts : List Token) (n : ℕ) → and_then (taken o n) (λ z m. given_or (λ x. pure (Some x)) (pure None) z ts m) ≡ taken o n
    either None ts n = refl
    either (Some x) ts n = refl

pub fits-maybe : {A : Type 0} (f : TokenKind → Option A) (d : ℕ) → Fits (maybe f) (OneMore (Gave f d))
fits-maybe f d =
    subst (λ p. Fits p (OneMore (Gave f d))) (maybe_is f)
    (fits-if_given f d (λ x. fits-pure (Some x) (λ b a g. g)) (fits-pure None (λ a. refl)))

-- ---- one more after a comma

pub data Joined {A : Type 0} (d : ℕ) (R : Rule A) (a b : Rest) (x : A) : Type 0 where
  joined : {c : Rest} → Takes (Mark marks.Comma) d a c → R c b x → Joined d R a b x

-- ---- steps in another order

steps_then : {A B C : Type 0} (f : A → Parser B) (g : B → Parser C) (ts : List Token) (o : Out A) →
    and_then (and_then o (λ x m. f x ts m)) (λ y m. g y ts m) ≡ and_then o (λ x m. and_then (f x ts m) (λ y j. g y ts j))
steps_then f g ts (got x m) = refl
steps_then f g ts (refused r) = refl

pub bind-assoc : {A B C : Type 0} (p : Parser A) (f : A → Parser B) (g : B → Parser C) → bind (bind p f) g ≡ bind p (λ x. bind (f x) g)
unfolding bind
bind-assoc p f g = fun_ext (λ ts. fun_ext (λ n. steps_then f g ts (p ts n)))

-- How tokens are read: from a place on, one token after the other, with one token of look-ahead. What reading gives is
-- what was read with the place after it, or a refusal with the place of the token that is refused.
use Rattle.std.specs.Prelude.{◌≡◌, ℕ, zero, suc, ◌+◌, ◌-◌, List, [], ◌∷◌, ◌++◌, Option, Some, None, Bool, true, false, slice_get, length, if◌then◌else◌}
use Rattle.sc_tree.specs.declared.token.Token.{Token}
use Rattle.sc_tree.specs.declared.token.TokenKind.{TokenKind}
use Rattle.sc_tree.specs.declared.token.TokenKind.TheVariants.{Name, Word, Mark}
use Rattle.sc_tree.specs.declared.token.Word.{Word as TheWord}
use Rattle.sc_tree.specs.declared.token.Mark.{Mark as TheMark}
use Rattle.sc_tree.specs.contracts.token.MarkPartialEq.TheImpl.{ghosts as marks}
use Rattle.sc_tree.specs.contracts.token.WordPartialEq.TheImpl.{ghosts as words}
use Rattle.sc_grammar.specs.declared.position.Position.{Position}
use Rattle.sc_grammar.specs.declared.error.Refused.{Refused}
use Rattle.sc_grammar.specs.declared.error.Refused.TheVariants.{Memory, Syntax, Deep}

-- ---- what reading gives

pub data Refusal : Type 0 where
  syntax : ℕ → Refusal
  deep : ℕ → Refusal

pub data Out (A : Type 0) : Type 0 where
  got : A → ℕ → Out A
  refused : Refusal → Out A

-- reads tokens from the place on
abbrev pub Parser : Type 0 → Type 0
Parser A = List Token → ℕ → Out A

abbrev pub and_then : {A B : Type 0} → Out A → (A → ℕ → Out B) → Out B
and_then (got x n) f = f x n
and_then (refused r) f = refused r

unfoldable pub bind : {A B : Type 0} → Parser A → (A → Parser B) → Parser B
bind p f = λ ts n. and_then (p ts n) (λ x m. f x ts m)

infixl 10 ◌>>=◌
abbrev pub ◌>>=◌ : {A B : Type 0} → Parser A → (A → Parser B) → Parser B
p >>= f = bind p f

unfoldable pub pure : {A : Type 0} → A → Parser A
pure x = λ ts n. got x n

unfoldable pub fail : {A : Type 0} → Parser A
fail = λ ts n. refused (syntax n)

-- ---- the next token

-- where the next token stands
abbrev pub line_of_token : Option Token → ℕ
line_of_token None = 0
line_of_token (Some t) = t.line

abbrev pub position : Option Token → ℕ → Position
position token n = record { at = n + 1; line = line_of_token token }

unfoldable pub here : Parser Position
here = λ ts n. got (position (slice_get ts n) n) n

abbrev pub of_token : {A : Type 0} → (TokenKind → Option A) → Option Token → Option A
of_token f None = None
of_token f (Some t) = f t.kind

abbrev pub taken : {A : Type 0} → Option A → ℕ → Out (Option A)
taken None n = got None n
taken (Some x) n = got (Some x) (n + 1)

-- takes the next token where it gives something
unfoldable pub maybe : {A : Type 0} → (TokenKind → Option A) → Parser (Option A)
maybe f = λ ts n. taken (of_token f (slice_get ts n)) n

abbrev pub yes_if : Bool → Option (Unit {0})
yes_if true = Some tt
yes_if false = None

abbrev pub is_given : {A : Type 0} → Option A → Bool
is_given (Some x) = true
is_given None = false

-- takes the next token where it is so
unfoldable pub takes_if : (TokenKind → Bool) → Parser Bool
takes_if p = maybe (λ k. yes_if (p k)) >>= λ o. pure (is_given o)

abbrev pub sees : (TokenKind → Bool) → Option Token → Bool
sees p None = false
sees p (Some t) = p t.kind

-- whether the next token is so
unfoldable pub next_is : (TokenKind → Bool) → Parser Bool
next_is p = λ ts n. got (sees p (slice_get ts n)) n

abbrev pub must_be : {A : Type 0} → Option A → Parser A
must_be None = fail
must_be (Some x) = pure x

-- takes the next token, which must give something
unfoldable pub must : {A : Type 0} → (TokenKind → Option A) → Parser A
must f = maybe f >>= must_be

-- refuses the next token as too deep
unfoldable pub too_deep : {A : Type 0} → Parser A
too_deep = λ ts n. refused (deep n)

-- ---- kinds of tokens

abbrev pub is_mark : TheMark → TokenKind → Bool
is_mark m (Mark found) = marks.eq found m
is_mark m _ = false

abbrev pub other_than : TheMark → TokenKind → Bool
other_than m k = if is_mark m k then false else true

abbrev pub is_word : TheWord → TokenKind → Bool
is_word w (Word found) = words.eq found w
is_word w _ = false

abbrev pub mark_by : {A : Type 0} → (TheMark → Option A) → TokenKind → Option A
mark_by f (Mark m) = f m
mark_by f _ = None

abbrev pub name_in : TokenKind → Option ℕ
name_in (Name x) = Some x
name_in _ = None

abbrev pub takes_mark : TheMark → Parser Bool
takes_mark m = takes_if (is_mark m)

abbrev pub takes_word : TheWord → Parser Bool
takes_word w = takes_if (is_word w)

abbrev pub mark : TheMark → Parser (Unit {0})
mark m = must (λ k. yes_if (is_mark m k))

abbrev pub word : TheWord → Parser (Unit {0})
word w = must (λ k. yes_if (is_word w k))

abbrev pub a_name : Parser ℕ
a_name = must name_in

-- ---- choices by the next token

abbrev pub chosen : {A : Type 0} → Parser A → Parser A → Bool → Parser A
chosen p q true = p
chosen p q false = q

-- reads on after the next token where it is so, and else where it is
abbrev pub if_taken : {A : Type 0} → (TokenKind → Bool) → Parser A → Parser A → Parser A
if_taken k p q = takes_if k >>= chosen p q

-- leaves the next token
abbrev pub if_next : {A : Type 0} → (TokenKind → Bool) → Parser A → Parser A → Parser A
if_next k p q = next_is k >>= chosen p q

abbrev pub given_or : {A B : Type 0} → (A → Parser B) → Parser B → Option A → Parser B
given_or g q None = q
given_or g q (Some x) = g x

-- refuses the next token: as too deep where it begins what would stand here
abbrev pub no_deeper : {A : Type 0} → (TokenKind → Bool) → Parser A
no_deeper k = if_next k too_deep fail

-- reads on after the next token where it gives something, and else where it is
abbrev pub if_given : {A B : Type 0} → (TokenKind → Option A) → (A → Parser B) → Parser B → Parser B
if_given f g q = maybe f >>= given_or g q

-- ---- many: as long as there is one more

abbrev pub and_more : {A : Type 0} → Parser (List A) → Option A → Parser (List A)
and_more more None = pure []
and_more more (Some x) = more >>= λ xs. pure (x ∷ xs)

-- at most so many
unfoldable pub many_by : {A : Type 0} → Parser (Option A) → ℕ → Parser (List A)
many_by p zero = pure []
many_by p (suc k) = p >>= and_more (many_by p k)

-- no more than there are tokens
unfoldable pub many : {A : Type 0} → Parser (Option A) → Parser (List A)
many p = λ ts n. many_by p (length ts - n) ts n

-- what was found, and then what is found
abbrev pub with_front : {A : Type 0} → List A → Out (List A) → Out (List A)
with_front front (got xs m) = got (front ++ xs) m
with_front front (refused r) = refused r

-- ---- refusals of the code

-- reading is refused as the code says, unless memory ran out
abbrev pub Fails : {A : Type 0} → Refused → Out A → Type 0
Fails Memory o = Unit {0}
Fails (Syntax k) o = o ≡ refused (syntax k)
Fails (Deep k) o = o ≡ refused (deep k)

-- Reading one thing after the other, as the code does.
use Rattle.std.proofs.Common.{◌≡◌, refl, ap, sym, ◌∙◌, ℕ, List, Bool, Result, Ok, Err}
use Rattle.std.specs.Prelude.{slice_get}
use Rattle.sc_tree.specs.declared.token.Token.{Token}
use Rattle.sc_tree.specs.declared.token.TokenKind.{TokenKind}
use Rattle.sc_parser.specs.declared.reader.Reader.{Reader}
use Rattle.sc_grammar.specs.declared.position.Position.{Position}
use Rattle.sc_grammar.specs.declared.error.Refused.{Refused}
use Rattle.sc_grammar.specs.declared.error.Refused.TheVariants.{Memory, Syntax, Deep}
use Rattle.sc_grammar.proofs.Reading.{Parser, Out, got, and_then, bind, pure, here, position, next_is, sees, fail, Fails}
use Rattle.sc_parser.specs.Returned.{Moves, Gives}

pub then_moves : {A B : Type 0} {x : A} {old mid : Reader} {p : Parser A} (f : A → Parser B) → Moves x old mid p → bind p f old.tokens.now old.next ≡ f x mid.tokens.now mid.next
unfolding bind
then_moves {x = x} {old = old} {mid = mid} f h = rw h.reads (ap (λ t. f x t.now mid.next) (sym h.stays))

pub moves_then : {A B : Type 0} {x : A} {v : B} {old mid new : Reader} {p : Parser A} (f : A → Parser B) → Moves x old mid p → Moves v mid new (f x) → Moves v old new (bind p f)
moves_then f h k = record { reads = then_moves f h ∙ k.reads; stays = k.stays ∙ h.stays }

pub fails_then : {A B : Type 0} {x : A} {old mid : Reader} {p : Parser A} (f : A → Parser B) (e : Refused) → Moves x old mid p → Fails e (f x mid.tokens.now mid.next) → Fails e (bind p f old.tokens.now old.next)
fails_then f Memory h k = k
fails_then f (Syntax n) h k = then_moves f h ∙ k
fails_then f (Deep n) h k = then_moves f h ∙ k

pub gives_then : {X A B : Type 0} {x : A} {old mid : Reader} {p : Parser A} (f : A → Parser B) (view : X → B) (result : Result X Refused) (new : Reader) → Moves x old mid p → Gives view result mid new (f x) → Gives view result old new (bind p f)
gives_then f view (Ok y) new h k = moves_then f h k
gives_then f view (Err e) new h k = fails_then f e h k

refused_first : {A B : Type 0} (o : Out A) (f : A → ℕ → Out B) (e : Refused) → Fails e o → Fails e (and_then o f)
refused_first o f Memory h = h
refused_first o f (Syntax n) h = rw h refl
refused_first o f (Deep n) h = rw h refl

pub fails_first : {A B : Type 0} (p : Parser A) (f : A → Parser B) (e : Refused) (ts : List Token) (n : ℕ) → Fails e (p ts n) → Fails e (bind p f ts n)
unfolding bind
fails_first p f e ts n h = refused_first (p ts n) _ e h

-- what moves nothing
pub pure_moves : {A : Type 0} (x : A) (r : Reader) → Moves x r r (pure x)
unfolding pure
pure_moves x r = record { reads = refl; stays = refl }

pub here_moves : {x : Position} {r : Reader} → x ≡ position (slice_get r.tokens.now r.next) r.next → Moves x r r here
unfolding here
here_moves {x = x} {r = r} e = record { reads = ap (λ y. got y r.next) (sym e); stays = refl }

pub sees_moves : {x : Bool} {r : Reader} (k : TokenKind → Bool) → x ≡ sees k (slice_get r.tokens.now r.next) → Moves x r r (next_is k)
unfolding next_is
sees_moves {x = x} {r = r} k e = record { reads = ap (λ y. got y r.next) (sym e); stays = refl }

pub fails_here : {A : Type 0} (r : Reader) → Fails {A = A} (Syntax r.next) (fail r.tokens.now r.next)
unfolding fail
fails_here r = refl

pub ruleset steps = (moves_then, fails_then, gives_then, fails_first, pure_moves, here_moves, sees_moves, fails_here)

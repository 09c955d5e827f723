-- What the code returns and where it leaves the place, by what reading gives.
use Rattle.std.specs.Prelude.{◌≡◌, Result, Ok, Err}
use Rattle.sc_grammar.specs.declared.error.Refused.{Refused}
use Rattle.sc_grammar.proofs.Reading.{Parser, got, Fails}
use Rattle.sc_parser.specs.declared.reader.Reader.{Reader}

-- the value was read, and the place moved behind it
pub record Moves {A : Type 0} (value : A) (old new : Reader) (p : Parser A) : Type 0 where
  pub reads : p old.tokens.now old.next ≡ got value new.next
  pub stays : new.tokens ≡ old.tokens

-- what was returned is what reading gives, unless memory ran out
abbrev pub Gives : {X Y : Type 0} → (X → Y) → Result X Refused → Reader → Reader → Parser Y → Type 0
Gives view (Ok x) old new p = Moves (view x) old new p
Gives view (Err e) old new p = Fails e (p old.tokens.now old.next)

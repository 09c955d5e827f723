-- A text is refused for its bytes, and not for want of memory.
use Rattle.std.proofs.Common.{◌≡◌, Bool, true, false, cond, List, ℕ, Result, Ok, Err}
use Rattle.std.specs.Prelude.{◌&&◌}
use Rattle.sc_lexer.specs.declared.refusal.Refused.{Refused}
use Rattle.sc_lexer.specs.declared.refusal.Refused.TheVariants as refused
use Rattle.sc_lexer.specs.declared.refusal.LexError.{LexError}
use Rattle.sc_lexer.specs.declared.refusal.LexError.TheVariants as errors
use Rattle.sc_lexer.specs.declared.element.Element.{Element}
use Rattle.sc_lexer.specs.Text.{State, named_at, counted, is_token, is_full, begins_token, IsRefused}

named : (s : State) (r : Refused) → named_at s r ≡ errors.OutOfMemory → ⊥
named s refused.BadByte h = cc
named s (refused.BadToken offset) h = cc
named s refused.OpenComment h = cc
named s refused.WideNumber h = cc
named s refused.BadDirective h = cc

one_too_many : (full : Bool) (e : LexError) → (e ≡ errors.OutOfMemory → ⊥) →
    cond full errors.TooManyTokens e ≡ errors.OutOfMemory → ⊥
one_too_many true e f h = cc
one_too_many false e f h = f h

token_too_many : (full : Bool) (e : Element) →
    ◌≡◌ {A = Result Element LexError} (cond full (Err errors.TooManyTokens) (Ok e)) (Err errors.OutOfMemory) → ⊥
token_too_many true e h = cc
token_too_many false e h = cc

err_same : (d e : LexError) → ◌≡◌ {A = Result Element LexError} (Err d) (Err e) → d ≡ e
err_same d e h = cc

no_memory : (s : State) (r : Result Element Refused) → counted s r ≡ Err errors.OutOfMemory → ⊥
no_memory s (Ok e) h = token_too_many (is_token e.found && is_full s) e h
no_memory s (Err r) h = one_too_many (begins_token r && is_full s) (named_at s r) (named s r) (err_same _ _ h)

pub refused-for-bytes : (text : List ℕ) → IsRefused text errors.OutOfMemory → ⊥
refused-for-bytes text x = no_memory x.1 _ x.4

-- What one element more keeps: the place moves on within the text, and lines and tokens stay within their bounds.
use Rattle.std.proofs.Common.{◌≡◌, ℕ, ◌+◌, ◌-◌, ◌^◌, ◌<◌, ◌≤◌, refl, sym, ap, ◌∙◌, subst, arith, Bool, true, false, cond, List, [], ◌∷◌, ◌++◌, length, take, drop, Result, Ok, Err, length-drop, length-take-le, leb-false}
use Rattle.std.specs.Prelude.{ℤ, Option, Some, None, ◌&&◌, nat_le, count_by}
use Rattle.std.proofs.lemmas.List.{length_push}
use Rattle.std.proofs.lemmas.List.Sums.{count_by-le-length}
use Rattle.sc_base.specs.declared.limits.TheConstants.{LIMITS}
use Rattle.sc_tree.specs.Names.{Text}
use Rattle.sc_lexer.specs.declared.refusal.Refused.{Refused}
use Rattle.sc_lexer.specs.declared.refusal.Refused.TheVariants as refused
use Rattle.sc_lexer.specs.declared.refusal.LexError.{LexError}
use Rattle.sc_lexer.specs.declared.refusal.LexError.TheVariants as errors
use Rattle.sc_lexer.specs.declared.element.Element.{Element}
use Rattle.sc_lexer.specs.declared.element.Found.{Found}
use Rattle.sc_lexer.specs.declared.element.Found.TheVariants as found
use Rattle.sc_lexer.specs.Class.{is_newline}
use Rattle.sc_lexer.specs.Defined.{Definitions, defined_value}
use Rattle.sc_lexer.specs.Element.{element_at}
use Rattle.sc_lexer.specs.Text.{State, start, with_named, taken, moved, counted, is_token, is_full, element_of, Steps, Reaches, IsNear}
use Rattle.sc_lexer.proofs.ElementLaws.{IsGood, IsFair, IsWithin, element_at-fair}
use Rattle.sc_lexer.proofs.TextLaws.{element_of-good, after-at, Reaches-more}

with_named-line : (s : State) (name : Text) (o : Option ℤ) → (with_named s name o).line ≡ s.line
with_named-line s name None = refl
with_named-line s name (Some v) = refl

pub taken-line : (s : State) (piece : List ℕ) (f : Found) → (taken s piece f).line ≡ s.line
taken-line s piece found.Gap = refl
taken-line s piece found.Include = refl
taken-line s piece (found.Define from size value) = refl
taken-line s piece (found.Number value) = refl
taken-line s piece found.Name = with_named-line s piece (defined_value piece s.defined)
taken-line s piece found.Format = refl
taken-line s piece (found.Word word) = refl
taken-line s piece (found.Mark mark) = refl

with_named-tokens : (s : State) (name : Text) (o : Option ℤ) → length (with_named s name o).tokens ≡ length s.tokens + 1
with_named-tokens s name None = length_push s.tokens _
with_named-tokens s name (Some v) = length_push s.tokens _

taken-tokens : (s : State) (piece : List ℕ) (f : Found) → length (taken s piece f).tokens ≡ length s.tokens + cond {A = ℕ} (is_token f) 1 0
taken-tokens s piece found.Gap = omega arith
taken-tokens s piece found.Include = omega arith
taken-tokens s piece (found.Define from size value) = omega arith
taken-tokens s piece (found.Number value) = length_push s.tokens _
taken-tokens s piece found.Name = with_named-tokens s piece (defined_value piece s.defined)
taken-tokens s piece found.Format = length_push s.tokens _
taken-tokens s piece (found.Word word) = length_push s.tokens _
taken-tokens s piece (found.Mark mark) = length_push s.tokens _

-- what stands in the text so far stays within its bounds
pub record IsInBounds (text : List ℕ) (s : State) : Type 0 where
  pub within : s.at ≤ length text
  pub line : s.line ≤ s.at + 1
  pub tokens : length s.tokens ≤ LIMITS.tokens

room-left : (b : Bool) (n : ℕ) → (b && nat_le LIMITS.tokens n) ≡ false → n ≤ LIMITS.tokens → n + cond {A = ℕ} b 1 0 ≤ LIMITS.tokens
room-left false n e h = omega arith
room-left true n e h = let below = leb-false LIMITS.tokens n e in omega arith

when-room : (b c : Bool) (d e : Element) → ◌≡◌ {A = Result Element LexError} (cond b (Err errors.TooManyTokens) (Ok d)) (Ok e) → (d ≡ e → b ≡ c) → c ≡ false
when-room true c d e g h = cc
when-room false c d e g h = let same : d ≡ e = cc in sym (h same)

not-counted : (s : State) (r : Result Element Refused) (e : Element) → counted s r ≡ Ok e → (is_token e.found && is_full s) ≡ false
not-counted s (Err x) e f = cc
not-counted s (Ok d) e f = when-room (is_token d.found && is_full s) (is_token e.found && is_full s) d e f (λ same. ap (λ (x : Element). is_token x.found && is_full s) same)

pub Steps-keeps : (text : List ℕ) (s t : State) → IsInBounds text s → s.at < length text → Steps text s t → IsInBounds text t × (s.at < t.at)
Steps-keeps text s t bounds within step =
    let e = step.0 in
    let piece = take e.size (drop s.at text) in
    let good = element_of-good text s e within step.1 in
    let place : t.at ≡ s.at + e.size = ap (λ (x : State). x.at) step.2 ∙ after-at text s e good.within in
    let lines : t.line ≡ (taken s piece e.found).line + count_by is_newline piece = ap (λ (x : State). x.line) step.2 in
    let same_line = taken-line s piece e.found in
    let few : count_by is_newline piece ≤ length piece = count_by-le-length is_newline piece in
    let cut : length piece ≡ e.size = length-take-le e.size (drop s.at text) good.within in
    let more : length t.tokens ≡ length s.tokens + cond {A = ℕ} (is_token e.found) 1 0 = ap (λ (x : State). length x.tokens) step.2 ∙ taken-tokens s piece e.found in
    let room = room-left (is_token e.found) (length s.tokens) (not-counted s _ e step.1) bounds.tokens in
    let fits : e.size ≤ length text - s.at = omega (arith, length-drop s.at text, good.within) in (
      record {
        within = omega (arith, bounds.within);
        line = omega (arith, bounds.line);
        tokens = omega arith;
      },
      omega (arith, good.positive),
    )

-- the elements that lead to s lead on to t
pub Steps-reach : (text : List ℕ) (s t : State) → s.at < length text → (es : List Element) × Reaches text start es s → Steps text s t → (es : List Element) × Reaches text start es t
Steps-reach text s t within reached step =
    (reached.0 ++ step.0 ∷ [], subst (Reaches text start (reached.0 ++ step.0 ∷ [])) (sym step.2) (Reaches-more text start reached.0 s step.0 reached.1 within step.1))

-- a bad place of a text that is not too long has a number of 32 bits
within-near : (s : State) (rest : List ℕ) (r : Refused) → s.at + length rest < 2 ^ 32 → IsWithin rest r → IsNear s r
within-near s rest refused.BadByte near within = tt
within-near s rest (refused.BadToken offset) near within = omega arith
within-near s rest refused.OpenComment near within = tt
within-near s rest refused.WideNumber near within = tt
within-near s rest refused.BadDirective near within = tt

pub near-refused : (s : State) (fresh : Bool) (defined : Definitions) (rest : List ℕ) (r : Refused) → 0 < length rest → s.at + length rest < 2 ^ 32 → Err r ≡ element_at fresh defined rest → IsNear s r
near-refused s fresh defined rest r some near is = let P : Result Element Refused → Type 0 = IsFair defined rest in within-near s rest r near (subst P (sym is) (element_at-fair fresh defined rest some))

-- ---- what one turn of the code knows

module _ (text : List ℕ) (s : State) (rest : List ℕ) (rest_is : rest ≡ drop s.at text) where
  found_there : (r : Result Element LexError) → r ≡ counted s (element_at s.fresh s.defined rest) → element_of text s ≡ r
  found_there r found = sym (found ∙ ap (λ bs. counted s (element_at s.fresh s.defined bs)) rest_is)

  pub turn-good : (e : Element) → s.at < length text → Ok e ≡ counted s (element_at s.fresh s.defined rest) → IsGood s.defined rest e
  turn-good e within found = subst (λ bs. IsGood s.defined bs e) (sym rest_is) (element_of-good text s e within (found_there (Ok e) found))

  pub turn-refused : (d : LexError) → Err d ≡ counted s (element_at s.fresh s.defined rest) → element_of text s ≡ Err d
  turn-refused d found = found_there (Err d) found

  pub turn-steps : (e : Element) (piece : List ℕ) (u t : State) → Ok e ≡ counted s (element_at s.fresh s.defined rest) → piece ≡ take e.size rest → u ≡ taken s piece e.found → t ≡ moved u piece → Steps text s t
  turn-steps e piece u t found piece_is u_is t_is =
      let front : piece ≡ take e.size (drop s.at text) = piece_is ∙ ap (take e.size) rest_is in
      (e, found_there (Ok e) found, t_is ∙ ap (λ x. moved x piece) u_is ∙ ap (λ q. moved (taken s q e.found) q) front)

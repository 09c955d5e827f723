-- Broken rules in the order in which a reader meets them.
use Rattle.std.specs.Prelude.{ℕ, Bool, true, false, List, [], ◌∷◌, ◌++◌, ◌≡◌, Result, Ok, Err, if◌then◌else◌}
use Rattle.sc_typing.specs.declared.notes.Breach.{Breach}
use Rattle.sc_typing.specs.declared.rule.Rule.{Rule}

-- the rule is broken at the token, unless it is kept
unfoldable pub unless : (kept : Bool) → (at : ℕ) → Rule → List Breach → List Breach
unless kept at rule broken = if kept then broken else broken ++ record { at = at; rule = rule } ∷ []

-- what was returned, seen by `view`, is this, and the notes are these, unless memory ran out
abbrev pub Noted : {X A E : Type 0} → (X → A) → Result X E → A → (new after : List Breach) → Type 0
Noted view (Ok x) value new after = (view x ≡ value) × (new ≡ after)
Noted view (Err e) value new after = Unit {0}

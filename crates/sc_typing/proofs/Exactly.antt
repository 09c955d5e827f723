-- What a function adds to the notes, said as a predicate on broken pairs, and how that is joined from parts.
use Rattle.std.proofs.Common.{◌≡◌, refl, subst, ℕ, zero, suc, arith, Bool, true, false, List, [], ◌∷◌, ◌++◌, ◌⊎◌, inl}
use Rattle.std.proofs.Common.{inr}
use Rattle.std.specs.List.{Contains}
use Rattle.std.proofs.lemmas.List.Elements.{Contains-append_left, Contains-append_cases, Contains-push}
use Rattle.sc_typing.specs.declared.notes.Breach.{Breach}
use Rattle.sc_typing.specs.declared.rule.Rule.{Rule}
use Rattle.sc_typing.specs.Notes.{unless}
use Rattle.sc_typing.proofs.ExpressionNotes.{Noting}
use Rattle.sc_typing.specs.BrokenExpressions.{breach}

-- The pairs noted are those that were noted before, and those of the predicate.
pub record Exact (f : Noting) (P : Breach → Type 0) : Type 0 where
  pub sound : (broken : List Breach) (b : Breach) → Contains (f broken) b → Contains broken b ⊎ P b
  pub keeps : (broken : List Breach) (b : Breach) → Contains broken b → Contains (f broken) b
  pub complete : (broken : List Breach) (b : Breach) → P b → Contains (f broken) b

-- a rule that is not kept, at the token
pub data Fails (kept : Bool) (at : ℕ) (rule : Rule) : Breach → Type 0 where
  fails : kept ≡ false → Fails kept at rule (breach at rule)

pub data Never : Breach → Type 0 where

abbrev pub Either : (P Q : Breach → Type 0) → Breach → Type 0
Either P Q b = P b ⊎ Q b

pub the_one : {X : Type 0} (x y : X) → Contains (x ∷ []) y → x ≡ y
the_one x y (zero, lt, e) = e
the_one x y (suc k, lt, e) = absurd (omega arith)

pub exact-nothing : Exact (λ broken. broken) Never
exact-nothing = record { sound = λ broken b h. inl h; keeps = λ broken b h. h; complete = λ broken b h. elim h [ ] }

kept_note : (at : ℕ) (rule : Rule) → Exact (unless true at rule) (Fails true at rule)
unfolding unless
kept_note at rule =
    record { sound = λ broken b h. inl h; keeps = λ broken b h. h; complete = λ broken b h. kept broken b h }
  where
    kept : (broken : List Breach) (b : Breach) → Fails true at rule b → Contains broken b
    kept broken b (fails e) = absurd (let z : true ≡ false = e in cc)

broken_note : (at : ℕ) (rule : Rule) → Exact (unless false at rule) (Fails false at rule)
unfolding unless
broken_note at rule = record {
  sound = λ broken b h. split broken b (Contains-append_cases broken (breach at rule ∷ []) b h);
  keeps = λ broken b h. Contains-append_left broken (breach at rule ∷ []) b h;
  complete = λ broken b h. there broken b h;
}
  where
    split : (broken : List Breach) (b : Breach) → Contains broken b ⊎ Contains (breach at rule ∷ []) b →
        Contains broken b ⊎ Fails false at rule b
    split broken b (inl h) = inl h
    split broken b (inr h) =
        inr (subst (λ (x : Breach). Fails false at rule x) (the_one (breach at rule) b h) (fails refl))

    there : (broken : List Breach) (b : Breach) → Fails false at rule b → Contains (broken ++ breach at rule ∷ []) b
    there broken b (fails e) = Contains-push broken (breach at rule)

pub exact-unless : (kept : Bool) (at : ℕ) (rule : Rule) → Exact (unless kept at rule) (Fails kept at rule)
exact-unless true at rule = kept_note at rule
exact-unless false at rule = broken_note at rule

-- one part noted behind the other
pub exact-then : {f g : Noting} {P Q : Breach → Type 0} → Exact f P → Exact g Q →
    Exact (λ broken. g (f broken)) (Either P Q)
exact-then {f = f} {g = g} {P = P} {Q = Q} p q = record {
  sound = λ broken b h. first broken b (q.sound (f broken) b h);
  keeps = λ broken b h. q.keeps (f broken) b (p.keeps broken b h);
  complete = λ broken b h. either broken b h;
}
  where
    second : (broken : List Breach) (b : Breach) → Contains broken b ⊎ P b → Contains broken b ⊎ Either P Q b
    second broken b (inl h) = inl h
    second broken b (inr h) = inr (inl h)

    first : (broken : List Breach) (b : Breach) → Contains (f broken) b ⊎ Q b → Contains broken b ⊎ Either P Q b
    first broken b (inl h) = second broken b (p.sound broken b h)
    first broken b (inr h) = inr (inr h)

    either : (broken : List Breach) (b : Breach) → Either P Q b → Contains (g (f broken)) b
    either broken b (inl h) = q.keeps (f broken) b (p.complete broken b h)
    either broken b (inr h) = q.complete (f broken) b h

-- the predicate in other words
pub exact-as : {f : Noting} {P Q : Breach → Type 0} → ((b : Breach) → P b → Q b) → ((b : Breach) → Q b → P b) →
    Exact f P → Exact f Q
exact-as {f = f} {P = P} {Q = Q} to fro p = record {
  sound = λ broken b h. said broken b (p.sound broken b h);
  keeps = p.keeps;
  complete = λ broken b h. p.complete broken b (fro b h);
}
  where
    said : (broken : List Breach) (b : Breach) → Contains broken b ⊎ P b → Contains broken b ⊎ Q b
    said broken b (inl h) = inl h
    said broken b (inr h) = inr (to b h)

-- A test that is true exactly where a predicate on broken pairs holds of none, and how such tests are joined.
use Rattle.std.proofs.Common.{◌≡◌, refl, sym, ◌∙◌, ℕ, Bool, true, false, ◌&&◌, List, [], ◌⊎◌, inl, inr}
use Rattle.std.specs.List.{Contains}
use Rattle.sc_typing.specs.declared.notes.Breach.{Breach}
use Rattle.sc_typing.specs.declared.rule.Rule.{Rule}
use Rattle.sc_typing.specs.BrokenExpressions.{breach}
use Rattle.sc_typing.proofs.ExpressionNotes.{Noting}
use Rattle.sc_typing.proofs.Exactly.{Exact, Fails, fails, Never, Either}
use Rattle.sc_typing.proofs.FunctionsNoted.{no_member}

pub record Agrees (P : Breach → Type 0) (t : Bool) : Type 0 where
  pub none : t ≡ true → (b : Breach) → P b → ⊥
  pub told : ((b : Breach) → P b → ⊥) → t ≡ true

both : (s t : Bool) → s ≡ true → t ≡ true → (s && t) ≡ true
both true true x y = refl
both true false x y = y
both false t x y = x

left_of : (s t : Bool) → (s && t) ≡ true → s ≡ true
left_of true t x = refl
left_of false t x = x

right_of : (s t : Bool) → (s && t) ≡ true → t ≡ true
right_of true t x = x
right_of false t x = absurd (let z : false ≡ true = x in cc)

pub agrees-never : Agrees Never true
agrees-never = record { none = λ x b h. elim h [ ]; told = λ h. refl }

pub agrees-fails : (kept : Bool) (at : ℕ) (rule : Rule) → Agrees (Fails kept at rule) kept
agrees-fails true at rule = record { none = λ x b h. never b h; told = λ h. refl }
  where
    never : (b : Breach) → Fails true at rule b → ⊥
    never b (fails f) = let z : true ≡ false = f in cc
agrees-fails false at rule = record {
  none = λ x b h. absurd (let z : false ≡ true = x in cc);
  told = λ h. absurd (h (breach at rule) (fails refl));
}

pub agrees-either : {P Q : Breach → Type 0} {s t : Bool} → Agrees P s → Agrees Q t → Agrees (Either P Q) (s && t)
agrees-either {P = P} {Q = Q} {s = s} {t = t} p q = record {
  none = λ x b h. of_either (left_of s t x) (right_of s t x) b h;
  told = λ h. both s t (p.told (λ b x. h b (inl x))) (q.told (λ b x. h b (inr x)));
}
  where
    of_either : s ≡ true → t ≡ true → (b : Breach) → Either P Q b → ⊥
    of_either x y b (inl h) = p.none x b h
    of_either x y b (inr h) = q.none y b h

-- where the first part breaks a rule, what follows does not matter
pub agrees-broken : {P Q : Breach → Type 0} → Agrees P false → Agrees (Either P Q) false
agrees-broken {P = P} {Q = Q} p = record {
  none = λ x b h. absurd (let z : false ≡ true = x in cc);
  told = λ h. p.told (λ b x. h b (inl x));
}

pub agrees-is : {P : Breach → Type 0} {s t : Bool} → s ≡ t → Agrees P s → Agrees P t
agrees-is e p = record { none = λ x. p.none (e ∙ x); told = λ h. sym e ∙ p.told h }

-- what is noted says both predicates
pub agrees-exact : {f : Noting} {P Q : Breach → Type 0} {t : Bool} → Exact f P → Exact f Q → Agrees P t → Agrees Q t
agrees-exact {f = f} {P = P} {Q = Q} p q a = record {
  none = λ x b h. a.none x b (one b (p.sound [] b (q.complete [] b h)));
  told = λ h. a.told (λ b x. h b (other b (q.sound [] b (p.complete [] b x))));
}
  where
    one : (b : Breach) → Contains [] b ⊎ P b → P b
    one b (inl i) = absurd (no_member b i)
    one b (inr i) = i

    other : (b : Breach) → Contains [] b ⊎ Q b → Q b
    other b (inl i) = absurd (no_member b i)
    other b (inr i) = i

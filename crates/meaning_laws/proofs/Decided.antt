-- What the tests of options, of numbers below a bound, and of ends tell.
use Rattle.std.proofs.Common.{◌≡◌, ◌≢◌, ℕ, zero, suc, ◌<◌, ◌≤◌, ◌⊎◌, ⊎_elim, inl, inr, Option, Some, None, Bool, true, false, not, ◌&&◌, ◌||◌, ◌==◌, refl, sym, ap, ◌∙◌, subst, arith}
use Rattle.std.specs.Prelude.{IsSome, is_some, is_none, nat_le}
use Rattle.std.specs.Option.{option_map_or}
use Rattle.std.specs.Bool.{Decides}
use Rattle.std.proofs.lemmas.Bool.Decides.{leb_tells, eqb_tells, Decides-eqb, Decides-and, Decides-like}
use Rattle.sc_base.specs.declared.value.FaultKind.{FaultKind}
use Rattle.sc_base.specs.declared.value.FaultKind.TheVariants as fault
use Rattle.sc_base.specs.declared.value.End.{End}
use Rattle.sc_base.specs.declared.value.End.TheVariants.{Ended, Fault, Cut, Waiting}
use Rattle.sc_meaning.specs.Below.{all_below, any_below}
use Rattle.sc_meaning.specs.Test.{same_kind, same_end}

pub le_decides : (a b : ℕ) → Decides (nat_le a b) (a ≤ b)
le_decides a b =
    ⊎_elim (λ t. (λ e. t.1, λ h. t.0))
    (λ f. (λ e. let c : true ≡ false = sym e ∙ f.0 in absurd cc, λ h. let g = f.1 in absurd (omega arith))) (leb_tells a b)

pub none_decides : {A : Type 0} (o : Option A) → Decides (is_none o) (o ≡ None)
none_decides None = (λ e. refl, λ e. refl)
none_decides (Some x) = (λ e. absurd cc, λ e. absurd cc)

-- a test of what an option holds, if it holds anything
pub some_decides : {A : Type 0} (test : A → Bool) (P : A → Type 0) → ((x : A) → Decides (test x) (P x)) → (o : Option A)
    → Decides (option_map_or test o false) ((x : A) × (o ≡ Some x) × P x)
some_decides test P d None = (λ e. absurd cc, λ h. let g = h.1 in absurd cc)
some_decides {A = A} test P d (Some y) = (λ e. (y, refl, (d y).0 e), λ h. (d y).1 (back h))
  where
    back : ((x : A) × (Some y ≡ Some x) × P x) → P y
    back h = let e : h.0 ≡ y = (let g = h.1 in cc) in subst P e h.2

pub all_decides : {A : Type 0} (test : A → Bool) (P : A → Type 0) → ((x : A) → Decides (test x) (P x)) → (o : Option A)
    → Decides (option_map_or test o true) ((x : A) → o ≡ Some x → P x)
all_decides test P d None = (λ e x h. absurd cc, λ h. refl)
all_decides test P d (Some y) = (λ e x h. let g : y ≡ x = cc in subst P g ((d y).0 e), λ h. (d y).1 (h y refl))

pub below_decides : (test : ℕ → Bool) (P : ℕ → Type 0) → ((k : ℕ) → Decides (test k) (P k)) → (n : ℕ)
    → Decides (all_below n test) ((k : ℕ) → k < n → P k)
below_decides test P d zero = (λ e k lt. absurd (omega arith), λ h. refl)
below_decides test P d (suc n) =
    Decides-like (test n && all_below n test)
    (λ h k lt. ⊎_elim (λ e. subst P (sym e.1) h.0) (λ f. h.1 k (let g = f.1 in omega arith)) (by k n))
    (λ h. (h n (omega arith), λ k lt. h k (omega arith)))
    (Decides-and (test n) (all_below n test) (d n) (below_decides test P d n))
  where
    by : (k n : ℕ) → ((Unit {0} × (k ≡ n)) ⊎ (Unit {0} × (k ≢ n)))
    by k n = ⊎_elim (λ t. inl (tt, t.1)) (λ f. inr (tt, f.1)) (eqb_tells k n)

or_decides : (a b : Bool) (P Q : Type 0) → Decides a P → Decides b Q → Decides (a || b) (P ⊎ Q)
or_decides true b P Q d k = (λ e. inl (d.0 refl), λ h. refl)
or_decides false b P Q d k = (λ e. inr (k.0 e), λ h. ⊎_elim (λ p. let f = d.1 p in absurd cc) (λ q. k.1 q) h)

pub any_decides : (test : ℕ → Bool) (P : ℕ → Type 0) → ((k : ℕ) → Decides (test k) (P k)) → (n : ℕ)
    → Decides (any_below n test) ((k : ℕ) × (k < n) × P k)
any_decides test P d zero = (λ e. absurd cc, λ h. let lt = h.1 in absurd (omega arith))
any_decides test P d (suc n) =
    Decides-like (test n || any_below n test)
    (λ h. ⊎_elim (λ p. (n, omega arith, p)) (λ q. (q.0, (let lt = q.1 in omega arith), q.2)) h)
    (λ h. ⊎_elim (λ e. inl (subst P e.1 h.2)) (λ f. inr (h.0, (let g = f.1 in let lt = h.1 in omega arith), h.2)) (by h.0 n))
    (or_decides (test n) (any_below n test) (P n) _ (d n) (any_decides test P d n))
  where
    by : (k n : ℕ) → ((Unit {0} × (k ≡ n)) ⊎ (Unit {0} × (k ≢ n)))
    by k n = ⊎_elim (λ t. inl (tt, t.1)) (λ f. inr (tt, f.1)) (eqb_tells k n)

-- either the option holds nothing or the test passes
pub or_none_decides : {A : Type 0} (o : Option A) (b : Bool) (P : Type 0) → Decides b P
    → Decides (is_none o || b) (IsSome o → P)
or_none_decides None b P d = (λ e h. absurd cc, λ h. refl)
or_none_decides (Some x) b P d = (λ e h. d.0 e, λ h. d.1 (h refl))

pub only_if_decides : (a b : Bool) (P : Type 0) → Decides b P → Decides (not a || b) (a ≡ true → P)
only_if_decides true b P d = (λ e h. d.0 e, λ h. d.1 (h refl))
only_if_decides false b P d = (λ e h. absurd cc, λ h. refl)

pub some_is : {A : Type 0} (o : Option A) → Decides (is_some o) (IsSome o)
some_is o = (λ e. e, λ h. h)

-- ---- ends

kind_self : (a : FaultKind) → same_kind a a ≡ true
kind_self fault.Divide = refl
kind_self fault.Overflow = refl
kind_self fault.Shift = refl
kind_self fault.Index = refl
kind_self fault.NullUse = refl
kind_self fault.BadNode = refl
kind_self fault.PendingUse = refl
kind_self fault.BadSize = refl
kind_self fault.Depth = refl

kind_is : (a b : FaultKind) → same_kind a b ≡ true → a ≡ b
kind_is fault.Divide fault.Divide h = refl
kind_is fault.Overflow fault.Overflow h = refl
kind_is fault.Shift fault.Shift h = refl
kind_is fault.Index fault.Index h = refl
kind_is fault.NullUse fault.NullUse h = refl
kind_is fault.BadNode fault.BadNode h = refl
kind_is fault.PendingUse fault.PendingUse h = refl
kind_is fault.BadSize fault.BadSize h = refl
kind_is fault.Depth fault.Depth h = refl
kind_is _ _ h = absurd cc

kind_decides : (a b : FaultKind) → Decides (same_kind a b) (a ≡ b)
kind_decides a b = (λ e. kind_is a b e, λ e. subst (λ k. same_kind a k ≡ true) e (kind_self a))

fault_decides : (kind other : FaultKind) (line at : ℕ) → Decides (same_kind kind other && (line == at)) ((kind ≡ other) × (line ≡ at))
fault_decides kind other line at = Decides-and (same_kind kind other) (line == at) (kind_decides kind other) (Decides-eqb line at)

end_self : (a : End) → same_end a a ≡ true
end_self Ended = refl
end_self (Fault kind line) = (fault_decides kind kind line line).1 (refl, refl)
end_self Cut = refl
end_self Waiting = refl

end_is : (a b : End) → same_end a b ≡ true → a ≡ b
end_is Ended Ended h = refl
end_is (Fault kind line) (Fault other at) h =
    let p = (fault_decides kind other line at).0 h in
    ap (λ k. Fault k line) p.0 ∙ ap (λ l. Fault other l) p.1
end_is Cut Cut h = refl
end_is Waiting Waiting h = refl
end_is _ _ h = absurd cc

pub end_decides : (a b : End) → Decides (same_end a b) (a ≡ b)
end_decides a b = (λ e. end_is a b e, λ e. subst (λ k. same_end a k ≡ true) e (end_self a))

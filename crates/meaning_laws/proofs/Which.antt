-- Which request, place, value and end it is: the tests are exact.
use Rattle.std.proofs.Common.{◌≡◌, ℕ, Option, Some, None, Bool, true, false, ◌&&◌, refl, sym, ap, ◌∙◌}
use Rattle.std.specs.Prelude.{if◌then◌else◌}
use Rattle.std.specs.Bool.{Decides}
use Rattle.std.proofs.lemmas.Bool.Decides.{Decides-and, Decides-like}
use Rattle.sc_base.specs.declared.value.Value.{Value}
use Rattle.sc_base.specs.declared.value.Place.{Place}
use Rattle.sc_base.specs.declared.value.End.{End}
use Rattle.effect_order.specs.Effect.{same_place, same_value}
use Rattle.effect_order.proofs.Equal.{place_is, place_self, value_is, value_self}
use Rattle.sc_meaning.specs.declared.request.Request.{Request}
use Rattle.sc_meaning.specs.declared.request.Request.TheVariants.{Read, Write, Sync as SyncRequest, Barrier, AllStoreSync}
use Rattle.resumption.specs.Resumption.{RunEnd, Ends, Short}
use Rattle.sc_meaning.specs.Asking.{Halt, Finishes, Breaks}
use Rattle.sc_meaning.specs.Parts.{is_issued}
use Rattle.sc_meaning.specs.History.{barrier_of}
use Rattle.sc_meaning.specs.Test.{ends_as, holds_value, holds_place, is_read_of, is_write_of, is_sync, is_barrier}
use Rattle.meaning_laws.proofs.Decided.{end_decides}
use Rattle.meaning_laws.proofs.Requests.{place_decides, value_decides}

pub read_of : (place : Place) (r : Request) → Decides (is_read_of place r) ((line : ℕ) × (r ≡ Read place line))
read_of place (Read other line) =
    (λ e. (line, ap (λ p. Read p line) (sym (place_is place other e))), λ h. place_self place other (let g = h.1 in cc))
read_of place _ = (λ e. absurd cc, λ h. let g = h.1 in absurd cc)

pub write_of : (place : Place) (value : Value) (r : Request) → Decides (is_write_of place value r) ((line : ℕ) × (r ≡ Write place value line))
write_of place value (Write other v line) =
    Decides-like (same_place place other && same_value value v)
    (λ h. (line, ap (λ p. Write p v line) (sym h.0) ∙ ap (λ w. Write place w line) (sym h.1)))
    (λ h. let g = h.1 in (cc, cc))
    (Decides-and (same_place place other) (same_value value v) (place_decides place other) (value_decides value v))
write_of place value _ = (λ e. absurd cc, λ h. let g = h.1 in absurd cc)

pub sync_of : (r : Request) → Decides (is_sync r) ((line : ℕ) × (r ≡ SyncRequest line))
sync_of (SyncRequest line) = (λ e. (line, refl), λ h. refl)
sync_of _ = (λ e. absurd cc, λ h. let g = h.1 in absurd cc)

pub barrier_is : (stores : Bool) (r : Request) → Decides (is_barrier stores r) ((line : ℕ) × (r ≡ barrier_of stores line))
barrier_is true (AllStoreSync line) = (λ e. (line, refl), λ h. refl)
barrier_is false (Barrier line) = (λ e. (line, refl), λ h. refl)
barrier_is true _ = (λ e. absurd cc, λ h. let g = h.1 in absurd cc)
barrier_is false _ = (λ e. absurd cc, λ h. let g = h.1 in absurd cc)

pub issued_is : (r : Request) → Decides (is_issued r) (is_issued r ≡ true)
issued_is r = (λ e. e, λ h. h)

pub ends_is : (end : End) (other : RunEnd Halt) → Decides (ends_as end other) (other ≡ Ends (Finishes end))
ends_is end (Ends (Finishes other)) =
    (λ e. ap (λ x. Ends (Finishes x)) (sym ((end_decides end other).0 e)), λ h. (end_decides end other).1 (cc))
ends_is end (Ends Breaks) = (λ e. absurd cc, λ h. absurd cc)
ends_is end Short = (λ e. absurd cc, λ h. absurd cc)

pub holds_place_is : (place : Place) (o : Option Place) → Decides (holds_place place o) (o ≡ Some place)
holds_place_is place None = (λ e. absurd cc, λ h. absurd cc)
holds_place_is place (Some p) = (λ e. ap (λ x. Some x) (sym (place_is place p e)), λ h. place_self place p (cc))

pub holds_value_is : (value : Value) (o : Option Value) → Decides (holds_value value o) (o ≡ Some value)
holds_value_is value None = (λ e. absurd cc, λ h. absurd cc)
holds_value_is value (Some v) = (λ e. ap (λ x. Some x) (sym (value_is value v e)), λ h. value_self value v (cc))

pub by_wrote : (wrote x y : Bool) (P Q : Type 0) → Decides x P → Decides y Q
    → Decides (if wrote then x else y) ((wrote ≡ false → Q) × (wrote ≡ true → P))
by_wrote true x y P Q d k = (λ e. (λ h. absurd cc, λ h. d.0 e), λ h. d.1 (h.1 refl))
by_wrote false x y P Q d k = (λ e. (λ h. k.0 e, λ h. absurd cc), λ h. k.1 (h.0 refl))

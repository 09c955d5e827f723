-- What an event leaves as it is of a node that it is not about.
use Rattle.std.proofs.Common.{◌≡◌, ℕ, List, ◌∷◌, length, Bool, true, false, ◌==◌, ◌&&◌, refl, sym, ap, ◌∙◌, subst, if◌then◌else◌}
use Rattle.sc_base.specs.declared.value.End.{End}
use Rattle.sc_base.specs.declared.value.Place.{Place}
use Rattle.sc_base.specs.declared.value.Value.{Value}
use Rattle.sc_meaning.specs.declared.event.SourceEvent.{SourceEvent}
use Rattle.sc_meaning.specs.declared.event.SourceEvent.TheVariants.{Do, Issue, Effect, Sync, Arrive, Release, End as Over}
use Rattle.effect_order.specs.Transfer.{part_value, same_flag}
use Rattle.sc_meaning.specs.Past.{effects, arrivals, made, ended, issued_since, gets_among}
use Rattle.replay_books.specs.Counts.{AllBelow}
use Rattle.replay_books.specs.Row.{RowBook}
use Rattle.replay_laws.specs.Keeps.{KeepsRow, requests_of}

-- the two pasts say the same of the node
pub record SameOf (node : ℕ) (past later : List SourceEvent) : Type 0 where
  pub as_made : made node later ≡ made node past
  pub as_arrived : arrivals node later ≡ arrivals node past
  pub as_ended : ended node later ≡ ended node past
  pub as_issued : issued_since node later ≡ issued_since node past
  pub as_parts : (number cell : ℕ) (wrote : Bool)
      → part_value node number cell wrote (effects later) ≡ part_value node number cell wrote (effects past)

pub keeps_same : (node : ℕ) (past later : List SourceEvent) (row : RowBook) → SameOf node past later
    → KeepsRow node past row → KeepsRow node later row
keeps_same node past later row s k = record {
  made = k.made ∙ sym s.as_made;
  arrived = k.arrived ∙ sym s.as_arrived;
  ended = k.ended ∙ sym s.as_ended;
  entries = λ number e at. let h = k.entries number e at in record {
    sides = h.sides;
    parts = λ issued cell wrote. h.parts issued cell wrote ∙ sym (s.as_parts number cell wrote);
    left = h.left;
  };
  none_beyond = λ number cell wrote le. s.as_parts number cell wrote ∙ k.none_beyond number cell wrote le;
  gets = k.gets ∙ ap (gets_among (requests_of row)) (sym s.as_issued);
  issued_before = subst (AllBelow (length row.entries)) (sym s.as_issued) k.issued_before;
  opened = k.opened;
}

-- ---- events that are not about the node

pub unless : {A : Type 0} (b : Bool) (x y : A) → b ≡ false → (if b then x else y) ≡ y
unless true x y e = absurd cc
unless false x y e = refl

pub when : {A : Type 0} (b : Bool) (x y : A) → b ≡ true → (if b then x else y) ≡ x
when true x y e = refl
when false x y e = absurd cc

-- an effect of another node is none of its parts
pub not_its : {A : Type 0} (b c d f : Bool) (x y : A) → b ≡ false → (if ((b && c) && d) && f then x else y) ≡ y
not_its true c d f x y e = absurd cc
not_its false c d f x y e = refl

module _ (other node : ℕ) (past : List SourceEvent) (apart : (other == node) ≡ false) where
  pub of_do : (number : ℕ) (wrote : Bool) (place : Place) (value : Value)
      → SameOf node past (Do other number wrote place value ∷ past)
  of_do number wrote place value = record {
    as_made = unless (other == node) _ _ apart;
    as_arrived = refl;
    as_ended = refl;
    as_issued = refl;
    as_parts = λ n cell w. not_its (other == node) (number == n) (0 == cell) (same_flag wrote w) _ _ apart;
  }

  pub of_issue : (number : ℕ) → SameOf node past (Issue other number ∷ past)
  of_issue number = record {
    as_made = unless (other == node) _ _ apart;
    as_arrived = refl;
    as_ended = refl;
    as_issued = unless (other == node) _ _ apart;
    as_parts = λ n cell w. refl;
  }

  pub of_effect : (number cell : ℕ) (wrote : Bool) (place : Place) (value : Value)
      → SameOf node past (Effect other number cell wrote place value ∷ past)
  of_effect number cell wrote place value = record {
    as_made = refl;
    as_arrived = refl;
    as_ended = refl;
    as_issued = refl;
    as_parts = λ n c w. not_its (other == node) (number == n) (cell == c) (same_flag wrote w) _ _ apart;
  }

  pub of_sync : (number : ℕ) → SameOf node past (Sync other number ∷ past)
  of_sync number = record {
    as_made = unless (other == node) _ _ apart;
    as_arrived = refl;
    as_ended = refl;
    as_issued = unless (other == node) _ _ apart;
    as_parts = λ n cell w. refl;
  }

  pub of_arrive : (number : ℕ) (stores : Bool) → SameOf node past (Arrive other number stores ∷ past)
  of_arrive number stores = record {
    as_made = unless (other == node) _ _ apart;
    as_arrived = unless (other == node) _ _ apart;
    as_ended = refl;
    as_issued = refl;
    as_parts = λ n cell w. refl;
  }

  pub of_end : (end : End) → SameOf node past (Over other end ∷ past)
  of_end end = record {
    as_made = refl;
    as_arrived = refl;
    as_ended = unless (other == node) _ _ apart;
    as_issued = refl;
    as_parts = λ n cell w. refl;
  }

pub of_release : (node number : ℕ) (past : List SourceEvent) → SameOf node past (Release number ∷ past)
of_release node number past = record {
  as_made = refl;
  as_arrived = refl;
  as_ended = refl;
  as_issued = refl;
  as_parts = λ n cell w. refl;
}

-- What is known of the items of a run of so many nodes.
use Rattle.std.proofs.Common.{◌≡◌, ℕ, suc, ◌+◌, ◌<◌, ◌≤◌, List, length, Some, Bool, true, false}
use Rattle.sc_base.specs.declared.value.Place.{Place}
use Rattle.sc_base.specs.declared.value.Value.{Value}
use Rattle.effect_order.specs.Items.{items_conflict}
use Rattle.sc_meaning.specs.declared.event.SourceEvent.{SourceEvent}
use Rattle.sc_meaning.specs.declared.event.SourceEvent.TheVariants.{Effect, Release}
use Rattle.sc_isa.specs.declared.journal.Entry.{Entry}
use Rattle.fabric.specs.Barriers.{released}
use Rattle.source_order.specs.Steps.{requested}
use Rattle.source_order.specs.Moments.{does, sooner}
use Rattle.journal_order.specs.Ordering.{item_at}
use Rattle.order_edges.specs.declared.line.Kind.{Kind}
use Rattle.order_edges.specs.declared.line.Kind.TheVariants.{Own, Effects}
use Rattle.order_edges.specs.Lines.{belongs, node_of, number_of, number_in}
use Rattle.order_edges.specs.Tables.{line_in}

pub record Facts (start : Place → Value) (past : List Entry) (nodes : ℕ) (items : List SourceEvent) : Type 0 where
  -- own items are of the nodes, under numbers up to that of the end, and so are effects
  pub own_on : (i : ℕ) → i < length items → belongs Own (item_at items i) ≡ true → node_of (item_at items i) < nodes
  pub own_low : (i p : ℕ) → i < length items → belongs Own (item_at items i) ≡ true → node_of (item_at items i) ≡ p
      → number_of (requested p past) (item_at items i) ≤ requested p past
  pub effect_on : (i : ℕ) → i < length items → belongs Effects (item_at items i) ≡ true → node_of (item_at items i) < nodes
  pub effect_low : (i p : ℕ) → i < length items → belongs Effects (item_at items i) ≡ true → node_of (item_at items i) ≡ p
      → number_of (requested p past) (item_at items i) ≤ requested p past
  -- under each number there is one own item
  pub own_one : (i j p k : ℕ) → i < length items → j < length items → number_in (line_in past p Own) (item_at items i) ≡ Some k
      → number_in (line_in past p Own) (item_at items j) ≡ Some k → i ≡ j
  pub own_there : (p k : ℕ) → p < nodes → k ≤ requested p past
      → (i : ℕ) × (i < length items) × (number_in (line_in past p Own) (item_at items i) ≡ Some k)
  -- and one release
  pub release_low : (i m : ℕ) → i < length items → item_at items i ≡ Release m → (1 ≤ m) × (m ≤ released past)
  pub release_one : (i j m : ℕ) → i < length items → j < length items → item_at items i ≡ Release m → item_at items j ≡ Release m → i ≡ j
  pub release_there : (m : ℕ) → 1 ≤ m → m ≤ released past → (i : ℕ) × (i < length items) × (item_at items i ≡ Release m)
  -- conflicting items stand in the order of the run
  pub in_order : (i j : ℕ) → i < j → j < length items → items_conflict does (item_at items i) (item_at items j) ≡ true
      → sooner start past (item_at items i) (item_at items j) ≡ true
  pub is_order : (i j : ℕ) → i < length items → j < length items → items_conflict does (item_at items i) (item_at items j) ≡ true
      → sooner start past (item_at items i) (item_at items j) ≡ true → i < j
  -- the reading part of a copied cell stands before its writing part, and there is one
  pub reads_before : (i j p k c : ℕ) (from to : Place) (read wrote : Value) → i < length items → j < length items
      → item_at items i ≡ Effect p k c false from read → item_at items j ≡ Effect p k c true to wrote → i < j
  pub reads_once : (i j p k c : ℕ) (from to : Place) (read other : Value) → i < length items → j < length items
      → item_at items i ≡ Effect p k c false from read → item_at items j ≡ Effect p k c false to other → i ≡ j

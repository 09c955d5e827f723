-- What a run has to supply: how its items lie in time, where its conflicts stand in the code, and what the walks and
-- the waits of its nodes keep.
use Rattle.std.specs.Prelude.{◌≡◌, ◌≢◌, ◌⊎◌, ℕ, ◌<◌, ◌≤◌, [], true, false}
use Rattle.effect_order.specs.Flow.{Path, Clear, OneExplicit, Delay}
use Rattle.effect_order.specs.Run.{Run, level, Sync, Copies, Conflict, Step}

-- how the items lie in time
pub record Timed {E S : Type 0} (r : Run E S) : Type 0 where
  -- a release happens at the moment of its item
  pub release_moment : (m : E) → r.Member m → r.is_release m ≡ true → r.releases (r.time m) ≡ true
  -- each release that happens has its item
  pub moment_release : (t : ℕ) → r.releases t ≡ true → (m : E) × r.Member m × (r.is_release m ≡ true)
      × (r.time m ≡ t)
  -- what is no effect does nothing to cells
  pub does_nothing : (e : E) → r.Member e → r.is_effect e ≡ false → r.does e ≡ []
  -- a release is no effect
  pub release_quiet : (m : E) → r.Member m → r.is_release m ≡ true → r.is_effect m ≡ false
  -- a release belongs to no node
  pub release_apart : (e m : E) → r.Member e → r.Member m → r.is_release e ≡ false →
      r.is_release m ≡ true →
      r.node e ≢ r.node m
  -- nothing takes effect before its own step
  pub issued : (e : E) → r.Member e → r.issue e ≤ r.time e
  -- a step that is no effect takes effect at once
  pub at_once : (e : E) → r.Member e → r.is_effect e ≡ false → r.issue e ≡ r.time e
  -- a node's own steps are numbered in the order of the run
  pub in_order : (e f : E) → Step r e → Step r f → r.node e ≡ r.node f → r.step e < r.step f →
      r.issue e < r.issue f
  -- an own step has one moment
  pub one_issue : (e f : E) → Step r e → Step r f → r.node e ≡ r.node f → r.step e ≡ r.step f →
      r.issue e ≡ r.issue f
  -- effects of one own step are of one point
  pub one_point : (e f : E) → r.Member e → r.Member f → r.is_effect e ≡ true → r.is_effect f ≡ true →
      r.node e ≡ r.node f → r.step e ≡ r.step f → r.point e ≡ r.point f
  -- a sync has no effects
  pub sync_alone : (s f : E) → r.Member s → r.Member f → Sync r s → r.is_effect f ≡ true →
      r.node s ≡ r.node f →
      r.step s ≡ r.step f → ⊥
  -- a sync passes after the node's earlier split effects
  pub synced : (e s : E) → r.Member e → r.Member s → r.is_effect e ≡ true →
      r.flow.is_split (r.point e) ≡ true →
      Sync r s → r.node e ≡ r.node s → r.step e < r.step s → r.time e < r.time s
  -- a copy writes a cell after it has read it
  pub copied : (e f : E) → r.Member e → r.Member f → Copies r e f → r.time e < r.time f

-- where its conflicts stand in the code
pub record Analysed {E S : Type 0} (r : Run E S) : Type 0 where
  -- the analysis knows each conflict of two nodes
  pub across : (e f : E) → r.Member e → r.Member f → Conflict r e f → r.node e ≢ r.node f →
      r.flow.Across (r.point e) (r.point f)
  -- the analysis knows each conflict of one node
  pub own : (e f : E) → r.Member e → r.Member f → Conflict r e f → r.node e ≡ r.node f →
      r.flow.OwnConflict (r.point e) (r.point f)
  -- conflict on one node is mutual
  pub own_back : (a b : S) → r.flow.OwnConflict a b → r.flow.OwnConflict b a
  -- blocking sites that conflict in one level meet
  pub meet : (e f : E) → r.Member e → r.Member f → Conflict r e f → r.node e ≢ r.node f →
      r.flow.is_blocking (r.point e) ≡ true → r.flow.is_blocking (r.point f) ≡ true →
      level r (r.issue e) ≡ level r (r.issue f) → r.flow.Meets (r.point e) (r.point f)
  -- an explicit site meets every one
  pub meet_explicit : (a b : S) → OneExplicit r.flow a b → r.flow.Meets a b

-- what the walk of each node and its waits give
pub record Kept {E S : Type 0} (r : Run E S) : Type 0 where
  -- a blocking effect takes place in the level of its issue
  pub in_its_level : (e : E) → r.Member e → r.is_effect e ≡ true → r.flow.is_blocking (r.point e) ≡ true →
      level r (r.time e) ≤ level r (r.issue e)
  -- each delay within one level is waited for
  pub waited : (e f : E) → r.Member e → r.Member f → r.is_effect e ≡ true → r.is_effect f ≡ true →
      r.node e ≡ r.node f → r.step e < r.step f → level r (r.issue e) ≡ level r (r.issue f) →
      Delay r.flow (r.point e) (r.point f) → r.time e < r.issue f
  -- a path leads from an effect to a later sync of its node
  pub leads : (e s : E) → r.Member e → r.Member s → r.is_effect e ≡ true → Sync r s →
      r.node e ≡ r.node s →
      r.step e < r.step s → Path r.flow (r.point e) (r.point s)
  -- within one level the way from an effect or sync to a later effect of its node is clear
  pub clear : (e f : E) → r.Member e → r.Member f → r.is_effect f ≡ true → (r.is_effect e ≡ true)
      ⊎ Sync r e →
      r.node e ≡ r.node f → r.step e < r.step f → level r (r.issue e) ≡ level r (r.issue f) →
      Clear r.flow (r.point e) (r.point f)

-- all that a run has to supply
pub record RunFacts {E S : Type 0} (r : Run E S) : Type 0 where
  pub timed : Timed r
  pub analysed : Analysed r
  pub kept : Kept r

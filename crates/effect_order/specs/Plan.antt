-- The code of a run: the walk of each node through its points, where it waits, and what it demands to be over. From
-- these facts follows all that the order of a run's items rests on. Waits stand where a delay is first demanded, after
-- Krishnamurthy and Yelick (1995).
use Rattle.std.specs.Prelude.{◌≡◌, ℕ, suc, ◌<◌, ◌≤◌, Bool, true, false}
use Rattle.effect_order.specs.Flow.{LeadsBy, Delay}
use Rattle.effect_order.specs.Levels.{count}
use Rattle.effect_order.specs.Run.{Run, Sync, IsStore}

-- t demands that a's access is over, and a path leads from a to t none of whose inner points demands it
abbrev pub First : {S : Type 0} → (S → S → Type 0) → (S → S → Type 0) → S → S → Type 0
First Goes Demand a t = Demand a t × LeadsBy Goes (λ z. Demand a z → ⊥) a t

-- a site that may go one-way, all of whose first demands are barriers
abbrev pub OneWay : {S : Type 0} → (S → S → Type 0) → (S → S → Type 0) → (S → Bool) →
    (S → Bool) → S → Type 0
OneWay {S} Goes Demand may_go_one_way is_barrier a =
    (may_go_one_way a ≡ true) × ((t : S) → First Goes Demand a t → is_barrier t ≡ true)

-- the walks, the waits and the barriers of a run
pub record Code {E S : Type 0} (r : Run E S) : Type 1 where
  pub Demand : S → S → Type 0  -- a node may begin the second point only when its access of the first is over
  pub is_one_way : S → Bool  -- the plan sends the site's access one-way; a plan may name no site
  pub is_arrival : E → Bool  -- the item is a node's arrival at a barrier
  pub awaits_stores : E → Bool  -- an arrival whose release waits for the stores before it
  pub is_placed : E → Bool  -- its own step stands at a point of the walk: all items but releases and ends
  pub way : ℕ → ℕ → S  -- the points that a node passes, in order
  pub at : E → ℕ  -- which of them is the item's own step
  pub enters : ℕ → ℕ → ℕ  -- the moment at which a node begins that one, its waits done
  pub nodes : ℕ  -- how many nodes there are
  pub arrives : ℕ → ℕ → Bool  -- the node arrives at a barrier at the moment
  pub passes : ℕ → ℕ → Bool  -- the node passes a barrier at the moment
  pub issues : ℕ → ℕ → Bool  -- the node does an own step other than a passing or an end at the moment

-- t is a first demand of a
abbrev pub FirstAt : {E S : Type 0} → {r : Run E S} → Code r → S → S → Type 0
FirstAt {E} {S} {r} c a t = First r.flow.Goes c.Demand a t

-- only barriers need to wait for the access of a
abbrev pub GoesOneWay : {E S : Type 0} → {r : Run E S} → Code r → S → Type 0
GoesOneWay {E} {S} {r} c a = OneWay r.flow.Goes c.Demand r.flow.may_go_one_way r.flow.is_barrier a

-- an item whose own step is on the walk
abbrev pub Placed : {E S : Type 0} → (r : Run E S) → Code r → E → Type 0
Placed r c e = r.Member e × (r.is_release e ≡ false) × (c.is_placed e ≡ true)

-- the arrival and the release are at one barrier: the node arrived as often before the arrival as releases were before
-- the release
abbrev pub ArrivesFor : {E S : Type 0} → (r : Run E S) → Code r → E → E → Type 0
ArrivesFor r c a m =
    Placed r c a × (c.is_arrival a ≡ true)
    × (count (c.arrives (r.node a)) (r.issue a) ≡ count r.releases (r.time m))

-- the release awaits stores: an arrival at its barrier does
abbrev pub AwaitsStores : {E S : Type 0} → (r : Run E S) → Code r → E → Type 0
AwaitsStores {E} r c m = (a : E) × ArrivesFor r c a m × (c.awaits_stores a ≡ true)

-- what the walk of each node is
pub record Walked {E S : Type 0} (r : Run E S) (c : Code r) : Type 0 where
  -- the item's own step is where the walk says
  pub on_way : (e : E) → Placed r c e → c.way (r.node e) (c.at e) ≡ r.point e
  -- up to an item's step the walk goes along edges
  pub goes : (e : E) (i : ℕ) → Placed r c e → i < c.at e →
      r.flow.Goes (c.way (r.node e) i) (c.way (r.node e) (suc i))
  -- a later own step is further on the walk
  pub further : (e f : E) → Placed r c e → Placed r c f → r.node e ≡ r.node f → r.step e < r.step f →
      c.at e < c.at f
  -- one own step is at one place of the walk
  pub same_at : (e f : E) → Placed r c e → Placed r c f → r.node e ≡ r.node f → r.step e ≡ r.step f →
      c.at e ≡ c.at f
  -- effects are on the walk
  pub effect_placed : (e : E) → r.Member e → r.is_effect e ≡ true → c.is_placed e ≡ true
  -- syncs are on the walk
  pub sync_placed : (s : E) → r.Member s → Sync r s → c.is_placed s ≡ true
  -- each barrier that was passed had an arrival
  pub arrives_at : (e : E) (i : ℕ) → Placed r c e → i < c.at e →
      r.flow.is_barrier (c.way (r.node e) i) ≡ true →
      (a : E) × Placed r c a × (c.is_arrival a ≡ true) × (r.node a ≡ r.node e) × (r.step a < r.step e)
      × (c.at a ≡ i)
  -- arrivals stand at barriers
  pub arrival_barrier : (a : E) → Placed r c a → c.is_arrival a ≡ true → r.flow.is_barrier (r.point a) ≡ true
  -- effects do not stand at barriers
  pub effect_no_barrier : (e : E) → Placed r c e → r.is_effect e ≡ true →
      r.flow.is_barrier (r.point e) ≡ false

-- where the code waits, and what for
pub record Waited {E S : Type 0} (r : Run E S) (c : Code r) : Type 0 where
  -- a barrier demands the blocking accesses
  pub demand_barrier : (a t : S) → r.flow.is_blocking a ≡ true → r.flow.is_barrier t ≡ true → c.Demand a t
  -- a site demands the accesses that have a delay to it
  pub demand_delay : (a b : S) → Delay r.flow a b → c.Demand a b
  -- a point is begun before its own step and later ones
  pub enters_first : (e : E) (i : ℕ) → Placed r c e → i ≤ c.at e → c.enters (r.node e) i ≤ r.issue e
  -- only a site for which barriers alone need to wait is sent one-way
  pub one_way : (a : S) → c.is_one_way a ≡ true → GoesOneWay c a
  -- a first demand of a site that is not sent one-way is begun after its blocking effect
  pub waits : (e f : E) (i : ℕ) → Placed r c e → Placed r c f → r.is_effect e ≡ true →
      r.flow.is_blocking (r.point e) ≡ true → r.node e ≡ r.node f → c.at e < i → i ≤ c.at f →
      FirstAt c (r.point e) (c.way (r.node f) i) → c.is_one_way (r.point e) ≡ false →
      r.time e < c.enters (r.node f) i
  -- a release comes after the one-way effects issued before it
  pub covered : (m e : E) → r.Member m → r.is_release m ≡ true → Placed r c e → r.is_effect e ≡ true →
      c.is_one_way (r.point e) ≡ true → r.issue e < r.time m → r.time e < r.time m

-- how barriers are passed, by counting; `count` is over the moments below
pub record Counted {E S : Type 0} (r : Run E S) (c : Code r) : Type 0 where
  -- a node's m-th passing is no earlier than the m-th release
  pub pass_after : (p t : ℕ) → c.passes p t ≡ true → count (c.passes p) t < count r.releases (suc t)
  -- the m-th release is after every node's m-th arrival
  pub release_after : (p t : ℕ) → p < c.nodes → r.releases t ≡ true →
      count r.releases t < count (c.arrives p) t
  -- a node goes on only when it has passed
  pub issue_after : (p t : ℕ) → c.issues p t ≡ true → count (c.passes p) t ≡ count (c.arrives p) t
  -- own steps are of nodes
  pub node_within : (e : E) → Placed r c e → r.node e < c.nodes
  -- an item on the walk is issued at its moment
  pub placed_issues : (e : E) → Placed r c e → c.issues (r.node e) (r.issue e) ≡ true
  -- a node arrives at the moment of its arrival's item
  pub arrival_moment : (a : E) → Placed r c a → c.is_arrival a ≡ true →
      c.arrives (r.node a) (r.issue a) ≡ true
  -- each arrival that happens has its item
  pub moment_arrival : (p t : ℕ) → c.arrives p t ≡ true →
      (a : E) × Placed r c a × (c.is_arrival a ≡ true) × (r.node a ≡ p) × (r.issue a ≡ t)
  -- a release that awaits stores comes after the effects of those issued before it
  pub stored : (m e : E) → r.Member m → r.is_release m ≡ true → AwaitsStores r c m → Placed r c e →
      IsStore r e →
      r.issue e < r.time m → r.time e < r.time m
  -- no release happens at the moment of an own step or its effect
  pub alone : (m e : E) → r.Member m → r.is_release m ≡ true → Placed r c e →
      ((r.time m ≡ r.time e) → ⊥) × ((r.time m ≡ r.issue e) → ⊥)

-- between a node's arrival at a barrier and its later own steps lies a release
abbrev pub ReleaseAfterArrival : {E S : Type 0} → (r : Run E S) → Code r → Type 0
ReleaseAfterArrival {E} r c =
    (a f : E) → Placed r c a → Placed r c f → c.is_arrival a ≡ true → r.node a ≡ r.node f →
    r.step a < r.step f → (m : E) × r.Member m × (r.is_release m ≡ true) × (r.issue a < r.time m)
    × (r.time m < r.issue f)

-- between the own step of an effect and a later release lies an arrival of its node
abbrev pub ArrivalBeforeRelease : {E S : Type 0} → (r : Run E S) → Code r → Type 0
ArrivalBeforeRelease {E} r c =
    (m e : E) → r.Member m → r.is_release m ≡ true → Placed r c e → r.is_effect e ≡ true →
    r.issue e < r.time m → (a : E) × Placed r c a × (c.is_arrival a ≡ true) × (r.node a ≡ r.node e)
    × (r.step e < r.step a) ×
    (r.issue a < r.time m)

-- all that a compiler and a run have to supply beside the run's own facts
pub record CodeFacts {E S : Type 0} (r : Run E S) (c : Code r) : Type 0 where
  pub walked : Walked r c
  pub waited : Waited r c
  pub counted : Counted r c

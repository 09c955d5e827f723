-- The items of a run, what must come before what among them, and the facts from which this has no cycle. After the
-- program order and the conflict order of Shasha and Snir (1988), with split accesses and barriers.
use Rattle.std.specs.Prelude.{◌≡◌, ◌≢◌, ℕ, ◌<◌, ◌≤◌, Bool, true}
use Rattle.effect_order.specs.Flow.{Flow, Precedes, Link, Delay}
use Rattle.effect_order.specs.Walk.{HasNoCycle}

-- The items E of a run: own steps of nodes, effects and releases of barriers. S: the points of its code.
pub record Story (E S : Type 0) : Type 1 where
  pub Member : E → Type 0  -- the items of this run
  pub node : E → ℕ  -- the node that does the item
  pub step : E → ℕ  -- the number of the item's own step on its node; an effect has that of its issue
  pub time : E → ℕ  -- the moment of the run at which it takes effect
  pub level : E → ℕ  -- of that moment: it rises with the releases of barriers
  pub site : E → S  -- the point of the code that it belongs to
  pub is_effect : E → Bool  -- it reads or writes a cell
  pub is_blocking : E → Bool  -- it is an effect of a blocking access
  -- the first is over at a step of its node that comes before the second, other than by blocking
  pub Done : E → E → Type 0
  pub Within : E → E → Type 0  -- of one own step: the issue before its parts, a copy's read before its write
  pub Release : E → E → Type 0  -- a release comes between them, or one of them is a release
  pub Conflict : E → E → Type 0  -- they are of the same place, and one writes
  pub flow : Flow S  -- the points of the code

-- the first is a blocking effect, and the second a later own step of its node or a part of one
abbrev pub Later : {E S : Type 0} → Story E S → E → E → Type 0
Later s e f = (s.is_blocking e ≡ true) × (s.node e ≡ s.node f) × (s.step e < s.step f)

-- why e must come before f
pub data Edge {E S : Type 0} (s : Story E S) (e f : E) : Type 0 where
  ByBlocking : Later s e f → Edge s e f
  ByDone : s.Done e f → Edge s e f
  ByWithin : s.Within e f → Edge s e f
  ByRelease : s.Release e f → Edge s e f
  ByConflict : s.Conflict e f → s.time e < s.time f → Edge s e f

-- e must come before f, both of this run
abbrev pub Before : {E S : Type 0} → Story E S → E → E → Type 0
Before s e f = s.Member e × s.Member f × Edge s e f

-- what must come before what has no cycle
abbrev pub Acyclic : {E S : Type 0} → Story E S → Type 0
Acyclic s = HasNoCycle (Before s)

-- what has to be supplied, of the members
pub record Facts {E S : Type 0} (s : Story E S) : Type 0 where
  -- what must come later has no lower level
  pub never_falls : (e f : E) → s.Member e → s.Member f → Edge s e f → s.level e ≤ s.level f
  -- past a release the level is higher
  pub rises : (e f : E) → s.Member e → s.Member f → s.Release e f → s.level e < s.level f
  -- what is over is so on its own node
  pub done_node : (e f : E) → s.Member e → s.Member f → s.Done e f → s.node e ≡ s.node f
  -- it is over at a step after its own
  pub done_step : (e f : E) → s.Member e → s.Member f → s.Done e f → s.step e < s.step f
  -- it stays over on that node
  pub done_on : (e f g : E) → s.Member e → s.Member f → s.Member g → s.Done e f → s.node f ≡ s.node g →
      s.step f ≤ s.step g → s.Done e g
  -- what is over in the source is over in the run
  pub done_time : (e f : E) → s.Member e → s.Member f → s.Done e f → s.time e < s.time f
  -- parts of one step are of one node
  pub within_node : (e f : E) → s.Member e → s.Member f → s.Within e f → s.node e ≡ s.node f
  -- parts of one step have its number
  pub within_step : (e f : E) → s.Member e → s.Member f → s.Within e f → s.step e ≡ s.step f
  -- parts of one step keep the order of the run
  pub within_time : (e f : E) → s.Member e → s.Member f → s.Within e f → s.time e < s.time f
  -- the later part is an effect
  pub within_effect : (e f : E) → s.Member e → s.Member f → s.Within e f → s.is_effect f ≡ true
  -- what conflicts is an effect
  pub conflict_left : (e f : E) → s.Member e → s.Member f → s.Conflict e f → s.is_effect e ≡ true
  -- what it conflicts with is an effect
  pub conflict_right : (e f : E) → s.Member e → s.Member f → s.Conflict e f → s.is_effect f ≡ true
  -- conflict is mutual
  pub conflict_back : (e f : E) → s.Conflict e f → s.Conflict f e
  -- what blocks is an effect
  pub blocking_effect : (e : E) → s.Member e → s.is_blocking e ≡ true → s.is_effect e ≡ true
  -- an effect blocks where its site does
  pub blocking_site : (e : E) → s.Member e → s.is_effect e ≡ true →
      s.is_blocking e ≡ s.flow.is_blocking (s.site e)
  -- effects of one step have one site
  pub same_site : (e f : E) → s.Member e → s.Member f → s.is_effect e ≡ true → s.is_effect f ≡ true →
      s.node e ≡ s.node f → s.step e ≡ s.step f → s.site e ≡ s.site f
  -- a blocking access precedes later ones
  pub clear_blocking : (e f : E) → s.Member e → s.Member f → Later s e f → s.is_effect f ≡ true →
      s.level e ≡ s.level f → Precedes s.flow (s.site e) (s.site f)
  -- an access that is over precedes later ones
  pub clear_done : (e f : E) → s.Member e → s.Member f → s.Done e f → s.is_effect e ≡ true →
      s.is_effect f ≡ true →
      s.level e ≡ s.level f → Precedes s.flow (s.site e) (s.site f)
  -- conflicts of two nodes within one level are links
  pub cross : (e f : E) → s.Member e → s.Member f → s.Conflict e f → s.node e ≢ s.node f →
      s.level e ≡ s.level f →
      Link s.flow (s.site e) (s.site f)
  -- the code knows the conflicts of one node
  pub own : (e f : E) → s.Member e → s.Member f → s.Conflict e f → s.node e ≡ s.node f →
      s.flow.OwnConflict (s.site e) (s.site f)
  -- conflict on one node is mutual
  pub own_back : (a b : S) → s.flow.OwnConflict a b → s.flow.OwnConflict b a
  -- each delay within one level is waited for
  pub waited : (e f : E) → s.Member e → s.Member f → Later s e f → s.is_effect f ≡ true →
      s.level e ≡ s.level f →
      Delay s.flow (s.site e) (s.site f) → s.time e < s.time f

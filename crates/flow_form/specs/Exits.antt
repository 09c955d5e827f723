-- Of a part of a core tree: the sites whose fetched value it may give, and the points from which evaluation goes on
-- behind it. k is the number of its first point, s says how many sites come before it, and `froms` are the points from
-- which it is entered.
use Rattle.std.specs.Prelude.{ℕ, suc, ◌+◌, List, [], ◌∷◌, ◌++◌, Option, Some, None}
use Rattle.sc_core.specs.declared.operation.Operation.{Operation}
use Rattle.sc_core.specs.declared.operation.Operation.TheVariants.{Read}
use Rattle.sc_core.specs.Core.{Core, constant, step, choice, update, Arguments, none, argument, Does, nothing, break, continue, then_, act, choose, loop, return}
use Rattle.sc_meaning.specs.Points.{size, sizes, size_of}
use Rattle.flow_form.specs.Accesses.{accesses, accesses_all, accesses_by}
use Rattle.flow_form.specs.Steps.{callee_of}

-- ---- sites whose fetched value may be the result

-- of the step itself, behind s sites
abbrev pub fetched_by : Operation → (s : ℕ) → List ℕ
fetched_by Read s = suc s ∷ []
fetched_by _ s = []

abbrev pub fetched_back : Option Operation → (s : ℕ) → List ℕ
fetched_back None s = []
fetched_back (Some operation) s = fetched_by operation s

abbrev pub fetched : Core → (s : ℕ) → List ℕ
fetched (constant c) s = []
fetched (step operation arguments line) s = fetched_by operation (s + accesses_all arguments)
fetched (choice of_pointer test on off) s =
    fetched on (s + accesses test) ++ fetched off (s + accesses test + accesses on)
fetched (update pointer operation right back line) s =
    fetched_back back (s + accesses pointer + 1 + accesses right + accesses_by operation + 1)

-- of each of the arguments
abbrev pub fetched_all : Arguments → (s : ℕ) → List ℕ
fetched_all none s = []
fetched_all (argument e more) s = fetched e s ++ fetched_all more (s + accesses e)

-- ---- where evaluation goes on

module _ (returns : ℕ → List ℕ) where
  -- behind the step at t, which calls this function or none: a call is over where its function returns
  abbrev pub behind : (callee : Option ℕ) → (t : ℕ) → List ℕ
  behind None t = t ∷ []
  behind (Some f) t = returns f

  abbrev pub behind_back : Option Operation → (t : ℕ) → List ℕ
  behind_back None t = t ∷ []
  behind_back (Some operation) t = behind (callee_of operation) (t + 1)

  abbrev mutual
    pub exits : Core → (k : ℕ) → (froms : List ℕ) → List ℕ
    exits (constant c) k froms = froms
    exits (step operation arguments line) k froms = behind (callee_of operation) (k + sizes arguments)
    exits (choice of_pointer test on off) k froms =
        let t = k + size test in
        exits on (t + 1) (t ∷ []) ++ exits off (t + 1 + size on) (t ∷ [])
    exits (update pointer operation right back line) k froms =
        behind_back back (k + size pointer + 1 + size right + 1)

    pub exits_all : Arguments → (k : ℕ) → (froms : List ℕ) → List ℕ
    exits_all none k froms = froms
    exits_all (argument e more) k froms = exits_all more (k + size e) (exits e k froms)

  -- a statement is left over its end, by `break`, or by `continue`
  pub record Left : Type 0 where
    pub falls : List ℕ
    pub breaks : List ℕ
    pub continues : List ℕ

  -- over its end, and by what leaves two parts of it otherwise
  abbrev pub left_over : (falls : List ℕ) → Left → Left → Left
  left_over falls a b = record { falls = falls; breaks = a.breaks ++ b.breaks; continues = a.continues ++ b.continues }

  abbrev pub leaves : Does → (k : ℕ) → (froms : List ℕ) → Left
  leaves nothing k froms = record { falls = froms; breaks = []; continues = [] }
  leaves break k froms = record { falls = []; breaks = froms; continues = [] }
  leaves continue k froms = record { falls = []; breaks = []; continues = froms }
  leaves (then_ first second) k froms =
      let a = leaves first k froms in
      let b = leaves second (k + size_of first) a.falls in
      left_over b.falls a b
  leaves (act action arguments line) k froms =
      record { falls = (k + sizes arguments) ∷ []; breaks = []; continues = [] }
  leaves (choose of_pointer test on off) k froms =
      let t = k + size test in
      let a = leaves on (t + 1) (t ∷ []) in
      let b = leaves off (t + 1 + size_of on) (t ∷ []) in
      left_over (a.falls ++ b.falls) a b
  -- What comes before a turn is entered from before the loop and from what comes after the body, and that from the
  -- body's end and by `continue`; a `break` leaves the loop.
  leaves (loop mine before body after) k froms =
      let t = k + size_of before in
      let b = leaves body (t + 1) (t ∷ []) in
      let c = leaves after (t + 1 + size_of body) (b.falls ++ b.continues) in
      let a = leaves before k (froms ++ c.falls) in
      record { falls = a.breaks ++ b.breaks ++ c.breaks; breaks = []; continues = a.continues ++ c.continues }
  leaves (return e line) k froms = record { falls = []; breaks = []; continues = [] }

-- the points of the statement at which its function returns
abbrev pub returns_in : Does → (k : ℕ) → List ℕ
returns_in (then_ first second) k = returns_in first k ++ returns_in second (k + size_of first)
returns_in (choose of_pointer test on off) k =
    returns_in on (k + size test + 1) ++ returns_in off (k + size test + 1 + size_of on)
returns_in (loop mine before body after) k =
    let t = k + size_of before in
    returns_in before k ++ returns_in body (t + 1) ++ returns_in after (t + 1 + size_of body)
returns_in (return e line) k = (k + size e) ∷ []
returns_in _ k = []

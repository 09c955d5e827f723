-- What a node has done under the answers that it got, and what it does from there on: the code's run.
use Rattle.std.specs.Prelude.{◌≡◌, ℕ, ◌+◌, List, [], ◌∷◌, ◌++◌}
use Rattle.resumption.specs.Resumption.{RunOf, Ends, Short, run_of}
use Rattle.sc_base.specs.declared.value.End.{End}
use Rattle.sc_layout.specs.Layout.{Arrangement}
use Rattle.sc_isa.specs.declared.code.Code.{Code}
use Rattle.sc_isa.specs.Run.{Ask, Answer, Halt, Finish, NodeDoing, code_run}

-- a run that asked and said so much before
abbrev pub after : (asked : List Ask) → (printed : List ℕ) → RunOf Ask Halt → RunOf Ask Halt
after asked printed run = record { events = asked ++ run.events; text = printed ++ run.text; end = run.end }

-- Under the answers so far the node has asked and printed this, by a number of instructions; for every number of
-- further ones and all further answers, the code's run is that and then the run of the rest.
pub record HasDone (code : Code) (layout : Arrangement) (node budget : ℕ) (answers : List Answer) (asked : List Ask)
    (printed : List ℕ) (rest : ℕ → NodeDoing) : Type 0 where
  pub instructions : ℕ
  pub run : (many : ℕ) (more : List Answer)
      → code_run code layout node budget (instructions + many) (answers ++ more)
      ≡ after asked printed (run_of (rest many) more)

-- ---- what comes next in the code's run, from some number of instructions on

module _ (code : Code) (layout : Arrangement) (node budget : ℕ) (answers : List Answer) (asked : List Ask)
    (printed : List ℕ) where
  -- this is asked, whatever comes then
  pub record AsksNext (ask : Ask) : Type 0 where
    pub instructions : ℕ
    pub later : ℕ → RunOf Ask Halt
    pub run : (many : ℕ) → code_run code layout node budget (instructions + many) answers
        ≡ after (asked ++ ask ∷ []) printed (later many)

  -- this is asked, and the answers so far go no further
  pub record WaitsFor (ask : Ask) : Type 0 where
    pub instructions : ℕ
    pub run : (many : ℕ) → code_run code layout node budget (instructions + many) answers
        ≡ record { events = asked ++ ask ∷ []; text = printed; end = Short }

  -- the node ends
  pub record Finishes (end : End) : Type 0 where
    pub instructions : ℕ
    pub run : (many : ℕ) → code_run code layout node budget (instructions + many) answers
        ≡ record { events = asked; text = printed; end = Ends (Finish end) }

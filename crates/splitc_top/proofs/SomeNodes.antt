-- The words ask for at least one node.
use Rattle.std.proofs.Common.{◌≡◌, ℕ, ◌^◌, ◌<◌, ◌≤◌, ◌-◌, List, [], ◌∷◌, length, Option, Some, None, Bool, true, false, ◌&&◌, ◌||◌, nat_le, is_some, bytes_eq, codes, refl, sym, subst, arith}
use Rattle.std.specs.Prelude.{if◌then◌else◌}
use Rattle.std.proofs.lemmas.Grind.{common_steps}
use Rattle.sc_base.specs.declared.limits.TheConstants.{LIMITS}
use Rattle.splitc_top.specs.declared.words.Command.{Command}
use Rattle.splitc_top.specs.declared.words.Command.TheVariants.{Explain, Compile, Delays}
use Rattle.splitc_top.specs.declared.words.Options.{Options}
use Rattle.splitc_top.specs.Words.{number_after, within, number_word, with_nodes, with_seed, with_budget, with_memory, with_option, options_of, no_options, or_default, run_with, explain_with, on_nodes, command_of, nodes_of}

-- the nodes that were asked for are some
abbrev AsksSome : Option Options → Type 0
AsksSome None = Unit {0}
AsksSome (Some o) = 0 < or_default 4 o.nodes

within_above : (low high : ℕ) (word : Option ℕ) (n : ℕ) → within low high word ≡ Some n → low ≤ n
within_above low high None n e = cc
within_above low high (Some m) n e = by_test (nat_le low m) refl e
  where
    by_test : (b : Bool) → nat_le low m ≡ b → (if b && nat_le m high then Some m else None) ≡ Some n → low ≤ n
    by_test true t h = by_second (nat_le m high) h
      where
        by_second : (b : Bool) → (if b then Some m else None) ≡ Some n → low ≤ n
        by_second true x = let s : m ≡ n = cc in grind (arith, common_steps)
        by_second false x = cc
    by_test false t h = cc

some_number : (low high : ℕ) (word : List ℕ) (n : ℕ) → number_word low high word ≡ Some n → low ≤ n
some_number low high word n e = by_test (nat_le 1 (length word) && nat_le (length word) 20) e
  where
    by_test : (b : Bool) → (if b then within low high (number_after 0 word) else None) ≡ Some n → low ≤ n
    by_test true h = within_above low high (number_after 0 word) n h
    by_test false h = cc

asks_with_nodes : (o : Options) (word : Option ℕ) → ((n : ℕ) → word ≡ Some n → 1 ≤ n) → AsksSome (with_nodes o word)
asks_with_nodes o None f = tt
asks_with_nodes o (Some n) f = by_test (is_some o.nodes)
  where
    by_test : (b : Bool) → AsksSome (if b then None else Some (record o { nodes = Some n }))
    by_test true = tt
    by_test false = f n refl

asks_with_seed : (o : Options) (word : Option ℕ) → AsksSome (Some o) → AsksSome (with_seed o word)
asks_with_seed o None h = tt
asks_with_seed o (Some n) h = by_test (is_some o.seed)
  where
    by_test : (b : Bool) → AsksSome (if b then None else Some (record o { seed = Some n }))
    by_test true = tt
    by_test false = h

asks_with_budget : (o : Options) (word : Option ℕ) → AsksSome (Some o) → AsksSome (with_budget o word)
asks_with_budget o None h = tt
asks_with_budget o (Some n) h = by_test (is_some o.budget)
  where
    by_test : (b : Bool) → AsksSome (if b then None else Some (record o { budget = Some n }))
    by_test true = tt
    by_test false = h

asks_with_memory : (o : Options) → AsksSome (Some o) → AsksSome (with_memory o)
asks_with_memory o h = by_test o.memory
  where
    by_test : (b : Bool) → AsksSome (if b then None else Some (record o { memory = true }))
    by_test true = tt
    by_test false = h

asks_with_option : (name word : List ℕ) (o : Options) → AsksSome (Some o) → AsksSome (with_option name word o)
asks_with_option name word o h = by_test (bytes_eq name (codes "-n")) (bytes_eq name (codes "-s")) (bytes_eq name (codes "-b"))
  where
    by_test : (n s b : Bool) → AsksSome (if n then with_nodes o (number_word 1 LIMITS.nodes word) else if s then with_seed o (number_word 0 (2 ^ 64 - 1) word) else if b then with_budget o (number_word 0 LIMITS.budget word) else None)
    by_test true s b = asks_with_nodes o (number_word 1 LIMITS.nodes word) (λ n e. some_number 1 LIMITS.nodes word n e)
    by_test false true b = asks_with_seed o (number_word 0 (2 ^ 64 - 1) word) h
    by_test false false true = asks_with_budget o (number_word 0 LIMITS.budget word) h
    by_test false false false = tt

none_asks : (words : List (List ℕ)) → options_of words None ≡ None
none_asks [] = refl
none_asks (w ∷ ws) = refl

asks_some : (words : List (List ℕ)) (o : Option Options) → AsksSome o → AsksSome (options_of words o)
asks_some [] None h = tt
asks_some (w ∷ ws) None h = tt
asks_some [] (Some o) h = h
asks_some (name ∷ []) (Some o) h = by_test (bytes_eq name (codes "-m"))
  where
    by_test : (b : Bool) → AsksSome (if b then with_memory o else None)
    by_test true = asks_with_memory o h
    by_test false = tt
asks_some (name ∷ word ∷ words) (Some o) h =
    by_test (bytes_eq name (codes "-m")) (asks_some (word ∷ words) (with_memory o) (asks_with_memory o h)) (asks_some words (with_option name word o) (asks_with_option name word o h))
  where
    by_test : (b : Bool) → AsksSome (options_of (word ∷ words) (with_memory o)) → AsksSome (options_of words (with_option name word o)) → AsksSome (if b then options_of (word ∷ words) (with_memory o) else options_of words (with_option name word o))
    by_test true x y = x
    by_test false x y = y

-- the words ask for some nodes
pub some_nodes : (words : List (List ℕ)) (c : Command) → command_of words ≡ Some c → 0 < nodes_of c
some_nodes [] c e = cc
some_nodes (word ∷ words) c e =
    named (options_of words (Some no_options)) (asks_some words (Some no_options) (omega arith))
    (bytes_eq word (codes "run")) (bytes_eq word (codes "explain")) (bytes_eq word (codes "compile")) (bytes_eq word (codes "delays")) e
  where
    is_some_of : (d : Command) → Some d ≡ Some c → 0 < nodes_of d → 0 < nodes_of c
    is_some_of d x h = let s : d ≡ c = cc in subst (λ k. 0 < nodes_of k) s h

    by_run : (o : Option Options) → AsksSome o → run_with o ≡ Some c → 0 < nodes_of c
    by_run None h x = cc
    by_run (Some o) h x = is_some_of _ x h

    by_explain : (o : Option Options) → AsksSome o → explain_with o ≡ Some c → 0 < nodes_of c
    by_explain None h x = cc
    by_explain (Some o) h x = go o.memory x
      where
        go : (b : Bool) → (if b then None else Some (Explain (or_default 4 o.nodes) (or_default 1 o.seed) (or_default 100000 o.budget))) ≡ Some c
            → 0 < nodes_of c
        go true y = cc
        go false y = is_some_of _ y h

    by_nodes : (command : ℕ → Command) → ((n : ℕ) → nodes_of (command n) ≡ n) → (o : Option Options) → AsksSome o
        → on_nodes command o ≡ Some c → 0 < nodes_of c
    by_nodes command is None h x = cc
    by_nodes command is (Some o) h x = go (is_some o.seed || is_some o.budget || o.memory) x
      where
        go : (b : Bool) → (if b then None else Some (command (or_default 4 o.nodes))) ≡ Some c → 0 < nodes_of c
        go true y = cc
        go false y = is_some_of _ y (subst (λ k. 0 < k) (sym (is (or_default 4 o.nodes))) h)

    named : (o : Option Options) → AsksSome o → (run explain compile delays : Bool)
        → (if run then run_with o else if explain then explain_with o else if compile then on_nodes Compile o else if delays then on_nodes Delays o else None) ≡ Some c
        → 0 < nodes_of c
    named o h true explain compile delays x = by_run o h x
    named o h false true compile delays x = by_explain o h x
    named o h false false true delays x = by_nodes Compile (λ n. refl) o h x
    named o h false false false true x = by_nodes Delays (λ n. refl) o h x
    named o h false false false false x = cc

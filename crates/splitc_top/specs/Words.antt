-- The words of the command line. Their written form, the options and their ranges are this project's own.
use Rattle.std.specs.Prelude.{ℕ, ◌+◌, ◌*◌, ◌-◌, ◌^◌, List, [], ◌∷◌, length, Option, Some, None, true, false}
use Rattle.std.specs.Prelude.{◌&&◌, ◌||◌, nat_lt, nat_le, if◌then◌else◌, is_some, bytes_eq, codes}
use Rattle.sc_base.specs.declared.limits.TheConstants.{LIMITS}
use Rattle.splitc_top.specs.declared.words.Options.{Options}
use Rattle.splitc_top.specs.declared.words.Command.{Command}
use Rattle.splitc_top.specs.declared.words.Command.TheVariants.{Run, Explain, Compile, Delays}

-- decimal digits, read from the left after this number
abbrev pub number_after : ℕ → List ℕ → Option ℕ
number_after n [] = Some n
number_after n (x ∷ xs) = if nat_le 48 x && nat_lt x 58 then number_after (10 * n + (x - 48)) xs else None

abbrev pub within : ℕ → ℕ → Option ℕ → Option ℕ
within low high None = None
within low high (Some n) = if nat_le low n && nat_le n high then Some n else None

-- the number of a word of 1 to 20 digits, where it is in the range
abbrev pub number_word : ℕ → ℕ → List ℕ → Option ℕ
number_word low high word = if nat_le 1 (length word) && nat_le (length word) 20
    then within low high (number_after 0 word) else None

abbrev pub with_nodes : Options → Option ℕ → Option Options
with_nodes o None = None
with_nodes o (Some n) = if is_some o.nodes then None else Some (record o { nodes = Some n })

abbrev pub with_seed : Options → Option ℕ → Option Options
with_seed o None = None
with_seed o (Some n) = if is_some o.seed then None else Some (record o { seed = Some n })

abbrev pub with_budget : Options → Option ℕ → Option Options
with_budget o None = None
with_budget o (Some n) = if is_some o.budget then None else Some (record o { budget = Some n })

abbrev pub with_memory : Options → Option Options
with_memory o = if o.memory then None else Some (record o { memory = true })

-- an option with its word, given at most once
abbrev pub with_option : List ℕ → List ℕ → Options → Option Options
with_option name word o =
    if bytes_eq name (codes "-n") then with_nodes o (number_word 1 LIMITS.nodes word) else
    if bytes_eq name (codes "-s") then with_seed o (number_word 0 (2 ^ 64 - 1) word) else
    if bytes_eq name (codes "-b") then with_budget o (number_word 0 LIMITS.budget word) else
    None

-- The rest of the words are options, in any order.
abbrev pub options_of : List (List ℕ) → Option Options → Option Options
options_of words None = None
options_of [] (Some o) = Some o
options_of (name ∷ []) (Some o) = if bytes_eq name (codes "-m") then with_memory o else None
options_of (name ∷ word ∷ words) (Some o) =
    if bytes_eq name (codes "-m") then options_of (word ∷ words) (with_memory o)
    else options_of words (with_option name word o)

abbrev pub no_options : Options
no_options = record { nodes = None; seed = None; budget = None; memory = false }

abbrev pub or_default : ℕ → Option ℕ → ℕ
or_default d None = d
or_default d (Some n) = n

abbrev pub run_with : Option Options → Option Command
run_with None = None
run_with (Some o) = Some (Run (or_default 4 o.nodes) (or_default 1 o.seed) (or_default 100000 o.budget) o.memory)

-- a history shows no cells
abbrev pub explain_with : Option Options → Option Command
explain_with None = None
explain_with (Some o) =
    if o.memory then None else Some (Explain (or_default 4 o.nodes) (or_default 1 o.seed) (or_default 100000 o.budget))

-- a command that takes the number of nodes alone
abbrev pub on_nodes : (command : ℕ → Command) → Option Options → Option Command
on_nodes command None = None
on_nodes command (Some o) =
    if is_some o.seed || is_some o.budget || o.memory then None else Some (command (or_default 4 o.nodes))

-- the command of this name with the options
abbrev pub command_named : List ℕ → Option Options → Option Command
command_named name options =
    if bytes_eq name (codes "run") then run_with options else
    if bytes_eq name (codes "explain") then explain_with options else
    if bytes_eq name (codes "compile") then on_nodes Compile options else
    if bytes_eq name (codes "delays") then on_nodes Delays options else
    None

-- the command that the words name, if they are in the written form
abbrev pub command_of : List (List ℕ) → Option Command
command_of [] = None
command_of (word ∷ words) = command_named word (options_of words (Some no_options))

-- how many nodes a command asks for
abbrev pub nodes_of : Command → ℕ
nodes_of (Run nodes seed budget memory) = nodes
nodes_of (Explain nodes seed budget) = nodes
nodes_of (Compile nodes) = nodes
nodes_of (Delays nodes) = nodes

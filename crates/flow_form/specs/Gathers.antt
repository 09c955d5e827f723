-- Lists that are gathered from the parts of a source in the order of the text: the objects that it exposes, or the
-- locals that it writes.
use Rattle.std.specs.Prelude.{ℕ, List, [], ◌∷◌, ◌++◌, option_to_list}
use Rattle.sc_core.specs.declared.operation.Operation.{Operation}
use Rattle.sc_core.specs.declared.operation.Action.{Action}
use Rattle.sc_core.specs.Core.{Core, Arguments, Does, Function}
use Rattle.sc_core.specs.Forms.{exposed_by, exposes, exposes_all, exposes_in}
use Rattle.sc_core.specs.View.{Linked, Tested}
use Rattle.sc_core.specs.ViewStatements.{Armed}
use Rattle.flow_form.specs.declared.gather.Wanted.{Wanted}
use Rattle.flow_form.specs.declared.gather.Wanted.TheVariants.{Exposed, Written}
use Rattle.flow_form.specs.Written.{set_by, set_by_action, written, written_all, written_in}

-- ---- of each part

unfoldable pub wanted_by : Wanted → Operation → List ℕ
wanted_by Exposed operation = exposed_by operation
wanted_by Written operation = option_to_list (set_by operation)

unfoldable pub wanted_by_action : Wanted → Action → List ℕ
wanted_by_action Exposed action = []
wanted_by_action Written action = option_to_list (set_by_action action)

unfoldable pub wanted_of : Wanted → Core → List ℕ
wanted_of Exposed e = exposes e
wanted_of Written e = written e

unfoldable pub wanted_of_all : Wanted → Arguments → List ℕ
wanted_of_all Exposed arguments = exposes_all arguments
wanted_of_all Written arguments = written_all arguments

unfoldable pub wanted_in : Wanted → Does → List ℕ
wanted_in Exposed d = exposes_in d
wanted_in Written d = written_in d

-- ---- behind each part

unfoldable pub found : List ℕ → List ℕ → List ℕ
found more xs = xs ++ more

unfoldable pub gathered : Wanted → Core → List ℕ → List ℕ
gathered wanted e xs = xs ++ wanted_of wanted e

unfoldable pub gathered_all : Wanted → Arguments → List ℕ → List ℕ
gathered_all wanted arguments xs = xs ++ wanted_of_all wanted arguments

unfoldable pub gathered_in : Wanted → Does → List ℕ → List ℕ
gathered_in wanted d xs = xs ++ wanted_in wanted d

unfoldable pub gathered_link : Wanted → Linked → List ℕ → List ℕ
gathered_link wanted l xs = found (wanted_by wanted l.operation) (gathered_all wanted l.more xs)

unfoldable pub gathered_links : Wanted → List Linked → List ℕ → List ℕ
gathered_links wanted [] xs = xs
gathered_links wanted (l ∷ more) xs = gathered_links wanted more (gathered_link wanted l xs)

unfoldable pub gathered_test : Wanted → Tested → List ℕ → List ℕ
gathered_test wanted t xs = gathered wanted t.e xs

unfoldable pub gathered_tests : Wanted → List Tested → List ℕ → List ℕ
gathered_tests wanted [] xs = xs
gathered_tests wanted (t ∷ more) xs = gathered_tests wanted more (gathered_test wanted t xs)

unfoldable pub gathered_block : Wanted → List Does → List ℕ → List ℕ
gathered_block wanted [] xs = xs
gathered_block wanted (d ∷ more) xs = gathered_block wanted more (gathered_in wanted d xs)

unfoldable pub gathered_arm : Wanted → Armed → List ℕ → List ℕ
gathered_arm wanted a xs = gathered_in wanted a.body (gathered wanted a.test xs)

unfoldable pub gathered_arms : Wanted → List Armed → List ℕ → List ℕ
gathered_arms wanted [] xs = xs
gathered_arms wanted (a ∷ more) xs = gathered_arms wanted more (gathered_arm wanted a xs)

unfoldable pub gathered_functions : Wanted → List Function → List ℕ → List ℕ
gathered_functions wanted [] xs = xs
gathered_functions wanted (f ∷ more) xs = gathered_functions wanted more (gathered_in wanted f.body xs)

use Rattle.std.proofs.Common.{◌≡◌, w64, to_z, of_z, rules}
use Rattle.std.proofs.lemmas.Int.{to_z-of_z}
use mir.Val.{SFits}
use Rattle.sc_layout.proofs.Stack.{operated, refused}
use Rattle.sc_layout.proofs.bounds.operate.Goals as goal

pub returns-in_ok-push-in-Ok : goal.returns-in_ok-push-in-Ok
returns-in_ok-push-in-Ok c =
    let fits_a : SFits w64 c.in-Some-pop.a = search rules in
    let fits_b : SFits w64 c.in-Some.b = search rules in
    let fits_v : SFits w64 c.in-Ok.value = search rules in
    let a : to_z w64 (of_z w64 c.in-Some-pop.a) ≡ c.in-Some-pop.a = to_z-of_z w64 _ fits_a in
    let b : to_z w64 (of_z w64 c.in-Some.b) ≡ c.in-Some.b = to_z-of_z w64 _ fits_b in
    let v : to_z w64 (of_z w64 c.in-Ok.value) ≡ c.in-Ok.value = to_z-of_z w64 _ fits_v in
    operated c.args.nodes c.args.op _ _ _ _ _ _ _ c.in-Some.ensures.items c.in-Some-pop.ensures.items (rw (a, b) at c.in-Ok.ensures) (rw v at c.in_ok-push-in-Ok.ensures.items)

pub returns-in-Err : goal.returns-in-Err
returns-in-Err c =
    let fits_a : SFits w64 c.in-Some-pop.a = search rules in
    let fits_b : SFits w64 c.in-Some.b = search rules in
    let a : to_z w64 (of_z w64 c.in-Some-pop.a) ≡ c.in-Some-pop.a = to_z-of_z w64 _ fits_a in
    let b : to_z w64 (of_z w64 c.in-Some.b) ≡ c.in-Some.b = to_z-of_z w64 _ fits_b in
    refused c.args.nodes c.args.op _ _ _ _ _ _ c.in-Some.ensures.items c.in-Some-pop.ensures.items (rw (a, b) at c.in-Err.ensures)

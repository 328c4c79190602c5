-- The answers of `extract_partners::list_node`.
use Prim.Native.Nat.{ℕ, ◌+◌}
use mathlib.Core.Path.{◌≡◌, sym, ap, ◌∙◌}
use mathlib.Core.List.{List, [], ◌++◌, map}
use native.Mathlib.Omega.{arith}
use lib.ListN.{drop, length-map, drop_of_length-le}
use Rattle.cube.specs.Cube.{lits}
use Rattle.expression.specs.Words.{cubes_of}
use Rattle.extract_partners.specs.{Removal.removals, Table.removal_of, Table.removals_from}
use Rattle.extract_partners.proofs.Listing.{Listing, listing-as, listing-room, listing-then, listing-end}
use Rattle.extract_partners.proofs.{Numbering.removals-next}
use Rattle.extract_partners.proofs.list_node.Goals as goal
use Rattle.extract_partners.proofs.list_node.Goals.{After-cube_at, At-loop-j}

abbrev cubes : At-loop-j → List (List ℕ)
cubes h = cubes_of h.args.f.now

-- the removals of the cube at place j, and those of the cubes after it
abbrev own : After-cube_at → List ℕ
own c = map (removal_of c.loop-j.j) (removals (lits c.cube_at.result))

abbrev later : After-cube_at → List ℕ
later c = removals_from (c.loop-j.j + 1) (drop (c.loop-j.j + 1) ((cubes_of c.args.f.now)))

ready : (c : After-cube_at) → Listing c.args.ws.now c.loop-j.ws 0 c.loop-j.n (own c ++ later c) (removals_from 0 ((cubes_of c.args.f.now)))
ready c =
    listing-as (removals-next ((cubes_of c.args.f.now)) c.loop-j.j (omega (arith, c.number-j-end.ensures))
    ∙ ap (λ x. map (removal_of c.loop-j.j) (removals x) ++ later c) (sym c.cube_at.ensures)) c.loop-j.invariant

pub list_cube-n-requires : goal.list_cube-n-requires
list_cube-n-requires c = (
  omega (arith, c.number-j-end.ensures, c.requires.0),
  omega (arith, listing-room (own c) (later c) (ready c), length-map (removals (lits c.cube_at.result)) (removal_of c.loop-j.j)),
)

pub loop-j-preserved : goal.loop-j-preserved
loop-j-preserved c =
    listing-then (own (goal.at.loop-j-preserved c).After-cube_at) (later (goal.at.loop-j-preserved c).After-cube_at) (ready (goal.at.loop-j-preserved c).After-cube_at) c.list_cube-n.ensures

pub returns : goal.returns
unfolding removals_from
returns c =
    let e : drop c.loop-j.j (cubes (goal.at.returns c).At-loop-j) ≡ [] = drop_of_length-le (cubes (goal.at.returns c).At-loop-j) {i = c.loop-j.j} (omega (arith, c.number-j-end.ensures)) in
    listing-end (listing-as (ap (removals_from c.loop-j.j) e) c.loop-j.invariant)

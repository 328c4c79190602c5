-- The answers of `extract_partners::list_cube`.
use Prim.Native.Nat.{ℕ, ◌+◌, ◌*◌, ◌<◌}
use mathlib.Core.Path.{ap, ◌∙◌}
use mathlib.Core.List.{List, [], ◌∷◌, ◌++◌, map}
use native.Mathlib.Omega.{arith}
use lib.ListN.{length, set, length-map}
use Rattle.cube.specs.Cube.{lits}
use Rattle.extract_rows.proofs.Counting.{led-inside}
use Rattle.extract_partners.specs.{Removal.removals, Table.removal_of}
use Rattle.extract_partners.proofs.Listing.{Listing, listing-as, listing-room, listing-put, listing-then, listing-end}
use Rattle.extract_partners.proofs.{Numbering.removals-cube}
use Rattle.extract_partners.proofs.list_cube.Goals as goal
use Rattle.extract_partners.proofs.list_cube.Goals.{In-Some}

pub returns : goal.returns
unfolding removals
returns c =
    listing-end (listing-as (ap (λ x. map (removal_of c.args.j) (removals x)) c.in_default.ensures.steps.0) c.loop-p.invariant)

-- the literal found and the others
abbrev literal : In-Some → ℕ
literal c = c.in-Some.p.0

abbrev rest : In-Some → List ℕ
rest c = lits c.next.new.self.rest

-- what is still to be listed: the literal alone, the literal with another one, and the removals of the others
abbrev one : In-Some → ℕ
one c = 65536 * c.args.j + 257 * literal c

abbrev pairs : In-Some → List ℕ
pairs c = map (λ q. removal_of c.args.j (literal c ∷ q ∷ [])) (rest c)

abbrev later : In-Some → List ℕ
later c = map (removal_of c.args.j) (removals (rest c))

ready : (c : In-Some) → Listing c.args.ws.now c.loop-p.ws c.args.at c.loop-p.n (one c ∷ (pairs c ++ later c))
    (map (removal_of c.args.j) (removals (lits c.args.c)))
ready c =
    listing-as (ap (λ x. map (removal_of c.args.j) (removals x)) c.in-Some.ensures.steps ∙ removals-cube c.args.j (literal c) (rest c)) c.loop-p.invariant

inside : (c : In-Some) → c.loop-p.n < length c.loop-p.ws
inside c = omega (arith, listing-room (one c ∷ []) (pairs c ++ later c) (ready c))

-- after the literal alone
put : (c : In-Some) → Listing c.args.ws.now (set c.loop-p.ws c.loop-p.n (one c)) c.args.at (c.loop-p.n + 1) (pairs c ++ later c)
    (map (removal_of c.args.j) (removals (lits c.args.c)))
put c = listing-put (ready c)

pub list_pairs-n-requires : goal.list_pairs-n-requires
list_pairs-n-requires c = (
  c.requires.0,
  led-inside _ c.in-Some.ensures.steps,
  omega (arith, listing-room (pairs (goal.at.list_pairs-n-requires c).In-Some) (later (goal.at.list_pairs-n-requires c).In-Some) (put (goal.at.list_pairs-n-requires c).In-Some), length-map (rest (goal.at.list_pairs-n-requires c).In-Some) (λ q. removal_of c.args.j (literal (goal.at.list_pairs-n-requires c).In-Some ∷ q ∷ []))),
)

pub loop-p-preserved : goal.loop-p-preserved
loop-p-preserved c =
    listing-then (pairs (goal.at.loop-p-preserved c).In-Some) (later (goal.at.loop-p-preserved c).In-Some) (put (goal.at.loop-p-preserved c).In-Some) c.list_pairs-n.ensures

pub overflow_mul-ws-in-Some : goal.overflow_mul-ws-in-Some
overflow_mul-ws-in-Some c = omega (arith, led-inside _ c.in-Some.ensures.steps)

pub overflow_add-ws : goal.overflow_add-ws
overflow_add-ws c = omega (arith, led-inside _ c.in-Some.ensures.steps, c.requires.0)

pub bounds-ws-n : goal.bounds-ws-n
bounds-ws-n c = inside (goal.at.bounds-ws-n c).In-Some

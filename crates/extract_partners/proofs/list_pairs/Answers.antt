-- The answers of `extract_partners::list_pairs`.
use Prim.Native.Nat.{ℕ, ◌+◌, ◌*◌}
use mathlib.Core.Path.{◌≡◌, ap}
use mathlib.Core.List.{List, [], ◌∷◌, map}
use native.Mathlib.Omega.{arith}
use Rattle.sets.proofs.Lists.{map-cong}
use Rattle.cube.specs.Cube.{lits}
use Rattle.extract_rows.proofs.Counting.{led-inside}
use Rattle.extract_keys.specs.Keys.{part_code}
use Rattle.extract_partners.specs.Table.{removal_of}
use Rattle.extract_partners.proofs.Listing.{Listing, listed-as, listing-as, listing-put, listing-end}
use Rattle.extract_partners.proofs.list_pairs.Goals as goal
use Rattle.extract_partners.proofs.list_pairs.Goals.{In-Some, At-loop-q}

-- the removals by their base are those of the contract
by-base : (j p : ℕ) (c : List ℕ) → map ((65536 * j + 256 * p) +◌) c ≡ map (λ q. removal_of j (p ∷ q ∷ [])) c
unfolding part_code
by-base j p c = map-cong (λ q. (65536 * j + 256 * p) + q) (λ q. removal_of j (p ∷ q ∷ [])) c (λ q m. omega arith)

abbrev base : At-loop-q → ℕ
base h = 65536 * h.args.j + 256 * h.args.p.0

pub returns : goal.returns
returns c =
    listed-as (by-base c.args.j c.args.p.0 (lits c.args.greater.rest))
    (listing-end (listing-as (ap (map (base (goal.at.returns c).At-loop-q +◌)) c.in-None.ensures.steps.0) c.loop-q.invariant.0))

-- what is still to be listed begins with its removal
ready : (c : In-Some) → Listing c.args.ws.now c.loop-q.ws c.args.at c.loop-q.n (map ((65536 * c.args.j + 256 * c.args.p.0) +◌) (c.in-Some.q.0 ∷ lits c.next.new.self.rest))
    (map ((65536 * c.args.j + 256 * c.args.p.0) +◌) (lits c.args.greater.rest))
ready c = listing-as (ap (map ((65536 * c.args.j + 256 * c.args.p.0) +◌)) c.in-Some.ensures.steps) c.loop-q.invariant.0

pub loop-q-preserved : goal.loop-q-preserved
loop-q-preserved c = (listing-put (ready (goal.at.loop-q-preserved c).In-Some), c.loop-q.invariant.1)

pub overflow_add-ws : goal.overflow_add-ws
overflow_add-ws c = omega (arith, led-inside _ c.in-Some.ensures.steps, c.loop-q.invariant.1)

-- Cubes stand in cube order exactly where each comes before the next. Assumes nothing.
use Rattle.std.proofs.Common.{◌≡◌, refl, sym, ◌∙◌, ap, ℕ, suc, ◌<◌, Bool, true, false, List, [], ◌∷◌, map, length, get_or, take, None, IsTrue, arith, add-one}
use Rattle.std.specs.Bool.{OnTrue}
use Rattle.std.specs.List.{IsAllAdjacentAnswer}
use Rattle.std.specs.Iterator.{YieldsFirstBy}
use Rattle.std.specs.Iterator.Runs.{SomeRun, YieldsRun}
use Rattle.std.specs.Iterator.Order.{ActsAsAtTwo, IsSortedAnswer}
use Rattle.std.proofs.lemmas.Iterator.{YieldsList}
use Rattle.std.proofs.lemmas.Iterator.Consumers.{YieldsList-so_far, YieldsList-end}
use Rattle.std.proofs.lemmas.List.{get_or-map, length-map}
use lib.Seq.{get_or-take}
use lib.ListN.{length-take}
use denote.Param.Members.{Mut}
use denote.Ref.{Bor}
use Rattle.sets.{specs.Sets.before, proofs.Places.pairwise-at, proofs.Ordering.before-trans}
use Rattle.sets.proofs.Truth.{clash, refuted}
use Rattle.sets.proofs.Lists.{all_in, all-out, ahead}
use Rattle.cube.{specs.Cube.lits, proofs.Lits.no_cube}
use Rattle.cube.specs.declared.Cube.{Cube}
use Rattle.expression.specs.declared.Cubes.{Cubes}
use Rattle.expression.specs.{Words.cubes_of, Expression.ordered}
use Rattle.expression.proofs.Chains.{left, each-list}

-- each of the cubes comes before the next
abbrev pub Climbs : List (List ℕ) → Type 0
Climbs f = (k : ℕ) → suc k < length f → before (get_or f k []) (get_or f (suc k) []) ≡ true

pub climbs-ordered : (f : List (List ℕ)) → Climbs f → ordered f ≡ true
climbs-ordered [] h = refl
climbs-ordered (c ∷ []) h = refl
climbs-ordered (c ∷ d ∷ f) h =
    let t : ordered (d ∷ f) ≡ true = climbs-ordered (d ∷ f) (λ k l. h (suc k) (omega arith)) in
    let e : before c d ≡ true = h 0 (omega arith) in
    rw (e, all_in (before c) f (λ z m. before-trans c d z e (all-out (before d) m (ahead before d f t).0))) t

-- one that does not come before the next
pub climbs-not : (f : List (List ℕ)) (k : ℕ) → suc k < length f → before (get_or f k []) (get_or f (suc k) []) ≡ false → ordered f ≡ false
climbs-not f k h e = refuted (λ t. clash (pairwise-at before [] f k (suc k) t (omega arith) h) e)

-- the cubes that came are the first ones
came : (items : List Cube) (cubes : List (List ℕ)) → map lits items ≡ take (length items) cubes → (k : ℕ) → k < length items
    → (k < length cubes) × (lits (get_or items k no_cube) ≡ get_or cubes k [])
came items cubes e k h =
    let n : length items ≡ length (take (length items) cubes) = sym (length-map items lits) ∙ ap length e in
    let m = length-take (length items) cubes in
    (omega arith, sym (get_or-map lits items k no_cube [] h) ∙ ap (λ l. get_or l k []) e ∙ get_or-take (length items) cubes k [] h)

-- what `is_sorted_by` answers at the cubes of words, where the closure tells whether one cube comes before another
module _ {F : Type 0} {g : Mut F (Bor Cube × (Bor Cube × Unit {0})) Bool} {s : Cubes} {ws : List ℕ} (f : F) where
  pub ordered-each : (r : Bool)
      → SomeRun (YieldsFirstBy lits left) s (λ p. OnTrue r (IsTrue p.whole) × ((h : Cube → Cube → Bool) → ActsAsAtTwo g f h → IsSortedAnswer h p.items r))
      → s.words.now ≡ ws → ActsAsAtTwo g f (λ x y. before (lits x) (lits y)) → r ≡ ordered (cubes_of ws)
  unfolding YieldsRun
  ordered-each r (p, e, h) q k = go r h.0 (h.1 _ k).0
    where
      cubes : List (List ℕ)
      cubes = cubes_of ws

      road : YieldsList (YieldsFirstBy lits left) lits p.from cubes
      road = each-list (ap (λ (x : Cubes). x.words.now) e ∙ q)

      gone : map lits p.items ≡ take (length p.items) cubes
      gone = YieldsList-so_far road p.items p.gave.0.0 p.gave.0.1

      go : (b : Bool) → OnTrue b (IsTrue p.whole) → IsAllAdjacentAnswer (λ x y t. before (lits x) (lits y) ≡ t) p.items b → b ≡ ordered cubes
      go true w h =
          let (u, n) = p.gave.0.2 w in
          let t = YieldsList-end road p.items p.gave.0.0 p.gave.0.1 None u refl n in
          sym (climbs-ordered cubes (λ k l.
          let c = came p.items cubes gone k (omega (arith, t.1)) in
          let d = came p.items cubes gone (suc k) (omega (arith, t.1)) in
          rw (← c.1, ← d.1) (rw add-one at (h k no_cube (omega (arith, t.1))))))
      go false w (k, l, h) =
          let c = came p.items cubes gone k (omega arith) in
          let d = came p.items cubes gone (suc k) (omega arith) in
          sym (climbs-not cubes k d.0 (rw (← c.1, ← d.1) (rw add-one at (h no_cube))))

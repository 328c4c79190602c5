-- The literals of a cube, one after the other. Assumes nothing.
use Prim.Native.Nat.{ℕ, suc, ◌+◌, ◌-◌, ◌*◌, ◌/◌, ◌<◌, ◌≤◌}
use mathlib.Core.Path.{◌≡◌, refl, sym, ap, ap₂, ◌∙◌}
use mathlib.Core.Bool.{Bool, true, false, not, ◌&&◌, ◌||◌, and-true, or_comm, or-false}
use mathlib.Core.List.{List, [], ◌∷◌, ◌++◌, append-nil}
use native.Mathlib.Omega.{arith}
use lib.Dec.{leb, ltb, eqb}
use lib.ListN.{length, drop, length-append}
use borrow.Author.Tests.{lt-ltb, ltb-true, not-true, le-leb, lt-leb}
use Rattle.sets.{specs.Lists.all, specs.Literal.opposite_of, proofs.Truth.both, proofs.Lists.all_append}
use Rattle.sets.specs.Sets.{mem, asc, proper, union, insert}
use Rattle.sets.proofs.Sets.{ext, insert-mem, insert-asc, mem-append, union-asc, union-all, proper-in, proper-out}
use Rattle.cube.specs.Cube.{width, lits, joined}
use Rattle.cube.specs.declared.Cube.{Cube}
use Rattle.network.specs.Held.{most_variables}
use Rattle.image_laws.specs.Widths.{edition1, most_literal_bits, most_cube_bits}
use Rattle.image_laws.specs.Reading.{got, bad, allowed, get_literals, get_cube}
use Rattle.image_laws.proofs.{NewNumbers.set-mem, Reading.proper-more}
use Rattle.image_read.specs.Parts.{FieldIs, set_of, CubeGot, CubeIs}
use Rattle.std.proofs.Common.{Some, None, Result, Ok, Err}
use Rattle.image_read.specs.declared.{fields.Taken.Taken, Fault.Fault}
use Rattle.image_read.proofs.Fielding.{field_cut, field-bad, field-got}
use Rattle.image_read.proofs.Going.{onto, onto-none, onto-more}

-- ---- one literal more at the end

last_mem : (z x : ℕ) (c : List ℕ) → (eqb z x || mem z c) ≡ mem z (c ++ (x ∷ []))
unfolding mem
last_mem z x c = or_comm (eqb z x) (mem z c) ∙ sym (mem-append z c (x ∷ []) ∙ ap (mem z c ||◌) (or-false (eqb z x)))

asc-last : (l : List ℕ) (x : ℕ) → asc (l ++ (x ∷ [])) ≡ (asc l && all (λ y. ltb y x) l)
asc-last [] x = refl
asc-last (y ∷ l) x = ap₂ ◌&&◌ (all_append (ltb y) l (x ∷ [])) (asc-last l x) ∙ mix (all (ltb y) l) (ltb y x) (asc l) (all (λ z. ltb z x) l)
  where
    mix : (a b c d : Bool) → ((a && (b && true)) && (c && d)) ≡ ((a && c) && (b && d))
    mix true true c d = refl
    mix true false true d = refl
    mix true false false d = refl
    mix false b c d = refl

proper-last : (x : ℕ) (c : List ℕ) → proper c ≡ true → mem (opposite_of x) c ≡ false → proper (c ++ (x ∷ [])) ≡ true
unfolding mem
proper-last x c h k = proper-in (c ++ (x ∷ [])) (λ z m.
    sym (last_mem (opposite_of z) x c) ∙ proper-out (x ∷ c) z (proper-more x c h k) (last_mem z x c ∙ m))

-- literals that ascend are their own set
pub set-asc : (c : List ℕ) → asc c ≡ true → set_of c ≡ c
set-asc c h = ext (set_of c) c (union-asc c [] refl) h (λ z. set-mem z c)

set_last : (x : ℕ) (c : List ℕ) → insert x (set_of c) ≡ set_of (c ++ (x ∷ []))
set_last x c = ext (insert x (set_of c)) (set_of (c ++ (x ∷ []))) (insert-asc x (set_of c) (union-asc c [] refl)) (union-asc (c ++ (x ∷ [])) [] refl) (λ z.
    insert-mem z x (set_of c) ∙ ap (eqb z x ||◌) (set-mem z c) ∙ last_mem z x c ∙ sym (set-mem z (c ++ (x ∷ []))))

-- ---- so many literals are read

pub record Gathering (bits : List Bool) (v k start at i : ℕ) (set : List ℕ) (up : Bool) : Type 0 where
  pub read : List ℕ
  -- the last of them first
  pub seen : List ℕ
  pub same : (z : ℕ) → mem z seen ≡ mem z read
  pub number : length read ≡ i
  pub going : get_literals v k [] (drop start bits) ≡ onto read (get_literals v (k - i) seen (drop at bits))
  pub held : set ≡ set_of read
  pub rising : up ≡ asc read
  pub clean : proper read ≡ true

pub gather_none : (bits : List Bool) (v k start : ℕ) (set : List ℕ) → set ≡ [] → Gathering bits v k start start 0 set true
unfolding union proper
gather_none bits v k start set e = record {
  read = [];
  seen = [];
  same = λ z. refl;
  number = refl;
  going = sym (onto-none (get_literals v (k - 0) [] (drop start bits)) ∙ ap (λ n. get_literals v n [] (drop start bits)) (omega arith));
  held = e;
  rising = refl;
  clean = refl;
}

module _ {bits : List Bool} {v k start at i : ℕ} {set : List ℕ} {up : Bool} (g : Gathering bits v k start at i set up) where
  module _ (more : i < k) where
    abbrev left : ℕ
    left = k - (i + 1)

    -- one turn more to go
    opened : get_literals v k [] (drop start bits) ≡ onto g.read (get_literals v (suc left) g.seen (drop at bits))
    opened = let e : k - i ≡ suc left = omega arith in g.going ∙ ap (λ n. onto g.read (get_literals v n g.seen (drop at bits))) e

    same_test : (x : ℕ) → allowed v set x ≡ allowed v g.seen x
    same_test x = ap (λ b. ltb (x / 2) v && not b)
        (ap (mem (opposite_of x)) g.held ∙ set-mem (opposite_of x) g.read ∙ sym (g.same (opposite_of x)))

    pub gather-cut : FieldIs edition1.literal (drop at bits) None → get_literals v k [] (drop start bits) ≡ bad 11
    unfolding get_literals
    gather-cut h = opened ∙ rw (field_cut edition1.literal (allowed v g.seen) (drop at bits) h) refl

    module _ (x : ℕ) (h : FieldIs edition1.literal (drop at bits) (Some x)) where
      pub gather-bad : allowed v set x ≡ false → get_literals v k [] (drop start bits) ≡ bad 12
      unfolding get_literals
      gather-bad e = opened ∙ rw (field-bad edition1.literal (allowed v g.seen) (drop at bits) x h (sym (same_test x) ∙ e)) refl

      pub gather-next : v ≤ most_variables → allowed v set x ≡ true → (set' : List ℕ) → set' ≡ joined x set → (up' : Bool)
          → up' ≡ (up && all (λ y. ltb y x) set) → Gathering bits v k start (at + edition1.literal) (i + 1) set' up'
      unfolding get_literals mem
      gather-next few e set' s up' u =
          let good : allowed v g.seen x ≡ true = sym (same_test x) ∙ e in
          let q = both (ltb (x / 2) v) (not (mem (opposite_of x) g.seen)) good in
          record {
            read = g.read ++ (x ∷ []);
            seen = x ∷ g.seen;
            same = λ z. ap (eqb z x ||◌) (g.same z) ∙ last_mem z x g.read;
            number = omega (arith, length-append g.read (x ∷ []), g.number);
            going = opened ∙ rw (field-got edition1.literal (allowed v g.seen) bits at x h good)
                (onto-more g.read x (get_literals v left (x ∷ g.seen) (drop (at + edition1.literal) bits)));
            held = s ∙ rw (lt-ltb x (2 * width) (omega (arith, ltb-true (x / 2) v q.0))) (ap (insert x) g.held ∙ set_last x g.read);
            rising = u ∙ ap₂ ◌&&◌ g.rising (ap (all (λ y. ltb y x)) g.held ∙ union-all (λ y. ltb y x) g.read [] ∙ and-true _)
                ∙ sym (asc-last g.read x);
            clean = proper-last x g.read g.clean (sym (g.same (opposite_of x)) ∙ not-true (mem (opposite_of x) g.seen) q.1);
          }

  -- all are read
  pub gather-end : k ≤ i → i ≤ most_variables → at ≤ start + most_literal_bits → (c : Cube) → lits c ≡ set → i ≡ k
      → CubeGot most_literal_bits bits start (get_literals v k [] (drop start bits)) (record { cube = c; literals = k; ascending = up; at = at })
  unfolding get_literals
  gather-end done few near c e q =
      let z : k - i ≡ 0 = omega arith in
      record {
        read = g.read;
        is = g.going ∙ ap (λ n. onto g.read (get_literals v n g.seen (drop at bits))) z ∙ ap (λ l. got l (drop at bits)) (append-nil g.read);
        cube = e ∙ g.held;
        literals = omega (arith, g.number);
        ascending = g.rising;
        proper = g.clean;
        few = omega (arith, g.number);
        near = near;
      }

-- ---- the literal count before them

module _ (bits : List Bool) (v at : ℕ) where
  pub cube-cut : FieldIs edition1.literals (drop at bits) None → get_cube v (drop at bits) ≡ bad 11
  unfolding get_cube
  cube-cut h = rw (field_cut edition1.literals (λ c. leb c v) (drop at bits) h)

  module _ (k : ℕ) (h : FieldIs edition1.literals (drop at bits) (Some k)) where
    pub cube-bad : v < k → get_cube v (drop at bits) ≡ bad 12
    unfolding get_cube
    cube-bad m = rw (field-bad edition1.literals (λ c. leb c v) (drop at bits) k h (lt-leb k v m))

    cube-on : k ≤ v → get_cube v (drop at bits) ≡ get_literals v k [] (drop (at + edition1.literals) bits)
    unfolding get_cube
    cube-on m = rw (field-got edition1.literals (λ c. leb c v) bits at k h (le-leb k v m))

    -- the literals after the count
    pub cube-is : k ≤ v → (r : Result Taken Fault) → CubeIs most_literal_bits bits (at + edition1.literals) (get_literals v k [] (drop (at + edition1.literals) bits)) r
        → CubeIs most_cube_bits bits at (get_cube v (drop at bits)) r
    cube-is m (Err e) q = cube-on m ∙ q
    cube-is m (Ok r) c = record {
      read = c.read;
      is = cube-on m ∙ c.is;
      cube = c.cube;
      literals = c.literals;
      ascending = c.ascending;
      proper = c.proper;
      few = c.few;
      near = omega (arith, c.near);
    }

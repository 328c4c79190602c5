-- A network built output by output: the cubes of each put, absorbed and sorted in their places, those left over emptied, one expression
-- after the other. Assumes nothing.
use Prim.Native.Nat.{ℕ, zero, suc, ◌+◌, ◌-◌, ◌<◌, ◌≤◌}
use mathlib.Core.Path.{◌≡◌, refl, sym, ap, ap₂, ◌∙◌, subst}
use mathlib.Core.List.{List, [], ◌++◌, map, append_assoc, append-nil}
use native.Mathlib.Omega.{arith}
use lib.ListN.{length, take, drop, set, replicate, length-append, length-map, length-replicate, replicate-append-replicate}
use Rattle.sets.specs.Lists.{total, from}
use Rattle.sets.proofs.Lists.{total-map, total-le}
use Rattle.sets.proofs.Rows.{drop-replicate, from-length, map-from, total-from}
use Rattle.expression.specs.Words.{cubes_of, Placed, Appends, blanks}
use Rattle.expression.{specs.Expression.sort, specs.Expression.absorbed, proofs.Absorbing.absorbed-length, proofs.Sorting.sort-length}
use Rattle.expression.proofs.Placing.{placed-as, placed-span, placed-over, placed-sort, placed-length, placed-then, placed-blanks}
use Rattle.network.specs.Handed.{cube_slots, LaidNodes, Holds}
use Rattle.network.proofs.Laying.{laid_next, laid-rest, laid-holds}
use Rattle.table.specs.Parts.{pick, Room, formed, Buildable, net_from}

-- empty cubes put where empty ones stand change nothing
empty-same : {A : Type 0} (x : A) (f l : List A) (m c : ℕ) → l ≡ replicate c x → length f + m ≤ c
    → (f ++ replicate m x) ++ drop (length (f ++ replicate m x)) l ≡ f ++ drop (length f) l
empty-same {A} x f l m c e h =
    let k : length (f ++ replicate m x) ≡ length f + m = length-append f (replicate m x) ∙ ap (length f +◌) (length-replicate m x) in
    let n : m + (c - (length f + m)) ≡ c - length f = omega arith in
    append_assoc f (replicate m x) (drop (length (f ++ replicate m x)) l)
    ∙ ap (f ++◌) (ap₂ (λ (i : ℕ) (z : List A). replicate m x ++ drop i z) k e
    ∙ ap (replicate m x ++◌) (drop-replicate (length f + m) c x)
    ∙ replicate-append-replicate m (c - (length f + m)) x
    ∙ ap (λ (z : ℕ). replicate z x) n
    ∙ sym (ap (drop (length f)) e ∙ drop-replicate (length f) c x))

placed-empty : {old new : List ℕ} {a : ℕ} (f : List (List ℕ)) (m c : ℕ) → drop a (cubes_of old) ≡ replicate c [] → length f + m ≤ c
    → Placed old new a (f ++ replicate m []) → Placed old new a f
placed-empty {old} {new} {a} f m c e h p = record {
  cubes = p.cubes ∙ ap (take a (cubes_of old) ++◌) (empty-same [] f (drop a (cubes_of old)) m c e h);
  spare = p.spare;
}

-- ---- an output filled in

module _ {words marks : List ℕ} {kept j a : ℕ} {old one : List ℕ} {e : ℕ} (r : Room words marks kept j a old)
    (t : Appends old one a (pick j words marks kept) e) where
  abbrev p : List (List ℕ)
  p = pick j words marks kept

  pub end-inside : e ≤ length (cubes_of old)
  end-inside = omega (arith, r.fits, t.next)

  begins : a ≤ length (cubes_of old)
  begins = omega (arith, r.fits)

  one-length : length (cubes_of one) ≡ length (cubes_of old)
  one-length = placed-length t.placed r.fits

  module _ {two : List ℕ} {k : ℕ} (n : k ≡ length (absorbed (take (e - a) (drop a (cubes_of one)))))
      (q : Placed one two a (absorbed (take (e - a) (drop a (cubes_of one))))) where
    part : take (e - a) (drop a (cubes_of one)) ≡ p
    part = placed-span t.placed begins t.next

    kept-number : k ≡ length (absorbed p)
    kept-number = n ∙ ap (λ (f : List (List ℕ)). length (absorbed f)) part

    pub kept-few : a + k ≤ e
    kept-few = omega (arith, kept-number, absorbed-length p, t.next)

    module _ {three : List ℕ} (s : Placed two three a (sort (take (a + k - a) (drop a (cubes_of two))))) where
      size : length (sort (absorbed p)) ≡ k
      size = sort-length (absorbed p) ∙ sym kept-number

      sorted : Placed one three a (sort (absorbed p))
      sorted = placed-sort (placed-as (ap absorbed part) q) (omega (arith, begins, one-length)) (ap (a +◌) kept-number) s

      three-length : length (cubes_of three) ≡ length (cubes_of old)
      three-length = placed-length sorted (omega (arith, size, kept-few, end-inside, one-length)) ∙ one-length

      pub filled : {four : List ℕ} → Placed three four (a + k) (blanks three (a + k) e) → Appends old four a (formed words marks kept j) (a + k)
      filled {four} c = record {
        next = ap (a +◌) (sym size);
        placed = placed-empty (sort (absorbed p)) (e - (a + k)) (length (cubes_of old) - a) r.empty (omega (arith, size, kept-few, end-inside)) all;
      }
        where
          cleared : Placed three four (a + length (sort (absorbed p))) (replicate (e - (a + k)) [])
          cleared = subst (λ (z : ℕ). Placed three four (a + z) (replicate (e - (a + k)) [])) (sym size)
              (placed-blanks (omega (arith, three-length, end-inside)) c)

          long : length (sort (absorbed p) ++ replicate {A = List ℕ} (e - (a + k)) []) ≡ length p
          long =
              length-append (sort (absorbed p)) (replicate {A = List ℕ} (e - (a + k)) [])
              ∙ omega (arith, size, length-replicate {A = List ℕ} (e - (a + k)) [], kept-few, t.next)

          all : Placed old four a (sort (absorbed p) ++ replicate (e - (a + k)) [])
          all = placed-over t.placed begins (omega (arith, long)) (placed-then sorted (omega (arith, size, kept-few, end-inside, one-length)) cleared)

-- ---- the outputs so far

-- the sum of a front part and the next is no more than the whole
total-more : (g : ℕ → ℕ) (m k : ℕ) → total g (from 0 m) ≤ total g (from 0 (m + k))
total-more g m zero = let e : m + 0 ≡ m = omega arith in rw e (omega arith)
total-more g m (suc k) = let e : m + suc k ≡ (m + k) + 1 = omega arith in rw e (omega (arith, total-more g m k, total-from g (m + k)))

total-front : (g : ℕ → ℕ) (j m : ℕ) → j < m → total g (from 0 j) + g j ≤ total g (from 0 m)
total-front g j m h = let e : (j + 1) + (m - (j + 1)) ≡ m = omega arith in
    omega (arith, total-from g j, subst (λ (z : ℕ). total g (from 0 (j + 1)) ≤ total g (from 0 z)) e (total-more g (j + 1) (m - (j + 1))))

module _ {words marks : List ℕ} {kept m : ℕ} (b : Buildable words marks kept m) where
  abbrev done : ℕ → List (List (List ℕ))
  done j = map (formed words marks kept) (from 0 j)

  few-formed : (j : ℕ) → length (formed words marks kept j) ≤ length (pick j words marks kept)
  few-formed j = omega (arith, sort-length (absorbed (pick j words marks kept)), absorbed-length (pick j words marks kept))

  done-length : (j : ℕ) → length (done j) ≡ j
  done-length j = length-map (from 0 j) (formed words marks kept) ∙ from-length 0 j

  module _ {ws counts : List ℕ} {at j : ℕ} (h : j < m) (l : LaidNodes ws counts at (done j)) where
    -- there is room for the next
    pub laid-room : length (cubes_of ws) ≡ cube_slots → Room words marks kept j at ws
    laid-room w = record {
      source = b.source;
      mark = omega (arith, b.outputs);
      fits = omega (
        arith,
        l.place,
        total-map length (formed words marks kept) (from 0 j),
        total-le (λ i. length (formed words marks kept i)) (λ i. length (pick i words marks kept)) (from 0 j) (λ i k. few-formed i),
        total-front (λ i. length (pick i words marks kept)) j m h,
        b.few,
      );
      empty = laid-rest l ∙ ap (λ (z : ℕ). replicate (z - at) []) (sym w);
    }

    pub laid-output : {new : List ℕ} {to : ℕ} → Appends ws new at (formed words marks kept j) to → LaidNodes new (set counts j (to - at)) to (done (j + 1))
    laid-output {new} {to} p =
        let k : to - at ≡ length (formed words marks kept j) = omega (arith, p.next) in
        let e : at + (to - at) ≡ to = omega (arith, p.next) in
        subst (λ (z : ℕ). LaidNodes new (set counts j (to - at)) z (done (j + 1))) e
        (subst (LaidNodes new (set counts j (to - at)) (at + (to - at))) (sym (map-from (formed words marks kept) j))
        (laid_next l (sym (done-length j)) (omega (arith, b.outputs)) k p.placed))

  -- all of them
  pub laid-outputs : {ws counts : List ℕ} {at j : ℕ} (n : ℕ) → j ≡ m → LaidNodes ws counts at (done j)
      → Holds (record { inputs = n; outputs = m; divisors = 0; counts = counts; words = ws }) (net_from n m words marks kept)
  laid-outputs {ws} {counts} {at} n e l =
      laid-holds (subst (λ (z : ℕ). LaidNodes ws counts at (done z)) e l) (net_from n m words marks kept) (append-nil (done m)) refl (sym (done-length m)) refl

-- The literals that a step saves are its weight. Assumes nothing.
use Prim.Native.Nat.{ℕ, suc, ◌+◌, ◌*◌, ◌-◌, ◌<◌, ◌≤◌}
use mathlib.Core.Path.{◌≡◌, refl, sym, ap, ◌∙◌}
use mathlib.Core.Bool.{true, false, not}
use mathlib.Core.List.Memᴰ
use mathlib.Core.List.{List, map}
use native.Mathlib.Nat.{add-zero}
use native.Mathlib.Omega.{arith}
use lib.Dec.{ltb}
use lib.ListN.{length}
use lib.IntN.{ℤ, pos, negsuc, neg_ℤ, ◌+ℤ◌, ◌-ℤ◌, neg_ℤ-neg_ℤ, neg_ℤ-+ℤ, +ℤ_comm, +ℤ_assoc, +ℤ-neg_ℤ_cancel, -ℤ-+ℤ_cancel}
use lib.Signed.{lt_z}
use borrow.Author.Tests.{ltb-true}
use Rattle.sets.specs.Lists.{keep, total}
use Rattle.sets.specs.Sets.{mem, without, same}
use Rattle.sets.proofs.Truth.{both, clash}
use Rattle.sets.proofs.Lists.{◌∈◌, keep-in, keep_out, map-in, map-out, total-append, total-map, total-const, total-sum, total-times, total-split}
use Rattle.sets.proofs.Lists.{total-or, total-same, pairwise-keep, pairwise_map}
use Rattle.sets.proofs.Sets.{without-mem, without-asc, insert-length, union-length, length-rejoin, same_self}
use Rattle.expression.{specs.Expression.expression, specs.Expression.literals_of, proofs.Sorting.total-sort}
use Rattle.network.specs.Net.{Net, nodes, literal_count}
use Rattle.network.specs.Meaning.{Reads}
use Rattle.extract_laws.specs.Divisor.{Divisor, pair, sum, own, small, sound, use_of, part, hit, gone, found, bases, uses, swap, rewrite}
use Rattle.extract_laws.specs.Extract.{next_free, step, all_uses, bases_literals, weight, gain_in}
use Rattle.extract_laws.specs.Meaning.{Good, Parts, other, Partner}
use Rattle.extract_laws.proofs.Using.{cube-asc, cubes-differ, differ-in, differ-out, sum-parts, part-asc, use-out, use-partner, hit-inside, use-one-way}
use Rattle.extract_laws.proofs.{Replacing.new-absent, Making.below_free, Making.step-total}

-- ---- sums over the cubes of a rewriting

module _ (x : ℕ) (d : Divisor) (f : List (List ℕ)) (g : List ℕ → ℕ) where
  rewrite-total : total g (rewrite x d f) ≡ total (λ c. g (swap x (part d) c)) (found d f) + total g (keep (λ c. not (gone d f c)) f)
  unfolding rewrite
  rewrite-total = total-sort g _ ∙ total-append g (map (swap x (part d)) (found d f)) _
      ∙ ap (◌+ total g (keep (λ c. not (gone d f c)) f)) (total-map g (swap x (part d)) (found d f))

-- the cubes of a sum's uses, base ∪ b counted beside base ∪ a
module _ (a b : List ℕ) (w : Parts a b) (f : List (List ℕ)) (e : expression f ≡ true) (g : List ℕ → ℕ) where
  forth : {c : List ℕ} → c ∈ keep (use_of a b f) f → Partner a b f c
  forth m = let p = keep_out (use_of a b f) f m in use-partner a b w.asc-a w.asc-b f e p.0 p.1

  back : {c : List ℕ} → c ∈ keep (use_of b a f) f → Partner b a f c
  back m = let p = keep_out (use_of b a f) f m in use-partner b a w.asc-b w.asc-a f e p.0 p.1

  partners : total g (keep (use_of b a f) f) ≡ total (λ c. g (other a b c)) (keep (use_of a b f) f)
  partners =
      total-same (λ c d. not (same c d)) (λ c d h. differ-in d c (λ p. differ-out c d h (sym p))) (λ c. ap not (same_self c)) g
      (keep (use_of b a f) f) (map (other a b) (keep (use_of a b f) f))
      (pairwise-keep (λ c d. not (same c d)) (use_of b a f) f (cubes-differ f e))
      (pairwise_map (λ c d. not (same c d)) (λ c d. not (same c d)) (other a b) (keep (use_of a b f) f)
      (λ c d m n h. differ-in (other a b c) (other a b d) (λ p. differ-out c d h (sym (forth m).back ∙ ap (other b a) p ∙ (forth n).back)))
      (pairwise-keep (λ c d. not (same c d)) (use_of a b f) f (cubes-differ f e)))
      (λ c m. Memᴰ.cast (sym (back m).back) (map-in (other a b) (keep-in (use_of a b f) (back m).inside (back m).turned)))
      (λ c m. let q = map-out (other a b) (keep (use_of a b f) f) m in
      Memᴰ.cast q.2 (keep-in (use_of b a f) (forth q.1).inside (forth q.1).turned))
      ∙ total-map g (other a b) (keep (use_of a b f) f)

  -- all cubes: those of the uses, and the rest
  sum-total : total g f ≡ (total g (keep (use_of a b f) f) + total (λ c. g (other a b c)) (keep (use_of a b f) f)) + total g
      (keep (λ c. not (gone (sum a b) f c)) f)
  sum-total =
      total-split g (gone (sum a b) f) f
      ∙ ap (◌+ total g (keep (λ c. not (gone (sum a b) f c)) f))
      (total-or g (use_of a b f) (use_of b a f) f (λ c m. use-one-way a b w f c) ∙ ap (total g (keep (use_of a b f) f) +◌) partners)

-- ---- what a divisor saves in one expression

module _ (k : ℕ) (d : Divisor) (s : sound d ≡ true) (f : List (List ℕ)) (e : expression f ≡ true) (u : (v : ℕ) → Reads f v → v < k) where
  abbrev base : List ℕ → ℕ
  base c = length (without c (part d))

  new-cubes : total (λ c. length (swap (2 * k) (part d) c)) (found d f) ≡ total base (found d f) + uses d f
  unfolding swap
  new-cubes =
      total-const (λ c. length (swap (2 * k) (part d) c)) base 1 (found d f) (λ c m.
      let n : mem (2 * k) (without c (part d)) ≡ false = rw (without-mem, new-absent k d f e u (keep_out (hit d f) f m).0 (2 * k) (omega arith)) in
      omega (arith, insert-length (2 * k) (without c (part d)) n))
      ∙ omega arith

  old-cubes : total length (found d f) ≡ total base (found d f) + uses d f * length (part d)
  old-cubes = total-const length base (length (part d)) (found d f) (λ c m. let i = keep_out (hit d f) f m in
      length-rejoin c (part d) (cube-asc f e i.0) (part-asc d s) (hit-inside d f c i.1))

saved : (u la lb k B rest new ab ba whole : ℕ) → la + lb ≡ suc k → ab ≡ B + u * la → ba ≡ B + u * lb → new ≡ (B + u) + rest → whole ≡ (ab + ba) + rest
    → whole ≡ new + (B + u * k)
saved u la lb k B rest new ab ba whole e h1 h2 h3 h4 = omega (arith, ap (u *◌) e)

saves : (k : ℕ) (d : Divisor) → sound d ≡ true → (f : List (List ℕ)) → expression f ≡ true → ((v : ℕ) → Reads f v → v < k)
    → literals_of f ≡ literals_of (rewrite (2 * k) d f) + gain_in d f
unfolding small
saves k (pair p q) s f e u =
    let d = pair p q in
    omega (arith, rewrite-total (2 * k) d f length, new-cubes k d s f e u, old-cubes k d s f e u, total-split length (hit d f) f)
saves k (sum a b) s f e u =
    let w = sum-parts a b s in
    rw (total-map length (λ c. without c a) (keep (use_of a b f) f))
    (saved (uses (sum a b) f) (length a) (length b) ((length a + length b) - 1) (total (λ c. length (without c a)) (keep (use_of a b f) f))
    (total length (keep (λ c. not (gone (sum a b) f c)) f)) _ _ _ _
    (let l = ltb-true 0 (length a) (both (ltb 0 (length a)) _ w.small-a).0 in omega arith)
    (old-cubes k (sum a b) s f e u)
    (total-const (λ c. length (other a b c)) (λ c. length (without c a)) (length b) (keep (use_of a b f) f)
    (λ c m. let p = keep_out (use_of a b f) f m in
    union-length (without c a) b (without-asc c a (cube-asc f e p.0)) (use-out a b f c p.1).free))
    (rewrite-total (2 * k) (sum a b) f length ∙ ap (◌+ total length (keep (λ c. not (gone (sum a b) f c)) f)) (new-cubes k (sum a b) s f e u))
    (sum-total a b w f e length))

-- ---- in a network

gain-sum : (n : Net) (a b : List ℕ) → total (gain_in (sum a b)) (nodes n) ≡ bases_literals n (sum a b) + all_uses n (sum a b) * ((length a + length b) - 1)
unfolding all_uses bases_literals
gain-sum n a b = omega (
  arith,
  total-sum (gain_in (sum a b)) (λ f. literals_of (bases (sum a b) f)) (λ f. uses (sum a b) f * ((length a + length b) - 1)) (nodes n) (λ f m. refl),
  total-times (uses (sum a b)) ((length a + length b) - 1) (nodes n),
)

-- the weight is what is saved in all nodes, less the literals of the divisor's own
pub gained : (n : Net) (d : Divisor) → weight n d ≡ pos (total (gain_in d) (nodes n)) -ℤ pos (literals_of (own d))
unfolding weight all_uses
gained n (pair p q) = refl
gained n (sum a b) = rw (gain-sum n a b, add-zero (length b))

minus : (t g l s : ℕ) → t + g ≡ l + s → pos t ≡ pos l -ℤ (pos g -ℤ pos s)
minus t g l s e = sym (
    ap (pos l +ℤ◌) (neg_ℤ-+ℤ (pos g) (neg_ℤ (pos s)) ∙ ap (neg_ℤ (pos g) +ℤ◌) (neg_ℤ-neg_ℤ (pos s)) ∙ +ℤ_comm (neg_ℤ (pos g)) (pos s))
    ∙ sym (+ℤ_assoc (pos l) (pos s) (neg_ℤ (pos g)))
    ∙ ap (λ z. pos z +ℤ neg_ℤ (pos g)) (sym e)
    ∙ +ℤ-neg_ℤ_cancel (pos t) (pos g))

module _ (n : Net) (g : Good n) (d : Divisor) (s : sound d ≡ true) where
  total-saved : literal_count n ≡ total (λ f. literals_of (rewrite (2 * next_free n) d f)) (nodes n) + total (gain_in d) (nodes n)
  total-saved = total-sum literals_of (λ f. literals_of (rewrite (2 * next_free n) d f)) (gain_in d) (nodes n)
      (λ f m. saves (next_free n) d s f (g.expressions f m) (below_free n g f m))

  -- no more is saved than there is
  pub saved-within : total (gain_in d) (nodes n) ≤ literal_count n
  saved-within = omega (arith, total-saved)

  -- a step takes exactly the weight off the literal count
  pub step-literals : pos (literal_count (step n d)) ≡ pos (literal_count n) -ℤ weight n d
  step-literals = rw (gained n d) (minus (literal_count (step n d)) (total (gain_in d) (nodes n)) (literal_count n) (literals_of (own d))
      (omega (arith, step-total n d literals_of, total-saved)))

  abbrev Falls : ℤ → Type 0
  Falls z = (w : ℕ) × (z ≡ pos w) × (0 < w) × (literal_count (step n d) + w ≡ literal_count n)

  -- so a weight above 0 is a number that the count falls by
  pub step_falls : lt_z (pos 0) (weight n d) ≡ true → Falls (weight n d)
  step_falls w = go (weight n d) w step-literals
    where
      go : (z : ℤ) → lt_z (pos 0) z ≡ true → pos (literal_count (step n d)) ≡ pos (literal_count n) -ℤ z → Falls z
      go (pos m) h e = let q = ap (◌+ℤ pos m) e ∙ -ℤ-+ℤ_cancel (pos (literal_count n)) (pos m) in (m, refl, ltb-true 0 m h, cc)
      go (negsuc m) h e = clash h refl

  -- and makes the network smaller
  pub step-smaller : lt_z (pos 0) (weight n d) ≡ true → literal_count (step n d) < literal_count n
  step-smaller w = let f = step_falls w in omega (arith, f.2, f.3)

-- What divisors read after a step: what they read before, or the new one, which reads no more than those that it stands in; so none reads
-- itself through others. Assumes nothing.
use Prim.Native.Nat.{ℕ, ◌*◌, ◌<◌}
use mathlib.Core.Path.{◌≡◌, refl, sym, ap, subst}
use mathlib.Core.Logic.{◌⊎◌, inl, inr}
use mathlib.Core.{Bool.true, List.List, List.map}
use native.Mathlib.Omega.{arith}
use lib.ListN.{length-map}
use Rattle.sets.proofs.Lists.{◌∈◌}
use Rattle.network.specs.{Net.Node, Net.Net, Meaning.Reads, Meaning.Through, Meaning.Through.itself, Meaning.Through.others}
use Rattle.network.proofs.Numbering.{in-divisor, numbered-range}
use Rattle.extract_laws.specs.Divisor.{Divisor, own, hit}
use Rattle.extract_laws.specs.{Extract.next_free, Extract.step, Meaning.Good, Meaning.Fit}
use Rattle.extract_laws.proofs.Replacing.{rewrite-reads, own-reads}
use Rattle.extract_laws.proofs.Making.{next-free, below_free, step-divisor}

module _ (n : Net) (g : Good n) (d : Divisor) (fit : Fit n d) where
  old_below : {c : Node} → c ∈ n.divisors → c.number < next_free n
  old_below {c} m =
      let r = numbered-range n.inputs (map (λ (e : Node). e.cubes) n.divisors) c (subst (λ (l : List Node). c ∈ l) g.in_turn m) in
      omega (arith, next-free n, r.1, length-map n.divisors (λ (e : Node). e.cubes))

  -- what the node of the number u read before the step: an old one what its expression did, the new one what the divisor does
  abbrev From : ℕ → ℕ → Type 0
  From u w = ((c : Node) × (c ∈ n.divisors) × (u ≡ c.number) × Reads c.cubes w) ⊎ ((u ≡ next_free n) × Reads (own d) w)

  -- w is the divisor v or reads it through others
  abbrev Onto : ℕ → ℕ → Type 0
  Onto w v = Through n w v ⊎ ((c : Node) × (c ∈ n.divisors) × (w ≡ c.number) × (v ≡ c.number))

  abbrev Lead : ℕ → ℕ → Type 0
  Lead u v = (w : ℕ) × From u w × Onto w v

  -- the divisor has a use in the node
  abbrev Hit : Node → Type 0
  Hit c = (b : List ℕ) × (b ∈ c.cubes) × (hit d c.cubes b ≡ true)

  from-below : (u w : ℕ) → From u w → w < next_free n
  from-below u w (inl (c, m, p, r)) = below_free n g c.cubes (in-divisor n m) w r
  from-below u w (inr (p, r)) = omega (arith, next-free n, fit.known w r)

  after : {c : Node} {w v : ℕ} → c ∈ n.divisors → Reads c.cubes w → Through n w v → Through n c.number v
  after m r (itself i j q) = others m i r (itself i j q)
  after m r (others i j q t) = others m i r (others i j q t)

  join : {c : Node} {w v : ℕ} → c ∈ n.divisors → Reads c.cubes w → Onto w v → Through n c.number v
  join m r (inl t) = after m r t
  join {c} m r (inr (h, i, p, q)) = rw q (itself m i (subst (Reads c.cubes) p r))

  compose : {u x v : ℕ} → From u x → Lead x v → Lead u v
  compose {u} {x} {v} f (w, inl (c, j, p, r), o) = (x, f, inl (subst (λ z. Through n z v) (sym p) (join j r o)))
  compose {u} {x} {v} f (w, inr (p, r), o) = absurd (omega (arith, from-below u x f))

  -- a divisor reads after the step what it read before, or the new one, where it has a use
  edge : (e : Node) → e ∈ (step n d).divisors → (v : ℕ) → Reads e.cubes v
      → From e.number v ⊎ ((v ≡ next_free n) × ((c : Node) × (c ∈ n.divisors) × (e.number ≡ c.number) × Hit c))
  edge e m v r = elim (step-divisor n d e m) [
    | inl (c, i, p) ↦ elim (rewrite-reads (2 * next_free n) d c.cubes v (subst (λ (z : Node). Reads z.cubes v) p r)) [
      | inl (q, h) ↦ inr (omega arith, (c, i, ap (λ (z : Node). z.number) p, h))
      | inr q ↦ inl (inl (c, i, ap (λ (z : Node). z.number) p, q))
    ]
    | inr p ↦ inl (inr (ap (λ (z : Node). z.number) p, subst (λ (z : Node). Reads z.cubes v) p r))
  ]

  -- what leads to an old divisor led there before
  lead : {u v : ℕ} → Through (step n d) u v → v < next_free n → Lead u v
  lead (itself {e = e} {g = h} m i r) l = elim (edge e m h.number r) [
    | inl f ↦ elim (step-divisor n d h i) [
      | inl (c, j, p) ↦ (h.number, f, inr (c, j, ap (λ (z : Node). z.number) p, ap (λ (z : Node). z.number) p))
      | inr p ↦ absurd (omega (arith, ap (λ (z : Node). z.number) p))
    ]
    | inr (q, w) ↦ absurd (omega arith)
  ]
  lead {v = v} (others {e = e} {g = h} m i r t) l = go (edge e m h.number r) (lead t l)
    where
      go : From e.number h.number ⊎ ((h.number ≡ next_free n) × ((c : Node) × (c ∈ n.divisors) × (e.number ≡ c.number) × Hit c))
          → Lead h.number v → Lead e.number v
      go (inl f) k = compose f k
      go (inr (q, (c, j, p, b))) (w, inl (a, x, y, z), o) = absurd (omega (arith, old_below x))
      go (inr (q, (c, j, p, b))) (w, inr (y, z), o) = (w, inl (c, j, p, own-reads d c.cubes b.0 b.1 b.2 w z), o)

  -- what leads to the new one is a divisor with a use, or led to one
  turn : {u v : ℕ} → Through (step n d) u v → v ≡ next_free n → (c : Node) × (c ∈ n.divisors) × Hit c × ((u ≡ c.number) ⊎ Lead u c.number)
  turn (itself {e = e} {g = h} m i r) q = elim (edge e m h.number r) [
    | inl f ↦ absurd (omega (arith, from-below e.number h.number f))
    | inr (z, (c, j, p, b)) ↦ (c, j, b, inl p)
  ]
  turn (others {e = e} {g = h} m i r t) q = go (edge e m h.number r) (turn t q)
    where
      go : From e.number h.number ⊎ ((h.number ≡ next_free n) × ((c : Node) × (c ∈ n.divisors) × (e.number ≡ c.number) × Hit c))
          → (c : Node) × (c ∈ n.divisors) × Hit c × ((h.number ≡ c.number) ⊎ Lead h.number c.number)
          → (c : Node) × (c ∈ n.divisors) × Hit c × ((e.number ≡ c.number) ⊎ Lead e.number c.number)
      go (inl f) (c, j, b, inl p) = (c, j, b, inr (h.number, f, inr (c, j, p, refl)))
      go (inl f) (c, j, b, inr k) = (c, j, b, inr (compose f k))
      go (inr (z, (c, j, p, b))) k = (c, j, b, inl p)

  which : (e : Node) → e ∈ (step n d).divisors → (e.number < next_free n) ⊎ (e.number ≡ next_free n)
  which e m = elim (step-divisor n d e m)
      [ inl (c, i, p) ↦ inl (rw (ap (λ (z : Node). z.number) p) (old_below i)) | inr p ↦ inr (ap (λ (z : Node). z.number) p) ]

  starts : {u v : ℕ} → Through (step n d) u v → (u < next_free n) ⊎ (u ≡ next_free n)
  starts (itself {e = e} m i r) = which e m
  starts (others {e = e} m i r t) = which e m

  -- no divisor reads itself through others
  pub step-acyclic : (v : ℕ) → Through (step n d) v v → ⊥
  step-acyclic v t = elim (starts t) [ inl l ↦ old l (lead t l) | inr q ↦ new q (turn t q) ]
    where
      old : v < next_free n → Lead v v → ⊥
      old l (w, inl (c, j, p, r), o) = g.acyclic v (subst (λ z. Through n z v) (sym p) (join j r o))
      old l (w, inr (p, r), o) = omega arith

      new : v ≡ next_free n → (c : Node) × (c ∈ n.divisors) × Hit c × ((v ≡ c.number) ⊎ Lead v c.number) → ⊥
      new q (c, j, b, inl p) = omega (arith, old_below j)
      new q (c, j, b, inr (w, inl (h, i, p, r), o)) = omega (arith, old_below i)
      new q (c, j, b, inr (w, inr (p, r), o)) = g.acyclic c.number (join j (own-reads d c.cubes b.0 b.1 b.2 w r) o)

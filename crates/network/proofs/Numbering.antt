-- Divisors numbered from v on have the numbers v, v + 1, .., and so numbers of their own. Assumes nothing.
use Prim.Native.Nat.{ℕ, zero, suc, ◌+◌, ◌-◌, ◌/◌, ◌<◌, ◌≤◌}
use mathlib.Core.Path.{◌≡◌, refl, sym, ap, ◌∙◌, subst}
use mathlib.Core.Logic.{inl, inr, ◌↔◌}
use mathlib.Core.Bool.{Bool, true, or-true}
use mathlib.Core.List.Memᴰ
use mathlib.Core.List.Memᴰ.{head as here}
use mathlib.Core.List.Memᴰ.{tail as there}
use mathlib.Core.List.{List, [], ◌∷◌, map}
use native.Mathlib.Omega.{arith}
use lib.Dec.{leb, ltb, eqb}
use lib.ListN.{length, get_or}
use borrow.Author.Tests.{eqb-true, eq-eqb, ne_eqb, leb-true, ltb-true, ltb-false, lt-ltb}
use Rattle.sets.{specs.Lists.all, specs.Lists.from, specs.Sets.asc, specs.Sets.mem, proofs.Places.at_in}
use Rattle.sets.proofs.Truth.{both, either, decided, clash, iff}
use Rattle.sets.proofs.Lists.{◌∈◌, all_in, all-out, all-cong, map-in, map-out, ahead}
use Rattle.sets.proofs.Sets.{from-asc, from-mem, mem-of, of_mem}
use Rattle.network.specs.Net.{Node, Net, nodes, variables, HasVariable, known, over, cubes_at}
use Rattle.network.specs.Meaning.{Reads, IsVariable, Closed, Distinct}
use Rattle.network.specs.Held.{numbered, number_at, place_at, reach}

-- ---- the number of a divisor and its place among the nodes

-- the divisor with the number of place i stands there, after the outputs
pub place-number : (inputs outputs i : ℕ) → place_at inputs outputs (number_at inputs i) ≡ outputs + i
place-number inputs outputs i = omega arith

-- and a divisor has the number of its place
pub number-place : (inputs outputs v : ℕ) → inputs ≤ v → number_at inputs (place_at inputs outputs v - outputs) ≡ v
number-place inputs outputs v h = omega arith

-- ---- divisors numbered in turn

-- the nodes are the outputs and the divisors
pub in-output : (n : Net) {f : List (List ℕ)} → f ∈ n.outputs → f ∈ nodes n
in-output n m = Memᴰ.append_left (map (λ (e : Node). e.cubes) n.divisors) m

pub in-divisor : (n : Net) {e : Node} → e ∈ n.divisors → e.cubes ∈ nodes n
in-divisor n m = Memᴰ.append_right n.outputs (map-in (λ (e : Node). e.cubes) m)

pub numbered-length : (v : ℕ) (fs : List (List (List ℕ))) → length (numbered v fs) ≡ length fs
unfolding numbered
numbered-length v [] = refl
numbered-length v (f ∷ fs) = ap suc (numbered-length (suc v) fs)

pub numbered-numbers : (v : ℕ) (fs : List (List (List ℕ))) → map (λ (e : Node). e.number) (numbered v fs) ≡ from v (length fs)
unfolding numbered from
numbered-numbers v [] = refl
numbered-numbers v (f ∷ fs) = ap (v ∷◌) (numbered-numbers (suc v) fs)

pub numbered-cubes : (v : ℕ) (fs : List (List (List ℕ))) → map (λ (e : Node). e.cubes) (numbered v fs) ≡ fs
unfolding numbered
numbered-cubes v [] = refl
numbered-cubes v (f ∷ fs) = ap (f ∷◌) (numbered-cubes (suc v) fs)

-- the numbers are from v on, as many as there are expressions
pub numbered-range : (v : ℕ) (fs : List (List (List ℕ))) (e : Node) → e ∈ numbered v fs → (v ≤ e.number) × (e.number < v + length fs)
numbered-range v fs e m =
    let i : mem e.number (from v (length fs)) ≡ true = rw (numbered-numbers v fs) at (mem-of (map-in (λ (g : Node). g.number) m)) in
    let q = both (leb v e.number) (ltb e.number (v + length fs)) (sym (from-mem v (length fs) e.number) ∙ i) in
    (leb-true v e.number q.0, ltb-true e.number (v + length fs) q.1)

-- the divisor at place i has the number of that place
pub numbered-get : (v : ℕ) (fs : List (List (List ℕ))) (i : ℕ) (d : Node) → i < length fs
    → get_or (numbered v fs) i d ≡ record { number = number_at v i; cubes = get_or fs i [] }
unfolding numbered
numbered-get v [] i d h = absurd (omega arith)
numbered-get v (f ∷ fs) zero d h = let e : v + 0 ≡ v = omega arith in rw e
numbered-get v (f ∷ fs) (suc i) d h = let e : v + suc i ≡ suc v + i = omega arith in rw e (numbered-get (suc v) fs i d (omega arith))

-- and each of those numbers is there, with its expression
pub numbered-in : (v : ℕ) (fs : List (List (List ℕ))) (i : ℕ) → i < length fs → record { number = v + i; cubes = get_or fs i [] } ∈ numbered v fs
numbered-in v fs i h =
    let d : Node = record { number = 0; cubes = [] } in
    subst (λ e. e ∈ numbered v fs) (numbered-get v fs i d h) (at_in (numbered v fs) i d (omega (arith, numbered-length v fs)))

-- where it is found by its number
pub numbered-at : (v : ℕ) (fs : List (List (List ℕ))) (i : ℕ) → cubes_at (v + i) (numbered v fs) ≡ get_or fs i []
unfolding numbered cubes_at
numbered-at v [] i = refl
numbered-at v (f ∷ fs) zero = rw (eq-eqb (v + 0) v (omega arith))
numbered-at v (f ∷ fs) (suc i) =
    let e : v + suc i ≡ suc v + i = omega arith in rw (ne_eqb (v + suc i) v (λ p. omega arith)) (ap (λ (u : ℕ). cubes_at u (numbered (suc v) fs)) e ∙ numbered-at (suc v) fs i)

found_at : (l : List Node) → ((e g : Node) → e ∈ l → g ∈ l → e.number ≡ g.number → e ≡ g) → {e : Node} → e ∈ l → cubes_at e.number l ≡ e.cubes
unfolding cubes_at
found_at [] u m = absurd (Memᴰ.not-nil m)
found_at (x ∷ l) u {e} m = elim (decided (eqb e.number x.number)) [
  | inl p ↦ rw p (ap (λ (z : Node). z.cubes) (u x e (here refl) m (sym (eqb-true e.number x.number p))))
  | inr p ↦ rw p (elim (Memᴰ.cases_cons m) [
    | inl q ↦ clash (eq-eqb e.number x.number (ap (λ (z : Node). z.number) q)) p
    | inr i ↦ found_at l (λ a b j k. u a b (there j) (there k)) i
  ])
]

-- ---- numbers of their own

-- numbered so, divisors have numbers of their own
pub numbered-distinct : (n : Net) (fs : List (List (List ℕ))) → n.divisors ≡ numbered n.inputs fs → Distinct n
numbered-distinct n fs e = record {
  ascending = rw (e, numbered-numbers n.inputs fs) (from-asc n.inputs (length fs));
  above = λ g m. (numbered-range n.inputs fs g (subst (λ (l : List Node). g ∈ l) e m)).0;
}

-- where numbers ascend, the first is below the others, which ascend
pub numbers-ahead : (e : Node) (l : List Node) → asc (map (λ (z : Node). z.number) (e ∷ l)) ≡ true
    → ((g : Node) → g ∈ l → e.number < g.number) × (asc (map (λ (z : Node). z.number) l) ≡ true)
numbers-ahead e l h =
    let q = ahead ltb e.number (map (λ (z : Node). z.number) l) h in
    (λ g m. ltb-true e.number g.number (all-out (ltb e.number) (map-in (λ (z : Node). z.number) m) q.0), q.1)

module _ (n : Net) (d : Distinct n) where
  -- two divisors with one number are one
  pub distinct-same : {e g : Node} → e ∈ n.divisors → g ∈ n.divisors → e.number ≡ g.number → e ≡ g
  distinct-same i j p = go n.divisors d.ascending i j p
    where
      go : (l : List Node) → asc (map (λ (z : Node). z.number) l) ≡ true → {e g : Node} → e ∈ l → g ∈ l → e.number ≡ g.number → e ≡ g
      go [] h i j p = absurd (Memᴰ.not-nil i)
      go (x ∷ l) h {e} {g} i j p =
          let q = numbers-ahead x l h in
          elim (Memᴰ.cases_cons i) [
            | inl a ↦ elim (Memᴰ.cases_cons j) [ inl b ↦ a ∙ sym b | inr b ↦ absurd (omega (arith, q.0 g b, ap (λ (z : Node). z.number) a)) ]
            | inr a ↦ elim (Memᴰ.cases_cons j) [ inl b ↦ absurd (omega (arith, q.0 e a, ap (λ (z : Node). z.number) b)) | inr b ↦ go l q.1 a b p ]
          ]

  -- so a divisor's expression is found by its number
  pub cubes-at : {e : Node} → e ∈ n.divisors → cubes_at e.number n.divisors ≡ e.cubes
  cubes-at m = found_at n.divisors (λ e g i j p. distinct-same i j p) m

-- ---- every literal is of a variable that passes a test exactly when every variable read passes it

module _ (p : ℕ → Bool) (f : List (List ℕ)) where
  pub read-passes : all (all (λ l. p (l / 2))) f ≡ true → (v : ℕ) → Reads f v → p v ≡ true
  read-passes h v (c, i, (l, j, e)) = rw e (all-out (λ x. p (x / 2)) j (all-out (all (λ x. p (x / 2))) i h))

  pub passes-read : ((v : ℕ) → Reads f v → p v ≡ true) → all (all (λ l. p (l / 2))) f ≡ true
  passes-read k = all_in (all (λ x. p (x / 2))) f (λ c i. all_in (λ x. p (x / 2)) c (λ l j. k (l / 2) (c, i, (l, j, refl))))

pub reach-out : (k : ℕ) (fs : List (List (List ℕ))) → all (reach k) fs ≡ true → (f : List (List ℕ)) → f ∈ fs → (v : ℕ) → Reads f v → v < k
reach-out k fs h f m v r = ltb-true v k (read-passes (λ x. ltb x k) f (all-out (reach k) m h) v r)

pub reach-in : (k : ℕ) (fs : List (List (List ℕ))) → ((f : List (List ℕ)) → f ∈ fs → (v : ℕ) → Reads f v → v < k) → all (reach k) fs ≡ true
reach-in k fs r = all_in (reach k) fs (λ f m. passes-read (λ x. ltb x k) f (λ v q. lt-ltb v k (r f m v q)))

-- ---- the variables of a network

module _ (n : Net) where
  -- the test is passed by exactly the inputs and the numbers of divisors
  pub known-iff : (v : ℕ) → (known n v ≡ true) ↔ IsVariable n v
  known-iff v = (into, back)
    where
      numbers : List ℕ
      numbers = map (λ (e : Node). e.number) n.divisors

      into : known n v ≡ true → IsVariable n v
      into h = elim (either (ltb v n.inputs) (mem v numbers) h) [
        | inl t ↦ inl (ltb-true v n.inputs t)
        | inr t ↦ inr (map-out (λ (e : Node). e.number) n.divisors (of_mem v numbers t))
      ]

      back : IsVariable n v → known n v ≡ true
      back (inl h) = rw (lt-ltb v n.inputs h)
      back (inr (e, m, p)) = rw (p, mem-of (map-in (λ (g : Node). g.number) m)) (or-true (ltb e.number n.inputs))

  -- every literal is of a variable exactly when every variable read is one
  pub over-out : (fs : List (List (List ℕ))) → all (over n) fs ≡ true → (f : List (List ℕ)) → f ∈ fs → (v : ℕ) → Reads f v → IsVariable n v
  over-out fs h f m v r = (known-iff v).0 (read-passes (known n) f (all-out (over n) m h) v r)

  pub over-in : (fs : List (List (List ℕ))) → ((f : List (List ℕ)) → f ∈ fs → (v : ℕ) → Reads f v → IsVariable n v) → all (over n) fs ≡ true
  over-in fs r = all_in (over n) fs (λ f m. passes-read (known n) f (λ v q. (known-iff v).1 (r f m v q)))

  -- the expressions read inputs and divisors only
  pub nodes-closed : ((f : List (List ℕ)) → f ∈ nodes n → (v : ℕ) → Reads f v → IsVariable n v) → Closed n
  nodes-closed k = record { outputs = λ f m. k f (in-output n m); divisors = λ g m. k g.cubes (in-divisor n m) }

-- ---- numbered from the inputs on, they are the numbers below theirs

module _ (n : Net) (fs : List (List (List ℕ))) (e : n.divisors ≡ numbered n.inputs fs) where
  pub known-below : (v : ℕ) → IsVariable n v → HasVariable n v
  known-below v (inl h) = omega arith
  known-below v (inr (g, m, p)) =
      let r = numbered-range n.inputs fs g (subst (λ (l : List Node). g ∈ l) e m) in
      omega (arith, r.1, ap length e, numbered-length n.inputs fs)

  pub below-known : (v : ℕ) → HasVariable n v → IsVariable n v
  below-known v h = elim (decided (ltb v n.inputs)) [
    | inl t ↦ inl (ltb-true v n.inputs t)
    | inr t ↦
        let k = ltb-false v n.inputs t in
        let i = v - n.inputs in
        let h : i < length fs = omega (arith, ap length e, numbered-length n.inputs fs) in
        inr (record { number = number_at n.inputs i; cubes = get_or fs i [] }, rw e (numbered-in n.inputs fs i h), omega arith)
  ]

  pub known-turn : (v : ℕ) → known n v ≡ ltb v (variables n)
  known-turn v = iff
      (λ h. lt-ltb v (variables n) (known-below v ((known-iff n v).0 h)))
      (λ h. (known-iff n v).1 (below-known v (ltb-true v (variables n) h)))

  pub over-turn : (f : List (List ℕ)) → over n f ≡ reach (variables n) f
  over-turn f = all-cong _ _ f (λ c m. all-cong _ _ c (λ l i. known-turn (l / 2)))

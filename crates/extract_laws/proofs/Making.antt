-- What a step makes of a network's nodes: another expression in place of each, and the divisor's own at the end. Assumes nothing.
use Prim.Native.Nat.{ℕ, suc, ◌+◌, ◌*◌, ◌<◌}
use mathlib.Core.Path.{◌≡◌, refl, sym, ap, ◌∙◌}
use mathlib.Core.Logic.{◌⊎◌, inl, inr}
use mathlib.Core.List.Memᴰ
use mathlib.Core.List.{List, [], ◌∷◌, ◌++◌, map, map-append, append_assoc}
use native.Mathlib.Omega.{arith}
use lib.ListN.{length, length-append, length-map}
use Rattle.sets.specs.Lists.{total}
use Rattle.sets.proofs.Lists.{◌∈◌, total-append, total-map, map-out}
use Rattle.network.specs.Net.{Node, Net, nodes, variables}
use Rattle.network.specs.{Meaning.Reads, Held.numbered, Rules.InTurn}
use Rattle.network.proofs.Mapping.{cubes-map, numbered-map, mapped-nodes}
use Rattle.extract_laws.specs.Divisor.{Divisor, own, rewrite}
use Rattle.extract_laws.specs.Extract.{redo, next_free, step}
use Rattle.extract_laws.specs.Meaning.{Good}

-- the expressions of divisors
abbrev pub cubes : List Node → List (List (List ℕ))
cubes l = map (λ (e : Node). e.cubes) l

numbered-snoc : (v : ℕ) (fs : List (List (List ℕ))) (f : List (List ℕ))
    → numbered v (fs ++ (f ∷ [])) ≡ numbered v fs ++ (record { number = v + length fs; cubes = f } ∷ [])
unfolding numbered
numbered-snoc v [] f = let e : v + 0 ≡ v = omega arith in rw e
numbered-snoc v (g ∷ fs) f = let e : v + suc (length fs) ≡ suc v + length fs = omega arith in
    rw e (ap (record { number = v; cubes = g } ∷◌) (numbered-snoc (suc v) fs f))

-- ---- a step

pub next-free : (n : Net) → next_free n ≡ variables n
unfolding next_free
next-free n = refl

-- every variable that a good network reads is below the next free number
pub below_free : (n : Net) → Good n → (f : List (List ℕ)) → f ∈ nodes n → (v : ℕ) → Reads f v → v < next_free n
unfolding next_free
below_free n g = g.known

module _ (n : Net) (d : Divisor) where
  -- each node is rewritten, and the last is the divisor's own
  pub step-nodes : nodes (step n d) ≡ map (rewrite (2 * next_free n) d) (nodes n) ++ (own d ∷ [])
  step-nodes =
      ap (map (rewrite (2 * next_free n) d) n.outputs ++◌)
      (map-append (λ (e : Node). e.cubes) (map (redo (2 * next_free n) d) n.divisors) (record { number = next_free n; cubes = own d } ∷ []))
      ∙ sym (append_assoc (map (rewrite (2 * next_free n) d) n.outputs) (cubes (map (redo (2 * next_free n) d) n.divisors)) (own d ∷ []))
      ∙ ap (◌++ (own d ∷ [])) (mapped-nodes (rewrite (2 * next_free n) d) n)

  -- so a node is the divisor's own, or a rewritten one
  pub step-node : (f : List (List ℕ)) → f ∈ nodes (step n d) → (f ≡ own d) ⊎ ((h : List (List ℕ)) × (h ∈ nodes n) × (f ≡ rewrite (2 * next_free n) d h))
  step-node f m = elim (Memᴰ.append_cases (map (rewrite (2 * next_free n) d) (nodes n)) (rw step-nodes at m)) [
    | inl i ↦ inr (map-out (rewrite (2 * next_free n) d) (nodes n) i)
    | inr i ↦ inl (Memᴰ.eq_of_singleton i)
  ]

  -- a sum over the nodes of the step's network
  pub step-total : (g : List (List ℕ) → ℕ) → total g (nodes (step n d)) ≡ total (λ f. g (rewrite (2 * next_free n) d f)) (nodes n) + g (own d)
  step-total g = rw (step-nodes, total-append g (map (rewrite (2 * next_free n) d) (nodes n)) (own d ∷ []), total-map) (omega arith)

  -- a divisor of the step's network is an old one, rewritten, or the new one
  pub step-divisor : (e : Node) → e ∈ (step n d).divisors → ((c : Node) × (c ∈ n.divisors) × (e ≡ redo (2 * next_free n) d c))
      ⊎ (e ≡ record { number = next_free n; cubes = own d })
  step-divisor e m = elim (Memᴰ.append_cases (map (redo (2 * next_free n) d) n.divisors) m)
      [ inl j ↦ inl (map-out (redo (2 * next_free n) d) n.divisors j) | inr j ↦ inr (Memᴰ.eq_of_singleton j) ]

  -- one variable more
  pub step-variables : variables (step n d) ≡ suc (variables n)
  step-variables = simp (length-append, length-map) (omega arith)

  -- the next free number is next in turn
  pub step-turn : InTurn n → InTurn (step n d)
  unfolding next_free
  step-turn t =
      let fs = map (rewrite (2 * next_free n) d) (cubes n.divisors) in
      let same : length n.divisors ≡ length fs =
      sym (length-map (cubes n.divisors) (rewrite (2 * next_free n) d) ∙ length-map n.divisors (λ (e : Node). e.cubes)) in
      ap (◌++ (record { number = next_free n; cubes = own d } ∷ []))
      (ap (map (redo (2 * next_free n) d)) t ∙ numbered-map (rewrite (2 * next_free n) d) n.inputs (cubes n.divisors))
      ∙ ap (λ k. numbered n.inputs fs ++ (record { number = n.inputs + k; cubes = own d } ∷ [])) same
      ∙ sym (numbered-snoc n.inputs fs (own d))
      ∙ ap (numbered n.inputs) (sym (map-append (λ (e : Node). e.cubes) (map (redo (2 * next_free n) d) n.divisors)
      (record { number = next_free n; cubes = own d } ∷ []) ∙ ap (◌++ (own d ∷ [])) (cubes-map (rewrite (2 * next_free n) d) n.divisors)))

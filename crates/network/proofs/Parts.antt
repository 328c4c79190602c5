-- The expressions that counts cut from cubes: those of the outputs and of the divisors. Assumes nothing.
use Prim.Native.Nat.{ℕ, ◌+◌, ◌<◌, ◌≤◌}
use mathlib.Core.Path.{◌≡◌, sym, ap, ◌∙◌}
use mathlib.Core.List.{List, [], ◌∷◌}
use native.Mathlib.Omega.{arith}
use lib.ListN.{length, get_or, take, drop, length-drop, drop_of_length-le}
use lib.Seq.{get_or-take, get_or-drop, length-take-le, take-take}
use Rattle.expression.specs.Words.{cubes_of}
use Rattle.network_nodes.{specs.Nodes.cut, proofs.Cutting.cut-length, proofs.Cutting.cut-take}
use Rattle.sets.{proofs.Places.drop-next, proofs.Rows.drop-take}
use Rattle.network.specs.{Net.Node, Net.cubes_at, Meaning.IsDivisor, Held.number_at, Held.place_at}
use Rattle.network.specs.Parts.{nodes_of, held_in, net_at}
use Rattle.network.proofs.Numbering.{numbered-range, numbered-get, place-number}
use Rattle.network.proofs.Holding.{place-held, divisors-held}

abbrev blank_node : Node
blank_node = record { number = 0; cubes = [] }

module _ (cs ws : List ℕ) where
  pub nodes-length : (e : ℕ) → e ≤ length cs → length (nodes_of e cs ws) ≡ e
  nodes-length e h = cut-length (take e cs) (cubes_of ws) ∙ length-take-le e cs h

  pub nodes-at : (e i : ℕ) → i < e → get_or (nodes_of e cs ws) i [] ≡ get_or (cut cs (cubes_of ws)) i []
  nodes-at e i h = ap (λ l. get_or l i []) (cut-take e cs (cubes_of ws)) ∙ get_or-take e (cut cs (cubes_of ws)) i [] h

  module _ (m k : ℕ) where
    -- the expressions of the divisors
    pub divisors-length : m + k ≤ length cs → length (drop m (nodes_of (m + k) cs ws)) ≡ k
    divisors-length h = omega (arith, length-drop m (nodes_of (m + k) cs ws), nodes-length (m + k) h)

    pub divisors-at : (i : ℕ) → i < k → get_or (drop m (nodes_of (m + k) cs ws)) i [] ≡ get_or (cut cs (cubes_of ws)) (m + i) []
    divisors-at i h = get_or-drop m (nodes_of (m + k) cs ws) i [] ∙ nodes-at (m + k) (m + i) (omega arith)

    -- as nodes passed over and as many taken
    pub divisors-cut : take k (drop m (cut cs (cubes_of ws))) ≡ drop m (nodes_of (m + k) cs ws)
    divisors-cut = sym (ap (drop m) (cut-take (m + k) cs (cubes_of ws)) ∙ drop-take m k (cut cs (cubes_of ws)))

    -- the expressions of the outputs
    pub outputs-are : take m (nodes_of (m + k) cs ws) ≡ nodes_of m cs ws
    outputs-are =
        ap (take m) (cut-take (m + k) cs (cubes_of ws)) ∙ take-take m (m + k) (cut cs (cubes_of ws)) (omega arith) ∙ sym (cut-take m cs (cubes_of ws))

  -- ---- divisors by their numbers

  module _ (n m k : ℕ) where
    abbrev divisors : List Node
    divisors = (net_at n m k cs ws).divisors

    -- a divisor's expression stands at the place of its number
    pub place_at_lem : (v : ℕ) → n ≤ v → v < n + k → cubes_at v divisors ≡ get_or (cut cs (cubes_of ws)) (place_at n m v) []
    place_at_lem v h l = place-held (held_in n m k cs ws) v h ∙ nodes-at (m + k) (place_at n m v) (omega arith)

    module _ (h : m + k ≤ length cs) where
      many : length divisors ≡ k
      many = divisors-held (held_in n m k cs ws) h

      -- the numbers of divisors are from the inputs on, as many as there are divisors
      pub divisor_range : (v : ℕ) → IsDivisor (net_at n m k cs ws) v → (n ≤ v) × (v < n + k)
      divisor_range v (e, i, p) =
          let r = numbered-range n (drop m (nodes_of (m + k) cs ws)) e i in (rw p r.0, omega (arith, r.1, divisors-length m k h))

      -- the divisors from place i on: the one there, with the number of that place, and those after it
      pub divisors-next : (i : ℕ) → i < k
          → drop i divisors ≡ record { number = number_at n i; cubes = get_or (cut cs (cubes_of ws)) (place_at n m (number_at n i)) [] } ∷ drop (i + 1) divisors
      divisors-next i l =
          drop-next divisors i blank_node (omega (arith, many))
          ∙ ap (◌∷ drop (i + 1) divisors) (numbered-get n (drop m (nodes_of (m + k) cs ws)) i blank_node (omega (arith, divisors-length m k h)) ∙ ap
          (λ (f : List (List ℕ)). record { number = number_at n i; cubes = f })
          (divisors-at m k i l ∙ ap (λ p. get_or (cut cs (cubes_of ws)) p []) (sym (place-number n m i))))

      pub divisors-done : (i : ℕ) → k ≤ i → drop i divisors ≡ []
      divisors-done i l = let e : length divisors ≤ i = omega (arith, many) in drop_of_length-le divisors e

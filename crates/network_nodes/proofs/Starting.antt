-- Where the cubes of a node begin. Assumes nothing.
use Prim.Native.Nat.{ℕ, zero, suc, ◌+◌, ◌-◌, ◌<◌, ◌≤◌, min}
use mathlib.Core.Path.{◌≡◌, refl, sym, ap, ap₂, ◌∙◌}
use mathlib.Core.List.{List, [], ◌∷◌}
use native.Mathlib.Omega.{arith}
use lib.ListN.{length, take, drop, get_or, get_or-eq_default}
use Rattle.sets.{specs.Lists.total, proofs.Places.total-next}
use Rattle.expression.proofs.Words.{part_held}
use Rattle.network_nodes.specs.Nodes.{cut, count_before}
use Rattle.network_nodes.proofs.Cutting.{cut-node, cut-length}

-- one count more
pub start-next : (cs : List ℕ) (i sum : ℕ) → i < length cs → sum ≡ count_before i cs → sum + get_or cs i 0 ≡ count_before (i + 1) cs
start-next cs i sum h e = omega (arith, total-next (λ c. c) cs i 0 h)

-- the cubes between two starts are those of the node
pub node-is : (counts : List ℕ) (f r : List (List ℕ)) (i a e : ℕ) → i < length counts → a ≡ min (count_before i counts) (length f)
    → e ≡ min (count_before (i + 1) counts) (length f)
    → r ≡ take (e - a) (drop a f) → r ≡ get_or (cut counts f) i []
node-is counts f r i a e h p q w =
    let s = count_before i counts in
    let t = count_before (i + 1) counts in
    let n = start-next counts i s h refl in
    let x : a ≡ min s (min t (length f)) = omega arith in
    let y : t - s ≡ get_or counts i 0 = omega arith in
    w ∙ ap₂ (λ (b c : ℕ). take (c - b) (drop b f)) x q ∙ part_held f s t ∙ ap (λ c. take c (drop s f)) y ∙ sym (cut-node counts f i)

-- past the counts there is none
pub node-past : (counts : List ℕ) (f r : List (List ℕ)) (i : ℕ) → length counts ≤ i → r ≡ take (0 - 0) (drop 0 f) → r ≡ get_or (cut counts f) i []
node-past counts f r i h w = w ∙ sym (get_or-eq_default (cut counts f) [] (omega (arith, cut-length counts f)))

-- the cubes up to a start are those of the nodes before it
pub front-is : (counts : List ℕ) (f r : List (List ℕ)) (i e m : ℕ) → m ≡ length f → e ≡ min (count_before i counts) m → r ≡ take (e - 0) (drop 0 f)
    → r ≡ take (count_before i counts) f
front-is counts f r i e m n p w =
    let s = count_before i counts in
    let x : 0 ≡ min 0 (min s (length f)) = omega arith in
    let y : e ≡ min s (length f) = omega arith in
    let z : s - 0 ≡ s = omega arith in
    w ∙ ap₂ (λ (b c : ℕ). take (c - b) (drop b f)) x y ∙ part_held f 0 s ∙ ap (λ c. take c f) z

-- ---- the counts that are left

-- one of them, and the others
pub left-next : (k j n : ℕ) {ns rs : List ℕ} → (ns ≡ n ∷ rs) × (j + 1 ≡ k) → total (λ c. c) (take k ns) ≡ n + total (λ c. c) (take j rs)
left-next k j n (e, p) = let q : k ≡ suc j = omega (arith, p) in rw (e, q)

-- none
pub left_none : (k : ℕ) (ns : List ℕ) → (0 < k → length ns ≡ 0) → total (λ c. c) (take k ns) ≡ 0
left_none zero ns h = refl
left_none (suc k) [] h = refl
left_none (suc k) (n ∷ ns) h = absurd (omega (arith, h (omega arith)))

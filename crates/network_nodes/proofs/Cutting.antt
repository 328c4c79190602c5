-- Nodes cut from cubes: how many there are, which cubes each has, and sums over them. Assumes nothing.
use Prim.Native.Nat.{ℕ, zero, suc, ◌+◌, ◌-◌, ◌≤◌}
use mathlib.Core.Path.{◌≡◌, refl, sym, ap, ap₂, ◌∙◌}
use mathlib.Core.List.{List, [], ◌∷◌}
use native.Mathlib.Omega.{arith}
use lib.ListN.{length, get_or, take, drop, length-drop}
use lib.Seq.{length-take-le, drop-drop, take-add, take_all}
use Rattle.std.proofs.Math.Nat.{sub-zero}
use Rattle.sets.{specs.Lists.total, proofs.Lists.total-append}
use Rattle.network_nodes.specs.Nodes.{cut, count_before}

pub cut-length : (ns : List ℕ) (f : List (List ℕ)) → length (cut ns f) ≡ length ns
unfolding cut
cut-length [] f = refl
cut-length (n ∷ ns) f = ap suc (cut-length ns (drop n f))

-- no counts, no nodes
pub cut-none : (ns : List ℕ) (f : List (List ℕ)) → length ns ≡ 0 → cut ns f ≡ []
unfolding cut
cut-none [] f e = refl
cut-none (n ∷ ns) f e = absurd (omega arith)

-- the first node, and those that the counts after its own cut from the cubes after its own
pub cut-first : (ns : List ℕ) (f : List (List ℕ)) {n m : ℕ} {rest : List ℕ} {g h : List (List ℕ)} → ns ≡ n ∷ rest → m ≡ length f → g ≡ take (n - 0) f
    → h ≡ take (m - n) (drop n f) → cut ns f ≡ g ∷ cut rest h
unfolding cut
cut-first ns f {n} {m} {rest} e q d k =
    rw e (ap₂ (λ a b. a ∷ cut rest b) (ap (λ k. take k f) (sym (sub-zero n)) ∙ sym d) (sym (k ∙ take_all (m - n) (drop n f) (rw length-drop (omega arith)))))

-- node i has the cubes after those of the nodes before it
pub cut-node : (ns : List ℕ) (f : List (List ℕ)) (i : ℕ) → get_or (cut ns f) i [] ≡ take (get_or ns i 0) (drop (count_before i ns) f)
unfolding cut
cut-node [] f i = refl
cut-node (n ∷ ns) f zero = refl
cut-node (n ∷ ns) f (suc i) = cut-node ns (drop n f) i ∙ ap (take (get_or ns i 0)) (drop-drop (count_before i ns) n f)

pub cut-node-length : (ns : List ℕ) (f : List (List ℕ)) (i : ℕ) → total (λ c. c) ns ≤ length f → length (get_or (cut ns f) i []) ≡ get_or ns i 0
unfolding cut
cut-node-length [] f i h = refl
cut-node-length (n ∷ ns) f zero h = length-take-le n f (omega arith)
cut-node-length (n ∷ ns) f (suc i) h = cut-node-length ns (drop n f) i (rw length-drop (omega arith))

pub cut-take : (e : ℕ) (cs : List ℕ) (f : List (List ℕ)) → cut (take e cs) f ≡ take e (cut cs f)
unfolding cut
cut-take zero cs f = refl
cut-take (suc e) [] f = refl
cut-take (suc e) (c ∷ cs) f = ap (take c f ∷◌) (cut-take e cs (drop c f))

-- a sum over all cubes is that over those in use
pub cut-total : (g : List ℕ → ℕ) (ns : List ℕ) (f : List (List ℕ)) → total (total g) (cut ns f) ≡ total g (take (total (λ c. c) ns) f)
unfolding cut
cut-total g [] f = refl
cut-total g (n ∷ ns) f = rw (take-add n (total (λ c. c) ns) f, total-append g (take n f) (take (total (λ c. c) ns) (drop n f)))
    (ap (total g (take n f) +◌) (cut-total g ns (drop n f)))

-- as many cubes as the counts say
pub cut-lengths : (ns : List ℕ) (f : List (List ℕ)) → total (λ c. c) ns ≤ length f → total length (cut ns f) ≡ total (λ c. c) ns
unfolding cut
cut-lengths [] f h = refl
cut-lengths (n ∷ ns) f h = omega (arith, length-take-le n f (omega arith), cut-lengths ns (drop n f) (rw length-drop (omega arith)))

-- Nodes laid one after the other in words and counts: none, one more, all; and then the struct holds the network. Assumes nothing.
use Prim.Native.Nat.{ℕ, suc, ◌+◌, ◌-◌, ◌<◌, ◌≤◌}
use mathlib.Core.Path.{◌≡◌, refl, sym, ap, ap₂, ◌∙◌, subst}
use mathlib.Core.List.{List, [], ◌∷◌, ◌++◌, map, map-append, append_assoc}
use native.Mathlib.Omega.{arith}
use lib.ListN.{length, take, drop, set, get_or, replicate, length-append, length-map}
use lib.Seq.{take_all, length-take-le, set_at, take_at, drop_at}
use Rattle.sets.{specs.Lists.total, proofs.Lists.total-append, proofs.Rows.take_next, proofs.Rows.drop-replicate}
use Rattle.expression.{specs.Words.cubes_of, specs.Words.Placed, proofs.Words.zeros}
use Rattle.network.specs.Net.{Net, nodes}
use Rattle.network.specs.Handed.{flat, node_slots, cube_slots, word_slots, LaidNodes, Holds}
use Rattle.network.proofs.Handing.{flat-length, flat-last}

pub laid_none : LaidNodes (replicate word_slots 0) (replicate node_slots 0) 0 []
laid_none = record { place = refl; counts = refl; cubes = zeros cube_slots }

module _ {ws sizes : List ℕ} {to : ℕ} {fs : List (List (List ℕ))} (l : LaidNodes ws sizes to fs) where
  laid-size : length (flat fs) ≡ to
  laid-size = flat-length fs ∙ sym l.place

  -- the cubes up to the place, and those after it
  pub laid-front : take to (cubes_of ws) ≡ flat fs
  laid-front = ap (take to) l.cubes ∙ take_at (flat fs) _ to laid-size

  pub laid-rest : drop to (cubes_of ws) ≡ replicate (cube_slots - to) []
  laid-rest = ap (drop to) l.cubes ∙ drop_at (flat fs) _ to laid-size

  -- one node more: its cubes at the place after the others, its number of cubes after theirs
  pub laid_next : {new : List ℕ} {f : List (List ℕ)} {i k : ℕ} → i ≡ length fs → i < node_slots → k ≡ length f → Placed ws new to f
      → LaidNodes new (set sizes i k) (to + k) (fs ++ (f ∷ []))
  laid_next {new} {f} {i} {k} e s n p = record { place = omega (arith, l.place, total-append length fs (f ∷ [])); counts = counts-next; cubes = cubes-next }
    where
      zeros-left : List ℕ
      zeros-left = replicate (node_slots - (length fs + 1)) 0

      counts-next : set sizes i k ≡ map length (fs ++ (f ∷ [])) ++ replicate (node_slots - length (fs ++ (f ∷ []))) 0
      counts-next =
          let q : node_slots - length fs ≡ suc (node_slots - (length fs + 1)) = omega arith in
          ap (λ z. set z i k) (l.counts ∙ ap (λ (z : ℕ). map length fs ++ replicate z 0) q)
          ∙ set_at (map length fs) 0 zeros-left k i (length-map fs length ∙ sym e)
          ∙ ap (λ (z : ℕ). map length fs ++ (z ∷ zeros-left)) n
          ∙ sym (append_assoc (map length fs) (length f ∷ []) zeros-left)
          ∙ ap₂ (λ (x : List ℕ) (z : ℕ). x ++ replicate (node_slots - z) 0) (sym (map-append length fs (f ∷ []))) (sym (length-append fs (f ∷ [])))

      left : (cube_slots - to) - length f ≡ cube_slots - (to + k)
      left = omega arith

      cubes-next : cubes_of new ≡ flat (fs ++ (f ∷ [])) ++ replicate (cube_slots - (to + k)) []
      cubes-next =
          p.cubes
          ∙ ap₂ (λ (x y : List (List ℕ)). x ++ (f ++ drop (length f) y)) laid-front laid-rest
          ∙ ap (λ (y : List (List ℕ)). flat fs ++ (f ++ y)) (drop-replicate (length f) (cube_slots - to) [] ∙ ap (λ (z : ℕ). replicate z []) left)
          ∙ sym (append_assoc (flat fs) f _)
          ∙ ap (◌++ replicate (cube_slots - (to + k)) []) (sym (flat-last fs f))

  -- then a struct of that size holds the network
  pub laid-holds : {n m k : ℕ} (net : Net) → nodes net ≡ fs → n ≡ net.inputs → m ≡ length net.outputs → k ≡ length net.divisors
      → Holds (record { inputs = n; outputs = m; divisors = k; counts = sizes; words = ws }) net
  laid-holds net e a b c = record { inputs = a; outputs = b; divisors = c; laid = held e }
    where
      held : {gs : List (List (List ℕ))} → gs ≡ fs → LaidNodes ws sizes (total length gs) gs
      held q = subst (λ (gs : List (List (List ℕ))). LaidNodes ws sizes (total length gs) gs) (sym q) (subst (λ (z : ℕ). LaidNodes ws sizes z fs) l.place l)

-- of a list of nodes, one after the other: the first i are laid, then one more, at the end all
module _ {ws sizes : List ℕ} {to i : ℕ} (fs : List (List (List ℕ))) (l : LaidNodes ws sizes to (take i fs)) where
  pub laid_more : {new : List ℕ} {f : List (List ℕ)} {k : ℕ} → i < length fs → length fs ≤ node_slots → f ≡ get_or fs i [] → k ≡ length f → Placed ws new to f
      → LaidNodes new (set sizes i k) (to + k) (take (i + 1) fs)
  laid_more {new} {f} {k} h s e n p =
      subst (LaidNodes new (set sizes i k) (to + k)) (sym more) (laid_next l (sym (length-take-le i fs (omega arith))) (omega arith) n p)
    where
      more : take (i + 1) fs ≡ take i fs ++ (f ∷ [])
      more = take_next fs i [] h ∙ ap (λ (g : List (List ℕ)). take i fs ++ (g ∷ [])) (sym e)

  pub laid-all : length fs ≤ i → LaidNodes ws sizes to fs
  laid-all h = subst (LaidNodes ws sizes to) (take_all i fs h) l

-- The table on its way from one network to another. Assumes nothing.
use Prim.Native.Nat.{ℕ, ◌+◌, ◌-◌, ◌<◌, ◌≤◌, min}
use mathlib.Core.Path.{◌≡◌, refl, sym, ap, ◌∙◌}
use mathlib.Core.Bool.{Bool, true}
use mathlib.Core.List.{List, [], ◌∷◌, ◌++◌, append_assoc}
use native.Mathlib.Omega.{arith}
use lib.ListN.{length, get_or, take, drop, length-drop, length-take, take-append-drop, get_or-eq_default}
use lib.Seq.{take_all, take-suc}
use native.Mathlib.{Numerals.add-one, Nat.add-zero}
use Rattle.sets.{specs.Lists.all, specs.Lists.total, specs.Sets.asc}
use Rattle.sets.proofs.{Truth.compared, Truth.Stand.below, Truth.Stand.equal, Truth.Stand.beyond, Lists.all-out, Lists.all-parts, Places.at_in}
use Rattle.sets.proofs.{Places.drop-next, Places.total-next}
use Rattle.expression.{specs.Words.cubes_of, proofs.Words.cubes-asc}
use Rattle.extract_gains.{specs.Gains.entries, specs.Gains.many, specs.Gains.Turns, specs.Gains.none}
use Rattle.extract_counts.specs.Counts.{pairs_gain, row_gain, node_gain, net_gain, Says}
use Rattle.extract_counts.proofs.Turning.{node-middle}
use Rattle.network.{specs.Net.nodes, specs.Held.net_of, specs.Held.used, specs.declared.Network.Network, proofs.Holding.nodes-held}
use Rattle.network_nodes.proofs.Cutting.{cut-length}
use Rattle.extract_keep.specs.{Keep.Kept, Parts.Shifts, Parts.between}

take_next : {A : Type 0} (l : List A) (j : ℕ) (d : A) → j < length l → take (j + 1) l ≡ take j l ++ (get_or l j d ∷ [])
take_next l j d h = rw (add-one j) (take-suc l j d h)

-- ---- changes one after the other

pub shift_of : {t g u h : List ℕ} {a b : ℕ → ℕ} → Turns t g u h a b → Shifts t g u h a b
shift_of p = record { stays = p.stays; sound = p.sound; moves = p.moves }

pub shift_none : (t g : List ℕ) (a : ℕ → ℕ) → Shifts t g t g a a
shift_none t g a = record { stays = λ h. h; sound = λ s h. s; moves = λ s h k. refl }

-- one after the other, said by other amounts that differ by as much
pub shift-both : {t g u h v i : List ℕ} {a b c d x y : ℕ → ℕ} → Shifts t g u h a b → Shifts u h v i c d
    → ((k : ℕ) → y k + (a k + c k) ≡ x k + (b k + d k)) → Shifts t g v i x y
shift-both {u = u} {v = v} p q z = record {
  stays = λ f. q.stays (p.stays f);
  sound = λ s f. q.sound (p.sound s (roomy f)) f;
  moves = λ s f k. omega (arith, p.moves s (roomy f) k, q.moves (p.sound s (roomy f)) f k, z k);
}
  where
    roomy : many v < entries → many u < entries
    roomy f = elim (compared (many u) entries) [
      | below k _ _ ↦ k
      | equal k _ _ ↦ absurd (omega (arith, q.stays (omega arith)))
      | beyond k _ _ ↦ absurd (omega (arith, q.stays (omega arith)))
    ]

-- ---- a cube goes, or comes

all_take : {A : Type 0} (p : A → Bool) (j : ℕ) (l : List A) → all p l ≡ true → all p (take j l) ≡ true
all_take p j l h = (all-parts p (take j l) (drop j l) (rw (take-append-drop j l) h)).0

-- what a cube adds with the cubes x and y
abbrev pub added : List ℕ → List (List ℕ) → List (List ℕ) → ℕ → ℕ
added c x y k = pairs_gain k c + (row_gain k c x + row_gain k c y)

module _ (a b : List (List ℕ)) (h : all asc a ≡ true) (g : all asc b ≡ true) (i j : ℕ) where
  pub cube-gone : i < length a → (k : ℕ)
      → node_gain k (between a i b j) ≡ node_gain k (between a (i + 1) b j) + added (get_or a i []) (take j b) (drop (i + 1) a) k
  cube-gone l k = rw (drop-next a i [] l) (node-middle k (get_or a i []) (take j b) (drop (i + 1) a) (all-out asc (at_in a i [] l) h) (all_take asc j b g))

  pub cube-come : j < length b → (k : ℕ)
      → node_gain k (between a i b (j + 1)) ≡ node_gain k (between a i b j) + added (get_or b j []) (take j b) (drop i a) k
  cube-come l k =
      rw (take_next b j [] l, append_assoc)
      (node-middle k (get_or b j []) (take j b) (drop i a) (all-out asc (at_in b j [] l) g) (all_take asc j b g))

-- ---- the same of the slices that are lent

added-as : {c d : List ℕ} {x y z w : List (List ℕ)} → c ≡ d → x ≡ z → y ≡ w → (k : ℕ) → added c x y k ≡ added d z w k
added-as p q r k i = added (p i) (q i) (r i) k

front : {x : List (List ℕ)} (b : List (List ℕ)) (j : ℕ) → x ≡ take (j - 0) (drop 0 b) → x ≡ take j b
front b j q = let z : j - 0 ≡ j = omega arith in q ∙ ap (λ m. take m b) z

module _ (t g u h : List ℕ) (wa wb : List ℕ) (i j n : ℕ) {c : List ℕ} {x y : List (List ℕ)} where
  pub gone-shift : i < length (cubes_of wa) → n ≡ length (cubes_of wa) → c ≡ get_or (cubes_of wa) i [] → x ≡ take (j - 0) (drop 0 (cubes_of wb))
      → y ≡ take (n - (i + 1)) (drop (i + 1) (cubes_of wa)) → Turns t g u h (added c x y) none
      → Shifts t g u h (λ k. node_gain k (between (cubes_of wa) i (cubes_of wb) j)) (λ k. node_gain k (between (cubes_of wa) (i + 1) (cubes_of wb) j))
  gone-shift l m p q r z =
      let a = cubes_of wa in
      let e : y ≡ drop (i + 1) a = r ∙ take_all (n - (i + 1)) (drop (i + 1) a) (omega (arith, length-drop (i + 1) a)) in
      shift-both (shift_none t g (λ k. node_gain k (between a i (cubes_of wb) j))) (shift_of z)
      (λ k. omega (arith, cube-gone a (cubes_of wb) (cubes-asc wa) (cubes-asc wb) i j l k, added-as p (front (cubes_of wb) j q) e k))

  pub come-shift : j < length (cubes_of wb) → n ≡ length (cubes_of wa) → c ≡ get_or (cubes_of wb) j [] → x ≡ take (j - 0) (drop 0 (cubes_of wb))
      → y ≡ take (n - i) (drop i (cubes_of wa)) → Turns t g u h none (added c x y)
      → Shifts t g u h (λ k. node_gain k (between (cubes_of wa) i (cubes_of wb) j)) (λ k. node_gain k (between (cubes_of wa) i (cubes_of wb) (j + 1)))
  come-shift l m p q r z =
      let a = cubes_of wa in
      let e : y ≡ drop i a = r ∙ take_all (n - i) (drop i a) (omega (arith, length-drop i a)) in
      shift-both (shift_none t g (λ k. node_gain k (between a i (cubes_of wb) j))) (shift_of z)
      (λ k. omega (arith, cube-come a (cubes_of wb) (cubes-asc wa) (cubes-asc wb) i j l k, added-as p (front (cubes_of wb) j q) e k))

-- ---- node by node

-- a node more; past the last there is none
pub net-next : (fs : List (List (List ℕ))) (i k : ℕ) → net_gain k (take (i + 1) fs) ≡ net_gain k (take i fs) + node_gain k (get_or fs i [])
unfolding net_gain node_gain
net-next fs i k = elim (compared i (length fs)) [
  | below h _ _ ↦ total-next (node_gain k) fs i [] h
  | equal h _ _ ↦ past (omega arith)
  | beyond h _ _ ↦ past (omega arith)
]
  where
    past : length fs ≤ i → total (node_gain k) (take (i + 1) fs) ≡ total (node_gain k) (take i fs) + node_gain k (get_or fs i [])
    past h = rw (get_or-eq_default fs [] {n = i} h, take_all (i + 1) fs (omega arith), take_all i fs h) (sym (add-zero (total (node_gain k) fs)))

pub net-all : (fs : List (List (List ℕ))) (i : ℕ) → length fs ≤ i → (k : ℕ) → net_gain k (take i fs) ≡ net_gain k fs
net-all fs i h k = ap (net_gain k) (take_all i fs h)

-- as many nodes as there are counts in use
pub nodes-many : (n : Network) → length (nodes (net_of n)) ≡ min (n.outputs + n.divisors) (length n.counts)
nodes-many n = ap length (nodes-held n) ∙ cut-length (used n) (cubes_of n.words) ∙ length-take (n.outputs + n.divisors) n.counts

-- the first node and the others; where there is none nothing
pub net-first : (k : ℕ) {f : List (List ℕ)} {fs gs : List (List (List ℕ))} → fs ≡ f ∷ gs → net_gain k fs ≡ net_gain k gs + node_gain k f
unfolding net_gain
net-first k e = rw e (omega arith)

pub net-none : (k : ℕ) {fs : List (List (List ℕ))} → fs ≡ [] → net_gain k fs ≡ 0
unfolding net_gain
net-none k e = rw e

module _ (fs hs : List (List (List ℕ))) where
  module _ (i : ℕ) {t g u h : List ℕ} (p : Shifts t g u h (λ k. net_gain k (take i fs)) (λ k. net_gain k (take i hs))) where
    -- one more node of the first becomes that of the second
    pub shift-net : {v w : List ℕ} {x y : List (List ℕ)} → x ≡ get_or fs i [] → y ≡ get_or hs i [] → Shifts u h v w (λ k. node_gain k x) (λ k. node_gain k y)
        → Shifts t g v w (λ k. net_gain k (take (i + 1) fs)) (λ k. net_gain k (take (i + 1) hs))
    shift-net a b q = shift-both p q (λ k. omega (arith, net-next fs i k, net-next hs i k, ap (node_gain k) a, ap (node_gain k) b))

    -- and at the end all are
    pub shift-all : length fs ≤ i → length hs ≤ i → Shifts t g u h (λ k. net_gain k fs) (λ k. net_gain k hs)
    shift-all a b = shift-both p (shift_none u h none) (λ k. omega (arith, net-all fs i a k, net-all hs i b k))

-- ---- from one network to another

pub renewed : (old new : Network) (t g u h : List ℕ) → Kept t g old
    → Shifts t g u h (λ k. net_gain k (nodes (net_of old))) (λ k. net_gain k (nodes (net_of new)))
    → many u < entries → Says u h (nodes (net_of new))
renewed old new t g u h k s f =
    let a = k roomy in
    record {
      sound = s.sound a.sound f;
      gains = λ x. omega (arith, s.moves a.sound f x, a.gains x);
    }
  where
    roomy : many t < entries
    roomy = elim (compared (many t) entries) [
      | below k _ _ ↦ k
      | equal k _ _ ↦ absurd (omega (arith, s.stays (omega arith)))
      | beyond k _ _ ↦ absurd (omega (arith, s.stays (omega arith)))
    ]

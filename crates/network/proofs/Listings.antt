-- The listing: each number is the smallest whose own divisors are all listed, none comes twice, and all divisors are listed exactly when
-- none reads itself through others. Assumes nothing.
use Prim.Native.Nat.{ℕ, zero, suc, ◌+◌, ◌/◌, ◌<◌, ◌≤◌}
use mathlib.Core.Path.{◌≡◌, refl, sym, ap, ◌∙◌, subst}
use mathlib.Core.Logic.{◌⊎◌, inl, inr, ◌↔◌}
use mathlib.Core.Bool.{true, false, not, ◌&&◌, ◌||◌}
use mathlib.Core.Option.{Option, none, some, none-ne-some, some-ne-none, some-injective}
use mathlib.Core.List.Memᴰ.{head as here}
use mathlib.Core.List.{List, [], ◌∷◌, ◌++◌, map, append-nil, append_assoc, nil≢cons, head-eq_of_cons-eq, tail-eq_of_cons-eq}
use mathlib.Core.List.Memᴰ
use mathlib.Core.List.Memᴰ.{tail as there}
use native.Mathlib.Omega.{arith}
use lib.Dec.{ltb}
use lib.ListN.{length, length-map}
use borrow.Author.Tests.{not-true, ltb-true, ltb-false}
use Rattle.sets.specs.Lists.{all, pairwise}
use Rattle.sets.specs.Sets.{mem, asc}
use Rattle.sets.proofs.Truth.{both, either, neither, together, decided, clash, refuted}
use Rattle.sets.proofs.Lists.{◌∈◌, all-out, all-fails, map-in, map-out, pairwise-imp}
use Rattle.sets.proofs.Sets.{mem-of, of_mem}
use Rattle.network.specs.Net.{Node, Net, nodes, HasVariable}
use Rattle.network.specs.Listing.{ready, next_ready, list_more, listing}
use Rattle.network.specs.Meaning.{Reads, Through, ListedNext, IsDivisor, Closed, Distinct, Sound, differ}
use Rattle.network.specs.{Meaning.Through.itself, Meaning.Through.others, Rules.InTurn, Rules.Good}
use Rattle.network.proofs.Places.{split-in, differ-in, once-le, once-cons, once-all, once-in}
use Rattle.network.proofs.Numbering.{read-passes, numbers-ahead, cubes-at, numbered-distinct, nodes-closed, below-known}

-- ---- ready

-- what a ready expression reads is an input or listed
pub ready-out : (k : ℕ) (l : List ℕ) (f : List (List ℕ)) → ready k l f ≡ true → (v : ℕ) → Reads f v → (v < k) ⊎ (v ∈ l)
unfolding ready
ready-out k l f h v r = elim (either (ltb v k) (mem v l) (read-passes (λ x. ltb x k || mem x l) f h v r))
    [ inl t ↦ inl (ltb-true v k t) | inr t ↦ inr (of_mem v l t) ]

-- and one that is not ready reads something else
pub ready-fails : (k : ℕ) (l : List ℕ) (f : List (List ℕ)) → ready k l f ≡ false → (v : ℕ) × Reads f v × (k ≤ v) × (mem v l ≡ false)
unfolding ready
ready-fails k l f h =
    let r = all-fails (all (λ y. ltb (y / 2) k || mem (y / 2) l)) f h in
    let s = all-fails (λ y. ltb (y / 2) k || mem (y / 2) l) r.0 r.2 in
    let q = neither (ltb (s.0 / 2) k) (mem (s.0 / 2) l) s.2 in
    (s.0 / 2, (r.0, r.1, (s.0, s.1, refl)), ltb-false (s.0 / 2) k q.0, q.1)

-- ---- the next

-- v is the number of a divisor that is not listed and is ready
pub record Candidate (k : ℕ) (l : List ℕ) (ds : List Node) (v : ℕ) : Type 0 where
  pub node : Node
  pub inside : node ∈ ds
  pub number : v ≡ node.number
  pub fresh : mem v l ≡ false
  pub allowed : ready k l node.cubes ≡ true

pub next-some : (k : ℕ) (l : List ℕ) (ds : List Node) (v : ℕ) → next_ready k l ds ≡ some v → Candidate k l ds v
unfolding next_ready
next-some k l [] v h = absurd (none-ne-some v h)
next-some k l (e ∷ ds) v h = elim (decided (not (mem e.number l) && ready k l e.cubes)) [
  | inl t ↦
      let q = both (not (mem e.number l)) (ready k l e.cubes) t in
      let w : v ≡ e.number = sym (some-injective e.number v (rw t at h)) in
      record { node = e; inside = here refl; number = w; fresh = rw w (not-true (mem e.number l) q.0); allowed = q.1 }
  | inr t ↦ let q = next-some k l ds v (rw t at h) in
      record { node = q.node; inside = there q.inside; number = q.number; fresh = q.fresh; allowed = q.allowed }
]

-- with ascending numbers it is the smallest such
pub next-least : (k : ℕ) (l : List ℕ) (ds : List Node) (v : ℕ) → asc (map (λ (e : Node). e.number) ds) ≡ true → next_ready k l ds ≡ some v
    → (g : Node) → g ∈ ds → mem g.number l ≡ false → ready k l g.cubes ≡ true → v ≤ g.number
unfolding next_ready
next-least k l [] v a h g m f y = absurd (Memᴰ.not-nil m)
next-least k l (e ∷ ds) v a h g m f y =
    let b = numbers-ahead e ds a in
    elim (decided (not (mem e.number l) && ready k l e.cubes)) [
      | inl t ↦ let p = some-injective e.number v (rw t at h) in
          elim (Memᴰ.cases_cons m) [ inl q ↦ omega (arith, ap (λ (z : Node). z.number) q) | inr i ↦ omega (arith, b.0 g i) ]
      | inr t ↦ elim (Memᴰ.cases_cons m) [
        | inl q ↦ clash (together (not (mem e.number l)) (ready k l e.cubes) (rw (← q) (ap not f)) (rw (← q) y)) t
        | inr i ↦ next-least k l ds v b.1 (rw t at h) g i f y
      ]
    ]

-- where there is none, every divisor is listed or not ready
pub next-none : (k : ℕ) (l : List ℕ) (ds : List Node) → next_ready k l ds ≡ none → (g : Node) → g ∈ ds → mem g.number l ≡ false → ready k l g.cubes ≡ false
unfolding next_ready
next-none k l [] h g m f = absurd (Memᴰ.not-nil m)
next-none k l (e ∷ ds) h g m f = elim (decided (not (mem e.number l) && ready k l e.cubes)) [
  | inl t ↦ absurd (some-ne-none e.number (rw t at h))
  | inr t ↦ elim (Memᴰ.cases_cons m) [
    | inl q ↦ refuted (λ y. clash (together (not (mem e.number l)) (ready k l e.cubes) (rw (← q) (ap not f)) (rw (← q) y)) t)
    | inr i ↦ next-none k l ds (rw t at h) g i f
  ]
]

-- ---- the listing is made step by step

pub more-none : (k : ℕ) (n : Net) (l : List ℕ) → next_ready n.inputs l n.divisors ≡ none → list_more (suc k) n l ≡ l
unfolding list_more
more-none k n l e = rw (e, list_more)

pub more-some : (k : ℕ) (n : Net) (l : List ℕ) (v : ℕ) → next_ready n.inputs l n.divisors ≡ some v → list_more (suc k) n l ≡ list_more k n (l ++ (v ∷ []))
unfolding list_more
more-some k n l v e = rw (e, list_more)

module _ (n : Net) where
  -- what so many steps add to the numbers l
  record Added (k : ℕ) (l : List ℕ) : Type 0 where
    pub rest : List ℕ
    pub made : list_more k n l ≡ l ++ rest
    pub short : length rest ≤ k
    pub each : (a b : List ℕ) (v : ℕ) → rest ≡ a ++ (v ∷ b) → next_ready n.inputs (l ++ a) n.divisors ≡ some v
    pub last : length rest < k → next_ready n.inputs (l ++ rest) n.divisors ≡ none

  nil-split : (a b : List ℕ) (v : ℕ) → [] ≡ a ++ (v ∷ b) → ⊥
  nil-split [] b v e = nil≢cons e
  nil-split (x ∷ a) b v e = nil≢cons e

  none-added : (k : ℕ) (l : List ℕ) → list_more k n l ≡ l → (0 < k → next_ready n.inputs l n.divisors ≡ none) → Added k l
  none-added k l e h = record {
    rest = [];
    made = e ∙ sym (append-nil l);
    short = omega arith;
    each = λ a b v p. absurd (nil-split a b v p);
    last = λ t. rw append-nil (h t);
  }

  more : (k : ℕ) (l : List ℕ) → Added k l
  unfolding list_more
  more zero l = none-added zero l refl (λ h. absurd (omega arith))
  more (suc k) l = go (next_ready n.inputs l n.divisors) refl (more k)
    where
      go : (o : Option ℕ) → next_ready n.inputs l n.divisors ≡ o → ((m : List ℕ) → Added k m) → Added (suc k) l
      go none e r = none-added (suc k) l (more-none k n l e) (λ h. e)
      go (some v) e r = let s = r (l ++ (v ∷ [])) in record {
        rest = v ∷ s.rest;
        made = more-some k n l v e ∙ s.made ∙ append_assoc l (v ∷ []) s.rest;
        short = omega (arith, s.short);
        each = λ a b w p. step s a b w p;
        last = λ h. rw (← (append_assoc l (v ∷ []) s.rest)) (s.last (omega arith));
      }
        where
          step : (s : Added k (l ++ (v ∷ []))) (a b : List ℕ) (w : ℕ) → v ∷ s.rest ≡ a ++ (w ∷ b) → next_ready n.inputs (l ++ a) n.divisors ≡ some w
          step s [] b w p = rw (append-nil l) (e ∙ ap some (head-eq_of_cons-eq p))
          step s (x ∷ a) b w p = let q = s.each a b w (tail-eq_of_cons-eq p) in rw (← (head-eq_of_cons-eq p), ← (append_assoc l (v ∷ []) a)) q

  -- a listed number is the next one after those before it
  pub listing-next : (a b : List ℕ) (v : ℕ) → listing n ≡ a ++ (v ∷ b) → next_ready n.inputs a n.divisors ≡ some v
  unfolding listing
  listing-next a b v e = let m = more (length n.divisors) [] in m.each a b v (sym m.made ∙ e)

  listing-from : (a b : List ℕ) (v : ℕ) → listing n ≡ a ++ (v ∷ b) → Candidate n.inputs a n.divisors v
  listing-from a b v e = next-some n.inputs a n.divisors v (listing-next a b v e)

  -- no number is listed twice
  pub listing-once : pairwise differ (listing n) ≡ true
  listing-once = once-in (listing n) (λ a b v e. (listing-from a b v e).fresh)

  -- each is the number of a divisor
  pub listing-number : (v : ℕ) → v ∈ listing n → IsDivisor n v
  listing-number v m = let r = split-in m in let q = listing-from r.0 r.1 v r.2 in (q.node, q.inside, q.number)

  pub listing-length : length (listing n) ≤ length n.divisors
  unfolding listing
  listing-length = let m = more (length n.divisors) [] in rw m.made m.short

  -- where fewer numbers are listed than there are divisors, no divisor that is left out is ready
  pub listing-stop : length (listing n) < length n.divisors → (g : Node) → g ∈ n.divisors → mem g.number (listing n) ≡ false
      → ready n.inputs (listing n) g.cubes ≡ false
  unfolding listing
  listing-stop h = let m = more (length n.divisors) [] in
      next-none n.inputs (listing n) n.divisors (rw m.made (m.last (omega (arith, ap length m.made))))

  -- where as many numbers are listed as there are divisors, each divisor is
  pub listing-in : length (listing n) ≡ length n.divisors → (e : Node) → e ∈ n.divisors → e.number ∈ listing n
  listing-in w e m =
      once-all (listing n) (map (λ (g : Node). g.number) n.divisors) listing-once
      (λ x i. let r = listing-number x i in Memᴰ.cast r.2 (map-in (λ (g : Node). g.number) r.1))
      (omega (arith, length-map n.divisors (λ (g : Node). g.number))) e.number (map-in (λ (g : Node). g.number) m)

-- ---- reading through others

module _ (n : Net) where
  -- what is read through what is read
  pub through-then : {u v w : ℕ} → Through n u v → Through n v w → Through n u w
  through-then (itself m i r) q = others m i r q
  through-then (others m i r t) q = others m i r (through-then t q)

  pub through-from : {u v : ℕ} → Through n u v → IsDivisor n u
  through-from (itself {e = e} m i r) = (e, m, refl)
  through-from (others {e = e} m i r t) = (e, m, refl)

-- ---- with numbers of their own

module _ (n : Net) (d : Distinct n) where
  -- again and again the smallest number whose own divisors are all listed
  pub listing_step : (a b : List ℕ) (v : ℕ) → listing n ≡ a ++ (v ∷ b) → ListedNext n a v
  listing_step a b v e = let q = listing-from n a b v e in record {
    node = q.node;
    inside = q.inside;
    number = q.number;
    fresh = q.fresh;
    allowed = rw (q.number, cubes-at n d q.inside) q.allowed;
    least = next-least n.inputs a n.divisors v d.ascending (listing-next n a b v e);
  }

  -- a listed divisor's own divisors are listed before it
  pub listing-reads : (a b : List ℕ) (e : Node) → e ∈ n.divisors → listing n ≡ a ++ (e.number ∷ b) → (v : ℕ) → Reads e.cubes v → (v < n.inputs) ⊎ (v ∈ a)
  listing-reads a b e m p v r =
      ready-out n.inputs a e.cubes (rw (cubes-at n d m) at (listing_step a b e.number p).allowed) v r

  pub listing-earlier : (a b : List ℕ) (e g : Node) → e ∈ n.divisors → g ∈ n.divisors → Reads e.cubes g.number → listing n ≡ a ++ (e.number ∷ b)
      → g.number ∈ a
  listing-earlier a b e g m i r p = elim (listing-reads a b e m p g.number r) [ inl h ↦ absurd (omega (arith, d.above g i)) | inr j ↦ j ]

  -- and so are those that they read in turn
  pub listing-through : {u v : ℕ} → Through n u v → (a b : List ℕ) → listing n ≡ a ++ (u ∷ b) → v ∈ a
  listing-through (itself {e = e} {g = g} m i r) a b p = listing-earlier a b e g m i r p
  listing-through {v = v} (others {e = e} {g = g} m i r t) a b p =
      let s = split-in (listing-earlier a b e g m i r p) in
      let q : listing n ≡ s.0 ++ (g.number ∷ (s.1 ++ (e.number ∷ b))) =
      p ∙ ap (◌++ (e.number ∷ b)) s.2 ∙ append_assoc s.0 (g.number ∷ s.1) (e.number ∷ b) in
      subst (λ (l : List ℕ). v ∈ l) (sym s.2) (Memᴰ.append_left (g.number ∷ s.1) (listing-through t s.0 (s.1 ++ (e.number ∷ b)) q))

  -- where the listing is whole, no divisor reads itself through others
  pub listing-acyclic : length (listing n) ≡ length n.divisors → (v : ℕ) → Through n v v → ⊥
  listing-acyclic w v t =
      let f = through-from n t in
      let s = split-in (Memᴰ.cast f.2 (listing-in n w f.0 f.1)) in
      clash (mem-of (listing-through t s.0 s.1 s.2)) (listing-from n s.0 s.1 v s.2).fresh

  -- ---- where it is not, following what is left out leads back to where one was

  numbers : List ℕ
  numbers = map (λ (e : Node). e.number) n.divisors

  module _ (c : Closed n) (h : length (listing n) < length n.divisors) where
    -- a divisor that is left out reads another such
    left-reads : (e : Node) → e ∈ n.divisors → mem e.number (listing n) ≡ false
        → (g : Node) × (g ∈ n.divisors) × Reads e.cubes g.number × (mem g.number (listing n) ≡ false)
    left-reads e m f =
        let r = ready-fails n.inputs (listing n) e.cubes (listing-stop n h e m f) in
        elim (c.divisors e m r.0 r.1) [
          | inl k ↦ let k' = r.2 in absurd (omega arith)
          | inr (g, i, p) ↦ (g, i, subst (Reads e.cubes) p r.1, subst (λ (v : ℕ). mem v (listing n) ≡ false) p r.3)
        ]

    left_out : (e : Node) × (e ∈ n.divisors) × (mem e.number (listing n) ≡ false)
    unfolding numbers
    left_out = elim (decided (all (λ (e : Node). mem e.number (listing n)) n.divisors)) [
      | inl t ↦
          let k : length numbers ≤ length (listing n) =
          once-le numbers (listing n) (pairwise-imp ltb differ numbers (λ x y q. differ-in (λ (e : x ≡ y). omega (arith, ltb-true x y q))) d.ascending)
          (λ x i. let q = map-out (λ (e : Node). e.number) n.divisors i in
          Memᴰ.cast q.2 (of_mem q.0.number (listing n) (all-out (λ (e : Node). mem e.number (listing n)) q.1 t))) in
          absurd (omega (arith, length-map n.divisors (λ (e : Node). e.number)))
      | inr t ↦ all-fails (λ (e : Node). mem e.number (listing n)) n.divisors t
    ]

    -- the numbers passed, each of which leads to where one stands
    walk : (k : ℕ) (p : List ℕ) (e : Node) → e ∈ n.divisors → mem e.number (listing n) ≡ false → pairwise differ p ≡ true
        → ((x : ℕ) → x ∈ p → (x ∈ numbers) × Through n x e.number) → length p + k ≡ suc (length n.divisors) → (v : ℕ) × Through n v v
    unfolding numbers
    walk zero p e m f o t s =
        let w : length p ≤ length numbers = once-le p numbers o (λ x i. (t x i).0) in
        absurd (omega (arith, length-map n.divisors (λ (g : Node). g.number)))
    walk (suc k) p e m f o t s = elim (decided (mem e.number p)) [
      | inl q ↦ (e.number, (t e.number (of_mem e.number p q)).1)
      | inr q ↦ let r = left-reads e m f in
          walk k (e.number ∷ p) r.0 r.1 r.3 (once-cons e.number p q o)
          (λ x i. elim (Memᴰ.cases_cons i) [
            | inl z ↦ (Memᴰ.cast z (map-in (λ (g : Node). g.number) m), rw z (itself m r.1 r.2))
            | inr j ↦ ((t x j).0, through-then n (t x j).1 (itself m r.1 r.2))
          ])
          (omega arith)
    ]

    left-cycle : (v : ℕ) × Through n v v
    left-cycle = let r = left_out in walk (suc (length n.divisors)) [] r.0 r.1 r.2 refl (λ x i. absurd (Memᴰ.not-nil i)) (omega arith)

  -- all divisors are listed exactly when none reads itself through others
  pub listing-all : Closed n → (length (listing n) ≡ length n.divisors) ↔ ((v : ℕ) → Through n v v → ⊥)
  listing-all c = (
    listing-acyclic,
    λ z. elim (decided (ltb (length (listing n)) (length n.divisors))) [
      | inl t ↦ let r = left-cycle c (ltb-true (length (listing n)) (length n.divisors) t) in absurd (z r.0 r.1)
      | inr t ↦ omega (arith, ltb-false (length (listing n)) (length n.divisors) t, listing-length n)
    ],
  )

-- ---- numbered in turn

module _ (n : Net) (t : InTurn n) (k : (f : List (List ℕ)) → f ∈ nodes n → (v : ℕ) → Reads f v → HasVariable n v) where
  turn-distinct : Distinct n
  turn-distinct = numbered-distinct n (map (λ (e : Node). e.cubes) n.divisors) t

  turn-closed : Closed n
  turn-closed = nodes-closed n (λ f m v r. below-known n (map (λ (e : Node). e.cubes) n.divisors) t v (k f m v r))

  -- where only variables of the network are read, the listing is whole exactly when none reads itself through others
  pub turn-listing : Distinct n × Closed n × ((length (listing n) ≡ length n.divisors) ↔ ((v : ℕ) → Through n v v → ⊥))
  turn-listing = (turn-distinct, turn-closed, listing-all n turn-distinct turn-closed)

-- so a network by the rules is sound
pub good-sound : (n : Net) → Good n → Sound n
good-sound n g = let w = turn-listing n g.in_turn g.known in record { distinct = w.0; closed = w.1; whole = w.2.1 g.acyclic }

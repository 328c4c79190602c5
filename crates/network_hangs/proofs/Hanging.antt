-- What an expression hangs on: the divisors that it reads, directly and through others; its value hangs on no other divisor. Assumes nothing.
use Prim.Native.Nat.{ℕ, zero, suc, ◌<◌, ◌≤◌}
use mathlib.Core.Path.{◌≡◌, refl, sym, ap, ◌∙◌, subst}
use mathlib.Core.Logic.{◌⊎◌, inl, inr, ◌↔◌}
use mathlib.Core.Bool.{Bool}
use mathlib.Core.List.Memᴰ
use mathlib.Core.List.{List, [], ◌∷◌, ◌++◌, append_assoc}
use native.Mathlib.Omega.{arith}
use lib.Dec.{leb}
use lib.ListN.{length, get_or, length-append, get_or-eq_default}
use borrow.Author.Tests.{leb-true, leb-false, le-leb}
use Rattle.sets.{specs.Sets.mem, specs.Sets.union, specs.Masks.bit, proofs.Places.at_in}
use Rattle.sets.proofs.Truth.{either, or_left, or_right, decided}
use Rattle.sets.proofs.Lists.{◌∈◌, keep-in, keep_out}
use Rattle.sets.proofs.Sets.{mem-of, of_mem, union-mem}
use Rattle.expression.specs.Value.{lit, value}
use Rattle.network.specs.Net.{Node, Net, cubes_at}
use Rattle.network.specs.{Listing.listing, Evaluation.settle, Evaluation.evaluate, Meaning.Through.itself, Meaning.Through.others}
use Rattle.network.specs.Meaning.{Reads, Through, IsDivisor, IsVariable, Consistent, Sound}
use Rattle.network.proofs.{Places.split-in, Numbering.cubes-at}
use Rattle.network.proofs.Listings.{listing-in, listing-earlier, through-from, through-then}
use Rattle.network.proofs.Evaluating.{value-agree, divisors-agree, evaluate-settled, evaluate-bit}
use Rattle.network_reads.{specs.Reading.reads_of, proofs.Reading.reads_in, proofs.Reading.reads-out}
use Rattle.network_hangs.specs.Hangs.{read_by, reached, hangs_on, Leans, KeepsAlone, Fits}
use Rattle.network_hangs.proofs.Reading.{by_in, by_out, reads-divisor}

-- ---- what is reached

module _ (n : Net) (l : List ℕ) (v : ℕ) where
  step-out : v ∈ union l (read_by n l) → (v ∈ l) ⊎ ((u : ℕ) × (u ∈ l) × Reads (cubes_at u n.divisors) v)
  step-out m = elim (either (mem v l) (mem v (read_by n l)) (sym (union-mem v l (read_by n l)) ∙ mem-of m)) [
    | inl t ↦ inl (of_mem v l t)
    | inr t ↦ inr (by_out n l v t)
  ]

  step-stay : v ∈ l → v ∈ union l (read_by n l)
  step-stay m = of_mem v (union l (read_by n l)) (union-mem v l (read_by n l) ∙ or_left _ _ (mem-of m))

  step-read : (u : ℕ) → u ∈ l → Reads (cubes_at u n.divisors) v → v ∈ union l (read_by n l)
  step-read u m r = of_mem v (union l (read_by n l)) (union-mem v l (read_by n l) ∙ or_right (mem v l) _ (by_in n v m r))

-- more turns lose nothing
reached-stay : (n : Net) (k : ℕ) (l : List ℕ) (v : ℕ) → v ∈ l → v ∈ reached k n l
unfolding reached
reached-stay n zero l v m = m
reached-stay n (suc k) l v m = reached-stay n k (union l (read_by n l)) v (step-stay n l v m)

reached-more : (n : Net) (j k : ℕ) (l : List ℕ) (v : ℕ) → j ≤ k → v ∈ reached j n l → v ∈ reached k n l
unfolding reached
reached-more n zero k l v h m = reached-stay n k l v m
reached-more n (suc j) zero l v h m = absurd (omega arith)
reached-more n (suc j) (suc k) l v h m = reached-more n j k (union l (read_by n l)) v (omega arith) m

module _ (n : Net) (o : Sound n) where
  -- what a divisor reads and is no input is a divisor
  read-is-divisor : (e : Node) → e ∈ n.divisors → (v : ℕ) → n.inputs ≤ v → Reads e.cubes v → IsDivisor n v
  read-is-divisor e m v h r = elim (o.closed.divisors e m v r) [ inl k ↦ absurd (omega arith) | inr d ↦ d ]

  through_read : (u v : ℕ) → n.inputs ≤ v → Reads (cubes_at u n.divisors) v → Through n u v
  through_read u v h r =
      let q = reads-divisor n u v r in
      let d = read-is-divisor q.0 q.1 v h q.3 in
      subst (λ (x : ℕ). Through n x v) (sym q.2) (subst (Through n q.0.number) (sym d.2)
      (itself q.1 d.1 (subst (Reads q.0.cubes) d.2 q.3)))

  through-to : {u v : ℕ} → Through n u v → IsDivisor n v
  through-to (itself {g = g} m i r) = (g, i, refl)
  through-to (others m i r t) = through-to t

  divisor-above : (v : ℕ) → IsDivisor n v → n.inputs ≤ v
  divisor-above v (e, m, p) = rw p (o.distinct.above e m)

  -- what is reached was there, or is read through others by what was there
  reached-out : (k : ℕ) (l : List ℕ) (v : ℕ) → n.inputs ≤ v → v ∈ reached k n l → (v ∈ l) ⊎ ((u : ℕ) × (u ∈ l) × Through n u v)
  unfolding reached
  reached-out zero l v h m = inl m
  reached-out (suc k) l v h m = elim (reached-out k (union l (read_by n l)) v h m) [
    | inl i ↦ elim (step-out n l v i) [ inl j ↦ inl j | inr (u, j, r) ↦ inr (u, j, through_read u v h r) ]
    | inr (u, i, t) ↦ elim (step-out n l u i) [
      | inl j ↦ inr (u, j, t)
      | inr (w, j, r) ↦ inr (w, j, through-then n (through_read w u (divisor-above u (through-from n t)) r) t)
    ]
  ]

  -- what a listed divisor reads stands before it
  earlier : (a b : List ℕ) (e g : Node) → e ∈ n.divisors → g ∈ n.divisors → Reads e.cubes g.number → listing n ≡ a ++ (e.number ∷ b)
      → (x : List ℕ) × (y : List ℕ) × (a ≡ x ++ (g.number ∷ y)) × (length x < length a)
  earlier a b e g m i r p =
      let s = split-in (listing-earlier n o.distinct a b e g m i r p) in
      (s.0, s.1, s.2, omega (arith, ap length s.2, length-append s.0 (g.number ∷ s.1)))

  -- so what a divisor reads through others is reached in as many turns as there are numbers before it
  reached-through : {u v : ℕ} → Through n u v → (a b : List ℕ) → listing n ≡ a ++ (u ∷ b) → (l : List ℕ) → u ∈ l → v ∈ reached (length a) n l
  unfolding reached
  reached-through (itself {e = e} {g = g} m i r) a b p l j =
      let s = earlier a b e g m i r p in
      reached-more n 1 (length a) l g.number (omega (arith, s.3)) (step-read n l g.number e.number j (rw (cubes-at n o.distinct m) r))
  reached-through {v = v} (others {e = e} {g = g} m i r t) a b p l j =
      let s = earlier a b e g m i r p in
      let q : listing n ≡ s.0 ++ (g.number ∷ (s.1 ++ (e.number ∷ b))) = p ∙ ap (◌++ (e.number ∷ b)) s.2
      ∙ append_assoc s.0 (g.number ∷ s.1) (e.number ∷ b) in
      reached-more n (suc (length s.0)) (length a) l v s.3
      (reached-through t s.0 (s.1 ++ (e.number ∷ b)) q (union l (read_by n l))
      (step-read n l g.number e.number j (rw (cubes-at n o.distinct m) r)))

  -- and all of it in as many turns as there are divisors
  reached-all : (u v : ℕ) (l : List ℕ) → u ∈ l → Through n u v → v ∈ reached (length n.divisors) n l
  reached-all u v l j t =
      let d = through-from n t in
      let s = split-in (Memᴰ.cast d.2 (listing-in n o.whole d.0 d.1)) in
      reached-more n (length s.0) (length n.divisors) l v (omega (arith, o.whole, ap length s.2, length-append s.0 (u ∷ s.1)))
      (reached-through t s.0 s.1 s.2 l j)

-- ---- what an expression over known variables hangs on

module _ (n : Net) (o : Sound n) (f : List (List ℕ)) (k : (v : ℕ) → Reads f v → IsVariable n v) where
  known-is-divisor : (v : ℕ) → n.inputs ≤ v → Reads f v → IsDivisor n v
  known-is-divisor v h r = elim (k v r) [ inl i ↦ absurd (omega arith) | inr d ↦ d ]

  hangs-into : (v : ℕ) → v ∈ hangs_on n f → IsDivisor n v × Leans n f v
  unfolding hangs_on
  hangs-into v m =
      let q = keep_out (λ x. leb n.inputs x) (reached (length n.divisors) n (reads_of f)) m in
      let h = leb-true n.inputs v q.1 in
      elim (reached-out n o (length n.divisors) (reads_of f) v h q.0) [
        | inl i ↦ let r = reads-out f v (mem-of i) in (known-is-divisor v h r, inl r)
        | inr (u, i, t) ↦ (through-to n o t, inr (u, reads-out f u (mem-of i), t))
      ]

  hangs-back : (v : ℕ) → IsDivisor n v × Leans n f v → v ∈ hangs_on n f
  unfolding hangs_on
  hangs-back v (d, r) = keep-in (λ x. leb n.inputs x) (go r) (le-leb n.inputs v (divisor-above n o v d))
    where
      go : Leans n f v → v ∈ reached (length n.divisors) n (reads_of f)
      go (inl i) = reached-stay n (length n.divisors) (reads_of f) v (of_mem v (reads_of f) (reads_in f v i))
      go (inr (u, i, t)) = reached-all n o u v (reads_of f) (of_mem u (reads_of f) (reads_in f u i)) t

  -- the divisors that it reads, directly or through others, and no others
  pub hangs-iff : (v : ℕ) → (v ∈ hangs_on n f) ↔ (IsDivisor n v × Leans n f v)
  hangs-iff v = (hangs-into v, hangs-back v)

  -- what a divisor of these reads is an input or one of these
  pub hangs-closed : (e : Node) → e ∈ n.divisors → e.number ∈ hangs_on n f → (v : ℕ) → Reads e.cubes v → (v < n.inputs) ⊎ (v ∈ hangs_on n f)
  hangs-closed e m i v r = elim (o.closed.divisors e m v r) [
    | inl h ↦ inl h
    | inr (g, j, p) ↦
        let t : Through n e.number v = subst (Through n e.number) (sym p) (itself m j (subst (Reads e.cubes) p r)) in
        inr (hangs-back v ((g, j, p), inr (elim (hangs-into e.number i).1 [ inl q ↦ (e.number, q, t) | inr (u, q, w) ↦ (u, q, through-then n w t) ])))
  ]

  module _ (s a b : ℕ → Bool) (fa : Fits n s (hangs_on n f) a) (fb : Fits n s (hangs_on n f) b) where
    input-agree : (v : ℕ) → v < n.inputs → a v ≡ b v
    input-agree v h = fa.inputs v h ∙ sym (fb.inputs v h)

    at_divisor : {c : ℕ → Bool} → Fits n s (hangs_on n f) c → (e : Node) → e ∈ n.divisors → e.number ∈ hangs_on n f → c e.number ≡ value (lit c) e.cubes
    at_divisor {c} z e m i = z.divisors e.number i ∙ ap (value (lit c)) (cubes-at n o.distinct m)

    -- its value is fixed by the inputs and by the divisors that it hangs on, whatever the others are
    pub hangs-alone : value (lit a) f ≡ value (lit b) f
    hangs-alone = value-agree a b f (λ v r. elim (k v r) [
      | inl h ↦ input-agree v h
      | inr (e, m, p) ↦ rw p (divisors-agree n o.whole a b input-agree (λ u. u ∈ hangs_on n f) (at_divisor fa) (at_divisor fb) hangs-closed e m
          (hangs-back e.number ((e, m, refl), inl (subst (Reads f) p r))))
    ])

  -- an assignment that fits the network fits on these
  pub hangs-fits : (s a : ℕ → Bool) → Consistent n s a → Fits n s (hangs_on n f) a
  hangs-fits s a c = record {
    inputs = c.inputs;
    divisors = λ v w.
        let d = (hangs-into v w).0 in
        ap a d.2 ∙ c.divisors d.0 d.1 ∙ ap (value (lit a)) (sym (ap (λ x. cubes_at x n.divisors) d.2 ∙ cubes-at n o.distinct d.1));
  }

-- ---- an output's answer

-- what one of some expressions reads is known, where that holds of all; past the last there is nothing to read
pub known_at : (n : Net) (fs : List (List (List ℕ))) → ((f : List (List ℕ)) → f ∈ fs → (v : ℕ) → Reads f v → IsVariable n v) → (j v : ℕ)
    → Reads (get_or fs j []) v → IsVariable n v
known_at n fs k j v r = elim (decided (leb (length fs) j)) [
  | inl t ↦ let q = subst (λ f. Reads f v) (get_or-eq_default fs [] (leb-true (length fs) j t)) r in absurd (Memᴰ.not-nil q.1)
  | inr t ↦ k (get_or fs j []) (at_in fs j [] (leb-false (length fs) j t)) v r
]

-- two networks with the same inputs and the same output answer alike there, where the divisors that it hangs on have the same expressions
pub hangs-output : (n m : Net) → Sound n → Sound m → (j : ℕ) → get_or n.outputs j [] ≡ get_or m.outputs j []
    → KeepsAlone n m (hangs_on n (get_or n.outputs j []))
    → (s : ℕ) → bit (evaluate n s) j ≡ bit (evaluate m s) j
hangs-output n m o q j e k s =
    let f = get_or n.outputs j [] in
    let known : (v : ℕ) → Reads f v → IsVariable n v = known_at n n.outputs o.closed.outputs j in
    let a = settle n (listing n) (bit s) in
    let b = settle m (listing m) (bit s) in
    let c = evaluate-settled m q s in
    let fb : Fits n (bit s) (hangs_on n f) b = record {
      inputs = λ i h. c.inputs i (omega (arith, k.inputs));
      divisors = λ v w. let d = k.divisors v w in ap b d.2 ∙ c.divisors d.0 d.1 ∙ ap (value (lit b)) d.3;
    } in
    evaluate-bit n s j
    ∙ hangs-alone n o f known (bit s) a b (hangs-fits n o f known (bit s) a (evaluate-settled n o s)) fb
    ∙ ap (value (lit b)) e ∙ sym (evaluate-bit m s j)

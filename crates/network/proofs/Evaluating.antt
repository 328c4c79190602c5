-- Evaluation: along a whole listing the divisors settle to the one consistent assignment, from which the answer is read; it hangs on no
-- bit past the inputs and on no order of cubes. Assumes nothing.
use Prim.Native.Nat.{ℕ, zero, suc, ◌/◌, ◌^◌, ◌<◌, ◌≤◌}
use mathlib.Core.Path.{◌≡◌, refl, sym, ap, ap₂, ◌∙◌, subst}
use mathlib.Core.Logic.{◌⊎◌, inl, inr}
use mathlib.Core.Bool.{Bool, true, false, cond, ◌||◌}
use mathlib.Core.Option.{Option, none, some}
use mathlib.Core.List.Memᴰ
use mathlib.Core.List.Memᴰ.{head as here}
use mathlib.Core.List.Memᴰ.{tail as there}
use mathlib.Core.List.{List, [], ◌∷◌, ◌++◌, map, append-nil, append_assoc}
use native.Mathlib.Omega.{arith}
use lib.Dec.{eqb, ltb}
use lib.ListN.{length, get_or, length-map, get_or-map}
use borrow.Author.Tests.{eq-eqb, ne_eqb}
use Rattle.sets.{specs.Lists.all, specs.Lists.pairwise, specs.Sets.mem, specs.Masks.bit, specs.Masks.packed, proofs.Truth.iff}
use Rattle.sets.proofs.Lists.{◌∈◌, any-in, any_out, all_in, all-out, all-cong, any-cong, map-cong}
use Rattle.sets.proofs.{Digits.bit_high, Packing.packed-bit, Packing.packed_lt}
use Rattle.expression.specs.Value.{lit, value}
use Rattle.network.specs.Net.{Node, Net, cubes_at}
use Rattle.network.specs.Listing.{ready, next_ready, list_more, listing}
use Rattle.network.specs.Evaluation.{assign, settle, answers, evaluate}
use Rattle.network.specs.Meaning.{differ, Reads, Consistent, IsVariable, Closed, Distinct, Sound, SameCubes, Along, SameNode, Reordered}
use Rattle.network.specs.Meaning.Along.{end, on}
use Rattle.network.proofs.{Places.split-in, Places.once-apart, Numbering.cubes-at}
use Rattle.network.proofs.Listings.{more-none, more-some, ready-out, next-some, listing-next, listing-once, listing-number, listing-in, listing-reads}

-- an expression's value hangs on the variables that it reads
pub value-agree : (a b : ℕ → Bool) (f : List (List ℕ)) → ((v : ℕ) → Reads f v → a v ≡ b v) → value (lit a) f ≡ value (lit b) f
unfolding lit
value-agree a b f k = any-cong (all (lit a)) (all (lit b)) f (λ c m. all-cong (lit a) (lit b) c (λ l i. rw (k (l / 2) (c, m, (l, i, refl)))))

-- ---- settling

-- a number that is not among those that settle keeps its value
settle_other : (n : Net) (l : List ℕ) (a : ℕ → Bool) (u : ℕ) → (u ∈ l → ⊥) → settle n l a u ≡ a u
unfolding settle
settle_other n [] a u h = refl
settle_other n (v ∷ l) a u h =
    settle_other n l (assign a v (value (lit a) (cubes_at v n.divisors))) u (λ m. h (there m)) ∙ rw (ne_eqb u v (λ e. h (here e)))

settle-append : (n : Net) (l m : List ℕ) (a : ℕ → Bool) → settle n (l ++ m) a ≡ settle n m (settle n l a)
unfolding settle
settle-append n [] m a = refl
settle-append n (v ∷ l) m a = settle-append n l m (assign a v (value (lit a) (cubes_at v n.divisors)))

-- one that comes once has the value of its expression when its turn came
settle-at : (n : Net) (b : List ℕ) (a : ℕ → Bool) (v : ℕ) → (v ∈ b → ⊥) → settle n (v ∷ b) a v ≡ value (lit a) (cubes_at v n.divisors)
unfolding settle
settle-at n b a v h = settle_other n b (assign a v (value (lit a) (cubes_at v n.divisors))) v h ∙ rw (eq-eqb v v refl)

module _ (n : Net) (d : Distinct n) (w : length (listing n) ≡ length n.divisors) where
  listed_above : (v : ℕ) → v ∈ listing n → n.inputs ≤ v
  listed_above v m = let r = listing-number n v m in rw r.2 (d.above r.0 r.1)

  settle-input : (a : ℕ → Bool) (i : ℕ) → i < n.inputs → settle n (listing n) a i ≡ a i
  settle-input a i h = settle_other n (listing n) a i (λ m. omega (arith, listed_above i m))

  settle-node : (a : ℕ → Bool) (e : Node) → e ∈ n.divisors → settle n (listing n) a e.number ≡ value (lit (settle n (listing n) a)) e.cubes
  settle-node a e m =
      let (p, b, q) = split-in (listing-in n w e m) in
      let once : pairwise differ (p ++ (e.number ∷ b)) ≡ true = rw q at (listing-once n) in
      let tail : e.number ∈ b → ⊥ = λ i. once-apart (p ++ (e.number ∷ [])) b (rw append_assoc once) (Memᴰ.append_right p (here refl)) i in
      let whole : settle n (listing n) a ≡ settle n (e.number ∷ b) (settle n p a) = ap (λ (l : List ℕ). settle n l a) q
      ∙ settle-append n p (e.number ∷ b) a in
      let stays : (u : ℕ) → (u ∈ (e.number ∷ b) → ⊥) → settle n p a u ≡ settle n (listing n) a u =
      λ u h. sym (ap (λ (f : ℕ → Bool). f u) whole ∙ settle_other n (e.number ∷ b) (settle n p a) u h) in
      ap (λ (f : ℕ → Bool). f e.number) whole
      ∙ settle-at n b (settle n p a) e.number tail
      ∙ ap (value (lit (settle n p a))) (cubes-at n d m)
      ∙ value-agree (settle n p a) (settle n (listing n) a) e.cubes (λ u r. stays u (λ i.
      elim (listing-reads n d p b e m q u r) [
        | inl h ↦ let k : n.inputs ≤ u = listed_above u (subst (λ (l : List ℕ). u ∈ l) (sym q) (Memᴰ.append_right p i)) in omega arith
        | inr k ↦ once-apart p (e.number ∷ b) once k i
      ]))

  -- the divisors of a whole listing settle to an assignment that fits
  pub settled : (s a : ℕ → Bool) → ((i : ℕ) → i < n.inputs → a i ≡ s i) → Consistent n s (settle n (listing n) a)
  settled s a k = record { inputs = λ i h. settle-input a i h ∙ k i h; divisors = settle-node a }

-- ---- one assignment fits

-- two assignments that agree on the inputs, and have at the divisors of a closed set the values of their expressions, agree there
module _ (n : Net) (w : length (listing n) ≡ length n.divisors) (a b : ℕ → Bool) (given : (v : ℕ) → v < n.inputs → a v ≡ b v) (set : ℕ → Type 0)
    (fa : (e : Node) → e ∈ n.divisors → set e.number → a e.number ≡ value (lit a) e.cubes)
    (fb : (e : Node) → e ∈ n.divisors → set e.number → b e.number ≡ value (lit b) e.cubes)
    (closed : (e : Node) → e ∈ n.divisors → set e.number → (v : ℕ) → Reads e.cubes v → (v < n.inputs) ⊎ set v) where
  listed-agree : (p r : List ℕ) → listing n ≡ p ++ r → ((u : ℕ) → u ∈ p → set u → a u ≡ b u) → (u : ℕ) → u ∈ listing n → set u → a u ≡ b u
  listed-agree p [] q k = λ u m. k u (subst (λ (l : List ℕ). u ∈ l) (q ∙ append-nil p) m)
  listed-agree p (v ∷ r) q k = listed-agree (p ++ (v ∷ [])) r (q ∙ sym (append_assoc p (v ∷ []) r)) (λ u i t.
      elim (Memᴰ.append_cases p i) [
        | inl j ↦ k u j t
        | inr j ↦ let e = Memᴰ.eq_of_singleton j in rw e (last (subst set e t))
      ])
    where
      last : set v → a v ≡ b v
      last t =
          let x = next-some n.inputs p n.divisors v (listing-next n p r v q) in
          let y = subst set x.number t in
          rw x.number
          (fa x.node x.inside y
          ∙ value-agree a b x.node.cubes (λ u z. elim (closed x.node x.inside y u z) [
            | inl h ↦ given u h
            | inr g ↦ elim (ready-out n.inputs p x.node.cubes x.allowed u z) [ inl h ↦ given u h | inr i ↦ k u i g ]
          ])
          ∙ sym (fb x.node x.inside y))

  pub divisors-agree : (e : Node) → e ∈ n.divisors → set e.number → a e.number ≡ b e.number
  divisors-agree e m = listed-agree [] (listing n) refl (λ u i. absurd (Memᴰ.not-nil i)) e.number (listing-in n w e m)

module _ (n : Net) (w : length (listing n) ≡ length n.divisors) (s a b : ℕ → Bool) (ca : Consistent n s a) (cb : Consistent n s b) where
  input-agree : (v : ℕ) → v < n.inputs → a v ≡ b v
  input-agree v h = ca.inputs v h ∙ sym (cb.inputs v h)

  -- two assignments that fit one setting agree on inputs and divisors
  pub unique : (v : ℕ) → IsVariable n v → a v ≡ b v
  unique v (inl h) = input-agree v h
  unique v (inr (e, m, p)) = rw p (divisors-agree n w a b input-agree (λ u. u ≡ u) (λ g i _. ca.divisors g i) (λ g i _. cb.divisors g i)
      (λ g i _ u r. inr refl) e m refl)

  -- and give the same outputs
  pub answers-unique : Closed n → answers n a ≡ answers n b
  answers-unique c = map-cong (value (lit a)) (value (lit b)) n.outputs (λ f m. value-agree a b f (λ v r. unique v (c.outputs f m v r)))

-- ---- the answer

module _ (n : Net) (o : Sound n) where
  -- evaluation settles to the assignment that fits the setting
  pub evaluate-settled : (s : ℕ) → Consistent n (bit s) (settle n (listing n) (bit s))
  evaluate-settled s = settled n o.distinct o.whole (bit s) (bit s) (λ i h. refl)

  -- the answer is read off any assignment that fits the setting
  pub evaluate-read : (s : ℕ) (a : ℕ → Bool) → Consistent n (bit s) a → evaluate n s ≡ packed (answers n a)
  unfolding evaluate
  evaluate-read s a c = ap packed (answers-unique n o.whole (bit s) (settle n (listing n) (bit s)) a (evaluate-settled s) c o.closed)

  -- bits past the inputs are ignored
  pub evaluate-inputs : (s t : ℕ) → ((i : ℕ) → i < n.inputs → bit s i ≡ bit t i) → evaluate n s ≡ evaluate n t
  unfolding evaluate
  evaluate-inputs s t k = evaluate-read s (settle n (listing n) (bit t)) (settled n o.distinct o.whole (bit s) (bit t) (λ i h. sym (k i h)))

-- ---- the bits of the answer

module _ (n : Net) (s : ℕ) where
  -- output j is bit j of the answer
  pub evaluate-bit : (j : ℕ) → bit (evaluate n s) j ≡ value (lit (settle n (listing n) (bit s))) (get_or n.outputs j [])
  unfolding evaluate
  evaluate-bit j = packed-bit (answers n (settle n (listing n) (bit s))) j ∙ get_or-map (value (lit (settle n (listing n) (bit s)))) n.outputs j []

  -- other bits are zero
  pub evaluate-lt : evaluate n s < 2 ^ length n.outputs
  unfolding evaluate
  evaluate-lt = rw (← (length-map n.outputs (value (lit (settle n (listing n) (bit s)))))) (packed_lt (answers n (settle n (listing n) (bit s))))

  pub evaluate-past : (j : ℕ) → length n.outputs ≤ j → bit (evaluate n s) j ≡ false
  evaluate-past j h = bit_high (length n.outputs) (evaluate n s) j evaluate-lt h

-- ---- the order of cubes

module _ {f g : List (List ℕ)} (e : SameCubes f g) where
  ready-same : (k : ℕ) (l : List ℕ) → ready k l f ≡ ready k l g
  unfolding ready
  ready-same k l = iff
      (λ h. all_in (all (λ x. ltb (x / 2) k || mem (x / 2) l)) g (λ c m. all-out (all (λ x. ltb (x / 2) k || mem (x / 2) l)) (e.back c m) h))
      (λ h. all_in (all (λ x. ltb (x / 2) k || mem (x / 2) l)) f (λ c m. all-out (all (λ x. ltb (x / 2) k || mem (x / 2) l)) (e.into c m) h))

  -- the value of an expression hangs on no order of its cubes
  pub value_same : (v : ℕ → Bool) → value v f ≡ value v g
  value_same v = iff
      (λ h. let r = any_out (all v) f h in any-in (all v) (e.into r.0 r.1) r.2)
      (λ h. let r = any_out (all v) g h in any-in (all v) (e.back r.0 r.1) r.2)

pub along-length : {A : Type 0} {r : A → A → Type 0} {l m : List A} → Along r l m → length l ≡ length m
along-length end = refl
along-length (on e t) = ap suc (along-length t)

next-same : (k : ℕ) (l : List ℕ) {ds es : List Node} → Along SameNode ds es → next_ready k l ds ≡ next_ready k l es
unfolding next_ready
next-same k l end = refl
next-same k l (on (p, e) t) = rw (p, ready-same e k l, next-same k l t)

cubes-same : (v : ℕ) {ds es : List Node} → Along SameNode ds es → SameCubes (cubes_at v ds) (cubes_at v es)
unfolding cubes_at
cubes-same v end = record { into = λ c m. m; back = λ c m. m }
cubes-same v (on {x = x} {y = y} {l = l} {m = m} (p, e) t) =
    rw p (elim (eqb v y.number) as (λ b. SameCubes (cond b x.cubes (cubes_at v l)) (cond b y.cubes (cubes_at v m)))
    [ true ↦ e | false ↦ cubes-same v t ])

outputs-same : (v : ℕ → Bool) {fs gs : List (List (List ℕ))} → Along SameCubes fs gs → map (value v) fs ≡ map (value v) gs
outputs-same v end = refl
outputs-same v (on e t) = ap₂ ◌∷◌ (value_same e v) (outputs-same v t)

module _ (n m : Net) (r : Reordered n m) where
  next-alike : (l : List ℕ) → next_ready n.inputs l n.divisors ≡ next_ready m.inputs l m.divisors
  next-alike l = rw r.inputs (next-same m.inputs l r.divisors)

  more-alike : (k : ℕ) (l : List ℕ) → list_more k n l ≡ list_more k m l
  unfolding list_more
  more-alike zero l = refl
  more-alike (suc k) l = go (next_ready n.inputs l n.divisors) refl (more-alike k)
    where
      go : (o : Option ℕ) → next_ready n.inputs l n.divisors ≡ o → ((p : List ℕ) → list_more k n p ≡ list_more k m p)
          → list_more (suc k) n l ≡ list_more (suc k) m l
      go none e h = more-none k n l e ∙ sym (more-none k m l (sym (next-alike l) ∙ e))
      go (some v) e h = more-some k n l v e ∙ h (l ++ (v ∷ [])) ∙ sym (more-some k m l v (sym (next-alike l) ∙ e))

  -- networks that differ in the order of cubes alone have one listing
  pub listing-order : listing n ≡ listing m
  unfolding listing
  listing-order = rw (along-length r.divisors) (more-alike (length m.divisors) [])

  settle-alike : (l : List ℕ) (a : ℕ → Bool) → settle n l a ≡ settle m l a
  unfolding settle
  settle-alike [] a = refl
  settle-alike (v ∷ l) a =
      ap (λ (x : Bool). settle n l (assign a v x)) (value_same (cubes-same v r.divisors) (lit a))
      ∙ settle-alike l (assign a v (value (lit a) (cubes_at v m.divisors)))

  -- and answer alike
  pub evaluate-order : (s : ℕ) → evaluate n s ≡ evaluate m s
  unfolding evaluate
  evaluate-order s = ap packed (ap (answers n) (settle-alike (listing n) (bit s) ∙ ap (λ (l : List ℕ). settle m l (bit s)) listing-order)
      ∙ outputs-same (lit (settle m (listing m) (bit s))) r.outputs)

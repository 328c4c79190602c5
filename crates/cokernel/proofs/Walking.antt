-- The walk over the literals lists exactly the co-kernels, each once, in cube order: by induction on the literals that are left. Assumes nothing.
use Prim.Native.Nat.{ℕ, zero, suc, ◌+◌, ◌<◌, ◌≤◌}
use mathlib.Core.Path.{◌≡◌, refl, sym, ◌∙◌, ap, subst}
use mathlib.Core.Logic.{◌⊎◌, inl, inr}
use mathlib.Core.Bool.{Bool, true, false, cond, and-true}
use mathlib.Core.List.Memᴰ
use mathlib.Core.List.Memᴰ.{head as here}
use mathlib.Core.List.{List, [], ◌∷◌}
use mathlib.Core.Option.{Option, none, some}
use native.Mathlib.Omega.{arith}
use lib.Dec.{leb, ltb, eqb}
use lib.ListN.{length}
use borrow.Author.Tests.{leb-true, le-leb, ltb-true, ltb-false, lt-ltb, eqb-true, eq-eqb, ne_eqb}
use Rattle.sets.specs.Lists.{pairwise, is_some}
use Rattle.sets.specs.Sets.{mem, sub, asc, insert, same, first_from, before}
use Rattle.sets.proofs.Truth.{both, together, either, decided, clash, refuted, below as lower, equal, beyond as upper, compared}
use Rattle.sets.proofs.Lists.{◌∈◌, keep_out, pairwise_append, pairwise-keep}
use Rattle.sets.proofs.Sets.{insert-mem, insert-asc, keep-mem, sub_in, sub_out, same-eq, eq-same, ext}
use Rattle.sets.proofs.First.{first-none, none_first, some_first}
use Rattle.sets.proofs.Ordering.{before-first, before-linear}
use Rattle.expression.specs.Expression.{Cubes}
use Rattle.cokernel.specs.Cokernels.{above, common, is_cokernel, below, opens, beyond}
use Rattle.cokernel.specs.Meaning.{Held, Prefix, SameBelow, branch_cubes}
use Rattle.cokernel.proofs.Closing.{above-asc, above-fewer, common-more, common-above, cokernel-out}

-- ---- a list that goes on from a number

pub on_in : (j : ℕ) (c : List ℕ) (l : ℕ) → j ≤ l → mem l c ≡ true → is_some (first_from j c) ≡ true
on_in j c l h m = go (first_from j c) refl
  where
    go : (o : Option ℕ) → first_from j c ≡ o → is_some o ≡ true
    go none e = clash m (none_first j c e l h)
    go (some x) e = refl

pub on_out : (j : ℕ) (c : List ℕ) → asc c ≡ true → is_some (first_from j c) ≡ true → (l : ℕ) × (j ≤ l) × (mem l c ≡ true)
    × ((k : ℕ) → j ≤ k → k < l → mem k c ≡ false)
on_out j c a h = go (first_from j c) refl h
  where
    go : (o : Option ℕ) → first_from j c ≡ o → is_some o ≡ true → (l : ℕ) × (j ≤ l) × (mem l c ≡ true) × ((k : ℕ) → j ≤ k → k < l → mem k c ≡ false)
    go none e t = clash t refl
    go (some x) e t = let r = some_first j c x a e in (x, r.not_below, r.is_in, r.least)

pub on_none : (j : ℕ) (c : List ℕ) → is_some (first_from j c) ≡ false → (l : ℕ) → j ≤ l → mem l c ≡ false
on_none j c h l k = refuted (λ m. clash (on_in j c l k m) h)

-- ---- literals below j, and cubes that agree there

pub prefix-none : Prefix [] 0
unfolding mem
prefix-none = record { rising = refl; low = λ l m. clash m refl }

pub prefix-on : (p : List ℕ) (j : ℕ) → Prefix p j → Prefix p (suc j)
prefix-on p j h = record { rising = h.rising; low = λ l m. omega (arith, h.low l m) }

pub prefix-with : (p : List ℕ) (j : ℕ) → Prefix p j → Prefix (insert j p) (suc j)
prefix-with p j h = record {
  rising = insert-asc j p h.rising;
  low = λ l m. elim (either (eqb l j) (mem l p) (sym (insert-mem l j p) ∙ m)) [ inl e ↦ omega (arith, eqb-true l j e) | inr t ↦ omega (arith, h.low l t) ];
}

-- past its end a prefix has no literal
pub prefix-past : (p : List ℕ) (j : ℕ) → Prefix p j → (l : ℕ) → j ≤ l → mem l p ≡ false
prefix-past p j h l k = refuted (λ m. omega (arith, h.low l m))

pub mem-with : (p : List ℕ) (j l : ℕ) → l < j → mem l (insert j p) ≡ mem l p
mem-with p j l h = insert-mem l j p ∙ rw (ne_eqb l j (λ (e : l ≡ j). omega arith))

pub mem-there : (p : List ℕ) (j : ℕ) → mem j (insert j p) ≡ true
mem-there p j = insert-mem j j p ∙ rw (eq-eqb j j refl)

pub up-to : (j : ℕ) (a b : List ℕ) → SameBelow j a b → mem j a ≡ mem j b → SameBelow (suc j) a b
up-to j a b h e l k = elim (compared l j) [ lower s _ _ ↦ h l s | equal s _ _ ↦ rw s e | upper s _ _ ↦ absurd (omega arith) ]

-- a cube that is alike and does not go on is the prefix
pub alike_end : (j : ℕ) (c p : List ℕ) → asc c ≡ true → Prefix p j → SameBelow j c p → is_some (first_from j c) ≡ false → c ≡ p
alike_end j c p a h k e = ext c p a h.rising (λ l. elim (compared l j) [
  | lower s _ _ ↦ k l s
  | equal s _ _ ↦ past l (omega arith)
  | upper s _ _ ↦ past l (omega arith)
])
  where
    past : (l : ℕ) → j ≤ l → mem l c ≡ mem l p
    past l s = on_none j c e l s ∙ sym (prefix-past p j h l s)

-- one that is alike and goes on comes after the prefix
pub alike-before : (j : ℕ) (c p : List ℕ) → asc c ≡ true → Prefix p j → SameBelow j c p → is_some (first_from j c) ≡ true → before p c ≡ true
alike-before j c p a h k s = go (on_out j c a s)
  where
    go : ((l : ℕ) × (j ≤ l) × (mem l c ≡ true) × ((i : ℕ) → j ≤ i → i < l → mem i c ≡ false)) → before p c ≡ true
    go (l, le, m, least) = elim (decided (before p c)) [ inl t ↦ t | inr t ↦ clash m (ap (mem l) (before-linear c p after t) ∙ prefix-past p j h l le) ]
      where
        alike : (i : ℕ) → i < l → mem i c ≡ mem i p
        alike i g = elim (compared i j) [
          | lower u _ _ ↦ k i u
          | equal u _ _ ↦ least i (omega arith) g ∙ sym (prefix-past p j h i (omega arith))
          | upper u _ _ ↦ least i (omega arith) g ∙ sym (prefix-past p j h i (omega arith))
        ]

        after : before c p ≡ false
        after = before-first c p l a h.rising alike m (prefix-past p j h l le)
            ∙ ap is_some (first-none l p (λ i g. prefix-past p j h i (omega arith)))

-- ---- a branch is open

below-mem : (j : ℕ) (c : List ℕ) (l : ℕ) → l < j → mem l (below j c) ≡ mem l c
below-mem j c l h = keep-mem (λ x. ltb x j) l c ∙ rw (lt-ltb l j h) (and-true (mem l c))

below-past : (j : ℕ) (c : List ℕ) (l : ℕ) → j ≤ l → mem l (below j c) ≡ false
below-past j c l h = refuted (λ m. let q = both (mem l c) (ltb l j) (sym (keep-mem (λ x. ltb x j) l c) ∙ m) in omega (arith, ltb-true l j q.1))

module _ (f : Cubes) (j : ℕ) (c : List ℕ) where
  pub opens-out : opens f j c ≡ true → (2 ≤ length (above f c)) × SameBelow j (common (above f c)) c
  unfolding opens
  opens-out h =
      let q = both (leb 2 (length (above f c))) (same (below j (common (above f c))) (below j c)) h in
      let e = same-eq (below j (common (above f c))) (below j c) q.1 in
      (leb-true _ _ q.0, λ l k. sym (below-mem j (common (above f c)) l k) ∙ ap (mem l) e ∙ below-mem j c l k)

  pub opens_in : asc (common (above f c)) ≡ true → asc c ≡ true → 2 ≤ length (above f c) → SameBelow j (common (above f c)) c → opens f j c ≡ true
  unfolding opens
  opens_in a b h k = together _ _ (le-leb _ _ h) (eq-same _ _
      (ext (below j (common (above f c))) (below j c) (pairwise-keep ltb (λ x. ltb x j) (common (above f c)) a) (pairwise-keep ltb (λ x. ltb x j) c b)
      (λ l. elim (decided (ltb l j)) [ inl t ↦ inner l (ltb-true l j t) | inr t ↦ outer l (ltb-false l j t) ])))
    where
      inner : (l : ℕ) → l < j → mem l (below j (common (above f c))) ≡ mem l (below j c)
      inner l s = below-mem j (common (above f c)) l s ∙ k l s ∙ sym (below-mem j c l s)

      outer : (l : ℕ) → j ≤ l → mem l (below j (common (above f c))) ≡ mem l (below j c)
      outer l s = below-past j (common (above f c)) l s ∙ sym (below-past j c l s)

-- ---- what the walk lists

-- c is a co-kernel that is alike with p below j and goes on from there
pub record GoesOn (f : Cubes) (p : List ℕ) (j : ℕ) (c : List ℕ) : Type 0 where
  pub rising : asc c ≡ true
  pub closed : is_cokernel f c ≡ true
  pub alike : SameBelow j c p
  pub on : is_some (first_from j c) ≡ true

pub cond-out : {x : List ℕ} (b : Bool) (l : Cubes) → x ∈ cond b l [] → (b ≡ true) × (x ∈ l)
cond-out true l m = (refl, m)
cond-out false l m = absurd (Memᴰ.not-nil m)

pub cond-in : {x : List ℕ} {l : Cubes} (b : Bool) → b ≡ true → x ∈ l → x ∈ cond b l []
cond-in true h m = m
cond-in false h m = clash h refl

module _ (k : ℕ) (f : Cubes) (q : List ℕ) (j : ℕ) (h : Prefix q j) (c : List ℕ) where
  pub branch-out : (c ∈ beyond k f q j → GoesOn f q j c) → c ∈ branch_cubes k f q j → (asc c ≡ true) × (is_cokernel f c ≡ true) × SameBelow j c q
  branch-out w m = elim (Memᴰ.append_cases (cond (is_cokernel f q) (q ∷ []) []) m) [
    | inl i ↦ let o = cond-out (is_cokernel f q) _ i in rw (Memᴰ.eq_of_singleton o.1) (h.rising, o.0, λ l s. refl)
    | inr i ↦ let b = w i in (b.rising, b.closed, b.alike)
  ]

  pub branch_in : asc c ≡ true → is_cokernel f c ≡ true → SameBelow j c q → (GoesOn f q j c → c ∈ beyond k f q j) → c ∈ branch_cubes k f q j
  branch_in r e a w = elim (decided (is_some (first_from j c))) [
    | inl s ↦ Memᴰ.append_right (cond (is_cokernel f q) (q ∷ []) []) (w (record { rising = r; closed = e; alike = a; on = s }))
    | inr s ↦
        let t = alike_end j c q r h a s in
        Memᴰ.append_left (beyond k f q j) (cond-in (is_cokernel f q) (subst (λ z. is_cokernel f z ≡ true) t e) (here t))
  ]

pub beyond-out : (k : ℕ) (f : Cubes) (p : List ℕ) (j : ℕ) → Prefix p j → (c : List ℕ) → c ∈ beyond k f p j → GoesOn f p j c
unfolding beyond
beyond-out zero f p j h c m = absurd (Memᴰ.not-nil m)
beyond-out (suc k) f p j h c m =
    go (beyond-out k f (insert j p) (suc j) (prefix-with p j h) c) (beyond-out k f p (suc j) (prefix-on p j h) c)
    (Memᴰ.append_cases (cond (opens f j (insert j p)) (branch_cubes k f (insert j p) (suc j)) []) m)
  where
    go : (c ∈ beyond k f (insert j p) (suc j) → GoesOn f (insert j p) (suc j) c) → (c ∈ beyond k f p (suc j) → GoesOn f p (suc j) c)
        → (c ∈ cond (opens f j (insert j p)) (branch_cubes k f (insert j p) (suc j)) []) ⊎ (c ∈ beyond k f p (suc j))
        → GoesOn f p j c
    go w v (inl i) =
        let (r, e, a) = branch-out k f (insert j p) (suc j) (prefix-with p j h) c w (cond-out (opens f j (insert j p)) _ i).1 in
        record {
          rising = r;
          closed = e;
          alike = λ l s. a l (omega arith) ∙ mem-with p j l s;
          on = on_in j c j (omega arith) (a j (omega arith) ∙ mem-there p j);
        }
    go w v (inr i) =
        let r = v i in let s = on_out (suc j) c r.rising r.on in
        record { rising = r.rising; closed = r.closed; alike = λ l u. r.alike l (omega arith); on = on_in j c s.0 (omega (arith, s.1)) s.2 }

-- the literals that p and j are among have the cubes of c above them
module _ (n : ℕ) (f : Cubes) (p : List ℕ) (j : ℕ) (g : Held n f) (h : Prefix p j) where
  -- where c has j besides, the branch with j is open
  branch-open : (c : List ℕ) → is_cokernel f c ≡ true → SameBelow j c p → mem j c ≡ true → opens f j (insert j p) ≡ true
  branch-open c e a m = opens_in f j (insert j p) (above-asc f n (insert j p) g) (insert-asc j p h.rising)
      (omega (arith, above-fewer f (insert j p) c inside, two))
      (λ l s. elim (decided (mem l (insert j p))) [
        | inl t ↦ sub_out _ _ l (common-above f (insert j p) (omega (arith, above-fewer f (insert j p) c inside, two))) t ∙ sym t
        | inr t ↦ refuted (λ i. clash (mem-with p j l s ∙ sym (a l s)
            ∙ subst (λ z. mem l z ≡ true) (cokernel-out f c e).1 (sub_out _ _ l (common-more f (insert j p) c inside (omega (arith, two))) i)) t) ∙ sym t
      ])
    where
      two : 2 ≤ length (above f c)
      two = (cokernel-out f c e).0

      inside : sub (insert j p) c ≡ true
      inside = sub_in (insert j p) c (λ l i. elim (either (eqb l j) (mem l p) (sym (insert-mem l j p) ∙ i))
          [ inl t ↦ rw (eqb-true l j t) m | inr t ↦ a l (h.low l t) ∙ t ])

-- where the literals of the cubes are all below j + k
pub beyond-in : (k n : ℕ) (f : Cubes) (p : List ℕ) (j : ℕ) → n ≡ k + j → Held n f → Prefix p j → (c : List ℕ) → GoesOn f p j c → c ∈ beyond k f p j
unfolding beyond
beyond-in zero n f p j e g h c b = absurd (past (above f c) refl (cokernel-out f c b.closed).0)
  where
    past : (a : Cubes) → above f c ≡ a → 2 ≤ length a → ⊥
    past [] t w = omega arith
    past (d ∷ a) t w =
        let s = on_out j c b.rising b.on in
        let q = keep_out (sub c) f (subst (λ z. d ∈ z) (sym t) (here refl)) in
        omega (arith, s.1, g.inside d q.0 s.0 (sub_out c d s.0 q.1 s.2))
beyond-in (suc k) n f p j e g h c b = elim (decided (mem j c)) [
  | inl m ↦ Memᴰ.append_left (beyond k f p (suc j))
      (cond-in (opens f j (insert j p)) (branch-open n f p j g h c b.closed b.alike m)
      (branch_in k f (insert j p) (suc j) (prefix-with p j h) c b.rising b.closed
      (up-to j c (insert j p) (λ l s. b.alike l s ∙ sym (mem-with p j l s)) (m ∙ sym (mem-there p j)))
      (beyond-in k n f (insert j p) (suc j) (omega arith) g (prefix-with p j h) c)))
  | inr m ↦
      let s = on_out j c b.rising b.on in
      let past : s.0 ≡ j → ⊥ = λ t. clash (subst (λ z. mem z c ≡ true) t s.2) m in
      Memᴰ.append_right (cond (opens f j (insert j p)) (branch_cubes k f (insert j p) (suc j)) [])
      (beyond-in k n f p (suc j) (omega arith) g (prefix-on p j h) c (record {
        rising = b.rising;
        closed = b.closed;
        alike = up-to j c p b.alike (m ∙ sym (prefix-past p j h j (omega arith)));
        on = on_in (suc j) c s.0 (omega (arith, s.1, past)) s.2;
      }))
]

-- ---- in cube order

pub branch-ordered : (k : ℕ) (f : Cubes) (q : List ℕ) (j : ℕ) → Prefix q j → pairwise before (beyond k f q j) ≡ true
    → pairwise before (branch_cubes k f q j) ≡ true
branch-ordered k f q j h r = pairwise_append before _ _ (one (is_cokernel f q)) r (λ x y m i.
    let b = beyond-out k f q j h y i in
    let e : x ≡ q = Memᴰ.eq_of_singleton (cond-out (is_cokernel f q) (q ∷ []) m).1 in
    rw e (alike-before j y q b.rising h b.alike b.on))
  where
    one : (b : Bool) → pairwise before (cond b (q ∷ []) []) ≡ true
    one true = refl
    one false = refl

pub beyond-ordered : (k : ℕ) (f : Cubes) (p : List ℕ) (j : ℕ) → Prefix p j → pairwise before (beyond k f p j) ≡ true
unfolding beyond
beyond-ordered zero f p j h = refl
beyond-ordered (suc k) f p j h = pairwise_append before _ _ (first (opens f j (insert j p)) (beyond-ordered k f (insert j p) (suc j) (prefix-with p j h)))
    (beyond-ordered k f p (suc j) (prefix-on p j h)) across
  where
    first : (b : Bool) → pairwise before (beyond k f (insert j p) (suc j)) ≡ true → pairwise before (cond b (branch_cubes k f (insert j p) (suc j)) []) ≡ true
    first true r = branch-ordered k f (insert j p) (suc j) (prefix-with p j h) r
    first false r = refl

    -- those with j, and those without it
    across : (x y : List ℕ) → x ∈ cond (opens f j (insert j p)) (branch_cubes k f (insert j p) (suc j)) []
        → y ∈ beyond k f p (suc j) → before x y ≡ true
    across x y m i =
        let w = prefix-with p j h in
        let (r, _, a) = branch-out k f (insert j p) (suc j) w x (beyond-out k f (insert j p) (suc j) w x) (cond-out (opens f j (insert j p)) _ m).1 in
        let b = beyond-out k f p (suc j) (prefix-on p j h) y i in
        let s = on_out (suc j) y b.rising b.on in
        before-first x y j r b.rising (λ l u. a l (omega arith) ∙ mem-with p j l u ∙ sym (b.alike l (omega arith)))
        (a j (omega arith) ∙ mem-there p j) (b.alike j (omega arith) ∙ prefix-past p j h j (omega arith))
        ∙ on_in j y s.0 (omega (arith, s.1)) s.2

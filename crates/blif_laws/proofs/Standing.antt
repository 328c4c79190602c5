-- Which names stand in a model and which are defined, in the paper's words against the tests: a name has the blocks that the test keeps for it,
-- and so two of them stand apart in the list. Assumes nothing.
use Prim.Native.Nat.{ℕ, ◌<◌, ◌≤◌}
use mathlib.Core.Path.{◌≡◌, refl, sym, ap, ◌∙◌, subst}
use mathlib.Core.Logic.{◌⊎◌, inl, inr, ◌↔◌}
use mathlib.Core.Bool.{Bool, true, false, cond}
use mathlib.Core.List.Memᴰ
use mathlib.Core.List.Memᴰ.{head as here}
use mathlib.Core.List.{List, [], ◌∷◌, ◌++◌, map, Memᴰ}
use native.Mathlib.Omega.{arith}
use lib.Dec.{ltb, eqb}
use lib.ListN.{length, length-append}
use borrow.Author.Tests.{ltb-true, lt-ltb, eqb-true, eqb-false, eq-eqb}
use Rattle.sets.specs.{Lists.all, Lists.keep, Lists.from, Sets.mem}
use Rattle.sets.proofs.Truth.{both, decided, clash, refuted, compared, below, equal, beyond}
use Rattle.sets.proofs.Lists.{◌∈◌, all-out, all-fails, keep-in, keep_out, keep_append}
use Rattle.sets.proofs.Sets.{mem-of, of_mem}
use Rattle.network.specs.{Handed.flat, Meaning.Reads}
use Rattle.network_reads.{specs.Reading.reads_of, proofs.Reading.reads-iff}
use Rattle.blif_laws.specs.Text.{Name, variable, output, Block, Model}
use Rattle.blif_laws.specs.Reading.{named_in, standing, gapless, same_name, blocks_for, input_times, times_defined, defined_once}
use Rattle.blif_laws.specs.Meaning.{Formed, Stands, is_input, has_block, is_read, is_listed, Gap, Defined, as_input, by_block, Misdefined, never, twice, again}
use Rattle.blif_laws.proofs.Modelling.{gathered-in, gathered-out, from-below, below-from}

-- ---- names

pub same-name : (a c : Name) → same_name a c ≡ true → c ≡ a
same-name (variable v) (variable u) h = ap variable (sym (eqb-true v u h))
same-name (variable v) (output j) h = clash h refl
same-name (output i) (variable v) h = clash h refl
same-name (output i) (output j) h = ap output (sym (eqb-true i j h))

pub name-self : (a : Name) → same_name a a ≡ true
name-self (variable v) = eq-eqb v v refl
name-self (output j) = eq-eqb j j refl

-- ---- what stands

-- the variables that a block names are those that it reads, and the one that it defines
named-iff : (b : Block) (v : ℕ) → (v ∈ named_in b) ↔ ((b.name ≡ variable v) ⊎ Reads b.cubes v)
named-iff b v = (into b.name, back b.name)
  where
    names : Name → List ℕ
    names a = named_in (record { name = a; cubes = b.cubes })

    out : v ∈ reads_of b.cubes → Reads b.cubes v
    out i = (reads-iff b.cubes v).0 (mem-of i)

    into : (a : Name) → v ∈ names a → (a ≡ variable v) ⊎ Reads b.cubes v
    into (variable u) i = elim (Memᴰ.append_cases (reads_of b.cubes) i)
        [ inl j ↦ inr (out j) | inr j ↦ inl (ap variable (sym (Memᴰ.eq_of_singleton j))) ]
    into (output j) i = inr (out i)

    back : (a : Name) → (a ≡ variable v) ⊎ Reads b.cubes v → v ∈ names a
    back (variable u) (inl e) = let q : v ≡ u = cc in Memᴰ.append_right (reads_of b.cubes) (here q)
    back (output j) (inl e) = let z : ◌≡◌ {A = ℕ} 0 1 = cc in absurd (omega arith)
    back (variable u) (inr r) = Memᴰ.append_left (u ∷ []) (of_mem v (reads_of b.cubes) ((reads-iff b.cubes v).1 r))
    back (output j) (inr r) = of_mem v (reads_of b.cubes) ((reads-iff b.cubes v).1 r)

module _ (d : Model) where
  stands-out : (v : ℕ) → v ∈ standing d → Stands d (variable v)
  stands-out v m = elim (Memᴰ.append_cases (from 0 d.inputs) m) [
    | inl i ↦ is_input (from-below d.inputs v i)
    | inr i ↦
        let q = gathered-out named_in d.blocks i in
        elim ((named-iff q.0 v).0 q.2) [ inl e ↦ has_block q.1 e | inr r ↦ is_read q.1 r ]
  ]

  stands-in : {v : ℕ} → Stands d (variable v) → v ∈ standing d
  stands-in {v} (is_input h) = Memᴰ.append_left (flat (map named_in d.blocks)) (below-from d.inputs v h)
  stands-in {v} (has_block {b = b} i e) = Memᴰ.append_right (from 0 d.inputs) (gathered-in named_in i ((named-iff b v).1 (inl e)))
  stands-in {v} (is_read {b = b} i r) = Memᴰ.append_right (from 0 d.inputs) (gathered-in named_in i ((named-iff b v).1 (inr r)))

  pub stands-iff : (v : ℕ) → Memᴰ v (standing d) ↔ Stands d (variable v)
  stands-iff v = (stands-out v, stands-in)

  -- ---- gaps

  gap-out : gapless d ≡ false → Gap d
  unfolding gapless
  gap-out h =
      let q = all-fails (λ v. all (λ u. mem u (standing d)) (from 0 v)) (standing d) h in
      let r = all-fails (λ u. mem u (standing d)) (from 0 q.0) q.2 in
      record {
        upper = q.0;
        lower = r.0;
        stands = stands-out q.0 q.1;
        smaller = from-below q.0 r.0 r.1;
        nowhere = λ s. clash (mem-of (stands-in s)) r.2;
      }

  gap-in : Gap d → gapless d ≡ true → ⊥
  unfolding gapless
  gap-in g h = g.nowhere (stands-out g.lower (of_mem g.lower (standing d) (all-out (λ u. mem u (standing d))
      (below-from g.upper g.lower g.smaller) (all-out (λ v. all (λ u. mem u (standing d)) (from 0 v)) (stands-in g.stands) h))))

  pub gap-iff : (gapless d ≡ false) ↔ Gap d
  gap-iff = (gap-out, λ g. refuted (gap-in g))

  pub gapless-iff : (gapless d ≡ true) ↔ (Gap d → ⊥)
  gapless-iff = (λ h g. gap-in g h, λ k. elim (decided (gapless d)) [ inl t ↦ t | inr t ↦ absurd (k (gap-out t)) ])

-- ---- the elements that pass a test

module _ {A : Type 0} (p : A → Bool) where
  -- where the first of them stands
  first-kept : (l : List A) (x : A) (k : List A) → keep p l ≡ x ∷ k → (u : List A) × (v : List A) × (l ≡ u ++ (x ∷ v)) × (p x ≡ true) × (keep p v ≡ k)
  first-kept [] x k e = let z : ◌≡◌ {A = ℕ} 0 1 = cc in absurd (omega arith)
  first-kept (y ∷ l) x k e = go (p y) refl e (λ f. first-kept l x k f)
    where
      go : (b : Bool) → p y ≡ b → cond b (y ∷ keep p l) (keep p l) ≡ x ∷ k
          → (keep p l ≡ x ∷ k → (u : List A) × (v : List A) × (l ≡ u ++ (x ∷ v)) × (p x ≡ true) × (keep p v ≡ k))
          → (u : List A) × (v : List A) × (y ∷ l ≡ u ++ (x ∷ v)) × (p x ≡ true) × (keep p v ≡ k)
      go true q e i = let n : y ≡ x = cc in ([], l, ap (◌∷ l) n, ap p (sym n) ∙ q, cc)
      go false q e i = let r = i e in (y ∷ r.0, r.1, ap (y ∷◌) r.2, r.3, r.4)

  one_kept : {x : A} {l : List A} → x ∈ l → p x ≡ true → 1 ≤ length (keep p l)
  one_kept {x} {l} i h = go (keep p l) (keep-in p i h)
    where
      go : (k : List A) → x ∈ k → 1 ≤ length k
      go [] m = absurd (Memᴰ.not-nil m)
      go (y ∷ k) m = omega arith

-- ---- how often a name is defined

block-for : (a : Name) (bs : List Block) → 1 ≤ length (blocks_for a bs) → (b : Block) × (b ∈ bs) × (b.name ≡ a)
block-for a bs h = go (blocks_for a bs) refl
  where
    go : (k : List Block) → blocks_for a bs ≡ k → (b : Block) × (b ∈ bs) × (b.name ≡ a)
    go [] e = absurd (omega (arith, ap length e))
    go (b ∷ k) e =
        let q = keep_out (λ (c : Block). same_name a c.name) bs (subst (b ∈◌) (sym e) (here refl)) in
        (b, q.0, same-name a b.name q.1)

pub for-block : {a : Name} {b : Block} {bs : List Block} → b ∈ bs → b.name ≡ a → 1 ≤ length (blocks_for a bs)
for-block {a} {b} i e = one_kept (λ (c : Block). same_name a c.name) i (ap (same_name a) e ∙ name-self a)

-- a name with two blocks
record Double (a : Name) (bs : List Block) : Type 0 where
  ahead : List Block
  first : Block
  between : List Block
  second : Block
  after : List Block
  split : bs ≡ ahead ++ (first ∷ (between ++ (second ∷ after)))
  one : first.name ≡ a
  other : second.name ≡ a

double-out : (a : Name) (bs : List Block) → 2 ≤ length (blocks_for a bs) → Double a bs
double-out a bs h = go (blocks_for a bs) refl
  where
    test : Block → Bool
    test b = same_name a b.name

    go : (k : List Block) → blocks_for a bs ≡ k → Double a bs
    go [] e = absurd (omega (arith, ap length e))
    go (b ∷ []) e = absurd (omega (arith, ap length e))
    go (b ∷ c ∷ k) e =
        let q = first-kept test bs b (c ∷ k) e in
        let r = first-kept test q.1 c k q.4 in
        record {
          ahead = q.0;
          first = b;
          between = r.0;
          second = c;
          after = r.1;
          split = q.2 ∙ ap (λ l. q.0 ++ (b ∷ l)) r.2;
          one = same-name a b.name q.3;
          other = same-name a c.name r.3;
        }

double-in : (a : Name) (p q r : List Block) (b c : Block) → b.name ≡ a → c.name ≡ a → 2 ≤ length (blocks_for a (p ++ (b ∷ (q ++ (c ∷ r)))))
double-in a p q r b c e f =
    let g : Block → Bool = λ x. same_name a x.name in
    let h : g b ≡ true = ap (same_name a) e ∙ name-self a in
    let k : keep g (b ∷ (q ++ (c ∷ r))) ≡ b ∷ keep g (q ++ (c ∷ r)) = rw h in
    omega (
      arith,
      ap length (keep_append g p (b ∷ (q ++ (c ∷ r)))),
      length-append (keep g p) (keep g (b ∷ (q ++ (c ∷ r)))),
      ap length k,
      for-block {a = a} {bs = q ++ (c ∷ r)} (Memᴰ.append_right q (here refl)) f,
    )

module _ (d : Model) where
  -- as an input once, or not at all
  input-times : (a : Name) → ((v : ℕ) × (a ≡ variable v) × (v < d.inputs) × (input_times d.inputs a ≡ 1)) ⊎ (input_times d.inputs a ≡ 0)
  input-times (output j) = inr refl
  input-times (variable v) = elim (decided (ltb v d.inputs)) [ inl t ↦ inl (v, refl, ltb-true v d.inputs t, rw t) | inr t ↦ inr (rw t) ]

  defined-times : {a : Name} → Defined d a → 1 ≤ times_defined d a
  unfolding times_defined
  defined-times (as_input {v = v} h) = rw (lt-ltb v d.inputs h) (omega arith)
  defined-times {a} (by_block {b = b} i e) = omega (arith, for-block {a = a} i e)

  times-defined : (a : Name) → 1 ≤ times_defined d a → Defined d a
  unfolding times_defined
  times-defined a h = elim (input-times a) [
    | inl (v, e, l, _) ↦ subst (Defined d) (sym e) (as_input l)
    | inr e ↦ let q = block-for a d.blocks (omega arith) in by_block q.1 q.2
  ]

  -- ---- what is defined

  pub once-each : defined_once d ≡ true → {a : Name} → Stands d a → times_defined d a ≡ 1
  unfolding defined_once
  once-each h s = go s
    where
      q : (all (λ v. eqb (times_defined d (variable v)) 1) (standing d) ≡ true) × (all (λ j. eqb (times_defined d (output j)) 1) (from 0 d.outputs) ≡ true)
      q = both _ _ h

      variables : (v : ℕ) → Stands d (variable v) → times_defined d (variable v) ≡ 1
      variables v s = eqb-true (times_defined d (variable v)) 1 (all-out (λ x. eqb (times_defined d (variable x)) 1) ((stands-iff d v).1 s) q.0)

      go : {a : Name} → Stands d a → times_defined d a ≡ 1
      go (is_input {v = v} l) = variables v (is_input l)
      go (has_block {v = v} i e) = variables v (has_block i e)
      go (is_read {v = v} i r) = variables v (is_read i r)
      go (is_listed {j = j} l) = eqb-true (times_defined d (output j)) 1 (all-out (λ x. eqb (times_defined d (output x)) 1) (below-from d.outputs j l) q.1)

  defined-twice : (a : Name) → 2 ≤ times_defined d a → Misdefined d
  unfolding times_defined
  defined-twice a h = elim (input-times a) [
    | inl (v, e, l, t) ↦ let q = block-for a d.blocks (omega arith) in again q.1 (q.2 ∙ e) l
    | inr t ↦ let q = double-out a d.blocks (omega arith) in
        twice q.ahead q.between q.after q.first q.second q.split (q.one ∙ sym q.other)
  ]

  not-once : (a : Name) → Stands d a → (times_defined d a ≡ 1 → ⊥) → Misdefined d
  not-once a s h = elim (compared (times_defined d a) 1) [
    | below l _ _ ↦ never a s (λ k. omega (arith, defined-times k))
    | equal e _ _ ↦ absurd (h e)
    | beyond l _ _ ↦ defined-twice a (omega arith)
  ]

  misdefined-out : defined_once d ≡ false → Misdefined d
  unfolding defined_once
  misdefined-out h = elim (decided (all (λ v. eqb (times_defined d (variable v)) 1) (standing d))) [
    | inl t ↦ let r = all-fails (λ j. eqb (times_defined d (output j)) 1) (from 0 d.outputs) (rw t at h) in
        not-once (output r.0) (is_listed (from-below d.outputs r.0 r.1)) (eqb-false (times_defined d (output r.0)) 1 r.2)
    | inr t ↦ let r = all-fails (λ v. eqb (times_defined d (variable v)) 1) (standing d) t in
        not-once (variable r.0) ((stands-iff d r.0).0 r.1) (eqb-false (times_defined d (variable r.0)) 1 r.2)
  ]

  module _ (f : Formed d) where
    -- what a block defines stands
    pub block-stands : {b : Block} → b ∈ d.blocks → Stands d b.name
    block-stands {b} i = go b.name refl
      where
        go : (a : Name) → b.name ≡ a → Stands d a
        go (variable v) e = has_block i e
        go (output j) e = is_listed ((f b i).among j e)

    misdefined-in : Misdefined d → defined_once d ≡ true → ⊥
    unfolding times_defined
    misdefined-in (never a s k) h = k (times-defined a (omega (arith, once-each h s)))
    misdefined-in (twice p q r b c e n) h =
        let i : b ∈ d.blocks = subst (b ∈◌) (sym e) (Memᴰ.append_right p (here refl)) in
        omega (arith, once-each h (block-stands i), double-in b.name p q r b c refl (sym n), ap (λ l. length (blocks_for b.name l)) e)
    misdefined-in (again {v = v} {b = b} i e l) h =
        let t : input_times d.inputs (variable v) ≡ 1 = rw (lt-ltb v d.inputs l) in
        omega (arith, once-each h (is_input l), t, for-block {a = variable v} i e)

    -- of a formed model, each name that stands is defined once exactly when none is misdefined
    pub once-iff : (defined_once d ≡ true) ↔ (Misdefined d → ⊥)
    once-iff = (λ h m. misdefined-in m h, λ k. elim (decided (defined_once d)) [ inl t ↦ t | inr t ↦ absurd (k (misdefined-out t)) ])

    pub misdefined-iff : (defined_once d ≡ false) ↔ Misdefined d
    misdefined-iff = (misdefined-out, λ m. refuted (misdefined-in m))

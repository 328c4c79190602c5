-- Any order of blocks and of rows, and any model name, gives the same answer: no exchange changes what stands, what is defined or a sorted expression.
-- Assumes nothing.
use Prim.Native.Nat.{ℕ, suc, ◌+◌}
use mathlib.Core.Path.{◌≡◌, refl, sym, ap, ap₂, ◌∙◌, subst}
use mathlib.Core.{Logic.inl, Logic.inr, Option.some}
use mathlib.Core.Bool.{Bool, true, false, cond, ◌&&◌, ◌||◌, or_assoc, or_comm}
use mathlib.Core.List.Memᴰ
use mathlib.Core.List.Memᴰ.{head as here}
use mathlib.Core.List.Memᴰ.{tail as there}
use mathlib.Core.List.{List, [], ◌∷◌, ◌++◌, map}
use lib.Dec.{eqb}
use lib.ListN.{length}
use Rattle.sets.specs.Lists.{any, all, keep, from}
use Rattle.sets.{specs.Sets.mem, specs.Sets.reads_below, proofs.Truth.iff}
use Rattle.sets.proofs.Lists.{◌∈◌, all_in, all-out, all-cong, map-cong}
use Rattle.sets.proofs.Sets.{union-mem, mem-append, all-mem, mem-all, ext}
use Rattle.expression.{specs.Expression.place, specs.Expression.sort, specs.Expression.is_cube, proofs.Sorting.sort-middle}
use Rattle.network.specs.{Held.numbered, Handed.flat}
use Rattle.network_reads.{specs.Reading.variables_of, specs.Reading.reads_of, proofs.Reading.reads-asc}
use Rattle.blif_laws.specs.Text.{Name, variable, output, Block, Model, model_text}
use Rattle.blif_laws.specs.Reading.{joined, model_in, named_in, standing, gapless, same_name, blocks_for, input_times, times_defined, defined_once}
use Rattle.blif_laws.specs.Reading.{cubes_for, is_variable, divisors_in, net_in, judge_model, read_blif}
use Rattle.blif_laws.specs.Meaning.{Titled, FormedBlock, Formed, Writes, InForm, Shuffled, nothing, next, swap, trans, SameBlock, SameModel}
use Rattle.blif_laws.proofs.Forming.{model-iff}

-- ---- what no exchange changes

module _ {A : Type 0} {r : A → A → Type 0} where
  any-shuffled : (f : A → Bool) → ((x y : A) → r x y → f x ≡ f y) → {l m : List A} → Shuffled r l m → any f l ≡ any f m
  any-shuffled f k nothing = refl
  any-shuffled f k (next {x = x} {y = y} e s) = ap₂ ◌||◌ (k x y e) (any-shuffled f k s)
  any-shuffled f k (swap x y l) = sym (or_assoc (f x) (f y) (any f l)) ∙ ap (◌|| any f l) (or_comm (f x) (f y)) ∙ or_assoc (f y) (f x) (any f l)
  any-shuffled f k (trans s t) = any-shuffled f k s ∙ any-shuffled f k t

  -- how many pass a test
  pub count-shuffled : (p : A → Bool) → ((x y : A) → r x y → p x ≡ p y) → {l m : List A} → Shuffled r l m → length (keep p l) ≡ length (keep p m)
  count-shuffled p k nothing = refl
  count-shuffled p k (next {x = x} {y = y} {l = l} {m = m} e s) =
      let i = count-shuffled p k s in
      rw (k x y e) (elim (p y) as (λ b. length (cond b (x ∷ keep p l) (keep p l)) ≡ length (cond b (y ∷ keep p m) (keep p m))) [ true ↦ ap suc i | false ↦ i ])
  count-shuffled p k (swap x y l) = go (p x) (p y)
    where
      go : (a b : Bool) → length (cond a (x ∷ cond b (y ∷ keep p l) (keep p l)) (cond b (y ∷ keep p l) (keep p l)))
          ≡ length (cond b (y ∷ cond a (x ∷ keep p l) (keep p l)) (cond a (x ∷ keep p l) (keep p l)))
      go true true = refl
      go true false = refl
      go false true = refl
      go false false = refl
  count-shuffled p k (trans s t) = count-shuffled p k s ∙ count-shuffled p k t

  module _ (self : (x : A) → r x x) where
    pub shuffled-self : (l : List A) → Shuffled r l l
    shuffled-self [] = nothing
    shuffled-self (x ∷ l) = next (self x) (shuffled-self l)

    -- what an element was
    shuffled-back : ((x y z : A) → r x y → r y z → r x z) → {l m : List A} → Shuffled r l m → {y : A} → y ∈ m → (x : A) × (x ∈ l) × r x y
    shuffled-back k nothing i = absurd (Memᴰ.not-nil i)
    shuffled-back k (next {x = x} {y = y} e s) {y = z} i = elim (Memᴰ.cases_cons i) [
      | inl q ↦ (x, here refl, subst (r x) (sym q) e)
      | inr j ↦ let w = shuffled-back k s j in (w.0, there w.1, w.2)
    ]
    shuffled-back k (swap x y l) {y = z} i = elim (Memᴰ.cases_cons i) [
      | inl q ↦ (z, there (here q), self z)
      | inr j ↦ elim (Memᴰ.cases_cons j) [ inl q ↦ (z, here q, self z) | inr w ↦ (z, there (there w), self z) ]
    ]
    shuffled-back k (trans s t) {y = z} i =
        let w = shuffled-back k t i in let v = shuffled-back k s w.1 in (v.0, v.1, k v.0 w.0 z v.2 w.2)

-- ---- the variables that are read

reads-any : (v : ℕ) (f : List (List ℕ)) → mem v (reads_of f) ≡ any (λ c. mem v (variables_of c)) f
unfolding reads_of mem
reads-any v [] = refl
reads-any v (c ∷ f) = union-mem v (variables_of c) (reads_of f) ∙ ap (mem v (variables_of c) ||◌) (reads-any v f)

pub reads-shuffled : {f g : List (List ℕ)} → Shuffled ◌≡◌ f g → reads_of f ≡ reads_of g
reads-shuffled {f} {g} s = ext (reads_of f) (reads_of g) (reads-asc f) (reads-asc g) (λ v.
    reads-any v f ∙ any-shuffled (λ c. mem v (variables_of c)) (λ x y e. ap (λ c. mem v (variables_of c)) e) s ∙ sym (reads-any v g))

named-same : (b c : Block) → SameBlock b c → named_in b ≡ named_in c
named-same b c s = ap₂ (λ (a : Name) (l : List ℕ). elim a as (λ z. List ℕ) [ variable v ↦ l ++ (v ∷ []) | output j ↦ l ]) s.name (reads-shuffled s.cubes)

-- ---- sorted cubes

-- what follows counts only by its sorted cubes
sort-after : (f g h : List (List ℕ)) → sort g ≡ sort h → sort (f ++ g) ≡ sort (f ++ h)
unfolding sort
sort-after [] g h e = e
sort-after (c ∷ f) g h e = ap (place c) (sort-after f g h e)

sort-front : {f g : List (List ℕ)} → Shuffled ◌≡◌ f g → (h : List (List ℕ)) → sort (f ++ h) ≡ sort (g ++ h)
unfolding sort
sort-front nothing h = refl
sort-front (next e s) h = ap₂ place e (sort-front s h)
sort-front (swap x y l) h = sort-middle (x ∷ []) y (l ++ h)
sort-front (trans s t) h = sort-front s h ∙ sort-front t h

sort-past : (f g h : List (List ℕ)) → sort (f ++ (g ++ h)) ≡ sort (g ++ (f ++ h))
unfolding sort
sort-past [] g h = refl
sort-past (c ∷ f) g h = ap (place c) (sort-past f g h) ∙ sym (sort-middle g c (f ++ h))

-- the cubes of blocks, not yet sorted
abbrev all_cubes : List Block → List (List ℕ)
all_cubes bs = flat (map (λ (b : Block). b.cubes) bs)

cubes-same : (a : Name) {l m : List Block} → Shuffled SameBlock l m → cubes_for a l ≡ cubes_for a m
unfolding cubes_for
cubes-same a nothing = refl
cubes-same a (next {x = x} {y = y} {l = l} {m = m} q s) =
    let i : sort (all_cubes (blocks_for a l)) ≡ sort (all_cubes (blocks_for a m)) = cubes-same a s in
    rw (ap (same_name a) q.name) (elim (same_name a y.name) as (λ t. sort (all_cubes (cond t (x ∷ blocks_for a l) (blocks_for a l)))
    ≡ sort (all_cubes (cond t (y ∷ blocks_for a m) (blocks_for a m)))) [
      | true ↦ sort-front q.cubes (all_cubes (blocks_for a l)) ∙ sort-after y.cubes (all_cubes (blocks_for a l)) (all_cubes (blocks_for a m)) i
      | false ↦ i
    ])
cubes-same a (swap x y l) = go (same_name a x.name) (same_name a y.name)
  where
    go : (t u : Bool) → sort (all_cubes (cond t (x ∷ cond u (y ∷ blocks_for a l) (blocks_for a l)) (cond u (y ∷ blocks_for a l) (blocks_for a l))))
        ≡ sort (all_cubes (cond u (y ∷ cond t (x ∷ blocks_for a l) (blocks_for a l)) (cond t (x ∷ blocks_for a l) (blocks_for a l))))
    go true true = sort-past x.cubes y.cubes (all_cubes (blocks_for a l))
    go true false = refl
    go false true = refl
    go false false = refl
cubes-same a (trans s t) = cubes-same a s ∙ cubes-same a t

-- ---- blocks

pub block-self : (b : Block) → SameBlock b b
block-self b = record { name = refl; cubes = shuffled-self (λ c. refl) b.cubes }

block-then : (a b c : Block) → SameBlock a b → SameBlock b c → SameBlock a c
block-then a b c p q = record { name = p.name ∙ q.name; cubes = trans p.cubes q.cubes }

pub model-self : (d : Model) → SameModel d d
model-self d = record { inputs = refl; outputs = refl; blocks = shuffled-self block-self d.blocks }

-- the same rows are of the same form
formed-block : (m : ℕ) (b c : Block) → SameBlock b c → FormedBlock m b → FormedBlock m c
formed-block m b c s f = record {
  cubes = λ x i. let q = was x i in subst (λ y. is_cube y ≡ true) q.2 (f.cubes q.0 q.1);
  earlier = λ v p. all_in (reads_below v) c.cubes (λ x i.
      let q = was x i in subst (λ y. reads_below v y ≡ true) q.2 (all-out (reads_below v) q.1 (f.earlier v (s.name ∙ p))));
  among = λ j p. f.among j (s.name ∙ p);
}
  where
    was : (x : List ℕ) → x ∈ c.cubes → (y : List ℕ) × (y ∈ b.cubes) × (y ≡ x)
    was x i = shuffled-back (λ y. refl) (λ x y z p q. p ∙ q) s.cubes i

-- ---- models

flat-mem : (v : ℕ) (g : Block → List ℕ) (l : List Block) → mem v (flat (map g l)) ≡ any (λ b. mem v (g b)) l
unfolding mem
flat-mem v g [] = refl
flat-mem v g (b ∷ l) = mem-append v (g b) (flat (map g l)) ∙ ap (mem v (g b) ||◌) (flat-mem v g l)

-- a test of all numbers is one of those that are there
all-members : (f : ℕ → Bool) (a b : List ℕ) → ((z : ℕ) → mem z a ≡ mem z b) → all f a ≡ all f b
all-members f a b k = iff (λ h. all-mem f b (λ z m. mem-all f a z h (k z ∙ m))) (λ h. all-mem f a (λ z m. mem-all f b z h (sym (k z) ∙ m)))

module _ (d e : Model) (s : SameModel d e) where
  standing-same : (v : ℕ) → mem v (standing d) ≡ mem v (standing e)
  standing-same v =
      mem-append v (from 0 d.inputs) (flat (map named_in d.blocks))
      ∙ ap₂ ◌||◌ (ap (λ k. mem v (from 0 k)) s.inputs) (flat-mem v named_in d.blocks
      ∙ any-shuffled (λ b. mem v (named_in b)) (λ x y q. ap (mem v) (named-same x y q)) s.blocks ∙ sym (flat-mem v named_in e.blocks))
      ∙ sym (mem-append v (from 0 e.inputs) (flat (map named_in e.blocks)))

  pub gapless-same : gapless d ≡ gapless e
  unfolding gapless
  gapless-same =
      all-cong (λ v. all (λ u. mem u (standing d)) (from 0 v)) (λ v. all (λ u. mem u (standing e)) (from 0 v)) (standing d)
      (λ v m. all-cong (λ u. mem u (standing d)) (λ u. mem u (standing e)) (from 0 v) (λ u i. standing-same u))
      ∙ all-members (λ v. all (λ u. mem u (standing e)) (from 0 v)) (standing d) (standing e) standing-same

  times-same : (a : Name) → times_defined d a ≡ times_defined e a
  unfolding times_defined
  times-same a = ap₂ ◌+◌ (ap (λ n. input_times n a) s.inputs) (count-shuffled (λ b. same_name a b.name) (λ x y q. ap (same_name a) q.name) s.blocks)

  pub once-same : defined_once d ≡ defined_once e
  unfolding defined_once
  once-same = ap₂ ◌&&◌
      (all-cong (λ v. eqb (times_defined d (variable v)) 1) (λ v. eqb (times_defined e (variable v)) 1) (standing d)
      (λ v m. ap (λ k. eqb k 1) (times-same (variable v)))
      ∙ all-members (λ v. eqb (times_defined e (variable v)) 1) (standing d) (standing e) standing-same)
      (all-cong (λ j. eqb (times_defined d (output j)) 1) (λ j. eqb (times_defined e (output j)) 1) (from 0 d.outputs)
      (λ j m. ap (λ k. eqb k 1) (times-same (output j)))
      ∙ ap (λ k. all (λ j. eqb (times_defined e (output j)) 1) (from 0 k)) s.outputs)

  outputs-same : map (λ j. cubes_for (output j) d.blocks) (from 0 d.outputs) ≡ map (λ j. cubes_for (output j) e.blocks) (from 0 e.outputs)
  outputs-same =
      map-cong (λ j. cubes_for (output j) d.blocks) (λ j. cubes_for (output j) e.blocks) (from 0 d.outputs) (λ j m. cubes-same (output j) s.blocks)
      ∙ ap (λ k. map (λ j. cubes_for (output j) e.blocks) (from 0 k)) s.outputs

  divisors-same : numbered d.inputs (map (λ v. cubes_for (variable v) d.blocks) (from d.inputs (divisors_in d)))
      ≡ numbered e.inputs (map (λ v. cubes_for (variable v) e.blocks) (from e.inputs (divisors_in e)))
  divisors-same =
      ap (numbered d.inputs) (map-cong (λ v. cubes_for (variable v) d.blocks) (λ v. cubes_for (variable v) e.blocks) (from d.inputs (divisors_in d))
      (λ v m. cubes-same (variable v) s.blocks))
      ∙ ap₂ (λ (i k : ℕ). numbered i (map (λ v. cubes_for (variable v) e.blocks) (from i k))) s.inputs
      (count-shuffled (λ b. is_variable b.name) (λ x y q. ap is_variable q.name) s.blocks)

  pub net-same : net_in d ≡ net_in e
  unfolding net_in
  net-same = λ i. record { inputs = s.inputs i; outputs = outputs-same i; divisors = divisors-same i }

  pub judged-same : judge_model (some d) ≡ judge_model (some e)
  judged-same = rw (gapless-same, once-same, net-same)

  formed-same : Formed d → Formed e
  formed-same f c m =
      let q = shuffled-back block-self block-then s.blocks m in
      subst (λ k. FormedBlock k c) s.outputs (formed-block d.outputs q.0 c q.2 (f q.0 q.1))

-- ---- texts

-- models that differ in the order of blocks and rows alone are answered the same
shuffled-read : (t u : List ℕ) (d e : Model) → model_in (joined t) ≡ some d → model_in (joined u) ≡ some e → SameModel d e → read_blif t ≡ read_blif u
unfolding read_blif
shuffled-read t u d e p q s = ap judge_model p ∙ judged-same d e s ∙ sym (ap judge_model q)

-- and so are texts of them, under any model names
pub form-order : (t u : List ℕ) (d e : Model) → InForm (joined t) d → Writes (joined u) e → SameModel d e → read_blif t ≡ read_blif u
form-order t u d e f w s =
    shuffled-read t u d e ((model-iff (joined t) d).1 f) ((model-iff (joined u) e).1 (record { formed = formed-same d e s f.formed; writes = w })) s

pub any_order : (t u a b : List ℕ) (d e : Model) → Titled a → Titled b → Formed d → SameModel d e → joined t ≡ model_text a d → joined u ≡ model_text b e
    → read_blif t ≡ read_blif u
any_order t u a b d e g h f s p q =
    form-order t u d e (record { formed = f; writes = record { name = a; titled = g; text = inl p } })
    (record { name = b; titled = h; text = inl q }) s

-- Columns of rows: a column has a `0` or `1` exactly where its variable is read, so that all are used exactly where what is read is all that is named;
-- and so far a window of marks tells. Assumes nothing.
use Rattle.std.specs.Prelude.{Option, Some, None}
use Rattle.std.specs.Option.{is_some}
use Prim.Native.Nat.{ℕ, zero, suc, ◌+◌, ◌<◌, ◌≤◌, min}
use mathlib.Core.Path.{◌≡◌, refl, sym, ap, ap₂, ◌∙◌, subst}
use mathlib.Core.Logic.{inl, inr}
use mathlib.Core.Bool.{Bool, true, false, cond, not, ◌||◌}
use mathlib.Core.List.Memᴰ
use mathlib.Core.List.{List, [], ◌∷◌, map}
use native.Mathlib.Omega.{arith}
use lib.Dec.{eqb, leb}
use lib.ListN.{length, get_or, take, length-map}
use borrow.Author.Tests.{eq-eqb, ne_eqb, lt-ltb}
use Rattle.sets.specs.{Lists.all, Lists.from, Literal.plain_of, Literal.negated_of, Sets.mem, Sets.asc}
use Rattle.sets.proofs.{Truth.iff, Truth.refuted, Rows.get_d_map, Places.at_in, Places.in-at}
use Rattle.sets.proofs.Lists.{◌∈◌, map-out, map-map, map-fixed}
use Rattle.sets.proofs.Sets.{mem-of, of_mem, union-mem, mem-append, all-mem, mem-all, from_in, from_out, ext}
use Rattle.network_reads.specs.Reading.{variables_of, reads_of}
use Rattle.network_reads.proofs.Reading.{variable-is, reads-out}
use Rattle.blif_laws.{specs.Text.sign_of, specs.Reading.cube_in, proofs.Rowing.cube-over, proofs.Rowing.signs-back}
use Rattle.network_reads.proofs.Reading.{reads-asc}
use Rattle.blif_lines.specs.Lining.{Signs, signed, signed_in, RowsGot, RowsNot, RowsIs}
use Rattle.blif_lines.{specs.Marking.Cleared, specs.declared.Rows.Rows, proofs.Rowing.rows-one}
use Rattle.blif_form.specs.Surveying.{UsedIs, UsedFrom}
use Rattle.blif_form.proofs.Blocking.{signs_for}
use Rattle.blif_lines.proofs.Windows.{windows-on, windows-stop, windows-done, window-all, met-mark}

-- ---- the columns of a row

signed-from : (j : ℕ) (w : List ℕ) {x : ℕ} → x ∈ signed j w → j ≤ x
unfolding signed
signed-from j [] m = absurd (Memᴰ.not-nil m)
signed-from j (b ∷ w) {x} m = go (eqb b 45) (λ i. signed-from (suc j) w i) m
  where
    go : (e : Bool) → (x ∈ signed (suc j) w → suc j ≤ x) → x ∈ cond e (signed (suc j) w) (j ∷ signed (suc j) w) → j ≤ x
    go true f i = omega (arith, f i)
    go false f i = elim (Memᴰ.cases_cons i) [ inl e ↦ omega arith | inr k ↦ omega (arith, f k) ]

before-signed : (i j : ℕ) (w : List ℕ) → i < j → mem i (signed j w) ≡ false
before-signed i j w h = refuted (λ e. omega (arith, signed-from j w (of_mem i (signed j w) e)))

-- a column of `0` or `1`
signed-at : (j : ℕ) (w : List ℕ) (i : ℕ) → i < length w → mem (j + i) (signed j w) ≡ not (eqb (get_or w i 0) 45)
unfolding signed mem
signed-at j [] i h = absurd (omega arith)
signed-at j (b ∷ w) zero h = go (eqb b 45)
  where
    go : (e : Bool) → mem (j + 0) (cond e (signed (suc j) w) (j ∷ signed (suc j) w)) ≡ not e
    go true = before-signed (j + 0) (suc j) w (omega arith)
    go false = ap (◌|| mem (j + 0) (signed (suc j) w)) (eq-eqb (j + 0) j (omega arith))
signed-at j (b ∷ w) (suc i) h = go (eqb b 45) ∙ signed-at (suc j) w i (omega arith)
  where
    next : mem (j + suc i) (signed (suc j) w) ≡ mem (suc j + i) (signed (suc j) w)
    next = let e : j + suc i ≡ suc j + i = omega arith in ap (λ x. mem x (signed (suc j) w)) e

    go : (e : Bool) → mem (j + suc i) (cond e (signed (suc j) w) (j ∷ signed (suc j) w)) ≡ mem (suc j + i) (signed (suc j) w)
    go true = next
    go false = ap (◌|| mem (j + suc i) (signed (suc j) w)) (ne_eqb (j + suc i) j (λ e. omega arith)) ∙ next

-- ---- the variables that are read

sign_reads : (c : List ℕ) (v : ℕ) → not (eqb (sign_of c v) 45) ≡ mem v (variables_of c)
unfolding sign_of
sign_reads c v = go (mem (plain_of v) c) (mem (negated_of v) c) ∙ sym (variable-is v c)
  where
    go : (x y : Bool) → not (eqb (cond x 49 (cond y 48 45)) 45) ≡ (x || y)
    go true y = refl
    go false true = refl
    go false false = refl

row-column : (vs c : List ℕ) (i : ℕ) → i < length vs → mem i (signed 0 (map (sign_of c) vs)) ≡ mem (get_or vs i 0) (variables_of c)
row-column vs c i h =
    let z : 0 + i ≡ i = omega arith in
    subst (λ x. mem x (signed 0 (map (sign_of c) vs)) ≡ not (eqb (get_or (map (sign_of c) vs) i 0) 45)) z
    (signed-at 0 (map (sign_of c) vs) i (omega (arith, length-map vs (sign_of c))))
    ∙ ap (λ b. not (eqb b 45)) (get_d_map (sign_of c) vs i 0 0 h)
    ∙ sign_reads c (get_or vs i 0)

-- a column is used exactly where its variable is read
pub column-read : (vs : List ℕ) (f : List (List ℕ)) (i : ℕ) → i < length vs → mem i (signed_in (signs_for vs f)) ≡ mem (get_or vs i 0) (reads_of f)
unfolding reads_of mem
column-read vs [] i h = refl
column-read vs (c ∷ f) i h =
    mem-append i (signed 0 (map (sign_of c) vs)) (signed_in (signs_for vs f))
    ∙ ap₂ ◌||◌ (row-column vs c i h) (column-read vs f i h)
    ∙ sym (union-mem (get_or vs i 0) (variables_of c) (reads_of f))

-- ---- all columns

abbrev pub all_used : ℕ → List (List ℕ) → Bool
all_used r ws = all (λ i. mem i (signed_in ws)) (from 0 r)

-- the columns of a block over what it reads are used
pub block-used : (f : List (List ℕ)) → all_used (length (reads_of f)) (signs_for (reads_of f) f) ≡ true
block-used f = all-mem _ (from 0 (length (reads_of f))) (λ i m.
    let h = (from_out 0 (length (reads_of f)) i m).1 in
    let k : i < length (reads_of f) = omega arith in
    column-read (reads_of f) f i k ∙ mem-of (at_in (reads_of f) i 0 k))

module _ (vs : List ℕ) (ws : List (List ℕ)) (h : asc vs ≡ true) (s : (w : List ℕ) → w ∈ ws → Signs (length vs) w) where
  -- rows are the signs of what is read off them
  pub signs-rows : signs_for vs (map (cube_in vs) ws) ≡ ws
  signs-rows = map-map (λ c. map (sign_of c) vs) (cube_in vs) ws
      ∙ map-fixed (λ w. map (sign_of (cube_in vs w)) vs) ws (λ w m. signs-back vs w h (sym (s w m).number) (s w m).each)

  -- no other variable is read
  reads-inside : (z : ℕ) → mem z (reads_of (map (cube_in vs) ws)) ≡ true → mem z vs ≡ true
  reads-inside z m =
      let r = reads-out (map (cube_in vs) ws) z m in
      let q = map-out (cube_in vs) ws r.1 in
      subst (λ x. mem x vs ≡ true) (sym r.2.2) (mem-of (cube-over vs q.0 (subst (r.2.0 ∈◌) q.2 r.2.1)))

  -- where every column is used, what is read is all that is named
  pub used-reads : all_used (length vs) ws ≡ true → reads_of (map (cube_in vs) ws) ≡ vs
  used-reads u = ext (reads_of (map (cube_in vs) ws)) vs (reads-asc (map (cube_in vs) ws)) h (λ z. iff (reads-inside z) (back z))
    where
      back : (z : ℕ) → mem z vs ≡ true → mem z (reads_of (map (cube_in vs) ws)) ≡ true
      back z m =
          let r = in-at 0 (of_mem z vs m) in
          ap (λ x. mem x (reads_of (map (cube_in vs) ws))) (sym r.2)
          ∙ sym (column-read vs (map (cube_in vs) ws) r.0 r.1)
          ∙ ap (λ x. mem r.0 (signed_in x)) signs-rows
          ∙ mem-all (λ i. mem i (signed_in ws)) (from 0 (length vs)) r.0 u (from_in 0 (length vs) r.0 (omega arith) (omega (arith, r.1)))

-- ---- a window of marks

-- the marks tell of the rows, whatever rows are there
pub window-used : {s : List ℕ} {at r base k : ℕ} {old mid new : List ℕ} {a : Rows} → k ≤ length old → Cleared k old mid → RowsGot s at r base mid new a
    → UsedFrom s at r base k (all (λ x. leb 1 x) (take k new))
window-used {s} {at} {r} {base} {k} {old} {mid} {new} n c g ws more h =
    let e = (rows-one g.rows h).0 in
    window-all (λ x. leb 1 x) (λ i. mem i (signed_in g.words)) new base k (omega (arith, c.size, g.marks.size)) each
    ∙ ap (λ x. all (λ i. mem i (signed_in x)) (from base k)) e
  where
    clear : (i : ℕ) → i < k → get_or mid i 0 ≡ 0
    clear i b = c.each i (omega arith) ∙ ap (λ x. cond x 0 (get_or old i 0)) (lt-ltb i k b)

    each : (i : ℕ) → i < k → leb 1 (get_or new i 0) ≡ mem (base + i) (signed_in g.words)
    each i b = met-mark (base + i) (get_or mid i 0) (get_or new i 0) (signed_in g.words) (clear i b)
        (g.marks.each i (omega (arith, c.size)) (omega (arith, clear i b)))

-- where there are rows
pub window-here : (s : List ℕ) (at r base : ℕ) {k : ℕ} {old mid : List ℕ} (new : List ℕ) (a : Option Rows) → is_some a ≡ true → k ≤ length old → Cleared k old mid
    → RowsIs s at r base mid new a → UsedFrom s at r base k (all (λ x. leb 1 x) (take k new))
window-here s at r base new (Some a) t n c g = window-used n c g
window-here s at r base new None t n c g = absurd (cc)

pub window-none : {s : List ℕ} {at r : ℕ} {old new : List ℕ} (base k : ℕ) → RowsNot s at r old new → UsedFrom s at r base k false
window-none base k n ws more h = absurd (n.none ws more h)

-- ---- window by window

module _ (s : List ℕ) (at r : ℕ) where
  pub used-none : UsedFrom s at r 0 (min 0 r) true
  unfolding from
  used-none = subst (λ (k : ℕ). UsedFrom s at r 0 k true) (let e : 0 ≡ min 0 r = omega arith in e) (λ ws more h. refl)

  pub used-next : (base k n : ℕ) → n ≡ base + k → base < r → UsedFrom s at r 0 (min base r) true → UsedFrom s at r base k true → UsedFrom s at r 0 n true
  used-next base k n e l u v ws more h =
      let f : min base r ≡ base = omega arith in
      subst (λ (i : ℕ). true ≡ all (λ j. mem j (signed_in ws)) (from 0 i)) (sym e)
      (sym (windows-on (λ i. mem i (signed_in ws)) base k (sym (subst (λ (i : ℕ). true ≡ all (λ j. mem j (signed_in ws)) (from 0 i)) f (u ws more h)))
      (sym (v ws more h))))

  pub used-less : (base k : ℕ) → base + k ≤ r → UsedFrom s at r base k false → UsedIs s at r false
  used-less base k n u ws more h = sym (windows-stop (λ i. mem i (signed_in ws)) base k r n (sym (u ws more h)))

  pub used_all : (base : ℕ) → r ≤ base → UsedFrom s at r 0 (min base r) true → UsedIs s at r true
  used_all base n u = let e : min base r ≡ r = omega arith in subst (λ (k : ℕ). UsedFrom s at r 0 k true) e u

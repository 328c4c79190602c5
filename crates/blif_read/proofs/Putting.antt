-- The cubes of a block's rows: the marked numbers are its variables, the signs of a row are read as its cube one by one, and the rows as the cubes.
-- Assumes nothing.
use Prim.Native.Nat.{ℕ, suc, ◌+◌, ◌-◌, ◌*◌, ◌/◌, ◌<◌, ◌≤◌, min}
use mathlib.Core.Path.{◌≡◌, refl, sym, ap, ap₂, ◌∙◌, subst}
use mathlib.Core.Bool.{Bool, true, false, cond, ◌&&◌}
use mathlib.Core.List.Memᴰ.{head as here}
use mathlib.Core.List.Memᴰ.{tail as there}
use mathlib.Core.List.{List, [], ◌∷◌, ◌++◌, map, append-nil, append_assoc}
use native.Mathlib.Omega.{arith}
use lib.Dec.{eqb, leb, ltb}
use lib.ListN.{length, get_or, take, drop, set, replicate, length-append, length-map, length-replicate, get_or-replicate}
use lib.Seq.{take_all, length-take-le, get_or-take, set_at, take_at}
use borrow.Author.Tests.{lt-ltb, ltb-true}
use Rattle.sets.specs.Lists.{all, keep, from}
use Rattle.sets.specs.{Literal.plain_of, Literal.negated_of, Sets.mem, Sets.asc}
use Rattle.sets.proofs.Truth.{both, together, iff}
use Rattle.sets.proofs.Lists.{◌∈◌, all_in, all-out, keep_all, keep_append, keep-length, pairwise-keep}
use Rattle.sets.proofs.Sets.{keep-mem, from_in, from_out, from-asc, ext}
use Rattle.sets.proofs.Places.{at_in, in-at, pairwise-at, drop-next}
use Rattle.sets.proofs.Rows.{nil-of, take_next, from-length, from_next}
use Rattle.cube.specs.Cube.{width}
use Rattle.table_rows.{specs.Lines.cube_from, specs.Parts.placed, proofs.Cubing.placed-last}
use Rattle.network.specs.{Held.most_variables, Answers.padded}
use Rattle.letters_products.specs.Spelled.{spelled}
use Rattle.expression.specs.Words.{cubes_of, Put, Placed}
use Rattle.expression.specs.Expression.{reach}
use Rattle.expression.proofs.Placing.{placed-as, Going, going-first, going-inside, going_next, going_end}
use Rattle.network_reads.{specs.Reading.reads_of, proofs.Reading.reads-asc}
use Rattle.blif_laws.specs.Text.{Block, ended, sign_of}
use Rattle.blif_laws.proofs.Blocking.{reads-below}
use Rattle.blif_laws.{specs.Reading.cube_in, specs.Reading.pointed, proofs.Rowing.cube-over}
use Rattle.blif_scan.{specs.Scanning.left, proofs.Heading.ended-apart}
use Rattle.blif_lines.specs.{Marking.times, Marking.Raised, declared.Names.Names}
use Rattle.blif_lines.specs.Lining.{variable_in, NamesGot, Signs, row_line, row_end, RowGot, RowNot, RowsOf}
use Rattle.blif_read.specs.Building.{marked_in, Columns, SignsAre, RowsPut}
use Rattle.blif_form.specs.Surveying.{BlockOf}
use Rattle.blif_lines.proofs.{Windows.met-mark, Rowing.row_as, Rowing.unpointed, Rowing.one-row}
use Rattle.blif_form.proofs.Blocking.{signs_for, Blocked, block-blocked, signs-cubes}
use Rattle.blif_form.proofs.Passing.{reads-own, count-own, rows-own}

-- ---- the signs of a row

cube-snoc : (vs w : List ℕ) (v b : ℕ) → length vs ≡ length w → cube_in (vs ++ (v ∷ [])) (w ++ (b ∷ [])) ≡ cube_in vs w ++ cube_in (v ∷ []) (b ∷ [])
unfolding cube_in
cube-snoc [] [] v b h = refl
cube-snoc [] (d ∷ w) v b h = absurd (omega arith)
cube-snoc (u ∷ vs) [] v b h = absurd (omega arith)
cube-snoc (u ∷ vs) (d ∷ w) v b h =
    go (eqb d 49) (eqb d 48) (cube_in (vs ++ (v ∷ [])) (w ++ (b ∷ []))) (cube_in vs w) (cube_in (v ∷ []) (b ∷ [])) (cube-snoc vs w v b (omega arith))
  where
    go : (x y : Bool) (l k z : List ℕ) → l ≡ k ++ z
        → cond x (plain_of u ∷ l) (cond y (negated_of u ∷ l) l) ≡ cond x (plain_of u ∷ k) (cond y (negated_of u ∷ k) k) ++ z
    go true y l k z e = ap (plain_of u ∷◌) e
    go false true l k z e = ap (negated_of u ∷◌) e
    go false false l k z e = e

-- a variable above the others adds its literal last
sign-last : (v b : ℕ) (c : List ℕ) → v < width → ((l : ℕ) → l ∈ c → l / 2 < v) → placed v b c ≡ c ++ cube_in (v ∷ []) (b ∷ [])
unfolding cube_in cube_from
sign-last v b c h k = placed-last v b c h (all_in (λ x. ltb x (2 * v)) c (λ x m. lt-ltb x (2 * v) (omega (arith, k x m))))

module _ {vs : List ℕ} (k : Columns vs) where
  column-low : (i : ℕ) → i < length vs → get_or vs i 0 < width
  column-low i h = ltb-true (get_or vs i 0) width (all-out (λ v. ltb v width) (at_in vs i 0 h) k.low)

  -- one sign more
  pub sign-next : (w : List ℕ) (i : ℕ) → i < length vs → length w ≡ length vs
      → cube_in (take (i + 1) vs) (take (i + 1) w) ≡ placed (get_or vs i 0) (get_or w i 0) (cube_in (take i vs) (take i w))
  sign-next w i h e =
      ap₂ cube_in (take_next vs i 0 h) (take_next w i 0 (omega arith))
      ∙ cube-snoc (take i vs) (take i w) (get_or vs i 0) (get_or w i 0) (length-take-le i vs (omega arith) ∙ sym (length-take-le i w (omega arith)))
      ∙ sym (sign-last (get_or vs i 0) (get_or w i 0) (cube_in (take i vs) (take i w)) (column-low i h) lower)
    where
      lower : (l : ℕ) → l ∈ cube_in (take i vs) (take i w) → l / 2 < get_or vs i 0
      lower l m =
          let q = in-at 0 (cube-over (take i vs) (take i w) m) in
          let s : q.0 < i = omega (arith, q.1, length-take-le i vs (omega arith)) in
          omega (arith, q.2, get_or-take i vs q.0 0 s, ltb-true (get_or vs q.0 0) (get_or vs i 0) (pairwise-at ltb 0 vs q.0 i k.order s h))

-- ---- the marked numbers

-- those below v
abbrev pub marked_to : List ℕ → ℕ → List ℕ
marked_to marks v = keep (λ u. leb 1 (get_or marks u 0)) (from 0 v)

module _ (marks : List ℕ) (v : ℕ) where
  pub marked-few : length (marked_to marks v) ≤ v
  marked-few = omega (arith, keep-length (λ u. leb 1 (get_or marks u 0)) (from 0 v), from-length 0 v)

  marked_more : marked_to marks (v + 1) ≡ marked_to marks v ++ cond (leb 1 (get_or marks v 0)) (v ∷ []) []
  marked_more = ap (keep (λ u. leb 1 (get_or marks u 0))) (from_next v) ∙ keep_append (λ u. leb 1 (get_or marks u 0)) (from 0 v) (v ∷ [])

  pub marked-skip : leb 1 (get_or marks v 0) ≡ false → marked_to marks (v + 1) ≡ marked_to marks v
  marked-skip e = marked_more ∙ ap (λ b. marked_to marks v ++ cond b (v ∷ []) []) e ∙ append-nil (marked_to marks v)

  pub marked_next : leb 1 (get_or marks v 0) ≡ true → marked_to marks (v + 1) ≡ marked_to marks v ++ (v ∷ [])
  marked_next e = marked_more ∙ ap (λ b. marked_to marks v ++ cond b (v ∷ []) []) e

-- one number more in its place
pub padded-next : (l : List ℕ) (v : ℕ) → length l < most_variables → set (padded l) (length l) v ≡ padded (l ++ (v ∷ []))
padded-next l v h =
    let q : most_variables - length l ≡ suc (most_variables - (length l + 1)) = omega arith in
    let z : most_variables - (length l + 1) ≡ most_variables - length (l ++ (v ∷ [])) = omega (arith, length-append l (v ∷ [])) in
    ap (λ n. set (l ++ replicate n 0) (length l) v) q
    ∙ set_at l 0 (replicate (most_variables - (length l + 1)) 0) v (length l) refl
    ∙ sym (append_assoc l (v ∷ []) (replicate (most_variables - (length l + 1)) 0))
    ∙ ap (λ n. (l ++ (v ∷ [])) ++ replicate n 0) z

-- as many as there may be variables
pub padded-many : (marks : List ℕ) → length (padded (marked_in marks)) ≡ most_variables
padded-many marks =
    length-append (marked_in marks) _
    ∙ omega (arith, marked-few marks most_variables, length-replicate {A = ℕ} (most_variables - length (marked_in marks)) 0)

-- the marks of a line of names
module _ {ns new : List ℕ} (r : Raised 0 ns (replicate most_variables 0) new) (h : asc ns ≡ true) where
  marked-is : (v : ℕ) → v < most_variables → leb 1 (get_or new v 0) ≡ mem v ns
  marked-is v l =
      let q : 0 + v ≡ v = omega arith in
      let z = get_or-replicate {A = ℕ} most_variables v 0 0 l in
      met-mark v (get_or (replicate most_variables 0) v 0) (get_or new v 0) ns z
      (r.each v (omega (arith, length-replicate {A = ℕ} most_variables 0)) (omega (arith, z))
      ∙ ap (λ x. min 2 (get_or (replicate most_variables 0) v 0 + times x ns)) q)

  marked-numbers : marked_in new ≡ keep (λ v. ltb v most_variables) ns
  marked-numbers = ext (marked_in new) (keep (λ v. ltb v most_variables) ns) (pairwise-keep ltb _ (from 0 most_variables) (from-asc 0 most_variables))
      (pairwise-keep ltb _ ns h) (λ z.
      keep-mem (λ v. leb 1 (get_or new v 0)) z (from 0 most_variables)
      ∙ iff (into z) (back z)
      ∙ sym (keep-mem (λ v. ltb v most_variables) z ns))
    where
      into : (z : ℕ) → (mem z (from 0 most_variables) && leb 1 (get_or new z 0)) ≡ true → (mem z ns && ltb z most_variables) ≡ true
      into z t =
          let q = both (mem z (from 0 most_variables)) (leb 1 (get_or new z 0)) t in
          let l : z < most_variables = omega (arith, (from_out 0 most_variables z q.0).1) in
          together (mem z ns) (ltb z most_variables) (sym (marked-is z l) ∙ q.1) (lt-ltb z most_variables l)

      back : (z : ℕ) → (mem z ns && ltb z most_variables) ≡ true → (mem z (from 0 most_variables) && leb 1 (get_or new z 0)) ≡ true
      back z t =
          let q = both (mem z ns) (ltb z most_variables) t in
          let l = ltb-true z most_variables q.1 in
          together (mem z (from 0 most_variables)) (leb 1 (get_or new z 0)) (from_in 0 most_variables z (omega arith) (omega arith)) (marked-is z l ∙ q.0)

  -- where the first of them are few, those stand first
  pub marked-front : (vs ts : List ℕ) → ns ≡ vs ++ ts → all (λ v. ltb v most_variables) vs ≡ true
      → (length vs ≤ most_variables) × (take (length vs) (padded (marked_in new)) ≡ vs)
  marked-front vs ts e k =
      let low : ℕ → Bool = λ v. ltb v most_variables in
      let q : marked_in new ≡ vs ++ keep low ts = marked-numbers ∙ ap (keep low) e ∙ keep_append low vs ts ∙ ap (◌++ keep low ts) (keep_all low vs k) in (
        omega (arith, ap length q, length-append vs (keep low ts), marked-few new most_variables),
        ap (λ l. take (length vs) (padded l)) q ∙ ap (take (length vs)) (append_assoc vs (keep low ts) _) ∙ take_at vs _ (length vs) refl,
      )

-- ---- signs read one by one

-- of the signs w, those from i on are left, and the cube has the literals of those before
pub record SignsTo (s : List ℕ) (at : ℕ) (vs c : List ℕ) (i : ℕ) (w t : List ℕ) : Type 0 where
  pub text : left s at ≡ drop i w ++ t
  pub cube : c ≡ cube_in (take i vs) (take i w)

pub signs-first : {s : List ℕ} {from : ℕ} (vs : List ℕ) {c w t : List ℕ} → left s from ≡ w ++ t → c ≡ [] → SignsTo s from vs c 0 w t
unfolding cube_in
signs-first vs e z = record { text = e; cube = z }

module _ {s : List ℕ} {at : ℕ} {vs c : List ℕ} {i : ℕ} {w t : List ℕ} (n : length w ≡ length vs) (k : SignsTo s at vs c i w t) where
  -- the next
  sign-there : i < length vs → left s at ≡ get_or w i 0 ∷ (drop (i + 1) w ++ t)
  sign-there h = k.text ∙ ap (◌++ t) (drop-next w i 0 (omega arith))

  pub signs-next : {d : List ℕ} {b p : ℕ} → Columns vs → i < length vs → left s at ≡ b ∷ left s p → (get_or vs i 0 < width → d ≡ placed (get_or vs i 0) b c)
      → SignsTo s p vs d (i + 1) w t
  signs-next {d} {b} {p} g h e f =
      let q = sym e ∙ sign-there h in
      let x : b ≡ get_or w i 0 = cc in
      let y : left s p ≡ drop (i + 1) w ++ t = cc in
      record {
        text = y;
        cube = f (column-low g i h) ∙ ap₂ (placed (get_or vs i 0)) x k.cube ∙ sym (sign-next g w i h n);
      }

  pub signs-some : i < length vs → left s at ≡ [] → ⊥
  signs-some h e = omega (arith, ap length (sym e ∙ sign-there h))

  pub signs-all : length vs ≤ i → c ≡ cube_in vs w
  signs-all h = k.cube ∙ ap₂ cube_in (take_all i vs h) (take_all i w (omega arith))

-- ---- rows read one by one

-- of the rows ws, some are left, and the cubes of those before stand in the words, up to place i
pub record RowsTo (s : List ℕ) (p : ℕ) (vs old new : List ℕ) (at i : ℕ) (ws : List (List ℕ)) (more : List ℕ) : Type 0 where
  pub rest : List (List ℕ)
  pub rows : RowsOf (left s p) (length vs) rest more
  pub going : Going old new at i (map (cube_in vs) rest) (map (cube_in vs) ws)

pub rows-first : {s : List ℕ} {p : ℕ} (vs : List ℕ) {old : List ℕ} (at : ℕ) {ws : List (List ℕ)} {more : List ℕ} → RowsOf (left s p) (length vs) ws more
    → at + length ws ≤ length (cubes_of old) → RowsTo s p vs old old at at ws more
rows-first vs {old} at {ws} h l = record {
  rest = ws;
  rows = h;
  going = going-first old at (map (cube_in vs) ws) (omega (arith, length-map ws (cube_in vs)));
}

module _ {s : List ℕ} {p : ℕ} {vs old new : List ℕ} {at i : ℕ} {ws : List (List ℕ)} {more : List ℕ} (k : RowsTo s p vs old new at i ws more) where
  -- the first of the rows left
  row-text : (w : List ℕ) (ls : List (List ℕ)) → k.rest ≡ w ∷ ls → left s p ≡ row_line w ++ (10 ∷ (ended (map row_line ls) ++ more))
  row-text w ls e = k.rows.text ∙ ap (λ x. ended (map row_line x) ++ more) e ∙ ended-apart (row_line w) (map row_line ls) more

  row-signs : (w : List ℕ) (ls : List (List ℕ)) → k.rest ≡ w ∷ ls → Signs (length vs) w
  row-signs w ls e = k.rows.each w (subst (w ∈◌) (sym e) (here refl))

  pub rows_next : {base : ℕ} {o n next c : List ℕ} {q : ℕ} → Columns vs → RowGot s p (length vs) base o n q → SignsAre s p vs c → Put new next i c
      → RowsTo s q vs old next at (i + 1) ws more
  unfolding ended
  rows_next {next = next} {c} {q} g r f u = go k.rest refl k.going
    where
      go : (ls : List (List ℕ)) → k.rest ≡ ls → Going old new at i (map (cube_in vs) ls) (map (cube_in vs) ws) → RowsTo s q vs old next at (i + 1) ws more
      go [] e d = absurd (unpointed (length vs) r.word (10 ∷ left s q) r.signs
          (ap pointed (sym r.text ∙ k.rows.text ∙ ap (λ x. ended (map row_line x) ++ more) e) ∙ k.rows.point))
      go (w ∷ ls) e d =
          let x = row-signs w ls e in
          let l = one-row (length vs) w r.word (ended (map row_line ls) ++ more) (left s q) x r.signs (sym (row-text w ls e) ∙ r.text) in
          let start = row-text w ls e ∙ ap (◌++ (10 ∷ (ended (map row_line ls) ++ more))) (row_as w) ∙ append_assoc w (row_end (length w)) _ in
          let y : c ≡ cube_in vs w = f w _ g x.number start in
          record {
            rest = ls;
            rows = record { each = λ v j. k.rows.each v (subst (v ∈◌) (sym e) (there j)); text = sym l.1; point = k.rows.point };
            going = going_next d (subst (Put new next i) y u);
          }

  -- none is left where no row stands, or where there is no room
  pub rows-over : {o n : List ℕ} → RowNot s p (length vs) o n → length k.rest ≡ 0
  rows-over r = go k.rest refl
    where
      go : (ls : List (List ℕ)) → k.rest ≡ ls → length ls ≡ 0
      go [] e = refl
      go (w ∷ ls) e = absurd (r.none w _ (row-signs w ls e) (row-text w ls e))

  pub rows-full : length (cubes_of old) ≤ i → length k.rest ≡ 0
  rows-full h = omega (arith, going-inside k.going, length-map k.rest (cube_in vs))

  pub rows_all : length k.rest ≡ 0 → (i - at ≡ length ws) × Placed old new at (map (cube_in vs) ws)
  rows_all h =
      let a = going_end (subst (λ x. Going old new at i (map (cube_in vs) x) (map (cube_in vs) ws)) (nil-of k.rest h) k.going) in
      (omega (arith, a.next, length-map ws (cube_in vs)), a.placed)

-- ---- a block

module _ {s : List ℕ} {from : ℕ} {new : List ℕ} {r : Names} (g : NamesGot s from 0 (replicate most_variables 0) new r) {m : ℕ} {b : Block} {more : List ℕ}
    (h : BlockOf (spelled ".names " ++ left s from) m b more) (few : reach most_variables b.cubes ≡ true) where
  own : Blocked (left s from) b more
  own = block-blocked h

  low : all (λ v. ltb v most_variables) (reads_of b.cubes) ≡ true
  low = reads-below most_variables b.cubes few

  front : (length g.named.reads ≤ most_variables) × (take (length g.named.reads) (padded (marked_in new)) ≡ g.named.reads)
  front = marked-front g.marks g.ascends.order g.named.reads (variable_in g.named.name) refl
      (ap (all (λ v. ltb v most_variables)) (reads-own g own) ∙ low)

  -- it reads few variables
  pub node-few : r.reads ≤ most_variables
  node-few = omega (arith, g.reads, front.0)

  -- they are the first of those that are marked
  node-reads : {vars : List ℕ} → vars ≡ padded (marked_in new) → take r.reads vars ≡ reads_of b.cubes
  node-reads e = ap₂ take g.reads e ∙ front.1 ∙ reads-own g own

  -- and the cubes of its rows are put
  pub node-put : {vars old mid : List ℕ} {at count : ℕ} → vars ≡ padded (marked_in new) → RowsPut s r.next (take r.reads vars) old mid at count
      → at + length b.cubes ≤ length (cubes_of old) → (count ≡ length b.cubes) × Placed old mid at b.cubes
  node-put {vars} {old} {mid} {at} {count} e p l =
      let vs = reads_of b.cubes in
      let ws = signs_for vs b.cubes in
      let n : length ws ≡ length b.cubes = length-map b.cubes (λ c. map (sign_of c) vs) in
      let o = subst (λ x. RowsOf (left s r.next) x ws more) (count-own g own) (rows-own g own) in
      let q = (subst (λ x. RowsPut s r.next x old mid at count) (node-reads e) p).put ws more
      (record { order = reads-asc b.cubes; low = low }) o (omega arith) in
      (q.0 ∙ n, placed-as (signs-cubes b h.formed) q.1)
